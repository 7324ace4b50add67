use Rattle.std.proofs.Common.{◌≡◌, drop}
use Rattle.run_report.specs.Dumps.{has_points}
use Rattle.run_report.proofs.fitting.has_points.Given as goal

abbrev pub invariant-loop-numbers : goal.invariant-loop-numbers
invariant-loop-numbers l =
    has_points l.count (drop l.numbers-index l.columns) ≡ has_points l.count l.columns
