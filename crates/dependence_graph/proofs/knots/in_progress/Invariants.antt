use Rattle.std.proofs.Common.{◌≡◌, ◌++◌, drop}
use Rattle.dependence_graph.specs.Knots.{all_in_progress, in_progress_from}
use Rattle.dependence_graph.proofs.knots.in_progress.Given as goal

abbrev pub invariant-loop-place : goal.invariant-loop-place
invariant-loop-place l = l.found.items ++ in_progress_from l.place (drop l.place l.knots) ≡ all_in_progress l.knots
