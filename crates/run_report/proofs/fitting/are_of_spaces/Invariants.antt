use Rattle.std.proofs.Common.{◌≡◌, drop}
use Rattle.std.specs.List.{list_all}
use Rattle.run_report.specs.Dumps.{is_of_space}
use Rattle.run_report.proofs.fitting.are_of_spaces.Given as goal

abbrev pub invariant-loop-root : goal.invariant-loop-root
invariant-loop-root l =
    list_all (is_of_space l.spaces) (drop l.root-index l.roots) ≡ list_all (is_of_space l.spaces) l.roots
