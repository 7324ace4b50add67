use Rattle.std.proofs.Common.{◌≡◌, drop}
use Rattle.std.specs.List.{list_all}
use Rattle.region_tree.specs.Modes.{is_in_mode}
use Rattle.region_tree.proofs.coverage.are_in_mode.Given as goal

abbrev pub invariant-loop-other : goal.invariant-loop-other
invariant-loop-other l =
    list_all (is_in_mode l.need) (drop l.other-index l.needs) ≡ list_all (is_in_mode l.need) l.needs
