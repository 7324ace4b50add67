use Rattle.std.proofs.Common.{◌≡◌, drop}
use Rattle.std.specs.List.{list_any}
use Rattle.region_tree.specs.Needs.{requirement_of, requirements_of}
use Rattle.region_tree.specs.Requirements.{conflict}
use Rattle.region_tree.proofs.interference.conflicts_with_any.Given as goal

abbrev pub invariant-loop-other : goal.invariant-loop-other
invariant-loop-other l =
    list_any (conflict (requirement_of l.tree l.need))
    (requirements_of l.tree (drop l.other-index l.others))
    ≡ list_any (conflict (requirement_of l.tree l.need)) (requirements_of l.tree l.others)
