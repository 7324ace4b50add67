use Rattle.std.proofs.Common.{◌≡◌, drop}
use Rattle.std.specs.List.{list_all}
use Rattle.region_tree.specs.Needs.{requirements_of}
use Rattle.region_tree.specs.Requirements.{covers}
use Rattle.region_tree.proofs.coverage.are_covered.Given as goal

abbrev pub invariant-loop-need : goal.invariant-loop-need
invariant-loop-need l =
    list_all (covers (requirements_of l.tree l.ours) (requirements_of l.tree l.theirs))
    (requirements_of l.tree (drop l.need-index l.ours))
    ≡ list_all (covers (requirements_of l.tree l.ours) (requirements_of l.tree l.theirs))
    (requirements_of l.tree l.ours)
