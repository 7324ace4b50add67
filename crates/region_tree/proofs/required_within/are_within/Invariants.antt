use Rattle.std.proofs.Common.{◌≡◌, drop}
use Rattle.std.specs.List.{list_all}
use Rattle.region_tree.specs.Requirements.{covers}
use Rattle.region_tree.proofs.required_within.are_within.Given as goal

abbrev pub invariant-loop-need : goal.invariant-loop-need
invariant-loop-need l =
    list_all (covers l.ours l.theirs)
    (drop l.need-index l.ours)
    ≡ list_all (covers l.ours l.theirs)
    l.ours
