use Rattle.std.proofs.Common.{drop}
use Rattle.region_tree.proofs.Dividing.{IsGathered}
use Rattle.region_tree.proofs.required_part.points_in.Given as goal

abbrev pub invariant-loop-need : goal.invariant-loop-need
invariant-loop-need l =
    IsGathered l.root.0 l.field l.mode l.same l.needs
    (drop l.need-index l.needs) l.points
