use Rattle.std.proofs.Common.{refl}
use Rattle.region_tree.proofs.SharedModes.{all_points_from}
use Rattle.region_tree.proofs.coverage.has_all_points.Goals as goal

pub returns-then-is_wider : goal.returns-then-is_wider
returns-then-is_wider c _ p m =
    all_points_from c.args.tree.now c.args.theirs.now c.loop-other.other-index _ c.args.need.now
    c.loop-other-test.true (c.if-is_wider.ensures refl) p m
