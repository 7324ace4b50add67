use Rattle.std.proofs.Common.{refl, subst}
use Rattle.region_tree.specs.Modes.{WritesAll}
use Rattle.region_tree.specs.Requirements.{Requirement}
use Rattle.region_tree.proofs.Covering.{covers-from_writer}
use Rattle.region_tree.proofs.required_within.is_written.Goals as goal

pub returns-then-writes_all : goal.returns-then-writes_all
returns-then-writes_all c _ ours =
    covers-from_writer ours c.args.theirs.now c.args.need.now c.loop-other.other-index
    c.other-item.result c.loop-other-test.true
    (subst (λ (r : Requirement). WritesAll r c.args.need.now) c.other-item.is
    (c.if-writes_all.ensures refl))
