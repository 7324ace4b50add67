use Rattle.std.proofs.Common.{refl}
use Rattle.region_tree.specs.Needs.{requirement_of}
use Rattle.region_tree.proofs.Covering.{covers-from_writing_need}
use Rattle.region_tree.proofs.coverage.is_written.Goals as goal

pub returns-then-writes_all : goal.returns-then-writes_all
returns-then-writes_all c _ ours =
    covers-from_writing_need c.args.tree.now c.args.theirs.now c.loop-other.other-index _
    (requirement_of c.args.tree.now c.args.need.now) c.loop-other-test.true
    (c.if-writes_all.ensures refl) ours
