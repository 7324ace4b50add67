use Rattle.std.proofs.Common.{arith}
use Rattle.region_tree.proofs.Parting.{parting_at_end}
use Rattle.region_tree.proofs.path.parting.Goals as goal

pub returns : goal.returns
returns c =
    parting_at_end c.args.a.now c.args.b.now c.loop-place.place
    (omega (arith, c.min-shorter.ensures)) c.loop-place.invariant
