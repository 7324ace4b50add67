use Rattle.std.proofs.Common.{◌∙◌, arith}
use Rattle.region_walk.proofs.Leaving.{less_at_end}
use Rattle.region_walk.proofs.ways.are_less.Goals as goal

pub returns : goal.returns
returns c =
    less_at_end c.args.way.now c.args.other.now c.loop-place.place
    (omega (arith, c.min-shorter.ensures)) (omega (arith, c.min-shorter.ensures))
    ∙ c.loop-place.invariant
