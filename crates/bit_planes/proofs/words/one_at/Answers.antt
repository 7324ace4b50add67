use Rattle.bit_planes.proofs.Searches.{first_is_one, next_is_one}
use Rattle.bit_planes.proofs.words.one_at.Goals as goal

pub loop-init : goal.loop-init
loop-init c = first_is_one c.args.word c.args.place _ c.requires c.first_one-bit.ensures

pub loop-preserved : goal.loop-preserved
loop-preserved c =
    next_is_one c.args.word c.args.place c.loop.counter c.loop.bit _ c.requires c.loop-test.true c.loop.invariant c.first_one-bit-in-loop.ensures
