use Rattle.bit_planes.proofs.Masks.{has_ones_between}
use Rattle.bit_planes.proofs.words.ones_between.Goals as goal

pub returns : goal.returns
returns c = has_ones_between c.args.low c.args.high c.requires.order c.requires.word
