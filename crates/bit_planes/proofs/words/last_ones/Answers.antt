use Rattle.std.proofs.Common.{arith}
use Rattle.bit_planes.proofs.Masks.{has_last_ones}
use Rattle.bit_planes.proofs.words.last_ones.Goals as goal

pub returns : goal.returns
returns c = λ i l. has_last_ones c.args.word c.args.next i (omega arith) l
