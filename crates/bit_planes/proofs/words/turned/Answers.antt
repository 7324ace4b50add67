use Rattle.std.proofs.Common.{arith, ap, ◌∙◌, sym}
use Rattle.bit_planes.specs.Words.{told}
use Rattle.bit_planes.proofs.Bits.{has-not}
use Rattle.bit_planes.proofs.words.turned.Goals as goal

pub returns-else-one : goal.returns-else-one
returns-else-one c = λ i l. has-not c.args.word i (omega arith) l ∙ sym (ap (λ b. told b c.args.word i) c.if-one.false)
