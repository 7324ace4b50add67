use Rattle.std.proofs.Common.{ap, nat_eq}
use Rattle.std.proofs.lemmas.Nat.Bits.{shr_and_one}
use Rattle.bit_planes.specs.Planes.{has_point}
use Rattle.bit_planes.proofs.words.has_bit.Goals as goal

pub returns : goal.returns
unfolding has_point
returns c = ap (λ n. nat_eq n 1) (shr_and_one c.args.word c.args.bit)
