-- What the test of two operators tells.
use Rattle.std.proofs.Common.{◌≡◌, true, refl}
use Rattle.lane_kernels.specs.Modes.{same_op}
use Rattle.lane_kernels.specs.declared.numbers.Op.{Op}
use Rattle.lane_kernels.specs.declared.numbers.Op.TheVariants.{Sum, Product, Least, Greatest}

pub same_op-itself : (p : Op) → same_op p p ≡ true
same_op-itself Sum = refl
same_op-itself Product = refl
same_op-itself Least = refl
same_op-itself Greatest = refl

pub same_op-tells : (p q : Op) → same_op p q ≡ true → p ≡ q
same_op-tells Sum Sum e = refl
same_op-tells Product Product e = refl
same_op-tells Least Least e = refl
same_op-tells Greatest Greatest e = refl
same_op-tells _ _ e = cc
