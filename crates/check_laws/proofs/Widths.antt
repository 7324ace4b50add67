-- Numbers that fit a width.
use Rattle.std.proofs.Common.{ℕ, ℤ, pos, sym, subst, ◌≡◌, ◌≤◌, arith}
use Rattle.std.proofs.lemmas.Int.{ints}
use Rattle.lane_kernels.specs.Numbers.{FitsWidth}
use Rattle.lane_kernels.specs.declared.numbers.Width.{Width}
use Rattle.lane_kernels.specs.declared.numbers.Width.TheVariants.{W32, W64}
use Rattle.regent_tree.specs.Limits.{KeepsLimit, greatest_literal, literal}
use Rattle.regent_tree.specs.Numbers.{wider}

pub wider_left : (a b : Width) (z : ℤ) → FitsWidth a z → FitsWidth (wider a b) z
wider_left W32 W32 z p = p
wider_left W32 W64 z p = omega (arith, ints, p)
wider_left W64 b z p = p

pub wider_right : (a b : Width) (z : ℤ) → FitsWidth b z → FitsWidth (wider a b) z
wider_right W32 b z p = p
wider_right W64 W32 z p = omega (arith, ints, p)
wider_right W64 W64 z p = p

-- a literal is as small as its limit says
pub literal_fits : (z : ℤ) (w : Width) → KeepsLimit (literal z w) → FitsWidth w z
literal_fits z W32 k = subst (FitsWidth W32) (sym k.1) (small k.0 k.2)
  where
    small : (n : ℕ) → n ≤ greatest_literal W32 → FitsWidth W32 (pos n)
    small n l = omega (arith, ints, l)
literal_fits z W64 k = subst (FitsWidth W64) (sym k.1) (small k.0 k.2)
  where
    small : (n : ℕ) → n ≤ greatest_literal W64 → FitsWidth W64 (pos n)
    small n l = omega (arith, ints, l)
