-- Numbers that fit their widths, and kept pointers.
use Rattle.std.proofs.Common.{Option, None, Some, Bool, true, false, ℕ, ℤ, pos, refl, ◌≡◌, ◌<◌, ◌≤◌, ◌^◌, arith}
use Rattle.std.proofs.lemmas.Int.{SFits-int_wrap, ints}
use Rattle.std.proofs.lemmas.Nat.{div-mul-add, mod-mul-add}
use Rattle.lane_kernels.specs.Numbers.{FitsWidth, std_width, wrapped}
use Rattle.lane_kernels.specs.declared.numbers.Width.{Width}
use Rattle.lane_kernels.specs.declared.numbers.Width.TheVariants.{W32, W64}
use Rattle.regent_tree.specs.Numbers.{computed, unless_zero}
use Rattle.regent_tree.specs.Values.{Target, kept_target, null_target, point_target, target_kept}
use Rattle.regent_tree.specs.declared.expression.Arithmetic.{Arithmetic}
use Rattle.regent_tree.specs.declared.expression.Arithmetic.TheVariants.{Add, Divide, Multiply, Remainder, Subtract}
use Rattle.value_laws.specs.Shapes.{IsPosition}

pub fits_most : (w : Width) (z : ℤ) → FitsWidth w z → FitsWidth W64 z
fits_most W32 z p = omega (arith, ints, p)
fits_most W64 z p = p

pub wraps_fit : (w : Width) (z : ℤ) → FitsWidth w (wrapped w z)
wraps_fit w z = SFits-int_wrap (std_width w) z

-- a number that there is fits
abbrev pub IfFits : Width → Option ℤ → Type 0
IfFits w None = Unit {0}
IfFits w (Some z) = FitsWidth w z

unless_fits : (b : Bool) (w : Width) (z : ℤ) → FitsWidth w z → IfFits w (unless_zero b z)
unless_fits true w z f = tt
unless_fits false w z f = f

pub computed_fits : (o : Arithmetic) (w : Width) (a b : ℤ) → IfFits w (computed o w a b)
computed_fits Add w a b = wraps_fit w _
computed_fits Subtract w a b = wraps_fit w _
computed_fits Multiply w a b = wraps_fit w _
computed_fits Divide w a b = unless_fits _ w _ (wraps_fit w _)
computed_fits Remainder w a b = unless_fits _ w _ (wraps_fit w _)

-- a point's number fits 64 bits
pub point_fits : (n : ℕ) → n < 2 ^ 32 → FitsWidth W64 (pos n)
point_fits n l = omega (arith, ints, l)

-- ---- kept pointers

pub kept_target_fits : (count : ℕ) (t : Target) → count ≤ 4 → IsPosition count t → FitsWidth W64 (kept_target t)
kept_target_fits count null_target l is = omega (arith, ints)
kept_target_fits count (point_target n i) l is = omega (arith, ints, l, is.0, is.1)

pub target_kept_back : (count : ℕ) (t : Target) → IsPosition count t → target_kept (kept_target t) ≡ t
target_kept_back count null_target is = refl
target_kept_back count (point_target n i) is =
    (λ j. point_target (mod-mul-add i (2 ^ 32) n is.0 j) (div-mul-add i (2 ^ 32) n is.0 j))
