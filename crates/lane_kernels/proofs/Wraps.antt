-- What is left of a number at 32 bits, out of what is left of it at 64.
use Rattle.std.proofs.Common.{◌≡◌, ◌%◌, ◌^◌, ◌<◌, ℤ, pos, negsuc, w32, w64, to_z, of_z, bit_and, FitsSigned, arith, ap, sym, ◌∙◌, refl}
use Rattle.std.proofs.lemmas.Int.{int_wrap_fits, of_z-to_z, SFits-int_wrap}
use Rattle.std.proofs.lemmas.Nat.{and_mask}
use Rattle.std.proofs.Math.Pow.{mod-mod-pow}
use Rattle.std.specs.Int.{int_wrap, int_rem_euclid, cast_signed}
use Rattle.std.specs.Int.RustNames.{unsigned_abs}
use Rattle.lane_kernels.specs.Numbers.{wrapped}
use Rattle.lane_kernels.specs.declared.numbers.Width.{Width}
use Rattle.lane_kernels.specs.declared.numbers.Width.TheVariants.{W32, W64}

-- the low 32 bits of a number of 64
low_half : (x : ℤ) → FitsSigned w64 x → of_z w64 x % 2 ^ 32 ≡ unsigned_abs (int_rem_euclid x (pos (2 ^ 32)))
low_half (pos n) fits = refl
low_half (negsuc n) fits = omega (arith, fits.sfits)

pub wrapped-low_half : (x : ℤ) → FitsSigned w64 x → to_z w32 (bit_and (of_z w64 x) 4294967295) ≡ wrapped W32 x
unfolding int_wrap
wrapped-low_half x fits =
    ap (cast_signed w32) (and_mask (of_z w64 x) 32 ∙ low_half x fits)

low_of_whole : (z : ℤ) → unsigned_abs (int_rem_euclid z (pos (2 ^ 64))) % 2 ^ 32 ≡ unsigned_abs (int_rem_euclid z (pos (2 ^ 32)))
low_of_whole (pos n) = mod-mod-pow n 32 32
low_of_whole (negsuc n) = omega (arith, mod-mod-pow n 32 32)

below_whole : (z : ℤ) → unsigned_abs (int_rem_euclid z (pos (2 ^ 64))) < 2 ^ 64
below_whole (pos n) = omega arith
below_whole (negsuc n) = omega arith

wrapped_low : (z : ℤ) → int_wrap w32 (int_wrap w64 z) ≡ int_wrap w32 z
unfolding int_wrap
wrapped_low z =
    let whole = unsigned_abs (int_rem_euclid z (pos (2 ^ 64))) in
    let fits : FitsSigned w64 (to_z w64 whole) = SFits-int_wrap w64 z in
    ap (cast_signed w32) (sym (low_half (to_z w64 whole) fits) ∙ ap (λ n. n % 2 ^ 32) (of_z-to_z w64 whole (below_whole z)) ∙ low_of_whole z)

-- to wrap at 64 bits before wrapping at a width changes nothing
pub wrapped-wrapped : (w : Width) (z : ℤ) → wrapped w (wrapped W64 z) ≡ wrapped w z
wrapped-wrapped W32 z = wrapped_low z
wrapped-wrapped W64 z = int_wrap_fits w64 (int_wrap w64 z) (SFits-int_wrap w64 z)
