-- A few kernels, computed on the definitions.
use Rattle.std.proofs.Common.{◌≡◌, pos, negsuc, [], ◌∷◌, true, false, refl}
use Rattle.std.specs.Int.{int_wrap}
use Rattle.std.specs.Simd.Lanes.{sel_l}
use Rattle.lane_kernels.specs.declared.numbers.Op.TheVariants.{Sum, Least}
use Rattle.lane_kernels.specs.declared.numbers.Width.TheVariants.{W32, W64}
use Rattle.lane_kernels.specs.Kernels.{anded, folded, lessened, ored, share_a_bit}

a_sum_wraps : folded Sum W32 (pos 2147483647 ∷ []) (pos 1 ∷ []) ≡ negsuc 2147483647 ∷ []
unfolding int_wrap
a_sum_wraps = refl

the_least : folded Least W64 (pos 3 ∷ pos 9 ∷ []) (pos 5 ∷ pos 5 ∷ []) ≡ pos 3 ∷ pos 5 ∷ []
unfolding int_wrap
the_least = refl

a_mask_picks : sel_l (true ∷ false ∷ true ∷ []) (pos 7 ∷ pos 8 ∷ pos 9 ∷ []) (pos 1 ∷ pos 2 ∷ pos 3 ∷ []) ≡ pos 7 ∷ pos 2 ∷ pos 9 ∷ []
a_mask_picks = refl

bits_of_both : anded (6 ∷ []) (3 ∷ []) ≡ 2 ∷ []
bits_of_both = refl

bits_of_either : ored (6 ∷ []) (3 ∷ []) ≡ 7 ∷ []
bits_of_either = refl

bits_that_are_left : lessened (6 ∷ []) (3 ∷ []) ≡ 4 ∷ []
bits_that_are_left = refl

no_bit_is_shared : share_a_bit (6 ∷ []) (1 ∷ []) ≡ false
no_bit_is_shared = refl
