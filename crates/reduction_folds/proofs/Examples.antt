-- What a few pending reductions make of numbers, by computing.
use Rattle.std.proofs.Common.{◌≡◌, ◌∷◌, [], List, negsuc, pos, refl, ℕ, ℤ}
use Rattle.std.specs.Int.{int_wrap}
use Rattle.lane_kernels.specs.declared.numbers.Op.{Op}
use Rattle.lane_kernels.specs.declared.numbers.Op.TheVariants.{Least, Sum}
use Rattle.lane_kernels.specs.declared.numbers.Width.TheVariants.{W32, W64}
use Rattle.reduction_folds.specs.Folds.{all_at, all_beside}
use Rattle.reduction_folds.specs.declared.fold.Fold.{Fold}

abbrev fold : Op → List ℕ → List ℤ → Fold
fold op points values = record { op = op; points = points; values = values }

-- only at the points that both have
common_points : all_beside W64 (fold Sum (0 ∷ 2 ∷ []) (pos 5 ∷ pos 7 ∷ []) ∷ []) (0 ∷ 1 ∷ 2 ∷ []) (pos 1 ∷ pos 1 ∷ pos 1 ∷ [])
    ≡ pos 6 ∷ pos 1 ∷ pos 8 ∷ []
unfolding int_wrap
common_points = refl

-- in the order of adding: first the least, then the sum
in_order : all_at W64 (fold Least (1 ∷ []) (pos 5 ∷ []) ∷ fold Sum (1 ∷ []) (pos 2 ∷ []) ∷ []) 1 (pos 9) ≡ pos 7
unfolding int_wrap
in_order = refl

other_order : all_at W64 (fold Sum (1 ∷ []) (pos 2 ∷ []) ∷ fold Least (1 ∷ []) (pos 5 ∷ []) ∷ []) 1 (pos 9) ≡ pos 5
unfolding int_wrap
other_order = refl

-- at the width
at_the_width : all_at W32 (fold Sum (3 ∷ []) (pos 1 ∷ []) ∷ []) 3 (pos 2147483647) ≡ negsuc 2147483647
unfolding int_wrap
at_the_width = refl
