-- Numbers beside points, of which the first are folded into already.
use Rattle.std.proofs.Common.{◌≡◌, ◌∷◌, ◌++◌, [], List, Some, ap, drop, suc, take, zero, ℕ, ℤ}
use Rattle.std.specs.Prelude.{slice_get, slice_set}
use Rattle.lane_kernels.specs.declared.numbers.Width.{Width}
use Rattle.reduction_folds.specs.Folds.{all_at, all_beside}
use Rattle.reduction_folds.specs.declared.fold.Fold.{Fold}

-- the number at a place is folded into: one more of the first
pub one_more : (width : Width) (folds : List Fold) (points : List ℕ) (values : List ℤ) (place point : ℕ) (value : ℤ) →
    slice_get points place ≡ Some point → slice_get values place ≡ Some value →
    take (suc place) (slice_set values place (all_at width folds point value))
    ++ all_beside width folds (drop (suc place) points) (drop (suc place) (slice_set values place (all_at width folds point value)))
    ≡ take place values ++ all_beside width folds (drop place points) (drop place values)
one_more width folds [] values place point value p v = absurd cc
one_more width folds (q ∷ points) [] place point value p v = absurd cc
one_more width folds (q ∷ points) (z ∷ values) zero point value p v = cc
one_more width folds (q ∷ points) (z ∷ values) (suc place) point value p v =
    ap (λ zs. z ∷ zs) (one_more width folds points values place point value p v)
