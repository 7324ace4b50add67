-- What reductions make of numbers: each is folded in at its points, one after the other.
use Rattle.std.specs.Prelude.{◌==◌, List, [], ◌∷◌, Option, None, Some, slice_get, ℕ, ℤ}
use Rattle.std.specs.List.{position}
use Rattle.lane_kernels.specs.Numbers.{applied}
use Rattle.lane_kernels.specs.declared.numbers.Op.{Op}
use Rattle.lane_kernels.specs.declared.numbers.Width.{Width}
use Rattle.reduction_folds.specs.declared.fold.Fold.{Fold}

-- the number at a place, where there is a place
abbrev pub number_in : List ℤ → Option ℕ → Option ℤ
number_in values None = None
number_in values (Some place) = slice_get values place

-- the number that a reduction has for a point
abbrev pub number_at : Fold → ℕ → Option ℤ
number_at fold point = number_in fold.values (position (λ x. x == point) fold.points)

abbrev pub folded : Width → Op → ℤ → Option ℤ → ℤ
folded width op value None = value
folded width op value (Some number) = applied op width value number

-- what a reduction makes of the number at a point
abbrev pub folded_at : Width → Fold → ℕ → ℤ → ℤ
folded_at width fold point value = folded width fold.op value (number_at fold point)

-- what they make of it one after the other
abbrev pub all_at : Width → List Fold → ℕ → ℤ → ℤ
all_at width [] point value = value
all_at width (fold ∷ folds) point value = all_at width folds point (folded_at width fold point value)

-- what they make of the numbers beside points
abbrev pub all_beside : Width → List Fold → List ℕ → List ℤ → List ℤ
all_beside width folds (point ∷ points) (value ∷ values) =
    all_at width folds point value ∷ all_beside width folds points values
all_beside width folds _ values = values
