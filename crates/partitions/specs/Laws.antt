-- What is true of partitions, whatever the sets: laws over the definitions.
use Rattle.std.specs.Prelude.{◌≡◌, ℕ, ◌<◌, false, List, [], All, map, filter, length, slice_index_or, Bool, not}
use Rattle.std.specs.Prelude.{◌&&◌, ◌||◌, IsTrue}
use Rattle.std.specs.List.Sorted.{IsStrictlyIncreasing}
use Rattle.plain_values.specs.Points.{points, has, meets, within}
use Rattle.regent_tree.specs.Partitions.{both_sets, either_sets, minus_sets}

-- the set of a colour: no points where the colour is lacking
abbrev pub colour : List (List ℕ) → ℕ → List ℕ
colour sets c = slice_index_or sets c []

-- no two colours share a point
abbrev pub NoneShared : List (List ℕ) → Type 0
NoneShared sets =
    (c d : ℕ) → c < d → d < length sets → meets (colour sets c) (colour sets d) ≡ false

-- each set is a rising part of the parent
abbrev pub ArePartsOf : List ℕ → List (List ℕ) → Type 0
ArePartsOf parent sets = All (λ set. IsStrictlyIncreasing set × IsTrue (within set parent)) sets

-- a set operation filters each parent that holds the sets of both partitions, colour by colour
abbrev pub Filters :
    (List (List ℕ) → List (List ℕ) → List (List ℕ)) → (Bool → Bool → Bool) → Type 0
Filters operation keeps = (parent : List ℕ) (ps qs : List (List ℕ)) →
    IsStrictlyIncreasing parent → ArePartsOf parent ps → ArePartsOf parent qs →
    operation ps qs
    ≡ map (λ c. filter (λ x. keeps (has (colour ps c) x) (has (colour qs c) x)) parent)
    (points (length ps))

abbrev pub BothFilters : Type 0
BothFilters = Filters both_sets (λ a b. a && b)

abbrev pub EitherFilters : Type 0
EitherFilters = Filters either_sets (λ a b. a || b)

abbrev pub WithoutFilters : Type 0
WithoutFilters = Filters minus_sets (λ a b. a && not b)
