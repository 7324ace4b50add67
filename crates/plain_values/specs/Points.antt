-- Points of an index space, and sets of them as rising lists.
use Rattle.std.specs.Prelude.{ℕ, zero, suc, ◌<◌, nat_lt, ◌==◌, Bool, not, if◌then◌else◌}
use Rattle.std.specs.Prelude.{List, [], ◌∷◌, All, filter}
use Rattle.std.specs.List.{list_any, list_all}
use Rattle.std.specs.List.Sorted.{IsStrictlyIncreasing}

-- so many numbers, from a first one on
abbrev pub counted_from : ℕ → ℕ → List ℕ
counted_from first zero = []
counted_from first (suc n) = first ∷ counted_from (suc first) n

-- the points of an index space of size n: 0 to n - 1
abbrev pub points : ℕ → List ℕ
points n = counted_from 0 n

-- A set of points below a bound is a rising list of them.
pub record IsPoints (bound : ℕ) (xs : List ℕ) : Type 0 where
  pub rising : IsStrictlyIncreasing xs
  pub below : All (λ x. x < bound) xs

-- whether a list holds a number
abbrev pub has : List ℕ → ℕ → Bool
has xs x = list_any (λ y. x == y) xs

-- a rising list with one more number, in its place, unless it is there
abbrev pub with_point : ℕ → List ℕ → List ℕ
with_point x [] = x ∷ []
with_point x (y ∷ ys) =
    if nat_lt x y then (x ∷ y ∷ ys)
    else (if x == y then (y ∷ ys) else (y ∷ with_point x ys))

-- the points of either set
abbrev pub union_of : List ℕ → List ℕ → List ℕ
union_of [] ys = ys
union_of (x ∷ xs) ys = with_point x (union_of xs ys)

-- the points of both sets
abbrev pub meet_of : List ℕ → List ℕ → List ℕ
meet_of xs ys = filter (has ys) xs

-- the points of the first set that are not in the second
abbrev pub minus_of : List ℕ → List ℕ → List ℕ
minus_of xs ys = filter (λ x. not (has ys x)) xs

-- whether two sets share a point
abbrev pub meets : List ℕ → List ℕ → Bool
meets xs ys = list_any (has ys) xs

-- whether the second set holds every point of the first
abbrev pub within : List ℕ → List ℕ → Bool
within xs ys = list_all (has ys) xs
