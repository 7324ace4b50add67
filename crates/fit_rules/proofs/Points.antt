-- Sets of points below a bound.
use Rattle.std.proofs.Common.{◌≡◌, ℕ, ◌+◌, ◌<◌, ◌≤◌, List, All, true, arith}
use Rattle.std.proofs.lemmas.List.Elements.{All-contains}
use Rattle.plain_values.specs.Points.{IsPoints, has, counted_from}
use Rattle.point_sets.proofs.Rising.{Contains-from_has, length-counted_from, get_or-counted_from, rising-counted_from}

-- a point of a set is below the set's bound
pub has_below : (b : ℕ) (xs : List ℕ) (p : ℕ) → All (λ y. y < b) xs → has xs p ≡ true → p < b
has_below b xs p h e = All-contains (λ y. y < b) xs p h (Contains-from_has xs p e)

counted_below : (b first n : ℕ) → first + n ≤ b → All (λ y. y < b) (counted_from first n)
counted_below b first n h k d l =
    let under : k < n = omega (arith, l, length-counted_from first n) in
    rw (get_or-counted_from first n k d under) (omega (arith, h, under))

-- so many numbers from one on are a set of points
pub counted_points : (b first n : ℕ) → first + n ≤ b → IsPoints b (counted_from first n)
counted_points b first n h = record { rising = rising-counted_from first n; below = counted_below b first n h }
