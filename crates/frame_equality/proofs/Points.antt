-- Sets of points that are within each other.
use Rattle.std.specs.Prelude.{◌≡◌, true, ℕ, List}
use Rattle.std.specs.List.Sorted.{IsStrictlyIncreasing}
use Rattle.point_sets.proofs.LawProofs.{decided, each}
use Rattle.plain_values.specs.Points.{within}

-- two rising lists within each other are one
pub same_points : (xs ys : List ℕ) → IsStrictlyIncreasing xs → IsStrictlyIncreasing ys → within xs ys ≡ true → within ys xs ≡ true → xs ≡ ys
same_points xs ys a b e f = decided xs ys a (b, λ x. ((each ys xs).0 f x, (each xs ys).0 e x))
