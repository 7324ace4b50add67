-- Numbers of seats.
use Rattle.std.proofs.Common.{◌≡◌, ◌<◌, ◌≤◌, ◌∙◌, ◌+◌, ℕ, List, [], ◌∷◌, ◌++◌, ap, arith, sym}
use Rattle.std.proofs.lemmas.List.{map-append}
use Rattle.plain_values.specs.Points.{points}
use Rattle.point_sets.proofs.Rising.{counted_from-+}
use Rattle.task_hub.specs.Seats.{Placed, numbers_of}

points_more : (n : ℕ) → points (n + 1) ≡ points n ++ n ∷ []
points_more n = let e : 0 + n ≡ n = omega arith in counted_from-+ 0 n 1 ∙ ap (λ (k : ℕ). points n ++ k ∷ []) e

-- one seat more
pub numbers_more : (ss : List Placed) (s : Placed) (n : ℕ) → numbers_of ss ≡ points n → s.number ≡ n → numbers_of (ss ++ s ∷ []) ≡ points (n + 1)
numbers_more ss s n e f =
    map-append (λ (x : Placed). x.number) ss (s ∷ [])
    ∙ ap (λ (ns : List ℕ). ns ++ s.number ∷ []) e ∙ ap (λ (k : ℕ). points n ++ k ∷ []) f ∙ sym (points_more n)

-- all of them
pub numbers_all : (ss : List Placed) (n m : ℕ) → numbers_of ss ≡ points n → n ≤ m → (n < m → ⊥) → numbers_of ss ≡ points m
numbers_all ss n m e below stop = let same : n ≡ m = omega (arith, below, stop) in e ∙ ap points same
