-- Sums over lists.
use Rattle.std.proofs.Common.{◌≡◌, ◌∙◌, ◌+◌, ℕ, zero, suc, List, [], ◌∷◌, ap, arith, get_or, length, map, refl, set, sum_by, sym}
use Rattle.std.proofs.lemmas.List.Sums.{sum_by-cons}
use Rattle.plain_values.specs.Points.{counted_from}

pub set_twice : {A : Type 0} (xs : List A) (k : ℕ) (a b : A) → set (set xs k a) k b ≡ set xs k b
set_twice [] k a b = refl
set_twice (x ∷ xs) zero a b = refl
set_twice (x ∷ xs) (suc k) a b = ap (λ ys. x ∷ ys) (set_twice xs k a b)

pub sum_mapped : {A B : Type 0} (f : B → ℕ) (g : A → B) (xs : List A) → sum_by f (map g xs) ≡ sum_by (λ x. f (g x)) xs
sum_mapped f g [] = refl
sum_mapped f g (x ∷ xs) =
    sum_by-cons f (g x) (map g xs) ∙ ap (λ n. f (g x) + n) (sum_mapped f g xs) ∙ sym (sum_by-cons (λ y. f (g y)) x xs)

pub sum_nothing : {A : Type 0} (f : A → ℕ) (xs : List A) → ((x : A) → f x ≡ 0) → sum_by f xs ≡ 0
sum_nothing f [] e = refl
sum_nothing f (x ∷ xs) e = omega (arith, sum_by-cons f x xs, e x, sum_nothing f xs e)

pub nil_mapped : {A B : Type 0} (f : A → B) (xs : List A) → map f xs ≡ [] → xs ≡ []
nil_mapped f [] e = refl
nil_mapped f (x ∷ xs) e = absurd (some_not_none (length_of e))
  where
    length_of : map f (x ∷ xs) ≡ [] → suc (length (map f xs)) ≡ 0
    length_of h = ap length h

    some_not_none : suc (length (map f xs)) ≡ 0 → ⊥
    some_not_none h = omega (arith, h)

pub sum_both : {A : Type 0} (f g : A → ℕ) (xs : List A) → sum_by (λ x. f x + g x) xs ≡ sum_by f xs + sum_by g xs
sum_both f g [] = refl
sum_both f g (x ∷ xs) =
    omega (arith, sum_by-cons (λ y. f y + g y) x xs, sum_both f g xs, sum_by-cons f x xs, sum_by-cons g x xs)

-- an element for another one that counts as much
pub sum_set_same : {A : Type 0} (f : A → ℕ) (xs : List A) (k : ℕ) (y d : A) → f y ≡ f (get_or xs k d) → sum_by f (set xs k y) ≡ sum_by f xs
sum_set_same f [] k y d e = refl
sum_set_same f (x ∷ xs) zero y d e = omega (arith, e, sum_by-cons f y xs, sum_by-cons f x xs)
sum_set_same f (x ∷ xs) (suc k) y d e =
    omega (arith, sum_set_same f xs k y d e, sum_by-cons f x (set xs k y), sum_by-cons f x xs)

-- ---- by places

from_next : (f : ℕ → ℕ) (first n : ℕ) → sum_by f (counted_from (suc first) n) ≡ sum_by (λ k. f (suc k)) (counted_from first n)
from_next f first zero = refl
from_next f first (suc n) =
    sum_by-cons f (suc first) (counted_from (suc (suc first)) n)
    ∙ ap (λ m. f (suc first) + m) (from_next f (suc first) n)
    ∙ sym (sum_by-cons (λ k. f (suc k)) first (counted_from (suc first) n))

pub sum_seen : {A : Type 0} (f : A → ℕ) (xs : List A) (d : A) → sum_by (λ k. f (get_or xs k d)) (counted_from 0 (length xs)) ≡ sum_by f xs
sum_seen f [] d = refl
sum_seen f (x ∷ xs) d =
    sum_by-cons (λ k. f (get_or (x ∷ xs) k d)) 0 (counted_from 1 (length xs))
    ∙ ap (λ m. f x + m) (from_next (λ k. f (get_or (x ∷ xs) k d)) 0 (length xs) ∙ sum_seen f xs d)
    ∙ sym (sum_by-cons f x xs)
