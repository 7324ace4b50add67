-- What a permutation keeps.
use Rattle.std.specs.Prelude.{IsPermutation, filter}
use Rattle.std.proofs.Common.{◌<◌, ◌++◌, ◌∷◌, [], ℕ, suc, zero, Bool, true, false, cond, List, arith, get_or, length, set, swap}
use Rattle.std.proofs.lemmas.List.Sorted.{IsPermutation-append_right, IsPermutation-cons, IsPermutation-keeps, IsPermutation-middle, IsPermutation-refl, IsPermutation-sym, IsPermutation-trans}

-- what is reflexive, transitive and kept under a head and by an exchange of two heads holds along each permutation
module _ {X : Type 0} (R : List X → List X → Type 0) (same : (xs : List X) → R xs xs)
    (under : (x : X) (xs ys : List X) → R xs ys → R (x ∷ xs) (x ∷ ys))
    (turn : (x y : X) (xs : List X) → R (x ∷ y ∷ xs) (y ∷ x ∷ xs))
    (chain : (xs ys zs : List X) → R xs ys → R ys zs → R xs zs) where
  to_head : (l : List X) (j : ℕ) (x d : X) → j < length l → R (x ∷ l) (get_or l j d ∷ set l j x)
  to_head [] j x d h = absurd (omega arith)
  to_head (y ∷ l) zero x d h = turn x y l
  to_head (y ∷ l) (suc j) x d h =
      chain _ _ _ (turn x y l) (chain _ _ _ (under y _ _ (to_head l j x d (omega arith))) (turn y (get_or l j d) (set l j x)))

  exchanged : (l : List X) (i j : ℕ) (d : X) → i < length l → j < length l → R l (set (set l i (get_or l j d)) j (get_or l i d))
  exchanged [] i j d p q = absurd (omega arith)
  exchanged (x ∷ l) zero zero d p q = same (x ∷ l)
  exchanged (x ∷ l) zero (suc j) d p q = to_head l j x d (omega arith)
  exchanged (x ∷ l) (suc i) zero d p q = to_head l i x d (omega arith)
  exchanged (x ∷ l) (suc i) (suc j) d p q = under x _ _ (exchanged l i j d (omega arith) (omega arith))

  swapped : (l : List X) (i j : ℕ) → i < length l → j < length l → R l (swap l i j)
  swapped [] i j p q = same []
  swapped (x ∷ l) i j p q = exchanged (x ∷ l) i j x p q

  along : (xs ys : List X) → IsPermutation xs ys → R xs ys
  along xs = IsPermutation-keeps xs (R xs) (same xs) (λ l i j p q h. chain xs l _ h (swapped l i j p q))

under_by : {X : Type 0} (b : Bool) (x : X) (xs ys : List X) → IsPermutation xs ys →
    IsPermutation (cond b (x ∷ xs) xs) (cond b (x ∷ ys) ys)
under_by true x xs ys h = IsPermutation-cons x xs ys h
under_by false x xs ys h = h

turn_by : {X : Type 0} (a b : Bool) (x y : X) (l : List X) →
    IsPermutation (cond a (x ∷ cond b (y ∷ l) l) (cond b (y ∷ l) l)) (cond b (y ∷ cond a (x ∷ l) l) (cond a (x ∷ l) l))
turn_by true true x y l = IsPermutation-middle (x ∷ []) y l
turn_by true false x y l = IsPermutation-refl (x ∷ l)
turn_by false true x y l = IsPermutation-refl (y ∷ l)
turn_by false false x y l = IsPermutation-refl l

pub perm_filter : {X : Type 0} (p : X → Bool) (xs ys : List X) → IsPermutation xs ys → IsPermutation (filter p xs) (filter p ys)
perm_filter p xs ys h = along (λ us vs. IsPermutation (filter p us) (filter p vs))
    (λ us. IsPermutation-refl (filter p us))
    (λ x us vs k. under_by (p x) x (filter p us) (filter p vs) k)
    (λ x y us. turn_by (p x) (p y) x y (filter p us))
    (λ us vs ws k l. IsPermutation-trans _ _ _ k l) xs ys h

-- one of those that are left comes to those that are there
pub perm_more : {X : Type 0} (all rest now new : List X) (x : X) → IsPermutation all ((x ∷ rest) ++ now) → IsPermutation (x ∷ now) new →
    IsPermutation all (rest ++ new)
perm_more all rest now new x a b =
    IsPermutation-trans all ((x ∷ rest) ++ now) (rest ++ new) a
    (IsPermutation-trans ((x ∷ rest) ++ now) (rest ++ x ∷ now) (rest ++ new)
    (IsPermutation-sym (rest ++ x ∷ now) (x ∷ (rest ++ now)) (IsPermutation-middle rest x now))
    (IsPermutation-append_right rest (x ∷ now) new b))
