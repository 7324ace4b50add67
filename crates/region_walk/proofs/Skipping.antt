-- What a filter leaves of the end of a list, and filters that leave the same.
use Rattle.std.specs.Prelude.{filter}
use Rattle.std.proofs.Common.{◌≡◌, ◌<◌, ◌≤◌, ◌+◌, ◌-◌, ◌&&◌, ◌∷◌, [], ◌∙◌, ℕ, suc, zero, Bool, true, false, cond, List, All, ap, sym, refl, arith, drop, get_or, length, take}
use Rattle.std.proofs.lemmas.List.Elements.{All-head, All-tail}
use Rattle.std.proofs.lemmas.List.{drop-drop, get_or-drop, length-drop, take_all}

-- none of the first so many passes
pub filter_skips : {X : Type 0} (p : X → Bool) (k : ℕ) (xs : List X) (d : X) → ((i : ℕ) → i < k → p (get_or xs i d) ≡ false) → k ≤ length xs →
    filter p (drop k xs) ≡ filter p xs
filter_skips p zero xs d h l = refl
filter_skips p (suc k) [] d h l = refl
filter_skips p (suc k) (x ∷ xs) d h l =
    filter_skips p k xs d (λ i m. h (suc i) (omega (arith, m))) (omega (arith, l))
    ∙ sym (ap (λ (b : Bool). cond b (x ∷ filter p xs) (filter p xs)) (h 0 (omega arith)))

-- none of those between two places passes
pub filter_between : {X : Type 0} (p : X → Bool) (j k : ℕ) (xs : List X) (d : X) →
    ((i : ℕ) → j ≤ i → i < j + k → p (get_or xs i d) ≡ false) → j + k ≤ length xs →
    filter p (drop (j + k) xs) ≡ filter p (drop j xs)
filter_between p j k xs d h l =
    sym (ap (filter p) (drop-drop k j xs))
    ∙ filter_skips p k (drop j xs) d
    (λ i m. ap p (get_or-drop j xs i d) ∙ h (j + i) (omega arith) (omega (arith, m)))
    (omega (arith, l, length-drop j xs))

-- a slice from a place on
pub slice_from : {X : Type 0} (place : ℕ) (xs : List X) → take (length xs - place) (drop place xs) ≡ drop place xs
slice_from place xs = take_all (length xs - place) (drop place xs) (omega (arith, length-drop place xs))

-- ---- tests alike, and two tests

pub filter_alike : {X : Type 0} (p q : X → Bool) (xs : List X) → All (λ (x : X). p x ≡ q x) xs → filter p xs ≡ filter q xs
filter_alike p q [] a = refl
filter_alike p q (x ∷ xs) a =
    ap (λ (b : Bool). cond b (x ∷ filter p xs) (filter p xs)) (All-head (λ (y : _). p y ≡ q y) x xs a)
    ∙ ap (λ (ys : List _). cond (q x) (x ∷ ys) ys) (filter_alike p q xs (All-tail (λ (y : _). p y ≡ q y) x xs a))

pub filter_whole : {X : Type 0} (p : X → Bool) (xs : List X) → All (λ (x : X). p x ≡ true) xs → filter p xs ≡ xs
filter_whole p [] a = refl
filter_whole p (x ∷ xs) a =
    ap (λ (b : Bool). cond b (x ∷ filter p xs) (filter p xs)) (All-head (λ (y : _). p y ≡ true) x xs a)
    ∙ ap (λ (ys : List _). x ∷ ys) (filter_whole p xs (All-tail (λ (y : _). p y ≡ true) x xs a))

-- one after the other
pub filter_both : {X : Type 0} (p q : X → Bool) (xs : List X) → filter p (filter q xs) ≡ filter (λ (x : X). q x && p x) xs
filter_both p q [] = refl
filter_both p q (x ∷ xs) = by (q x) (p x) (filter_both p q xs)
  where
    by : (a b : Bool) → filter p (filter q xs) ≡ filter (λ (y : _). q y && p y) xs →
        filter p (cond a (x ∷ filter q xs) (filter q xs)) ≡ cond (a && p x) (x ∷ filter (λ (y : _). q y && p y) xs) (filter (λ (y : _). q y && p y) xs)
    by true b h = ap (λ (ys : List _). cond (p x) (x ∷ ys) ys) h
    by false b h = h
