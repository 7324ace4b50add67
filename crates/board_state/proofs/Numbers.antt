-- Numbers of operations that are found one after the other.
use Rattle.std.proofs.Common.{◌≡◌, ◌<◌, ◌∙◌, ◌+◌, ◌-◌, ◌&&◌, ◌++◌, ◌∷◌, [], ℕ, zero, suc, Bool, true, false, List, ap, arith, cond, filter, map, refl, sym}
use Rattle.std.specs.List.{list_all}
use Rattle.std.proofs.Math.Numerals.{add-one}
use Rattle.std.proofs.lemmas.List.{map-append}
use Rattle.std.proofs.lemmas.List.Elements.{filter-append}
use Rattle.plain_values.specs.Points.{counted_from, points}
use Rattle.region_tree.specs.declared.tree.OpNumber.{OpNumber}
use Rattle.dependence_graph.specs.Knots.{number}

counted_more : (first n : ℕ) → counted_from first (suc n) ≡ counted_from first n ++ (first + n) ∷ []
counted_more first zero = let e : first + 0 ≡ first = omega arith in ap (λ (x : ℕ). x ∷ []) (sym e)
counted_more first (suc n) =
    let e : suc first + n ≡ first + suc n = omega arith in
    ap (λ (xs : List ℕ). first ∷ xs) (counted_more (suc first) n ∙ ap (λ (x : ℕ). counted_from (suc first) n ++ x ∷ []) e)

points_more : (n : ℕ) → points (n + 1) ≡ points n ++ n ∷ []
points_more n =
    let e : 0 + n ≡ n = omega arith in
    ap points (add-one n) ∙ counted_more 0 n ∙ ap (λ (x : ℕ). points n ++ x ∷ []) e

one_number : (n : ℕ) (b : Bool) → map number (cond b (n ∷ []) []) ≡ cond b (number n ∷ []) []
one_number n true = refl
one_number n false = refl

pub found_more : (p : ℕ → Bool) (n : ℕ) (xs ys : List OpNumber) (b : Bool) → p n ≡ b → xs ≡ map number (filter p (points n)) →
    ys ≡ xs ++ cond b (number n ∷ []) [] → ys ≡ map number (filter p (points (n + 1)))
found_more p n xs ys b e h g =
    g ∙ ap (λ (zs : List OpNumber). zs ++ cond b (number n ∷ []) []) h
    ∙ ap (λ (zs : List OpNumber). map number (filter p (points n)) ++ zs) (sym (one_number n b))
    ∙ sym (map-append number (filter p (points n)) (cond b (n ∷ []) []))
    ∙ ap (λ (c : Bool). map number (filter p (points n) ++ cond c (n ∷ []) [])) (sym e)
    ∙ ap (map number) (sym (filter-append p (points n) (n ∷ [])))
    ∙ ap (λ (ks : List ℕ). map number (filter p ks)) (sym (points_more n))

-- ---- whether all are of a kind

pub all_from : (p : ℕ → Bool) (first n : ℕ) → 0 < n → p first ≡ true →
    list_all p (counted_from first n) ≡ list_all p (counted_from (first + 1) (n - 1))
all_from p first zero b e = absurd (omega (arith, b))
all_from p first (suc n) b e =
    let more : suc first ≡ first + 1 = omega arith in
    let less : n ≡ suc n - 1 = omega arith in
    ap (λ (x : Bool). x && list_all p (counted_from (suc first) n)) e
    ∙ ap (λ (k : ℕ). list_all p (counted_from k n)) more ∙ ap (λ (k : ℕ). list_all p (counted_from (first + 1) k)) less

pub not_all_from : (p : ℕ → Bool) (first n : ℕ) → 0 < n → p first ≡ false → list_all p (counted_from first n) ≡ false
not_all_from p first zero b e = absurd (omega (arith, b))
not_all_from p first (suc n) b e = ap (λ (x : Bool). x && list_all p (counted_from (suc first) n)) e
