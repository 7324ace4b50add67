-- The number beside a point, one point after the other.
use Rattle.std.proofs.Common.{◌≡◌, ◌∙◌, ◌+◌, ◌==◌, Bool, true, false, cond, eqb, List, [], ◌∷◌, None, Option, Some, ap, arith, refl, suc, sym, ℕ, ℤ}
use Rattle.std.specs.List.{position, position_from}
use Rattle.std.proofs.lemmas.Iterator.Adapters.{position_from-zero}
use Rattle.reduction_folds.specs.Folds.{number_in}
use Rattle.logical_map.specs.Maps.{number_beside}

position_is : (p : ℕ) (ps : List ℕ) → position (λ x. x == p) ps ≡ position_from (λ x. x == p) 0 ps
position_is p ps = position_from-zero (λ x. x == p) ps

abbrev behind : Option ℕ → Option ℕ
behind None = None
behind (Some k) = Some (suc k)

shifted : (t : ℕ → Bool) (i : ℕ) (xs : List ℕ) → position_from t (i + 1) xs ≡ behind (position_from t i xs)
shifted t i [] = refl
shifted t i (x ∷ xs) = by_case (t x) (shifted t (i + 1) xs)
  where
    by_case : (b : Bool) → position_from t ((i + 1) + 1) xs ≡ behind (position_from t (i + 1) xs) → cond b (Some (i + 1)) (position_from t ((i + 1) + 1) xs)
        ≡ behind (cond b (Some i) (position_from t (i + 1) xs))
    by_case true rest = let e : (i + 1) ≡ suc i = omega arith in ap Some e
    by_case false rest = rest

number_behind : (z : ℤ) (zs : List ℤ) (o : Option ℕ) → number_in (z ∷ zs) (behind o) ≡ number_in zs o
number_behind z zs None = refl
number_behind z zs (Some k) = refl

no_number : (o : Option ℕ) → number_in [] o ≡ None
no_number None = refl
no_number (Some k) = refl

pub beside_no_point : (zs : List ℤ) (p : ℕ) → number_beside [] zs p ≡ None
beside_no_point zs p = refl

pub beside_no_number : (ps : List ℕ) (p : ℕ) → number_beside ps [] p ≡ None
beside_no_number ps p = no_number (position (λ x. x == p) ps)

pub beside_more : (q p : ℕ) (ps : List ℕ) (z : ℤ) (zs : List ℤ) →
    number_beside (q ∷ ps) (z ∷ zs) p ≡ cond (q == p) (Some z) (number_beside ps zs p)
beside_more q p ps z zs = ap (number_in (z ∷ zs)) (position_is p (q ∷ ps)) ∙ by_case (eqb q p)
  where
    by_case : (b : Bool) → number_in (z ∷ zs) (cond b (Some 0) (position_from (λ x. x == p) (0 + 1) ps))
        ≡ cond b (Some z) (number_beside ps zs p)
    by_case true = refl
    by_case false = ap (number_in (z ∷ zs)) (shifted (λ x. x == p) 0 ps) ∙
        number_behind z zs (position_from (λ x. x == p) 0 ps) ∙
        ap (number_in zs) (sym (position_is p ps))
