-- Each number is the number of one pair.
use Rattle.std.proofs.Common.{◌≡◌, ◌∙◌, ◌+◌, ◌*◌, ◌/◌, ◌%◌, ◌^◌, ◌<◌, ◌≤◌, Bool, ap, arith, cond, false, nat_eq, refl, suc, true, zero, ℕ}
use Rattle.std.proofs.lemmas.Bool.{eqb-false, eqb-true}
use Rattle.number_codes.specs.Lists.{Halved, halved, once_more}
use Rattle.number_codes.specs.Pairs.{PairsAreAll, PairsTell, pair_code}
use Rattle.number_codes.proofs.Lists.{first_below, halves, twice}

whole : (a b : ℕ) → suc (pair_code a b) ≡ 2 ^ a * (2 * b + 1)
whole a b = let h = first_below a b in omega (arith, h)

halved_pair : (a b : ℕ) → halved (suc (pair_code a b)) (suc (pair_code a b)) ≡ record { times = a; left = b }
halved_pair a b = halves (suc (pair_code a b)) a b (suc (pair_code a b)) (whole a b) (let h = first_below a b in let w = whole a b in omega (arith, h, w))

pub pairs_tell : PairsTell
pairs_tell a b = (ap (λ (h : Halved). h.times) (halved_pair a b), ap (λ (h : Halved). h.left) (halved_pair a b))

-- what was halved is told back
told_back : (f n : ℕ) → 0 < n → n ≤ f → 2 ^ (halved f n).times * (2 * (halved f n).left + 1) ≡ n
told_back zero n h k = absurd (omega (arith, h, k))
told_back (suc f) n h k = by_odd (nat_eq (n % 2) 1) refl (told_back f (n / 2))
  where
    by_odd : (b : Bool) → nat_eq (n % 2) 1 ≡ b → (0 < n / 2 → n / 2 ≤ f → 2 ^ (halved f (n / 2)).times * (2 * (halved f (n / 2)).left + 1) ≡ n / 2) →
        2 ^ (cond b (record { times = 0; left = n / 2 }) (once_more (halved f (n / 2)))).times * (2 * (cond b (record { times = 0; left = n / 2 }) (once_more (halved f (n / 2)))).left + 1) ≡ n
    by_odd true e r = let o = eqb-true (n % 2) 1 e in omega (arith, o)
    by_odd false e r = twice (halved f (n / 2)).times (halved f (n / 2)).left ∙ evenly (2 ^ (halved f (n / 2)).times * (2 * (halved f (n / 2)).left + 1)) (r (half_above (eqb-false (n % 2) 1 e)) (omega (arith, k))) (eqb-false (n % 2) 1 e)
      where
        half_above : (n % 2 ≡ 1 → ⊥) → 0 < n / 2
        half_above odd_not = omega (arith, h, odd_not)

        evenly : (x : ℕ) → x ≡ n / 2 → (n % 2 ≡ 1 → ⊥) → x * 2 ≡ n
        evenly x q odd_not = omega (arith, q, odd_not)

pub pairs_are_all : PairsAreAll
pairs_are_all n = let h = told_back (suc n) (suc n) (omega arith) (omega arith) in omega (arith, h)
