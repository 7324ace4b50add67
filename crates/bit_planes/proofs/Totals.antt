-- The totals of words, and the word in which a place lies.
use Rattle.std.proofs.Common.{◌≡◌, ℕ, ◌+◌, ◌-◌, ◌*◌, ◌<◌, ◌≤◌, true, false, leb, List, [], ◌∷◌, ◌++◌, length, get_or, ap, ◌∙◌, arith, ⊎_elim}
use Rattle.std.specs.List.Sorted.{IsNonDecreasingBy, IsPartitionedBy, IsPartitionPoint}
use Rattle.std.proofs.lemmas.Bool.{cases_lt, leb-true, leb-false}
use Rattle.std.proofs.Math.ListN.{get_or-append}
use Rattle.std.proofs.Math.Seq.{get_or-append_seam}
use Rattle.std.proofs.lemmas.List.{get_or_default}
use Rattle.std.proofs.lemmas.List.Sorted.{IsPartitionedBy-leb}
use Rattle.bit_planes.specs.Planes.{count_below, has_point}
use Rattle.bit_planes.specs.Words.{AreTotals, number_of}
use Rattle.bit_planes.proofs.Counts.{count_below-zero, count_rises}

-- one more number at the end of a list of what a function gives
pub pushed : (f : ℕ → ℕ) (xs : List ℕ) (y n : ℕ) → length xs ≡ n → ((k : ℕ) → k < n → get_or xs k 0 ≡ f k) → y ≡ f n → (k : ℕ) → k < n + 1 → get_or (xs ++ y ∷ []) k 0 ≡ f k
pushed f xs y n size each last k l = ⊎_elim (λ u. get_or-append xs (y ∷ []) 0 k (omega arith) ∙ each k u) (λ o. ap (λ j. get_or (xs ++ y ∷ []) j 0) (let e : k ≡ length xs = omega arith in e) ∙ get_or-append_seam xs y [] 0 ∙ last ∙ ap f (let e : n ≡ k = omega arith in e)) (cases_lt k n)

module _ (ws totals : List ℕ) (t : AreTotals ws totals) where
  totals_rise : IsNonDecreasingBy (λ (n : ℕ). n) totals
  totals_rise i j d l g =
      let size = t.size in
      let i_in : i < length totals = omega arith in
      omega (arith, get_or_default totals i d 0 i_in, get_or_default totals j d 0 g, t.each i (omega arith), t.each j (omega arith), count_rises (has_point (number_of ws)) (64 * (i + 1)) (64 * (j + 1)) (omega arith))

  pub parted : (many : ℕ) → IsPartitionedBy (λ (n : ℕ). leb n many) totals
  parted many = IsPartitionedBy-leb (λ (n : ℕ). n) totals many totals_rise

  pub count_ahead_is : (k : ℕ) → 0 < k → k ≤ length ws → get_or totals (k - 1) 0 ≡ count_below (has_point (number_of ws)) (64 * k)
  count_ahead_is k some l =
      t.each (k - 1) (omega arith) ∙ ap (λ n. count_below (has_point (number_of ws)) (64 * n)) (let e : k - 1 + 1 ≡ k = omega arith in e)

  module _ (many number : ℕ) (p : IsPartitionPoint (λ (n : ℕ). leb n many ≡ true) (λ (n : ℕ). leb n many ≡ false) totals number) (l : number ≤ length totals) where
    pub few_ahead : count_below (has_point (number_of ws)) (64 * number) ≤ many
    few_ahead =
        let size = t.size in
        ⊎_elim (λ some. omega (arith, leb-true (get_or totals (number - 1) 0) many (p.0 (number - 1) 0 (omega arith) (omega arith)), count_ahead_is number some (omega arith))) (λ none. omega (arith, ap (λ k. count_below (has_point (number_of ws)) (64 * k)) (let e : number ≡ 0 = omega arith in e), count_below-zero (has_point (number_of ws)))) (cases_lt 0 number)

    pub more_behind : number < length ws → many < count_below (has_point (number_of ws)) (64 * (number + 1))
    more_behind g =
        let size = t.size in
        omega (arith, leb-false (get_or totals number 0) many (p.1 number 0 (omega arith) (omega arith)), t.each number g)
