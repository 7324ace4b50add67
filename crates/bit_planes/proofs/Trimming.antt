-- Words without the zeros ahead of them and behind them.
use Rattle.std.proofs.Common.{◌≡◌, ℕ, suc, ◌+◌, ◌-◌, ◌*◌, ◌/◌, ◌%◌, ◌^◌, ◌<◌, ◌≤◌, true, false, eqb, ltb, List, [], ◌∷◌, length, get_or, take, drop, refl, sym, ap, ◌∙◌, arith, ⊎_elim, length-drop}
use Rattle.std.specs.Int.Count.{count_trailing_zeros}
use Rattle.std.proofs.lemmas.Bool.{cases_lt, cond-true, cond-false, lt-ltb, le-ltb}
use Rattle.std.proofs.lemmas.List.{get_or_past, get_or-take, get_or-drop, length-take-le}
use Rattle.std.proofs.lemmas.Nat.{leading_top, le-div, div_below, pow_pos}
use Rattle.std.proofs.Math.Nat.{pow-succ'}
use Rattle.bit_planes.specs.Planes.{has_point, AreEnds, IsSpan}
use Rattle.bit_planes.specs.Words.{number_of, placed, word_at, ArePlane, IsFirst}
use Rattle.bit_planes.proofs.Bits.{AreWords, has_at, has_within, at_each, same_from_points, has_above, has_before}
use Rattle.bit_planes.proofs.Masks.{lowest_one, lowest_within}
use Rattle.bit_planes.proofs.Placed.{none_behind}

module _ (ws : List ℕ) (low high : ℕ) (order : low ≤ high) (within : high ≤ length ws) where
  pub kept_size : length (take (high - low) (drop low ws)) ≡ high - low
  kept_size =
      length-take-le (high - low) (drop low ws) (omega (arith, length-drop low ws))

  pub kept_word : (k : ℕ) → k < high - low → get_or (take (high - low) (drop low ws)) k 0 ≡ get_or ws (low + k) 0
  kept_word k l = get_or-take (high - low) (drop low ws) k 0 l ∙ get_or-drop low ws k 0

  pub kept_fits : AreWords ws → AreWords (take (high - low) (drop low ws))
  kept_fits h k =
      ⊎_elim (λ l. rw (kept_word k l) (h (low + k))) (λ o. rw (get_or_past (take (high - low) (drop low ws)) k 0 (omega (arith, kept_size))) (omega arith)) (cases_lt k (high - low))

  module _ (ahead : (k : ℕ) → k < low → get_or ws k 0 ≡ 0) (behind : (k : ℕ) → high ≤ k → get_or ws k 0 ≡ 0) (first : ℕ) where
    word_there : (q : ℕ) → first ≤ q → word_at (first + low) (take (high - low) (drop low ws)) q ≡ get_or ws (q - first) 0
    word_there q l =
        ⊎_elim
        (λ u. cond-true (ltb q (first + low)) 0 (get_or (take (high - low) (drop low ws)) (q - (first + low)) 0) (lt-ltb q (first + low) u) ∙ sym (ahead (q - first) (omega arith)))
        (λ o. cond-false (ltb q (first + low)) 0 (get_or (take (high - low) (drop low ws)) (q - (first + low)) 0) (le-ltb q (first + low) o) ∙ ⊎_elim (λ u. kept_word (q - (first + low)) u ∙ ap (λ k. get_or ws k 0) (let e : low + (q - (first + low)) ≡ q - first = omega arith in e)) (λ p. get_or_past (take (high - low) (drop low ws)) (q - (first + low)) 0 (omega (arith, kept_size)) ∙ sym (behind (q - first) (omega arith))) (cases_lt (q - (first + low)) (high - low)))
        (cases_lt q (first + low))

    word_same : (q : ℕ) → word_at (first + low) (take (high - low) (drop low ws)) q ≡ word_at first ws q
    word_same q =
        ⊎_elim
        (λ u. cond-true (ltb q (first + low)) 0 (get_or (take (high - low) (drop low ws)) (q - (first + low)) 0) (lt-ltb q (first + low) (omega arith)) ∙ sym (cond-true (ltb q first) 0 (get_or ws (q - first) 0) (lt-ltb q first u)))
        (λ o. word_there q o ∙ sym (cond-false (ltb q first) 0 (get_or ws (q - first) 0) (le-ltb q first o)))
        (cases_lt q first)

    pub trimmed : AreWords ws → AreWords (take (high - low) (drop low ws)) → placed (first + low) (take (high - low) (drop low ws)) ≡ placed first ws
    trimmed h g =
        same_from_points (placed (first + low) (take (high - low) (drop low ws))) (placed first ws) (at_each (λ z. has_point (placed (first + low) (take (high - low) (drop low ws))) z ≡ has_point (placed first ws) z) (λ q i l. has_at (first + low) (take (high - low) (drop low ws)) g q i l ∙ ap (λ w. has_point w i) (word_same q) ∙ sym (has_at first ws h q i l)))

-- ---- the ends of a plane

top_bit : (w p : ℕ) → 0 < p → p ≤ w → w < 2 * p → w / p % 2 ≡ 1
top_bit w p some l g =
    let low = le-div 1 w p some (omega arith) in
    let high = div_below w p 2 some (omega arith) in
    omega (arith, low, high)

pow-suc_two : (j : ℕ) → 2 ^ suc j ≡ 2 * 2 ^ j
pow-suc_two j = pow-succ' 2 j

-- the highest one of a word that has any
highest_one : (w : ℕ) → 0 < w → w < 2 ^ 64 → (j : ℕ) × (j < 64) × (has_point w j ≡ true) × (w < 2 ^ suc j)
unfolding has_point
highest_one w some l =
    let t = leading_top 64 w some l in
    (t.0, omega (arith, t.1), ap (λ b. eqb b 1) (top_bit w (2 ^ t.0) (pow_pos t.0) t.2 (omega (arith, t.3, pow-suc_two t.0))), t.3)

no_words : (ws : List ℕ) → length ws ≡ 0 → number_of ws ≡ 0
no_words [] e = refl
no_words (w ∷ ws) e = absurd (omega (arith, e))

module _ (first : ℕ) (ws : List ℕ) (totals : List ℕ) (plane : ArePlane first ws totals) (some : 0 < length ws) (i j : ℕ) (i_in : i < 64) (j_in : j < 64) (lowest : IsFirst (has_point (get_or ws 0 0)) 0 64 i) (highest : has_point (get_or ws (length ws - 1) 0) j ≡ true) (top : get_or ws (length ws - 1) 0 < 2 ^ suc j) where
  none_before : (z : ℕ) → z < 64 * (first + 0) + i → has_point (placed first ws) z ≡ false
  none_before z l =
      ⊎_elim (λ u. has_before first (number_of ws) z u) (λ o. ap (has_point (placed first ws)) (let e : z ≡ 64 * (first + 0) + (z - 64 * first) = omega arith in e) ∙ has_within first ws plane.fit 0 (z - 64 * first) (omega arith) ∙ lowest.none (z - 64 * first) (omega arith) (omega arith)) (cases_lt z (64 * first))

  none_after : (z : ℕ) → 64 * (first + (length ws - 1)) + j < z → has_point (placed first ws) z ≡ false
  none_after z l =
      ⊎_elim (λ u. ap (has_point (placed first ws)) (let e : z ≡ 64 * (first + (length ws - 1)) + (z - 64 * (first + (length ws - 1))) = omega arith in e) ∙ has_within first ws plane.fit (length ws - 1) (z - 64 * (first + (length ws - 1))) (omega arith) ∙ has_above (get_or ws (length ws - 1) 0) (suc j) (z - 64 * (first + (length ws - 1))) top (omega arith)) (λ o. none_behind first ws plane.fit z o) (cases_lt z (64 * (first + length ws)))

  ends_found : AreEnds (placed first ws) (64 * (first + 0) + i) (64 * (first + (length ws - 1)) + j)
  ends_found = record {
    first_there = has_within first ws plane.fit 0 i i_in ∙ lowest.found i_in;
    last_there = has_within first ws plane.fit (length ws - 1) j j_in ∙ highest;
    none_before = none_before;
    none_behind = none_after;
  }

pub span_of : (first : ℕ) (ws : List ℕ) (totals : List ℕ) → ArePlane first ws totals → IsSpan (placed first ws) (length ws)
span_of first ws totals plane = record {
  none = λ e. ap (λ n. n * 2 ^ (64 * first)) (no_words ws e) ∙ omega arith;
  some = λ some. ends some;
}
  where
    ends : 0 < length ws → (a : ℕ) × (b : ℕ) × AreEnds (placed first ws) a b × (a / 64 + length ws ≡ b / 64 + 1)
    ends some =
        let low = lowest_one (get_or ws 0 0) (plane.first_holds some) (plane.fit 0) in
        let i_in : count_trailing_zeros 64 (get_or ws 0 0) < 64 = lowest_within (get_or ws 0 0) (plane.first_holds some) (plane.fit 0) in
        let high = highest_one (get_or ws (length ws - 1) 0) (plane.last_holds some) (plane.fit (length ws - 1)) in
        (64 * (first + 0) + count_trailing_zeros 64 (get_or ws 0 0), 64 * (first + (length ws - 1)) + high.0, ends_found first ws totals plane some (count_trailing_zeros 64 (get_or ws 0 0)) high.0 i_in high.1 low high.2 high.3, same_reach (count_trailing_zeros 64 (get_or ws 0 0)) high.0 i_in high.1)
      where
        same_reach : (i j : ℕ) → i < 64 → j < 64 → (64 * (first + 0) + i) / 64 + length ws ≡ (64 * (first + (length ws - 1)) + j) / 64 + 1
        same_reach i j l g = omega arith
