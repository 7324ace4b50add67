-- Sets of words that stand further on.
use Rattle.std.proofs.Common.{◌≡◌, ℕ, ◌+◌, ◌-◌, ◌*◌, ◌/◌, ◌%◌, ◌^◌, ◌<◌, ◌≤◌, Bool, true, false, not, ◌&&◌, ltb, List, length, get_or, take, drop, length-drop, sym, ap, ◌∙◌, arith, ⊎_elim}
use Rattle.std.proofs.lemmas.Bool.{cases_lt, not-true, not-false, false≢true, cond_both}
use Rattle.std.specs.Prelude.{bit_and}
use Rattle.std.specs.Int.RustNames.{count_ones}
use Rattle.std.proofs.lemmas.Nat.{and_mask, one_shl}
use Rattle.std.proofs.lemmas.List.{get_or_past, get_or-take, get_or-drop, length-take-le}
use Rattle.bit_planes.specs.Planes.{has_point, count_below, is_last, IsStretch, IsPlace}
use Rattle.bit_planes.specs.Words.{number_of, placed, word_at, IsFirst, IsBetween, IsWindow}
use Rattle.bit_planes.specs.declared.TheConstants.{WORD_LIMIT}
use Rattle.bit_planes.proofs.Bits.{AreWords, has_word, has-zero, has_placed, has_before, has_at, word_of_plane}
use Rattle.bit_planes.proofs.Counts.{count_below-+, count_none, count_same, ones_below}

pub none_past : (ws : List ℕ) → AreWords ws → (z : ℕ) → 64 * length ws ≤ z → has_point (number_of ws) z ≡ false
none_past ws h z l =
    ap (has_point (number_of ws)) (let e : z ≡ 64 * (z / 64) + z % 64 = omega arith in e) ∙ has_word ws h (z / 64) (z % 64) (omega arith) ∙ ap (λ w. has_point w (z % 64)) (get_or_past ws (z / 64) 0 (omega arith)) ∙ has-zero (z % 64)

-- what passes a test from one place on, as far as another, is counted from there
pub count_from : (p q : ℕ → Bool) (first size limit : ℕ) → first + size ≤ limit → ((z : ℕ) → z < first → p z ≡ false) → ((z : ℕ) → p (first + z) ≡ q z) → ((z : ℕ) → size ≤ z → q z ≡ false) → count_below p limit ≡ count_below q size
count_from p q first size limit l before same behind =
    ap (count_below p) (let e : limit ≡ first + (size + (limit - first - size)) = omega arith in e) ∙ count_below-+ p first (size + (limit - first - size))
    ∙ ap (λ c. c + count_below (λ z. p (first + z)) (size + (limit - first - size))) (count_none p first before) ∙ (let e : 0 + count_below (λ z. p (first + z)) (size + (limit - first - size)) ≡ count_below (λ z. p (first + z)) (size + (limit - first - size)) = omega arith in e)
    ∙ count_same (λ z. p (first + z)) q (size + (limit - first - size)) (λ z _. same z) ∙ count_below-+ q size (limit - first - size)
    ∙ ap (λ c. count_below q size + c) (count_none (λ z. q (size + z)) (limit - first - size) (λ z _. behind (size + z) (omega arith))) ∙ omega arith

pub stretch_found : (ws : List ℕ) → AreWords ws → (from start end : ℕ) → start < 64 * length ws → IsFirst (has_point (number_of ws)) from (64 * length ws) start → IsFirst (λ z. not (has_point (number_of ws) z)) start (64 * length ws) end → IsStretch (number_of ws) from start end
stretch_found ws h from start end l f g =
    let ahead = f.ahead in
    let further = g.ahead in
    let stops : has_point (number_of ws) end ≡ false = ⊎_elim (λ u. not-true (has_point (number_of ws) end) (g.found u)) (λ o. none_past ws h end o) (cases_lt end (64 * length ws)) in
    record {
      ahead = ahead;
      some = ⊎_elim (λ u. u) (λ o. let e : end ≡ start = omega arith in absurd (false≢true (sym stops ∙ ap (has_point (number_of ws)) e ∙ f.found l))) (cases_lt start end);
      gap = f.none;
      full = λ z a b. not-false (has_point (number_of ws) z) (g.none z a b);
      ends = stops;
    }

module _ (first : ℕ) (ws : List ℕ) (h : AreWords ws) where
  pub none_behind : (z : ℕ) → 64 * (first + length ws) ≤ z → has_point (placed first ws) z ≡ false
  none_behind z l =
      ap (has_point (placed first ws)) (let e : z ≡ 64 * first + (z - 64 * first) = omega arith in e) ∙ has_placed first (number_of ws) (z - 64 * first) ∙ none_past ws h (z - 64 * first) (omega arith)

  pub has_in_word : (z : ℕ) → has_point (word_at first ws (z / 64)) (z % 64) ≡ has_point (placed first ws) z
  has_in_word z =
      sym (has_at first ws h (z / 64) (z % 64) (omega arith)) ∙ ap (has_point (placed first ws)) (let e : 64 * (z / 64) + z % 64 ≡ z = omega arith in e)

  word_fits : (q : ℕ) → word_at first ws q < 2 ^ 64
  word_fits q = cond_both (ltb q first) 0 (get_or ws (q - first) 0) (λ w. w < 2 ^ 64) (λ _. omega arith) (λ _. h (q - first))

  pub window_of : (from count : ℕ) (xs : List ℕ) → length xs ≡ count → ((k : ℕ) → k < count → get_or xs k 0 ≡ word_at first ws (from + k)) → IsWindow (placed first ws) from count xs
  window_of from count xs size same = record {
    size = size;
    fit = λ k. ⊎_elim (λ l. rw (same k l) (word_fits (from + k))) (λ o. rw (get_or_past xs k 0 (omega arith)) (omega arith)) (cases_lt k count);
    same = λ k i l g. ap (λ w. has_point w i) (same k l) ∙ sym (has_at first ws h (from + k) i g);
  }

  pub between : first + length ws ≤ WORD_LIMIT → IsBetween (placed first ws) first (first + length ws)
  between l = record {
    order = omega arith;
    within = l;
    none_before = has_before first (number_of ws);
    none_behind = none_behind;
  }

  pub count_placed : (limit : ℕ) → first + length ws ≤ limit → count_below (has_point (placed first ws)) (64 * limit) ≡ count_below (has_point (number_of ws)) (64 * length ws)
  count_placed limit l =
      count_from (has_point (placed first ws)) (has_point (number_of ws)) (64 * first) (64 * length ws) (64 * limit) (omega arith) (has_before first (number_of ws)) (has_placed first (number_of ws)) (none_past ws h)

  pub last_placed : (z : ℕ) → is_last (placed first ws) (64 * first + z) ≡ is_last (number_of ws) z
  last_placed z =
      ap (λ b. b && not (has_point (placed first ws) (64 * first + z + 1))) (has_placed first (number_of ws) z) ∙ ap (λ b. has_point (number_of ws) z && not b) (ap (has_point (placed first ws)) (let e : 64 * first + z + 1 ≡ 64 * first + (z + 1) = omega arith in e) ∙ has_placed first (number_of ws) (z + 1))

  pub count_lasts : (limit : ℕ) → first + length ws ≤ limit → count_below (is_last (placed first ws)) (64 * limit) ≡ count_below (is_last (number_of ws)) (64 * length ws)
  count_lasts limit l =
      count_from (is_last (placed first ws)) (is_last (number_of ws)) (64 * first) (64 * length ws) (64 * limit) (omega arith) (λ z g. ap (λ b. b && not (has_point (placed first ws) (z + 1))) (has_before first (number_of ws) z g)) last_placed (λ z g. ap (λ b. b && not (has_point (number_of ws) (z + 1))) (none_past ws h z g))

  pub count_before_placed : (n : ℕ) → count_below (has_point (placed first ws)) (64 * first + n) ≡ count_below (has_point (number_of ws)) n
  count_before_placed n =
      count_below-+ (has_point (placed first ws)) (64 * first) n
      ∙ ap (λ c. c + count_below (λ z. has_point (placed first ws) (64 * first + z)) n) (count_none (has_point (placed first ws)) (64 * first) (has_before first (number_of ws)))
      ∙ (let e : 0 + count_below (λ z. has_point (placed first ws) (64 * first + z)) n ≡ count_below (λ z. has_point (placed first ws) (64 * first + z)) n = omega arith in e)
      ∙ count_same (λ z. has_point (placed first ws) (64 * first + z)) (has_point (number_of ws)) n (λ z _. has_placed first (number_of ws) z)

  pub place_placed : (point place : ℕ) → IsPlace (number_of ws) point place → IsPlace (placed first ws) (64 * first + point) place
  place_placed point place p = record {
    there = has_placed first (number_of ws) point ∙ p.there;
    before = count_before_placed point ∙ p.before;
  }

  -- a point stands in the words
  pub point_within : (z : ℕ) → has_point (placed first ws) z ≡ true → (64 * first ≤ z) × (z < 64 * (first + length ws))
  point_within z there =
      (⊎_elim (λ u. absurd (false≢true (sym (has_before first (number_of ws) z u) ∙ there))) (λ o. o) (cases_lt z (64 * first)), ⊎_elim (λ u. u) (λ o. absurd (false≢true (sym (none_behind z o) ∙ there))) (cases_lt z (64 * (first + length ws))))

  -- some of its words are a window
  pub part_of : (from count size : ℕ) → first ≤ from → from + count ≤ first + length ws → size ≡ count → IsWindow (placed first ws) from count (take size (drop (from - first) ws))
  part_of from count size l g e =
      window_of from count (take size (drop (from - first) ws)) (length-take-le size (drop (from - first) ws) (omega (arith, length-drop (from - first) ws)) ∙ e) (λ k u. get_or-take size (drop (from - first) ws) k 0 (omega arith) ∙ get_or-drop (from - first) ws k 0 ∙ sym (word_of_plane first ws (from - first + k)) ∙ ap (word_at first ws) (let q : first + (from - first + k) ≡ from + k = omega arith in q))

  -- ---- stretches

  pub stretch_placed : (point start end : ℕ) → IsStretch (number_of ws) (point - 64 * first) start end → IsStretch (placed first ws) point (64 * first + start) (64 * first + end)
  stretch_placed point start end s =
      let some = s.some in
      let ahead = s.ahead in
      record {
        ahead = omega arith;
        some = omega arith;
        gap = λ z a b. ⊎_elim (λ u. has_before first (number_of ws) z u) (λ o. there z o ∙ s.gap (z - 64 * first) (omega arith) (omega arith)) (cases_lt z (64 * first));
        full = λ z a b. there z (omega arith) ∙ s.full (z - 64 * first) (omega arith) (omega arith);
        ends = has_placed first (number_of ws) end ∙ s.ends;
      }
    where
      there : (z : ℕ) → 64 * first ≤ z → has_point (placed first ws) z ≡ has_point (number_of ws) (z - 64 * first)
      there z o =
          ap (has_point (placed first ws)) (let e : z ≡ 64 * first + (z - 64 * first) = omega arith in e) ∙ has_placed first (number_of ws) (z - 64 * first)

  pub none_from : (point : ℕ) → ((z : ℕ) → point - 64 * first ≤ z → has_point (number_of ws) z ≡ false) → (z : ℕ) → point ≤ z → has_point (placed first ws) z ≡ false
  none_from point none z l =
      ⊎_elim (λ u. has_before first (number_of ws) z u) (λ o. ap (has_point (placed first ws)) (let e : z ≡ 64 * first + (z - 64 * first) = omega arith in e) ∙ has_placed first (number_of ws) (z - 64 * first) ∙ none (z - 64 * first) (omega arith)) (cases_lt z (64 * first))

-- the point of a word before which so many stand
pub place_in_word : (ws : List ℕ) → AreWords ws → (k i left place : ℕ) → i < 64 → has_point (get_or ws k 0) i ≡ true → count_below (has_point (get_or ws k 0)) i ≡ left → left + count_below (has_point (number_of ws)) (64 * k) ≡ place → IsPlace (number_of ws) (64 * k + i) place
place_in_word ws h k i left place l one counted sum = record {
  there = has_word ws h k i l ∙ one;
  before = count_below-+ (has_point (number_of ws)) (64 * k) i ∙ ap (λ c. count_below (has_point (number_of ws)) (64 * k) + c) (count_same (λ z. has_point (number_of ws) (64 * k + z)) (has_point (get_or ws k 0)) i (λ z g. has_word ws h k z (omega arith)) ∙ counted) ∙ (let e : count_below (has_point (number_of ws)) (64 * k) + left ≡ place = omega (arith, sum) in e);
}

-- the points before one: those of the words before its own, and the ones below it
pub count_to_point : (ws : List ℕ) → AreWords ws → (point : ℕ) → count_below (has_point (number_of ws)) (64 * (point / 64)) + count_ones (bit_and (get_or ws (point / 64) 0) (1 * 2 ^ (point % 64) % 2 ^ 64 - 1)) ≡ count_below (has_point (number_of ws)) point
count_to_point ws h point =
    let k = point / 64 in
    let i = point % 64 in
    let w = get_or ws (point / 64) 0 in
    let mask : bit_and w (1 * 2 ^ i % 2 ^ 64 - 1) ≡ w % 2 ^ i = ap (λ m. bit_and w (m - 1)) (one_shl i 64 (omega arith)) ∙ and_mask w i in
    ap (λ c. count_below (has_point (number_of ws)) (64 * k) + c) (ap count_ones mask ∙ sym (ones_below w i) ∙ sym (count_same (λ z. has_point (number_of ws) (64 * k + z)) (has_point w) i (λ z u. has_word ws h k z (omega arith))))
    ∙ sym (count_below-+ (has_point (number_of ws)) (64 * k) i) ∙ ap (count_below (has_point (number_of ws))) (let e : 64 * (point / 64) + point % 64 ≡ point = omega arith in e)
