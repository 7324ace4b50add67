-- Words that are shifted and masked.
use Rattle.std.proofs.Common.{◌≡◌, ℕ, ◌+◌, ◌-◌, ◌*◌, ◌/◌, ◌%◌, ◌^◌, ◌<◌, ◌≤◌, Bool, true, false, not, ◌&&◌, ◌||◌, eqb, ltb, leb, refl, sym, ap, ◌∙◌, arith, ⊎_elim}
use Rattle.std.specs.Prelude.{bit_and, bit_or}
use Rattle.std.specs.Int.{bit_at, bit_not, w64}
use Rattle.std.specs.Int.Count.{count_trailing_zeros}
use Rattle.std.proofs.lemmas.Bool.{cases_lt, false≢true}
use Rattle.std.proofs.lemmas.Bool.Decides.{nat_tests}
use Rattle.std.proofs.lemmas.Nat.{shr-shr, shr_le, shl-shr, pow_pos, mod-pow-add, or_lt}
use Rattle.std.proofs.lemmas.Nat.Bits.{ones_shl, ones_shr, bit_at_ones, bit_at_ones_above, bit_at_mask_inside, bit_at_mask_below, bit_at_mask_above, bit_at-zero, bit_at-trailing_zeros, bit_at_cat_low, bit_at_cat_high, bit_at_lowest}
use Rattle.bit_planes.specs.Planes.{has_point, is_last}
use Rattle.bit_planes.specs.Words.{IsFirst}
use Rattle.bit_planes.proofs.Bits.{has-and, has-or, has-not, has-zero, has_above, has_low, has_high}

has_high_ones : (low i : ℕ) → low ≤ 64 → has_point (2 ^ 64 - 2 ^ low) i ≡ (leb low i && ltb i 64)
unfolding has_point
has_high_ones low i l =
    ⊎_elim (λ under. ap (λ b. eqb b 1) (bit_at_mask_below low 64 i under) ∙ below under) (λ over. ⊎_elim (λ in_word. ap (λ b. eqb b 1) (bit_at_mask_inside low 64 i over in_word) ∙ inside over in_word) (λ past. ap (λ b. eqb b 1) (bit_at_mask_above low 64 i past) ∙ behind past) (cases_lt i 64)) (cases_lt i low)
  where
    below : i < low → false ≡ (leb low i && ltb i 64)
    below under = grind (arith, nat_tests)

    inside : low ≤ i → i < 64 → true ≡ (leb low i && ltb i 64)
    inside over in_word = grind (arith, nat_tests)

    behind : 64 ≤ i → false ≡ (leb low i && ltb i 64)
    behind past = grind (arith, nat_tests)

has_low_ones : (high i : ℕ) → has_point (2 ^ high - 1) i ≡ ltb i high
unfolding has_point
has_low_ones high i =
    ⊎_elim (λ under. ap (λ b. eqb b 1) (bit_at_ones high i under) ∙ inside under) (λ over. ap (λ b. eqb b 1) (bit_at_ones_above high i over) ∙ behind over) (cases_lt i high)
  where
    inside : i < high → true ≡ ltb i high
    inside under = grind (arith, nat_tests)

    behind : high ≤ i → false ≡ ltb i high
    behind over = grind (arith, nat_tests)

pub has_ones_between : (low high : ℕ) → low < high → high ≤ 64 → (i : ℕ) → has_point (bit_and ((2 ^ 64 - 1) * 2 ^ low % 2 ^ 64) ((2 ^ 64 - 1) / 2 ^ (64 - high))) i ≡ (leb low i && ltb i high)
has_ones_between low high l g i =
    has-and _ _ i ∙ ap (λ m. has_point m i && has_point ((2 ^ 64 - 1) / 2 ^ (64 - high)) i) (ones_shl 64 low (omega arith))
    ∙ ap (λ b. b && has_point ((2 ^ 64 - 1) / 2 ^ (64 - high)) i) (has_high_ones low i (omega arith))
    ∙ ap (λ m. (leb low i && ltb i 64) && has_point m i) (ones_shr 64 (64 - high) (omega arith) ∙ ap (λ k. 2 ^ k - 1) (let e : 64 - (64 - high) ≡ high = omega arith in e))
    ∙ ap (λ b. (leb low i && ltb i 64) && b) (has_low_ones high i) ∙ joined
  where
    joined : ((leb low i && ltb i 64) && ltb i high) ≡ (leb low i && ltb i high)
    joined = grind (arith, nat_tests)

-- ---- the first one of a word

pub has_shifted : (w k i : ℕ) → has_point (w / 2 ^ k) i ≡ has_point w (k + i)
unfolding has_point
has_shifted w k i = ap (λ n. eqb (n % 2) 1) (shr-shr w k i)

pub first_missing : (w from : ℕ) → w < 2 ^ 64 → from ≤ 64 → w / 2 ^ from ≡ 0 → IsFirst (has_point w) from 64 64
first_missing w from l g e = record {
  ahead = g;
  within = omega arith;
  none = λ z a b. ap (has_point w) (let q : z ≡ from + (z - from) = omega arith in q) ∙ sym (has_shifted w from (z - from)) ∙ ap (λ n. has_point n (z - from)) e ∙ has-zero (z - from);
  found = λ b. absurd (omega arith);
}

pub lowest_one : (w : ℕ) → 0 < w → w < 2 ^ 64 → IsFirst (has_point w) 0 64 (count_trailing_zeros 64 w)
unfolding has_point
lowest_one w some l =
    let t = bit_at-trailing_zeros w64 w some l in
    record {
      ahead = omega arith;
      within = omega (arith, t.0);
      none = λ z a b. ap (λ n. eqb n 1) (t.2 z b);
      found = λ b. ap (λ n. eqb n 1) t.1;
    }

pub lowest_within : (w : ℕ) → 0 < w → w < 2 ^ 64 → count_trailing_zeros 64 w < 64
lowest_within w some l = (bit_at-trailing_zeros w64 w some l).0

pub lowest_one_of : (w : ℕ) → 0 < w → w < 2 ^ 64 → (i : ℕ) × (i < 64) × (has_point w i ≡ true)
lowest_one_of w some l =
    let inside = lowest_within w some l in
    (count_trailing_zeros 64 w, inside, (lowest_one w some l).found inside)

pub first_found : (w from : ℕ) → w < 2 ^ 64 → from < 64 → 0 < w / 2 ^ from → IsFirst (has_point w) from 64 (from + count_trailing_zeros 64 (w / 2 ^ from))
first_found w from l g some =
    let rest = w / 2 ^ from in
    let low = count_trailing_zeros 64 rest in
    let t : IsFirst (has_point rest) 0 64 low = lowest_one rest some (omega (arith, shr_le w from)) in
    let low_in : low < 64 = lowest_within rest some (omega (arith, shr_le w from)) in
    let here : has_point w (from + low) ≡ true = sym (has_shifted w from low) ∙ t.found low_in in
    let inside : from + low < 64 = ⊎_elim (λ u. u) (λ over. absurd (false≢true (sym (has_above w 64 (from + low) l over) ∙ here))) (cases_lt (from + low) 64) in
    record {
      ahead = omega arith;
      within = omega arith;
      none = λ z a b. ap (has_point w) (let q : z ≡ from + (z - from) = omega arith in q) ∙ sym (has_shifted w from (z - from)) ∙ t.none (z - from) (omega arith) (omega arith);
      found = λ b. here;
    }

-- ---- the last ones of stretches

or_false : (b : Bool) → (b || false) ≡ b
or_false true = refl
or_false false = refl

shifted_up : (next : ℕ) → next * 2 ^ 63 % 2 ^ 64 ≡ next % 2 * 2 ^ 63 + 0
shifted_up next =
    mod-pow-add (next * 2 ^ 63) 1 63 ∙ ap (λ n. n % 2 * 2 ^ 63 + next * 2 ^ 63 % 2 ^ 63) (shl-shr next 63) ∙ ap (λ n. next % 2 * 2 ^ 63 + n) (let e : next * 2 ^ 63 % 2 ^ 63 ≡ 0 = omega arith in e)

up_low : (next i : ℕ) → i < 63 → has_point (next * 2 ^ 63 % 2 ^ 64) i ≡ false
unfolding has_point
up_low next i l =
    ap (λ b. eqb b 1) (ap (λ n. bit_at n i) (shifted_up next) ∙ bit_at_cat_low (next % 2) 63 0 i l ∙ bit_at-zero i)

up_high : (next : ℕ) → has_point (next * 2 ^ 63 % 2 ^ 64) 63 ≡ has_point next 0
unfolding has_point
up_high next =
    ap (λ b. eqb b 1) (ap (λ n. bit_at n 63) (shifted_up next) ∙ bit_at_cat_high (next % 2) 63 0 63 (pow_pos 63) (omega arith) ∙ bit_at_lowest (next % 2) ∙ (let e : next % 2 % 2 ≡ next % 2 = omega arith in e) ∙ sym (bit_at_lowest next))

pub has_behind : (w next i : ℕ) → w < 2 ^ 64 → i < 64 → has_point (bit_or (w / 2) (next * 2 ^ 63 % 2 ^ 64)) i ≡ has_point (next * 2 ^ 64 + w) (i + 1)
has_behind w next i l g =
    has-or (w / 2) (next * 2 ^ 63 % 2 ^ 64) i ∙ ap (λ b. b || has_point (next * 2 ^ 63 % 2 ^ 64) i) (has_shifted w 1 i) ∙ ⊎_elim low high (cases_lt i 63)
  where
    low : i < 63 → (has_point w (1 + i) || has_point (next * 2 ^ 63 % 2 ^ 64) i) ≡ has_point (next * 2 ^ 64 + w) (i + 1)
    low under =
        ap (λ b. has_point w (1 + i) || b) (up_low next i under) ∙ or_false (has_point w (1 + i)) ∙ ap (has_point w) (let e : 1 + i ≡ i + 1 = omega arith in e) ∙ sym (has_low next w (i + 1) (omega arith))

    high : 63 ≤ i → (has_point w (1 + i) || has_point (next * 2 ^ 63 % 2 ^ 64) i) ≡ has_point (next * 2 ^ 64 + w) (i + 1)
    high over =
        let top : i ≡ 63 = omega arith in
        ap (λ b. b || has_point (next * 2 ^ 63 % 2 ^ 64) i) (has_above w 64 (1 + i) l (omega arith)) ∙ ap (has_point (next * 2 ^ 63 % 2 ^ 64)) top ∙ up_high next
        ∙ sym (ap (has_point (next * 2 ^ 64 + w)) (let e : i + 1 ≡ 64 + 0 = omega arith in e) ∙ has_high next w 0 l)

pub has_last_ones : (w next i : ℕ) → w < 2 ^ 64 → i < 64 → has_point (bit_and w (bit_not w64 (bit_or (w / 2) (next * 2 ^ 63 % 2 ^ 64)))) i ≡ is_last (next * 2 ^ 64 + w) i
has_last_ones w next i l g =
    let below = or_lt 64 (w / 2) (next * 2 ^ 63 % 2 ^ 64) (omega arith) (omega arith) in
    has-and w _ i ∙ ap (λ b. has_point w i && b) (has-not _ i below g ∙ ap not (has_behind w next i l g)) ∙ ap (λ b. b && not (has_point (next * 2 ^ 64 + w) (i + 1))) (sym (has_low next w i g))
