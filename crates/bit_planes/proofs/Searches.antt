-- The first place where words have a one or a zero.
use Rattle.std.proofs.Common.{◌≡◌, ℕ, suc, ◌+◌, ◌-◌, ◌*◌, ◌/◌, ◌%◌, ◌<◌, ◌≤◌, Bool, true, false, not, cond, List, length, get_or, sym, ap, ◌∙◌, arith, ⊎_elim}
use Rattle.std.proofs.lemmas.Bool.{cases_lt}
use Rattle.bit_planes.specs.Planes.{has_point, count_below}
use Rattle.bit_planes.specs.Words.{IsFirst, number_of, told}
use Rattle.bit_planes.proofs.Bits.{AreWords, has_word}
use Rattle.bit_planes.proofs.Counts.{count_below-+, count_none, count_below-zero, count_below-suc}

told_same : (one : Bool) (a b z y : ℕ) → has_point a z ≡ has_point b y → told one a z ≡ told one b y
told_same true a b z y e = e
told_same false a b z y e = ap not e

-- the first place is not below another
pub record IsPassed (p : ℕ → Bool) (from place end : ℕ) : Type 0 where
  pub ahead : from ≤ place
  pub within : place ≤ end
  pub none : (z : ℕ) → from ≤ z → z < place → p z ≡ false

module _ (ws : List ℕ) (h : AreWords ws) (one : Bool) (from place turned bit : ℕ) (passed : IsPassed (told one (number_of ws)) from place (64 * length ws)) (inside : place < 64 * length ws) (same : (i : ℕ) → i < 64 → has_point turned i ≡ told one (get_or ws (place / 64) 0) i) (first : IsFirst (has_point turned) (place % 64) 64 bit) where
  here : (i : ℕ) → i < 64 → told one (number_of ws) (64 * (place / 64) + i) ≡ has_point turned i
  here i l =
      told_same one (number_of ws) (get_or ws (place / 64) 0) (64 * (place / 64) + i) i (has_word ws h (place / 64) i l) ∙ sym (same i l)

  none_here : (z : ℕ) → from ≤ z → z < 64 * (place / 64) + bit → told one (number_of ws) z ≡ false
  none_here z a b =
      let within = first.within in
      ⊎_elim (λ l. passed.none z a l) (λ g. ap (told one (number_of ws)) (let e : z ≡ 64 * (place / 64) + (z - 64 * (place / 64)) = omega arith in e) ∙ here (z - 64 * (place / 64)) (omega arith) ∙ first.none (z - 64 * (place / 64)) (omega arith) (omega arith)) (cases_lt z place)

  pub found_here : bit < 64 → IsFirst (told one (number_of ws)) from (64 * length ws) (64 * (place / 64) + bit)
  found_here l =
      let ahead = first.ahead in
      let before = passed.ahead in
      record {
        ahead = omega arith;
        within = omega arith;
        none = none_here;
        found = λ _. here bit l ∙ first.found l;
      }

  pub passed_word : 64 ≤ bit → IsPassed (told one (number_of ws)) from (64 * (place / 64 + 1)) (64 * length ws)
  passed_word g =
      let before = passed.ahead in
      record {
        ahead = omega arith;
        within = omega arith;
        none = λ z a b. none_here z a (omega arith);
      }

-- ---- the ones of a word in order

count_to_first : (p : ℕ → Bool) (from end place : ℕ) → IsFirst p from end place → count_below p place ≡ count_below p from
count_to_first p from end place f =
    let ahead = f.ahead in
    let split = ap (count_below p) (let e : place ≡ from + (place - from) = omega arith in e) ∙ count_below-+ p from (place - from) in
    let rest = count_none (λ z. p (from + z)) (place - from) (λ z l. f.none (from + z) (omega arith) (omega arith)) in
    omega (arith, split, rest)

pub record IsOne (of place bit : ℕ) : Type 0 where
  pub word : bit < 64
  pub one : has_point of bit ≡ true
  pub counted : count_below (has_point of) bit ≡ place

is_one : (word from place bit : ℕ) → place < count_below (has_point word) 64 → count_below (has_point word) from ≡ place → IsFirst (has_point word) from 64 bit → IsOne word place bit
is_one word from place bit l e f =
    let counted = count_to_first (has_point word) from 64 bit f in
    let within = f.within in
    let inside : bit < 64 = ⊎_elim (λ u. u) (λ g. let top : bit ≡ 64 = omega arith in absurd (omega (arith, counted, e, ap (count_below (has_point word)) top))) (cases_lt bit 64) in
    record { word = inside; one = f.found inside; counted = counted ∙ e }

pub first_is_one : (word place bit : ℕ) → place < count_below (has_point word) 64 → IsFirst (has_point word) 0 64 bit → IsOne word 0 bit
first_is_one word place bit l f =
    is_one word 0 0 bit (omega arith) (count_below-zero (has_point word)) f

pub next_is_one : (word place step last bit : ℕ) → place < count_below (has_point word) 64 → step < place → IsOne word step last → IsFirst (has_point word) (last + 1) 64 bit → IsOne word (step + 1) bit
next_is_one word place step last bit l g o f =
    is_one word (last + 1) (step + 1) bit (omega arith) counted f
  where
    counted : count_below (has_point word) (last + 1) ≡ step + 1
    counted =
        ap (count_below (has_point word)) (let e : last + 1 ≡ suc last = omega arith in e) ∙ count_below-suc (has_point word) last ∙ ap (λ b. count_below (has_point word) last + cond b 1 0) o.one ∙ ap (λ n. n + 1) o.counted
