-- Bits of words and of lists of words.
use Rattle.std.proofs.Common.{◌≡◌, ℕ, zero, suc, ◌+◌, ◌-◌, ◌*◌, ◌/◌, ◌%◌, ◌^◌, ◌<◌, ◌≤◌, min, max, false, not, ◌&&◌, ◌||◌, eqb, ltb, List, [], ◌∷◌, get_or, refl, sym, ap, ◌∙◌, subst, Fits, arith, ⊎_elim}
use Rattle.std.specs.Prelude.{bit_and, bit_or}
use Rattle.std.specs.Int.{bit_at, bit_not, w64}
use Rattle.std.proofs.lemmas.Bool.{cases_lt, cond-true, cond-false, lt-ltb, le-ltb}
use Rattle.std.proofs.lemmas.Bool.Decides.{nat_tests}
use Rattle.std.proofs.lemmas.Nat.{pow_pos}
use Rattle.std.proofs.lemmas.Nat.Bits.{bit_at_and, bit_at_or, bit_at_not, bit_at-lt, bit_at-zero, bit_at_cat_low, bit_at_cat_high, bit_at_above, same_from_bits}
use Rattle.bit_planes.specs.Planes.{has_point}
use Rattle.bit_planes.specs.Words.{number_of, placed, word_at}

pub has-zero : (z : ℕ) → has_point 0 z ≡ false
unfolding has_point
has-zero z = rw (bit_at-zero z) refl

both_tests : (a b : ℕ) → a < 2 → b < 2 → eqb (min a b) 1 ≡ (eqb a 1 && eqb b 1)
both_tests a b l g = grind (arith, nat_tests)

either_tests : (a b : ℕ) → a < 2 → b < 2 → eqb (max a b) 1 ≡ (eqb a 1 || eqb b 1)
either_tests a b l g = grind (arith, nat_tests)

other_test : (a : ℕ) → a < 2 → eqb (1 - a) 1 ≡ not (eqb a 1)
other_test a l = grind (arith, nat_tests)

pub has-and : (a b z : ℕ) → has_point (bit_and a b) z ≡ (has_point a z && has_point b z)
unfolding has_point
has-and a b z =
    ap (λ n. eqb n 1) (bit_at_and a b z) ∙ both_tests (bit_at a z) (bit_at b z) (bit_at-lt a z) (bit_at-lt b z)

pub has-or : (a b z : ℕ) → has_point (bit_or a b) z ≡ (has_point a z || has_point b z)
unfolding has_point
has-or a b z =
    ap (λ n. eqb n 1) (bit_at_or a b z) ∙ either_tests (bit_at a z) (bit_at b z) (bit_at-lt a z) (bit_at-lt b z)

pub has-not : (a z : ℕ) → a < 2 ^ 64 → z < 64 → has_point (bit_not w64 a) z ≡ not (has_point a z)
unfolding has_point
has-not a z l g =
    ap (λ n. eqb n 1) (bit_at_not w64 a z l g) ∙ other_test (bit_at a z) (bit_at-lt a z)

pub has_above : (w k z : ℕ) → w < 2 ^ k → k ≤ z → has_point w z ≡ false
unfolding has_point
has_above w k z l g = rw (bit_at_above w k z l g) refl

same_bit : (a b : ℕ) → a < 2 → b < 2 → eqb a 1 ≡ eqb b 1 → a ≡ b
same_bit a b l g e = grind (arith, nat_tests)

-- sets with the same points are the same number
pub same_from_points : (a b : ℕ) → ((z : ℕ) → has_point a z ≡ has_point b z) → a ≡ b
unfolding has_point
same_from_points a b same =
    same_from_bits a b (λ i. same_bit (bit_at a i) (bit_at b i) (bit_at-lt a i) (bit_at-lt b i) (same i))

-- ---- a list of words

pub has_low : (rest w z : ℕ) → z < 64 → has_point (rest * 2 ^ 64 + w) z ≡ has_point w z
unfolding has_point
has_low rest w z l = ap (λ n. eqb n 1) (bit_at_cat_low rest 64 w z l)

pub has_high : (rest w z : ℕ) → w < 2 ^ 64 → has_point (rest * 2 ^ 64 + w) (64 + z) ≡ has_point rest z
unfolding has_point
has_high rest w z l =
    ap (λ n. eqb n 1) (bit_at_cat_high rest 64 w (64 + z) l (omega arith) ∙ ap (bit_at rest) (let e : 64 + z - 64 ≡ z = omega arith in e))

-- each number of a list is a word
abbrev pub AreWords : List ℕ → Type 0
AreWords ws = (k : ℕ) → get_or ws k 0 < 2 ^ 64

pub are_words : (ws : List ℕ) → ((k : ℕ) → Fits w64 (get_or ws k 0)) → AreWords ws
are_words ws h k = let fits = h k in omega arith

pub has_word : (ws : List ℕ) → AreWords ws → (k i : ℕ) → i < 64 → has_point (number_of ws) (64 * k + i) ≡ has_point (get_or ws k 0) i
has_word [] h k i l = has-zero (64 * k + i) ∙ sym (has-zero i)
has_word (w ∷ ws) h zero i l =
    ap (has_point (number_of (w ∷ ws))) (let e : 64 * 0 + i ≡ i = omega arith in e) ∙ has_low (number_of ws) w i l
has_word (w ∷ ws) h (suc k) i l =
    ap (has_point (number_of (w ∷ ws))) (let e : 64 * suc k + i ≡ 64 + (64 * k + i) = omega arith in e) ∙ has_high (number_of ws) w (64 * k + i) (h 0) ∙ has_word ws (λ j. h (suc j)) k i l

pub has_placed : (first n z : ℕ) → has_point (n * 2 ^ (64 * first)) (64 * first + z) ≡ has_point n z
unfolding has_point
has_placed first n z =
    ap (λ b. eqb b 1) (ap (λ m. bit_at m (64 * first + z)) (let e : n * 2 ^ (64 * first) ≡ n * 2 ^ (64 * first) + 0 = omega arith in e) ∙ bit_at_cat_high n (64 * first) 0 (64 * first + z) (pow_pos (64 * first)) (omega arith) ∙ ap (bit_at n) (let e : 64 * first + z - 64 * first ≡ z = omega arith in e))

pub has_before : (first n z : ℕ) → z < 64 * first → has_point (n * 2 ^ (64 * first)) z ≡ false
unfolding has_point
has_before first n z l =
    ap (λ b. eqb b 1) (ap (λ m. bit_at m z) (let e : n * 2 ^ (64 * first) ≡ n * 2 ^ (64 * first) + 0 = omega arith in e) ∙ bit_at_cat_low n (64 * first) 0 z l ∙ bit_at-zero z)

-- a bit of a plane is one of its word's
pub has_at : (first : ℕ) (ws : List ℕ) → AreWords ws → (q i : ℕ) → i < 64 → has_point (placed first ws) (64 * q + i) ≡ has_point (word_at first ws q) i
has_at first ws h q i l =
    ⊎_elim
    (λ under. has_before first (number_of ws) (64 * q + i) (omega arith) ∙ sym (has-zero i) ∙ ap (λ w. has_point w i) (sym (cond-true (ltb q first) 0 (get_or ws (q - first) 0) (lt-ltb q first under))))
    (λ over. ap (has_point (placed first ws)) (let e : 64 * q + i ≡ 64 * first + (64 * (q - first) + i) = omega arith in e) ∙ has_placed first (number_of ws) (64 * (q - first) + i) ∙ has_word ws h (q - first) i l ∙ ap (λ w. has_point w i) (sym (cond-false (ltb q first) 0 (get_or ws (q - first) 0) (le-ltb q first over))))
    (cases_lt q first)

pub word_of_plane : (first : ℕ) (ws : List ℕ) (k : ℕ) → word_at first ws (first + k) ≡ get_or ws k 0
word_of_plane first ws k =
    cond-false (ltb (first + k) first) 0 (get_or ws (first + k - first) 0) (le-ltb (first + k) first (omega arith)) ∙ ap (λ j. get_or ws j 0) (let e : first + k - first ≡ k = omega arith in e)

-- a bit of a plane's own words
pub has_within : (first : ℕ) (ws : List ℕ) → AreWords ws → (k i : ℕ) → i < 64 → has_point (placed first ws) (64 * (first + k) + i) ≡ has_point (get_or ws k 0) i
has_within first ws h k i l =
    has_at first ws h (first + k) i l ∙ ap (λ w. has_point w i) (word_of_plane first ws k)

-- a fact of each bit of each word is one of each point
pub at_each : (P : ℕ → Type 0) → ((q i : ℕ) → i < 64 → P (64 * q + i)) → (z : ℕ) → P z
at_each P h z =
    subst P (let e : 64 * (z / 64) + z % 64 ≡ z = omega arith in e) (h (z / 64) (z % 64) (omega arith))
