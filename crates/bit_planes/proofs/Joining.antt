-- Words as parts of sets.
use Rattle.std.proofs.Common.{◌≡◌, ◌≢◌, ℕ, zero, suc, ◌+◌, ◌-◌, ◌*◌, ◌/◌, ◌%◌, ◌^◌, ◌<◌, ◌≤◌, Bool, true, false, not, ◌&&◌, ◌||◌, ltb, leb, List, ◌++◌, length, get_or, set, take, drop, replicate, refl, sym, ap, ◌∙◌, arith, ◌⊎◌, inl, inr, ⊎_elim}
use Rattle.std.specs.Prelude.{bit_and, bit_or}
use Rattle.std.specs.Int.{bit_not, w64}
use Rattle.lane_kernels.specs.Kernels.{lessened}
use Rattle.std.proofs.lemmas.Nat.{and_le_l, or_lt}
use Rattle.std.specs.Simd.Lanes.{zip2}
use Rattle.std.proofs.lemmas.Bool.{cases_lt, cases_eq, cond-false, le-ltb}
use Rattle.std.proofs.lemmas.Bool.Decides.{nat_tests}
use Rattle.std.proofs.lemmas.Simd.{get_or-zip2, length-zip2}
use Rattle.std.proofs.Common.{get_or-set_same, get_or-set_other}
use Rattle.std.proofs.lemmas.List.{get_or_past}
use Rattle.std.proofs.Math.Seq.{take-append_seam}
use Rattle.bit_planes.specs.Planes.{has_point}
use Rattle.bit_planes.specs.Words.{number_of, placed, IsWindow}
use Rattle.bit_planes.proofs.Bits.{AreWords, has_word, has-and, has-or, has-not, has_at, at_each, has_before, has_placed}
use Rattle.bit_planes.proofs.Placed.{none_behind}

-- ---- ones that are set

module _ (ws : List ℕ) (h : AreWords ws) (place stop mask : ℕ) (inside : place < 64 * length ws) (stops : stop ≤ 64 * (place / 64 + 1)) (tells : (i : ℕ) → has_point mask i ≡ (leb (place % 64) i && ltb i (stop - 64 * (place / 64)))) where
  pub set_more : AreWords (set ws (place / 64) (bit_or (get_or ws (place / 64) 0) mask)) → (z : ℕ) → has_point (number_of (set ws (place / 64) (bit_or (get_or ws (place / 64) 0) mask))) z ≡ (has_point (number_of ws) z || (leb place z && ltb z stop))
  set_more g =
      at_each (λ z. has_point (number_of (set ws (place / 64) (bit_or (get_or ws (place / 64) 0) mask))) z ≡ (has_point (number_of ws) z || (leb place z && ltb z stop)))
      (λ q i l. has_word (set ws (place / 64) (bit_or (get_or ws (place / 64) 0) mask)) g q i l ∙ ⊎_elim (here q i l) (other q i l) (cases_eq q (place / 64)))
    where
      shifted : (q i : ℕ) → i < 64 → q ≡ place / 64 → (leb (place % 64) i && ltb i (stop - 64 * (place / 64))) ≡ (leb place (64 * q + i) && ltb (64 * q + i) stop)
      shifted q i l e = grind (arith, nat_tests)

      outside : (q i : ℕ) → i < 64 → q ≢ place / 64 → false ≡ (leb place (64 * q + i) && ltb (64 * q + i) stop)
      outside q i l ne = grind (arith, nat_tests)

      or_false : (b : Bool) → b ≡ (b || false)
      or_false true = refl
      or_false false = refl

      here : (q i : ℕ) → i < 64 → q ≡ place / 64 → has_point (get_or (set ws (place / 64) (bit_or (get_or ws (place / 64) 0) mask)) q 0) i ≡ (has_point (number_of ws) (64 * q + i) || (leb place (64 * q + i) && ltb (64 * q + i) stop))
      here q i l e =
          ap (λ j. has_point (get_or (set ws (place / 64) (bit_or (get_or ws (place / 64) 0) mask)) j 0) i) e ∙ ap (λ w. has_point w i) (get_or-set_same ws (place / 64) _ 0 (omega arith)) ∙ has-or (get_or ws (place / 64) 0) mask i
          ∙ ap (λ b. b || has_point mask i) (sym (has_word ws h (place / 64) i l) ∙ ap (λ j. has_point (number_of ws) (64 * j + i)) (sym e)) ∙ ap (λ b. has_point (number_of ws) (64 * q + i) || b) (tells i ∙ shifted q i l e)

      other : (q i : ℕ) → i < 64 → q ≢ place / 64 → has_point (get_or (set ws (place / 64) (bit_or (get_or ws (place / 64) 0) mask)) q 0) i ≡ (has_point (number_of ws) (64 * q + i) || (leb place (64 * q + i) && ltb (64 * q + i) stop))
      other q i l ne =
          ap (λ w. has_point w i) (get_or-set_other ws (place / 64) q _ 0 ne) ∙ sym (has_word ws h q i l) ∙ or_false (has_point (number_of ws) (64 * q + i)) ∙ ap (λ b. has_point (number_of ws) (64 * q + i) || b) (outside q i l ne)

-- ones from one place to below a second, and from there to below a third
pub ones_joined : (b : Bool) (from place stop z : ℕ) → from ≤ place → place ≤ stop → ((b || (leb from z && ltb z place)) || (leb place z && ltb z stop)) ≡ (b || (leb from z && ltb z stop))
ones_joined b from place stop z l g = grind (arith, nat_tests)

pub no_ones : (b : Bool) (from z : ℕ) → b ≡ (b || (leb from z && ltb z from))
no_ones b from z = grind (arith, nat_tests)

-- ---- two planes word by word

module _ (f : ℕ → ℕ → ℕ) (p : Bool → Bool → Bool) (closed : (a b : ℕ) → a < 2 ^ 64 → b < 2 ^ 64 → f a b < 2 ^ 64) (law : (a b i : ℕ) → a < 2 ^ 64 → b < 2 ^ 64 → i < 64 → has_point (f a b) i ≡ p (has_point a i) (has_point b i)) where
  module _ (s t from count : ℕ) (xs ys zs : List ℕ) (wx : IsWindow s from count xs) (wy : IsWindow t from count ys) (e : zs ≡ zip2 f xs ys) where
    size : length zs ≡ count
    size = ap length e ∙ length-zip2 f xs ys (wx.size ∙ sym wy.size) ∙ wx.size

    word_here : (k : ℕ) → k < count → get_or zs k 0 ≡ f (get_or xs k 0) (get_or ys k 0)
    word_here k l =
        ap (λ ws. get_or ws k 0) e ∙ get_or-zip2 f xs ys k 0 0 0 (omega (arith, wx.size)) (omega (arith, wy.size))

    fit : AreWords zs
    fit k =
        ⊎_elim (λ l. rw (word_here k l) (closed (get_or xs k 0) (get_or ys k 0) (wx.fit k) (wy.fit k))) (λ o. rw (get_or_past zs k 0 (omega (arith, size))) (omega arith)) (cases_lt k count)

    inside : (z : ℕ) → 64 * from ≤ z → z < 64 * (from + count) → has_point (placed from zs) z ≡ p (has_point s z) (has_point t z)
    inside z o u =
        let in_count : z / 64 - from < count = omega arith in
        let at : z ≡ 64 * (from + (z / 64 - from)) + z % 64 = omega arith in
        ap (has_point (placed from zs)) (let q : z ≡ 64 * (z / 64) + z % 64 = omega arith in q) ∙ has_at from zs fit (z / 64) (z % 64) (omega arith)
        ∙ ap (λ w. has_point w (z % 64)) (cond-false (ltb (z / 64) from) 0 (get_or zs (z / 64 - from) 0) (le-ltb (z / 64) from (omega arith)) ∙ word_here (z / 64 - from) in_count)
        ∙ law (get_or xs (z / 64 - from) 0) (get_or ys (z / 64 - from) 0) (z % 64) (wx.fit (z / 64 - from)) (wy.fit (z / 64 - from)) (omega arith)
        ∙ ap (λ b. p b (has_point (get_or ys (z / 64 - from) 0) (z % 64))) (wx.same (z / 64 - from) (z % 64) in_count (omega arith) ∙ ap (has_point s) (sym at))
        ∙ ap (p (has_point s z)) (wy.same (z / 64 - from) (z % 64) in_count (omega arith) ∙ ap (has_point t) (sym at))

    -- what two windows make is what the sets make, where that is nothing outside
    pub joined : ((z : ℕ) → (z < 64 * from) ⊎ (64 * (from + count) ≤ z) → p (has_point s z) (has_point t z) ≡ false) → (z : ℕ) → has_point (placed from zs) z ≡ p (has_point s z) (has_point t z)
    joined none z =
        ⊎_elim (λ u. has_before from (number_of zs) z u ∙ sym (none z (inl u))) (λ o. ⊎_elim (λ u. inside z o u) (λ g. none_behind from zs fit z (omega (arith, size)) ∙ sym (none z (inr g))) (cases_lt z (64 * (from + count)))) (cases_lt z (64 * from))

pub united : (s t from count : ℕ) (xs ys zs : List ℕ) → IsWindow s from count xs → IsWindow t from count ys → zs ≡ zip2 bit_or xs ys → ((z : ℕ) → (z < 64 * from) ⊎ (64 * (from + count) ≤ z) → (has_point s z || has_point t z) ≡ false) → (z : ℕ) → has_point (placed from zs) z ≡ (has_point s z || has_point t z)
united = joined bit_or (λ a b. a || b) (or_lt 64) (λ a b i _ _ _. has-or a b i)

pub met : (s t from count : ℕ) (xs ys zs : List ℕ) → IsWindow s from count xs → IsWindow t from count ys → zs ≡ zip2 bit_and xs ys → ((z : ℕ) → (z < 64 * from) ⊎ (64 * (from + count) ≤ z) → (has_point s z && has_point t z) ≡ false) → (z : ℕ) → has_point (placed from zs) z ≡ (has_point s z && has_point t z)
met = joined bit_and (λ a b. a && b) (λ a b l _. omega (arith, and_le_l a b)) (λ a b i _ _ _. has-and a b i)

pub lessened_by : (s t from count : ℕ) (xs ys zs : List ℕ) → IsWindow s from count xs → IsWindow t from count ys → zs ≡ lessened xs ys → ((z : ℕ) → (z < 64 * from) ⊎ (64 * (from + count) ≤ z) → (has_point s z && not (has_point t z)) ≡ false) → (z : ℕ) → has_point (placed from zs) z ≡ (has_point s z && not (has_point t z))
lessened_by =
    joined (λ a b. bit_and a (bit_not w64 b)) (λ a b. a && not b) (λ a b l _. omega (arith, and_le_l a (bit_not w64 b))) (λ a b i _ l g. has-and a (bit_not w64 b) i ∙ ap (λ c. has_point a i && c) (has-not b i l g))

-- ---- words that are written back

pub written : (new old : List ℕ) (len : ℕ) → length old ≡ len → length new ≡ length old → take len (new ++ drop (length new) old) ≡ new
written new old len e g =
    ap (λ n. take n (new ++ drop (length new) old)) (sym (g ∙ e)) ∙ take-append_seam new (drop (length new) old)

-- words with one that is changed
pub set_fits : (ws : List ℕ) → AreWords ws → (k w : ℕ) → w < 2 ^ 64 → k < length ws → AreWords (set ws k w)
set_fits ws h k w l g j =
    ⊎_elim (λ e. rw e (rw (get_or-set_same ws k w 0 g) l)) (λ ne. rw (get_or-set_other ws k j w 0 ne) (h j)) (cases_eq j k)

-- ones that are set in a plane further on
pub added_further : (first from end old new : ℕ) → 64 * first ≤ from → ((z : ℕ) → has_point new z ≡ (has_point old z || (leb (from - 64 * first) z && ltb z (end - 64 * first)))) → (z : ℕ) → has_point (new * 2 ^ (64 * first)) z ≡ (has_point (old * 2 ^ (64 * first)) z || (leb from z && ltb z end))
added_further first from end old new l more z = ⊎_elim low high (cases_lt z (64 * first))
  where
    below : z < 64 * first → false ≡ (false || (leb from z && ltb z end))
    below u = grind (arith, nat_tests)

    low : z < 64 * first → has_point (new * 2 ^ (64 * first)) z ≡ (has_point (old * 2 ^ (64 * first)) z || (leb from z && ltb z end))
    low u =
        has_before first new z u ∙ below u ∙ ap (λ b. b || (leb from z && ltb z end)) (sym (has_before first old z u))

    shifted : 64 * first ≤ z → (leb (from - 64 * first) (z - 64 * first) && ltb (z - 64 * first) (end - 64 * first)) ≡ (leb from z && ltb z end)
    shifted o = grind (arith, nat_tests)

    there : (n : ℕ) → 64 * first ≤ z → has_point (n * 2 ^ (64 * first)) z ≡ has_point n (z - 64 * first)
    there n o =
        ap (has_point (n * 2 ^ (64 * first))) (let e : z ≡ 64 * first + (z - 64 * first) = omega arith in e) ∙ has_placed first n (z - 64 * first)

    high : 64 * first ≤ z → has_point (new * 2 ^ (64 * first)) z ≡ (has_point (old * 2 ^ (64 * first)) z || (leb from z && ltb z end))
    high o =
        there new o ∙ more (z - 64 * first) ∙ ap (λ b. b || (leb (from - 64 * first) (z - 64 * first) && ltb (z - 64 * first) (end - 64 * first))) (sym (there old o)) ∙ ap (λ b. has_point (old * 2 ^ (64 * first)) z || b) (shifted o)

-- words that are all zero have no points
pub no_points : (first n : ℕ) → placed first (replicate n 0) ≡ 0
no_points first n = ap (λ m. m * 2 ^ (64 * first)) (none n) ∙ omega arith
  where
    none : (n : ℕ) → number_of (replicate n 0) ≡ 0
    none zero = refl
    none (suc n) = ap (λ m. m * 2 ^ 64 + 0) (none n) ∙ omega arith
