-- Points that two planes share, and points that one lacks.
use Rattle.std.proofs.Common.{◌≡◌, ℕ, ◌+◌, ◌-◌, ◌*◌, ◌/◌, ◌%◌, ◌^◌, ◌<◌, ◌≤◌, min, max, true, false, not, ◌&&◌, ◌||◌, eqb, List, length, get_or, sym, ap, ◌∙◌, subst, arith, ◌⊎◌, inl, inr, ⊎_elim}
use Rattle.std.specs.Prelude.{bit_and}
use Rattle.std.specs.Int.{bit_not, w64}
use Rattle.std.specs.Simd.Lanes.{zip2}
use Rattle.std.proofs.lemmas.Bool.{cases_lt, and_left, and_right, or_from, false≢true, false_from_ne_true}
use Rattle.std.proofs.lemmas.Bool.Decides.{nat_tests}
use Rattle.std.specs.List.{Any}
use Rattle.std.proofs.lemmas.List.{get_or_past, get_or_default}
use Rattle.std.proofs.lemmas.List.Folds.{Any-from_list_any, list_any_at}
use Rattle.std.proofs.lemmas.Nat.{and_le_l}
use Rattle.std.proofs.lemmas.Simd.{get_or-zip2, length-zip2}
use Rattle.lane_kernels.specs.Kernels.{share_a_bit}
use Rattle.bit_planes.specs.Planes.{has_point}
use Rattle.bit_planes.specs.Words.{number_of, placed, word_at, IsBetween, IsWindow}
use Rattle.bit_planes.proofs.Bits.{AreWords, has_at, has_within, has-and, has-not, has-zero, has_before}
use Rattle.bit_planes.proofs.Masks.{lowest_one_of}

-- ---- points that a second plane lacks

module _ (lf : ℕ) (ls : List ℕ) (hl : AreWords ls) (rf : ℕ) (rs : List ℕ) (hr : AreWords rs) where
  at_word : (k i : ℕ) → i < 64 → (has_point (placed lf ls) (64 * (lf + k) + i) && not (has_point (placed rf rs) (64 * (lf + k) + i))) ≡ (has_point (get_or ls k 0) i && not (has_point (word_at rf rs (lf + k)) i))
  at_word k i l =
      ap (λ b. b && not (has_point (placed rf rs) (64 * (lf + k) + i))) (has_within lf ls hl k i l) ∙ ap (λ b. has_point (get_or ls k 0) i && not b) (has_at rf rs hr (lf + k) i l)

  rest_has : (a b i : ℕ) → b < 2 ^ 64 → i < 64 → has_point (bit_and a (bit_not w64 b)) i ≡ (has_point a i && not (has_point b i))
  rest_has a b i l g = has-and a (bit_not w64 b) i ∙ ap (λ c. has_point a i && c) (has-not b i l g)

  pub lacking_found : (k r : ℕ) → r ≡ word_at rf rs (lf + k) → r < 2 ^ 64 → 0 < bit_and (get_or ls k 0) (bit_not w64 r) → (z : ℕ) × ((has_point (placed lf ls) z && not (has_point (placed rf rs) z)) ≡ true)
  lacking_found k r e l some =
      let x = lowest_one_of (bit_and (get_or ls k 0) (bit_not w64 r)) some (omega (arith, and_le_l (get_or ls k 0) (bit_not w64 r), hl k)) in
      (64 * (lf + k) + x.0, at_word k x.0 x.1 ∙ ap (λ w. has_point (get_or ls k 0) x.0 && not (has_point w x.0)) (sym e) ∙ sym (rest_has (get_or ls k 0) r x.0 l x.1) ∙ x.2)

  pub none_lacking_here : (k r i : ℕ) → r ≡ word_at rf rs (lf + k) → r < 2 ^ 64 → i < 64 → bit_and (get_or ls k 0) (bit_not w64 r) ≡ 0 → (has_point (get_or ls k 0) i && not (has_point (word_at rf rs (lf + k)) i)) ≡ false
  none_lacking_here k r i e l g none =
      ap (λ w. has_point (get_or ls k 0) i && not (has_point w i)) (sym e) ∙ sym (rest_has (get_or ls k 0) r i l g) ∙ ap (λ w. has_point w i) none ∙ has-zero i

  pub none_lacking : ((k i : ℕ) → k < length ls → i < 64 → (has_point (get_or ls k 0) i && not (has_point (word_at rf rs (lf + k)) i)) ≡ false) → (z : ℕ) → (has_point (placed lf ls) z && not (has_point (placed rf rs) z)) ≡ false
  none_lacking none z =
      ⊎_elim (λ u. and_left (has_point (placed lf ls) z) (not (has_point (placed rf rs) z)) (has_before lf (number_of ls) z u)) (λ o. at (z / 64 - lf) (z % 64) (omega arith) (omega arith)) (cases_lt z (64 * lf))
    where
      here : (k i : ℕ) → i < 64 → (has_point (get_or ls k 0) i && not (has_point (word_at rf rs (lf + k)) i)) ≡ false
      here k i l =
          ⊎_elim (λ u. none k i u l) (λ o. and_left (has_point (get_or ls k 0) i) (not (has_point (word_at rf rs (lf + k)) i)) (ap (λ w. has_point w i) (get_or_past ls k 0 o) ∙ has-zero i)) (cases_lt k (length ls))

      at : (k i : ℕ) → i < 64 → z ≡ 64 * (lf + k) + i → (has_point (placed lf ls) z && not (has_point (placed rf rs) z)) ≡ false
      at k i l e =
          subst (λ y. (has_point (placed lf ls) y && not (has_point (placed rf rs) y)) ≡ false) (sym e) (at_word k i l ∙ here k i l)

-- ---- points that two planes share

-- outside the words of either there is none
pub none_around : (s t a b x y : ℕ) → IsBetween s a b → IsBetween t x y → (z : ℕ) → (z < 64 * min a x) ⊎ (64 * max b y ≤ z) → (has_point s z || has_point t z) ≡ false
none_around s t a b x y p q z (inl l) = or_from (has_point s z) (has_point t z) (p.none_before z (omega arith)) (q.none_before z (omega arith))
none_around s t a b x y p q z (inr g) = or_from (has_point s z) (has_point t z) (p.none_behind z (omega arith)) (q.none_behind z (omega arith))

-- outside the words of the first none is left of it
pub none_left : (s t a b : ℕ) → IsBetween s a b → (z : ℕ) → (z < 64 * a) ⊎ (64 * b ≤ z) → (has_point s z && not (has_point t z)) ≡ false
none_left s t a b p z (inl l) = and_left (has_point s z) (not (has_point t z)) (p.none_before z l)
none_left s t a b p z (inr g) = and_left (has_point s z) (not (has_point t z)) (p.none_behind z g)

-- outside the words of both they share none
pub none_apart : (s t a b x y : ℕ) → IsBetween s a b → IsBetween t x y → (z : ℕ) → (z < 64 * max a x) ⊎ (64 * min b y ≤ z) → (has_point s z && has_point t z) ≡ false
none_apart s t a b x y p q z (inl l) =
    ⊎_elim (λ u. and_left (has_point s z) (has_point t z) (p.none_before z u)) (λ o. and_right (has_point s z) (has_point t z) (q.none_before z (omega arith))) (cases_lt z (64 * a))
none_apart s t a b x y p q z (inr g) =
    ⊎_elim (λ u. and_right (has_point s z) (has_point t z) (q.none_behind z (omega arith))) (λ o. and_left (has_point s z) (has_point t z) (p.none_behind z o)) (cases_lt z (64 * b))

above_zero : (w : ℕ) → not (eqb w 0) ≡ true → 0 < w
above_zero w e = grind (arith, nat_tests)

zero_from_test : (w : ℕ) → not (eqb w 0) ≡ false → w ≡ 0
zero_from_test w e = grind (arith, nat_tests)

module _ (s t from count : ℕ) (xs ys : List ℕ) (wx : IsWindow s from count xs) (wy : IsWindow t from count ys) where
  both : (k i : ℕ) → k < count → i < 64 → has_point (get_or (zip2 bit_and xs ys) k 0) i ≡ (has_point s (64 * (from + k) + i) && has_point t (64 * (from + k) + i))
  both k i l g =
      ap (λ w. has_point w i) (get_or-zip2 bit_and xs ys k 0 0 0 (omega (arith, wx.size)) (omega (arith, wy.size))) ∙ has-and (get_or xs k 0) (get_or ys k 0) i
      ∙ ap (λ b. b && has_point (get_or ys k 0) i) (wx.same k i l g) ∙ ap (λ b. has_point s (64 * (from + k) + i) && b) (wy.same k i l g)

  size : length (zip2 bit_and xs ys) ≡ count
  size = length-zip2 bit_and xs ys (wx.size ∙ sym wy.size) ∙ wx.size

  word_fits : (k : ℕ) → k < count → get_or (zip2 bit_and xs ys) k 0 < 2 ^ 64
  word_fits k l =
      omega (arith, get_or-zip2 bit_and xs ys k 0 0 0 (omega (arith, wx.size)) (omega (arith, wy.size)), and_le_l (get_or xs k 0) (get_or ys k 0), wx.fit k)

  pub shared_found : share_a_bit xs ys ≡ true → (z : ℕ) × ((has_point s z && has_point t z) ≡ true)
  shared_found e =
      at (Any-from_list_any (λ common. not (eqb common 0)) (zip2 bit_and xs ys) e)
    where
      at : Any (λ common. not (eqb common 0) ≡ true) (zip2 bit_and xs ys) → (z : ℕ) × ((has_point s z && has_point t z) ≡ true)
      at any =
          let same : get_or (zip2 bit_and xs ys) any.0 0 ≡ any.1 = get_or_default (zip2 bit_and xs ys) any.0 0 any.1 any.2 ∙ any.3 in
          let some : 0 < get_or (zip2 bit_and xs ys) any.0 0 = above_zero (get_or (zip2 bit_and xs ys) any.0 0) (ap (λ w. not (eqb w 0)) same ∙ any.4) in
          let inside : any.0 < count = omega (arith, any.2, size) in
          let x = lowest_one_of (get_or (zip2 bit_and xs ys) any.0 0) some (word_fits any.0 inside) in
          (64 * (from + any.0) + x.0, sym (both any.0 x.0 inside x.1) ∙ x.2)

  pub none_shared : share_a_bit xs ys ≡ false → ((z : ℕ) → z < 64 * from → (has_point s z && has_point t z) ≡ false) → ((z : ℕ) → 64 * (from + count) ≤ z → (has_point s z && has_point t z) ≡ false) → (z : ℕ) → (has_point s z && has_point t z) ≡ false
  none_shared e before behind z =
      ⊎_elim (before z) (λ o. ⊎_elim (λ u. at (z / 64 - from) (z % 64) (omega arith) (omega arith) (omega arith)) (behind z) (cases_lt z (64 * (from + count)))) (cases_lt z (64 * from))
    where
      zero : (k : ℕ) → k < count → get_or (zip2 bit_and xs ys) k 0 ≡ 0
      zero k l =
          zero_from_test (get_or (zip2 bit_and xs ys) k 0) (false_from_ne_true (not (eqb (get_or (zip2 bit_and xs ys) k 0) 0)) (λ q. false≢true (sym e ∙ list_any_at (λ common. not (eqb common 0)) (zip2 bit_and xs ys) k 0 (omega (arith, size)) q)))

      at : (k i : ℕ) → k < count → i < 64 → z ≡ 64 * (from + k) + i → (has_point s z && has_point t z) ≡ false
      at k i l g q =
          subst (λ y. (has_point s y && has_point t y) ≡ false) (sym q) (sym (both k i l g) ∙ ap (λ w. has_point w i) (zero k l) ∙ has-zero i)
