-- Points that follow one another, and what stands beside them.
use Rattle.std.proofs.Common.{◌≡◌, ◌∙◌, ◌≤◌, ◌<◌, ◌+◌, ◌-◌, true, List, [], ◌∷◌, None, Option, Some, ap, arith, cond, drop, eq-eqb, get_or, length, min, pos, refl, suc, sym, take, zero, ℕ, ℤ, ◌⊎◌, inl, inr}
use Rattle.std.specs.Prelude.{set, slice_get, unwrap_or}
use Rattle.std.specs.List.Sorted.{IsStrictlyIncreasing}
use Rattle.std.proofs.lemmas.Bool.{cases_order, false≢true, ne_eqb}
use Rattle.std.proofs.lemmas.List.{get_or-drop, get_or-take, length-drop, length-set, length-take}
use Rattle.plain_values.specs.Points.{has}
use Rattle.point_sets.proofs.Rising.{Each, absent, has_head, has_other, rising_head, rising_tail}
use Rattle.point_sets.specs.Stretches.{IsStretchFrom}
use Rattle.region_tree.specs.Pieces.{Held}
use Rattle.logical_map.proofs.Beside.{beside_more}
use Rattle.logical_map.specs.Maps.{number_beside}
use Rattle.logical_map.specs.Fills.{moved_beside}
use Rattle.logical_map.proofs.Moving.{one_more}
use Rattle.physical_instances.specs.Instances.{current, current_beside, number_held, put_at}
use Rattle.physical_instances.proofs.Currents.{current_at}
use Rattle.physical_instances.proofs.Marking.{has_at}

-- ---- consecutive points

-- the next point of a rising list
next_point : (xs : List ℕ) (i q : ℕ) → IsStrictlyIncreasing xs → slice_get xs i ≡ Some q → has xs (suc q) ≡ true → slice_get xs (suc i) ≡ Some (suc q)
next_point [] i q r at h = absurd cc
next_point (y ∷ []) zero q r at h =
    let e : y ≡ q = search (at) in
    absurd (false≢true (sym (has_other (suc q) y [] (λ k. omega (arith, e, k))) ∙ h))
next_point (y ∷ w ∷ ws) zero q r at h =
    let e : y ≡ q = search (at) in
    let rest : has (w ∷ ws) (suc q) ≡ true = sym (has_other (suc q) y (w ∷ ws) (λ k. omega (arith, e, k))) ∙ h in
    let above : y < w = rising_head y (w ∷ ws) r w (has_head w ws) in
    by_order (cases_order w (suc q)) rest e above (rising_head w ws (rising_tail y (w ∷ ws) r))
  where
    by_order : (w ≡ suc q) ⊎ ((w < suc q) ⊎ (suc q < w)) → has (w ∷ ws) (suc q) ≡ true → y ≡ q → y < w → Each (λ z. w < z) ws → Some w ≡ Some (suc q)
    by_order (inl k) rest e above tail = ap Some k
    by_order (inr (inl k)) rest e above tail = absurd (omega (arith, k, e, above))
    by_order (inr (inr k)) rest e above tail =
        absurd (false≢true (sym (has_other (suc q) w ws (λ n. omega (arith, k, n)) ∙ absent w ws tail (suc q) (omega (arith, k))) ∙ rest))
next_point (y ∷ ys) (suc i) q r at h =
    let above : y < q = rising_head y ys r q (has_at ys i q at) in
    next_point ys i q (rising_tail y ys r) at (sym (has_other (suc q) y ys (λ k. omega (arith, above, k))) ∙ h)

-- so many points behind one another
pub points_follow : (xs : List ℕ) (i p n : ℕ) → IsStrictlyIncreasing xs → slice_get xs i ≡ Some p →
    ((k : ℕ) → k < n → has xs (p + k) ≡ true) → (k : ℕ) → k < n → slice_get xs (i + k) ≡ Some (p + k)
points_follow xs i p n r at h zero l =
    let a : i + 0 ≡ i = omega arith in
    let b : p ≡ p + 0 = omega arith in
    ap (slice_get xs) a ∙ at ∙ ap Some b
points_follow xs i p n r at h (suc k) l =
    let a : i + suc k ≡ suc (i + k) = omega arith in
    let b : p + suc k ≡ suc (p + k) = omega arith in
    ap (slice_get xs) a ∙ next_point xs (i + k) (p + k) r (points_follow xs i p n r at h k (omega (arith, l))) (ap (has xs) (sym b) ∙ h (suc k) l) ∙ ap Some (sym b)

-- a stretch that begins at a point of the list
pub stretch_here : (xs : List ℕ) (p start end : ℕ) → has xs p ≡ true → IsStretchFrom xs p start end →
    (start ≡ p) × ((k : ℕ) → k < end - p → has xs (p + k) ≡ true)
stretch_here xs p start end h s = by_order (cases_order start p)
  where
    by_order : (start ≡ p) ⊎ ((start < p) ⊎ (p < start)) → (start ≡ p) × ((k : ℕ) → k < end - p → has xs (p + k) ≡ true)
    by_order (inl e) = (e, λ k l. s.full (p + k) (omega (arith, e)) (omega (arith, l)))
    by_order (inr (inl l)) = absurd (omega (arith, l, s.ahead))
    by_order (inr (inr l)) = absurd (false≢true (sym (s.gap p (omega arith) l) ∙ h))

-- ---- numbers of points that follow one another

pub value_at : (xs : List ℕ) (vs : List ℤ) (i q : ℕ) → IsStrictlyIncreasing xs → length xs ≡ length vs → slice_get xs i ≡ Some q →
    number_beside xs vs q ≡ Some (get_or vs i (pos 0))
value_at [] vs i q r l at = absurd cc
value_at (x ∷ xs) [] i q r l at = absurd (omega (arith, l))
value_at (x ∷ xs) (v ∷ vs) zero q r l at =
    let e : x ≡ q = search (at) in
    beside_more x q xs v vs ∙ ap (λ t. cond t (Some v) (number_beside xs vs q)) (eq-eqb x q e)
value_at (x ∷ xs) (v ∷ vs) (suc i) q r l at =
    let below : x < q = rising_head x xs r q (has_at xs i q at) in
    beside_more x q xs v vs ∙ ap (λ t. cond t (Some v) (number_beside xs vs q)) (ne_eqb x q (λ e. omega (arith, below, e)))
    ∙ value_at xs vs i q (rising_tail x xs r) (omega (arith, l)) at

-- of a part of a list
part_at : (vs : List ℤ) (i n k : ℕ) → k < length (take n (drop i vs)) →
    (k < n) × (i + k < length vs) × (get_or (take n (drop i vs)) k (pos 0) ≡ get_or vs (i + k) (pos 0))
part_at vs i n k l =
    let count : length (take n (drop i vs)) ≡ min n (length vs - i) = length-take n (drop i vs) ∙ ap (min n) (length-drop i vs) in
    let short : k < n = omega (arith, l, count) in
    (short, omega (arith, l, count), get_or-take n (drop i vs) k (pos 0) short ∙ get_or-drop i vs k (pos 0))

pub run_held : (xs : List ℕ) (vs : List ℤ) (i p start end n k : ℕ) → IsStrictlyIncreasing xs → length xs ≡ length vs → slice_get xs i ≡ Some p →
    IsStretchFrom xs p start end → n ≤ end - p → k < length (take n (drop i vs)) →
    number_beside xs vs (p + k) ≡ Some (get_or (take n (drop i vs)) k (pos 0))
run_held xs vs i p start end n k r l at s le below =
    let part = part_at vs i n k below in
    let here = points_follow xs i p (end - p) r at (stretch_here xs p start end (has_at xs i p at) s).1 k (omega (arith, part.0, le)) in
    value_at xs vs (i + k) (p + k) r l here ∙ ap Some (sym part.2)

-- ---- current numbers behind one another

module _ (fs : List (Option Held)) (ps vs : List ℕ) (zs : List ℤ) (i p start end m : ℕ) (r : IsStrictlyIncreasing ps) (at : slice_get ps i ≡ Some p)
    (s : IsStretchFrom ps p start end) (le : m ≤ end - p) (same : (k : ℕ) → k < m → get_or vs (i + k) 0 ≡ get_or vs i 0)
    (a : length vs ≡ length ps) (b : length zs ≡ length ps) where
  run_current : (k : ℕ) → k < m → number_beside ps (current_beside fs ps vs zs) (p + k) ≡ Some (current fs (get_or vs i 0) (p + k) (get_or zs (i + k) (pos 0)))
  run_current k l =
      current_at fs ps vs zs (i + k) (p + k) r
      (points_follow ps i p (end - p) r at (stretch_here ps p start end (has_at ps i p at) s).1 k (omega (arith, l, le))) a b
      ∙ ap (λ (v : ℕ). Some (current fs v (p + k) (get_or zs (i + k) (pos 0)))) (same k l)

  -- in the base
  pub run_base : (n k : ℕ) → get_or vs i 0 ≡ 0 → n ≤ m → k < length (take n (drop i zs)) →
      number_beside ps (current_beside fs ps vs zs) (p + k) ≡ Some (get_or (take n (drop i zs)) k (pos 0))
  run_base n k v l below =
      let part = part_at zs i n k below in
      run_current k (omega (arith, part.0, l)) ∙ ap (λ (w : ℕ). Some (current fs w (p + k) (get_or zs (i + k) (pos 0)))) v ∙ ap Some (sym part.2)

  -- in a further instance
  pub run_further : (j : ℕ) (h : Held) (run : List ℤ) (k : ℕ) → get_or vs i 0 ≡ suc j → get_or fs j None ≡ Some h → length run ≤ m → k < length run →
      number_beside h.points h.values (p + k) ≡ Some (get_or run k (pos 0)) →
      number_beside ps (current_beside fs ps vs zs) (p + k) ≡ Some (get_or run k (pos 0))
  run_further j h run k v f l below e =
      run_current k (omega (arith, below, l)) ∙ ap (λ (w : ℕ). Some (current fs w (p + k) (get_or zs (i + k) (pos 0)))) v
      ∙ ap (λ o. Some (number_held o (p + k) (get_or zs (i + k) (pos 0)))) f ∙ ap (λ o. Some (unwrap_or o (get_or zs (i + k) (pos 0)))) e

-- ---- values that are moved

pub length_put : (f : ℕ → ℤ) (ps : List ℕ) (place n : ℕ) (zs : List ℤ) → length (put_at f ps place n zs) ≡ length zs
length_put f ps place zero zs = refl
length_put f ps place (suc n) zs = length-set (put_at f ps place n zs) (place + n) (f (get_or ps (place + n) 0)) ∙ length_put f ps place n zs

-- behind those that are moved already
pub more_moved : (f : ℕ → ℤ) (ps : List ℕ) (first place n : ℕ) (zs now : List ℤ) → first ≤ place → place + n ≤ length ps → length ps ≡ length zs →
    now ≡ moved_beside f first (place - first) ps zs → put_at f ps place n now ≡ moved_beside f first (place + n - first) ps zs
more_moved f ps first place zero zs now a b c e =
    let same : place - first ≡ place + 0 - first = omega arith in
    e ∙ ap (λ (k : ℕ). moved_beside f first k ps zs) same
more_moved f ps first place (suc n) zs now a b c e =
    let here : place + n ≡ first + (place + n - first) = omega (arith, a) in
    let next : suc (place + n - first) ≡ place + suc n - first = omega (arith, a) in
    ap (λ ys. set ys (place + n) (f (get_or ps (place + n) 0))) (more_moved f ps first place n zs now a (omega (arith, b)) c e) ∙
    one_more f first (place + n - first) (place + n) ps zs 0 here (omega (arith, b)) c ∙
    ap (λ (k : ℕ). moved_beside f first k ps zs) next

pub length_moved : (f : ℕ → ℤ) (a k : ℕ) (ps : List ℕ) (zs : List ℤ) → length (moved_beside f a k ps zs) ≡ length zs
length_moved f zero zero [] zs = refl
length_moved f zero zero (p ∷ ps) zs = refl
length_moved f zero (suc k) [] zs = refl
length_moved f zero (suc k) (p ∷ ps) [] = refl
length_moved f zero (suc k) (p ∷ ps) (z ∷ zs) = ap suc (length_moved f zero k ps zs)
length_moved f (suc a) k [] zs = refl
length_moved f (suc a) k (p ∷ ps) [] = refl
length_moved f (suc a) k (p ∷ ps) (z ∷ zs) = ap suc (length_moved f a k ps zs)
