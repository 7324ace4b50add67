-- Partitions whose sets share no points.
use Rattle.std.proofs.Common.{◌≡◌, ℕ, ℤ, suc, ◌+◌, ◌-◌, ◌*◌, ◌/◌, ◌<◌, ◌≤◌, Bool, true, false, ◌&&◌}
use Rattle.std.proofs.Common.{eqb, List, [], ◌∷◌, length, length-take, length-drop, get_or, drop}
use Rattle.std.proofs.Common.{filter, ◌⊎◌, inl, inr, Option, Some, None, sym, ◌∙◌, arith, ⊎_elim}
use Rattle.std.proofs.Common.{get_or-take, get_or-drop}
use Rattle.std.specs.List.Sorted.{IsStrictlyIncreasing}
use Rattle.std.proofs.lemmas.Bool.{cases_order, eqb-true, false≢true, and_parts, or_cases}
use Rattle.std.proofs.lemmas.List.Kept.{AllPairs-from_increasing}
use Rattle.std.proofs.Math.Nat.{mul-le-mul_left}
use Rattle.std.proofs.lemmas.Nat.{le-div, div-add-mod'}
use Rattle.plain_values.specs.Points.{has}
use Rattle.point_sets.proofs.Rising.{Contains-from_has, has-filter, rising_head, rising_tail}
use Rattle.regent_tree.specs.Partitions.{point_named, is_point, is_among, points_where, equal_part}
use Rattle.regent_tree.specs.Partitions.{equal_sets, by_field_sets, preimage_sets}
use Rattle.partitions.specs.Laws.{colour, NoneShared}
use Rattle.partitions.proofs.Colours.{InOneAtMost, none_shared, in_one_at_most, none_shared_made, colour_mapped}
use Rattle.partitions.proofs.Reached.{has-where, where_within}

-- ---- equal parts

div_rises : (a b n : ℕ) → 0 < n → a ≤ b → a / n ≤ b / n
div_rises a b n some l = le-div (a / n) b n some (omega (arith, div-add-mod' a n))

-- a point of a part stands at a place of the part
place_in_part : (r : List ℕ) (n c x : ℕ) → has (equal_part r n c) x ≡ true →
    (i : ℕ) × (length r * c / n ≤ i) × (i < length r * suc c / n) × (i < length r) ×
    (get_or r i x ≡ x)
place_in_part r n c x h =
    let first = length r * c / n in
    let size = length r * suc c / n - length r * c / n in
    let at = Contains-from_has (equal_part r n c) x h in
    let k = at.0 in
    let m = length-take size (drop first r) in
    let m' = length-drop first r in
    let here : k < size = omega (arith, at.1) in (
      first + k,
      omega arith,
      omega arith,
      omega (arith, at.1),
      sym
          (get_or-take size (drop first r) k x here ∙ get_or-drop first r k x) ∙ at.2,
    )

same_place : (r : List ℕ) (i j x : ℕ) → IsStrictlyIncreasing r → i < length r → j < length r →
    get_or r i x ≡ x → get_or r j x ≡ x → i ≡ j
same_place r i j x up li lj ei ej =
    ⊎_elim (λ e. e) (λ o.
    absurd (⊎_elim (λ l. let below = AllPairs-from_increasing r up i j x l lj in omega arith)
    (λ l. let below = AllPairs-from_increasing r up j i x l li in omega arith) o))
    (cases_order i j)

parts_apart : (r : List ℕ) (n c d x : ℕ) → IsStrictlyIncreasing r → 0 < n → c < d →
    has (equal_part r n c) x ≡ true → has (equal_part r n d) x ≡ true → ⊥
parts_apart r n c d x up some l a b =
    let p = place_in_part r n c x a in
    let q = place_in_part r n d x b in
    let same = same_place r p.0 q.0 x up p.3 q.3 p.4 q.4 in
    let more : length r * suc c ≤ length r * d = mul-le-mul_left (length r) l in
    let rises = div_rises (length r * suc c) (length r * d) n some more in
    omega (arith, p.2, q.1)

pub equal_apart : (r : List ℕ) (n : ℕ) → IsStrictlyIncreasing r → NoneShared (equal_sets r n)
equal_apart r n up =
    none_shared_made (equal_part r n) n (λ c d x l l' a b. let some : 0 < n = omega arith in
    ⊎_elim (λ e. e) (λ o.
    absurd (⊎_elim (λ k. parts_apart r n c d x up some k a b)
    (λ k. parts_apart r n d c x up some k b a) o)) (cases_order c d))

-- ---- by the numbers of a field

-- a point at which two tests pass has a number at which both pass
where_shared : (f g : ℤ → Bool) (r : List ℕ) (zs : List ℤ) (x : ℕ) → IsStrictlyIncreasing r →
    has (points_where f r zs) x ≡ true → has (points_where g r zs) x ≡ true →
    (z : ℤ) × (f z ≡ true) × (g z ≡ true)
where_shared f g [] zs x up a b = absurd (false≢true a)
where_shared f g (y ∷ ys) [] x up a b = absurd (false≢true a)
where_shared f g (y ∷ ys) (z ∷ zs) x up a b =
    here (where_shared f g ys zs x (rising_tail y ys up))
    (or_cases (f z && eqb x y) (has (points_where f ys zs) x)
    (sym (has-where f x y z ys zs) ∙ a)) (or_cases (g z && eqb x y)
    (has (points_where g ys zs) x) (sym (has-where g x y z ys zs) ∙ b))
  where
    -- the point of the first place stands at no other
    once : (h : ℤ → Bool) (k : Bool) → (k && eqb x y) ≡ true → has (points_where h ys zs) x ≡ true →
        ⊥
    once h k e m =
        let same = eqb-true x y (and_parts k (eqb x y) e).1 in
        let above : y < x = rising_head y ys up x (where_within h ys zs x m) in
        absurd (omega arith)

    here : (has (points_where f ys zs) x ≡ true → has (points_where g ys zs) x ≡ true →
        (v : ℤ) × (f v ≡ true) × (g v ≡ true)) →
        ((f z && eqb x y) ≡ true) ⊎ (has (points_where f ys zs) x ≡ true) →
        ((g z && eqb x y) ≡ true) ⊎ (has (points_where g ys zs) x ≡ true) →
        (v : ℤ) × (f v ≡ true) × (g v ≡ true)
    here rest (inl e) (inl k) = (
      z,
      (and_parts (f z) (eqb x y) e).0,
      (and_parts (g z) (eqb x y) k).0,
    )
    here rest (inl e) (inr m) = absurd (once g (f z) e m)
    here rest (inr m) (inl k) = absurd (once f (g z) k m)
    here rest (inr m) (inr m') = rest m m'

pub field_apart : (r : List ℕ) (zs : List ℤ) (n : ℕ) → IsStrictlyIncreasing r →
    NoneShared (by_field_sets r zs n)
field_apart r zs n up =
    none_shared_made (λ c. points_where (λ z. is_point c (point_named false z)) r zs) n
    (λ c d x l l' a b. let both = where_shared (λ z. is_point c (point_named false z))
    (λ z. is_point d (point_named false z)) r zs x up a b in
    one_point c d (point_named false both.0) both.1 both.2)
  where
    one_point : (c d : ℕ) (o : Option ℕ) → is_point c o ≡ true → is_point d o ≡ true → c ≡ d
    one_point c d None a b = absurd (false≢true a)
    one_point c d (Some n) a b = eqb-true c n a ∙ sym (eqb-true d n b)

pub preimage_apart : (parent : List ℕ) (sets : List (List ℕ)) (r : List ℕ) (zs : List ℤ)
    (p : Bool) → IsStrictlyIncreasing r → NoneShared sets →
    NoneShared (preimage_sets parent sets r zs p)
preimage_apart parent sets r zs p up apart = none_shared (preimage_sets parent sets r zs p) one
  where
    test : ℕ → ℤ → Bool
    test e z = is_among (colour sets e) (point_named p z)

    seen : (e x : ℕ) → has (colour (preimage_sets parent sets r zs p) e) x ≡ true →
        has (points_where (test e) r zs) x ≡ true
    seen e x h =
        let whole = colour_mapped
        (λ set. filter (has (points_where (λ z. is_among set (point_named p z)) r zs)) parent)
        sets e x h in
        (and_parts (has parent x) (has (points_where (test e) r zs) x)
        (sym (has-filter (has (points_where (test e) r zs)) parent x) ∙ whole)).1

    one_set : (c d : ℕ) (o : Option ℕ) → is_among (colour sets c) o ≡ true →
        is_among (colour sets d) o ≡ true → c ≡ d
    one_set c d None a b = absurd (false≢true a)
    one_set c d (Some n) a b = in_one_at_most sets apart c d n a b

    one : InOneAtMost (preimage_sets parent sets r zs p)
    one c d x a b =
        let both = where_shared (test c) (test d) r zs x up (seen c x a) (seen d x b) in
        one_set c d (point_named p both.0) both.1 both.2
