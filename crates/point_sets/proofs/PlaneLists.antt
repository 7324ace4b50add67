-- The points of a plane as a rising list.
use Rattle.std.proofs.Common.{◌≡◌, ℕ, zero, suc, ◌+◌, ◌-◌, ◌<◌, ◌≤◌, Bool, true, false, not, ◌&&◌, cond, eqb, ltb, List, [], ◌∷◌, ◌++◌, length, get_or, filter, Some, None, slice_get, refl, sym, ap, ◌∙◌, arith, ⊎_elim, length-append}
use Rattle.std.proofs.lemmas.Bool.{cases_Bool, cases_lt, cond-true, cond-false, and_right, and_parts, lt-ltb, ltb-true}
use Rattle.std.proofs.lemmas.Bool.Decides.{nat_tests}
use Rattle.std.proofs.lemmas.List.Elements.{filter-append, Contains-get_or}
use Rattle.std.proofs.lemmas.Option.{slice_get-get_or, slice_get_past}
use Rattle.std.proofs.Math.Seq.{get_or-append_seam}
use Rattle.std.specs.List.{position}
use Rattle.std.specs.List.Sorted.{IsStrictlyIncreasing}
use Rattle.plain_values.specs.Points.{IsPoints, counted_from, has}
use Rattle.bit_planes.specs.Planes.{IsBelow, IsPlace, count_below, has_point, is_last}
use Rattle.point_sets.specs.Forms.{passing, plane_points, runs_of}
use Rattle.point_sets.specs.Operations.{kept, combined_of}
use Rattle.point_sets.specs.declared.TheConstants.{POINT_LIMIT}
use Rattle.point_sets.specs.declared.operation.Operation.{Operation}
use Rattle.point_sets.proofs.Combining.{has-combined_of, kept_none, no_point, rising-combined_of}
use Rattle.point_sets.proofs.Places.{position_is}
use Rattle.point_sets.proofs.Rising.{counted_from-+, has-counted_from, has-filter, has-from_Contains, members_decide, position_at, rising-counted_from, rising-filter}

-- ---- the numbers below a bound that pass a test

module _ (p : ℕ → Bool) where
  has_passing : (n z : ℕ) → has (passing p n) z ≡ (p z && ltb z n)
  unfolding passing
  has_passing n z =
      let h = has-filter p (counted_from 0 n) z in
      let c = has-counted_from 0 n z in
      grind (arith, nat_tests)

  rising-passing : (n : ℕ) → IsStrictlyIncreasing (passing p n)
  unfolding passing
  rising-passing n = rising-filter p (counted_from 0 n) (rising-counted_from 0 n)

  one_passing : (z : ℕ) → length (filter p (z ∷ [])) ≡ cond (p z) 1 0
  one_passing z = ⊎_elim (λ e. ap length (cond-true (p z) (z ∷ []) [] e) ∙ sym (cond-true (p z) 1 0 e)) (λ e. ap length (cond-false (p z) (z ∷ []) [] e) ∙ sym (cond-false (p z) 1 0 e)) (cases_Bool (p z))

  length-filtered : (n : ℕ) → length (filter p (counted_from 0 n)) ≡ count_below p n
  unfolding count_below
  length-filtered zero = refl
  length-filtered (suc n) =
      let split : counted_from 0 (suc n) ≡ counted_from 0 n ++ n ∷ [] = ap (counted_from 0) (let e : suc n ≡ n + 1 = omega arith in e) ∙ counted_from-+ 0 n 1 ∙ ap (λ k. counted_from 0 n ++ k ∷ []) (let e : 0 + n ≡ n = omega arith in e) in
      ap (λ xs. length (filter p xs)) split ∙ ap length (filter-append p (counted_from 0 n) (n ∷ [])) ∙ length-append (filter p (counted_from 0 n)) (filter p (n ∷ [])) ∙ ap (λ k. k + length (filter p (n ∷ []))) (length-filtered n) ∙ ap (λ k. count_below p n + k) (one_passing n)

  length-passing : (n : ℕ) → length (passing p n) ≡ count_below p n
  unfolding passing
  length-passing n = length-filtered n

  -- where a number stands that passes
  module _ (z n : ℕ) (l : z < n) (e : p z ≡ true) where
    round : filter p (counted_from 0 n) ≡ filter p (counted_from 0 z) ++ z ∷ filter p (counted_from (suc z) (n - suc z))
    round =
        ap (λ k. filter p (counted_from 0 k)) (let q : n ≡ z + suc (n - suc z) = omega arith in q)
        ∙ ap (filter p) (counted_from-+ 0 z (suc (n - suc z)) ∙ ap (λ k. counted_from 0 z ++ counted_from k (suc (n - suc z))) (let q : 0 + z ≡ z = omega arith in q))
        ∙ filter-append p (counted_from 0 z) (counted_from z (suc (n - suc z)))
        ∙ ap (λ xs. filter p (counted_from 0 z) ++ xs) (cond-true (p z) (z ∷ filter p (counted_from (suc z) (n - suc z))) (filter p (counted_from (suc z) (n - suc z))) e)

    passing_at : get_or (passing p n) (count_below p z) 0 ≡ z
    unfolding passing
    passing_at = ap (λ xs. get_or xs (count_below p z) 0) round ∙ ap (λ k. get_or (filter p (counted_from 0 z) ++ z ∷ filter p (counted_from (suc z) (n - suc z))) k 0) (sym (length-filtered z)) ∙ get_or-append_seam (filter p (counted_from 0 z)) z (filter p (counted_from (suc z) (n - suc z))) 0

    passing_within : count_below p z < length (passing p n)
    unfolding passing
    passing_within = omega (arith, ap length round, length-append (filter p (counted_from 0 z)) (z ∷ filter p (counted_from (suc z) (n - suc z))), length-filtered z)

-- ---- the points of a plane

pub has-plane_points : (s z : ℕ) → has (plane_points s) z ≡ (has_point s z && ltb z POINT_LIMIT)
has-plane_points s z = has_passing (has_point s) POINT_LIMIT z

pub rising-plane_points : (s : ℕ) → IsStrictlyIncreasing (plane_points s)
rising-plane_points s = rising-passing (has_point s) POINT_LIMIT

pub points-plane_points : (s : ℕ) → IsPoints POINT_LIMIT (plane_points s)
points-plane_points s = record {
  rising = rising-plane_points s;
  below = λ k d l. ltb-true _ _ (and_parts (has_point s (get_or (plane_points s) k d)) _ (sym (has-plane_points s _) ∙ has-from_Contains (plane_points s) _ (Contains-get_or (plane_points s) k d l))).1;
}

pub has_plane : (s : ℕ) → IsBelow POINT_LIMIT s → (z : ℕ) → has (plane_points s) z ≡ has_point s z
has_plane s b z =
    ⊎_elim (λ l. has-plane_points s z ∙ ap (λ t. has_point s z && t) (lt-ltb z POINT_LIMIT l) ∙ and_true (has_point s z)) (λ g. has-plane_points s z ∙ ap (λ t. t && ltb z POINT_LIMIT) (b z g) ∙ sym (b z g)) (cases_lt z POINT_LIMIT)
  where
    and_true : (t : Bool) → (t && true) ≡ t
    and_true true = refl
    and_true false = refl

-- a list with the points of a plane
pub plane_points_are : (s : ℕ) (xs : List ℕ) → IsPoints POINT_LIMIT xs → ((z : ℕ) → has_point s z ≡ has xs z) → plane_points s ≡ xs
plane_points_are s xs p same =
    members_decide (plane_points s) xs (rising-plane_points s) p.rising (λ z. has-plane_points s z ∙ ⊎_elim (λ l. ap (λ t. has_point s z && t) (lt-ltb z POINT_LIMIT l) ∙ and_true (has_point s z) ∙ same z) (λ g. and_right (has_point s z) (ltb z POINT_LIMIT) (beyond z g) ∙ sym (out z g)) (cases_lt z POINT_LIMIT))
  where
    and_true : (t : Bool) → (t && true) ≡ t
    and_true true = refl
    and_true false = refl

    beyond : (z : ℕ) → POINT_LIMIT ≤ z → ltb z POINT_LIMIT ≡ false
    beyond z g = grind (arith, nat_tests)

    out : (z : ℕ) → POINT_LIMIT ≤ z → has xs z ≡ false
    out z g = no_point xs p z g

-- what an operation makes of planes
pub combined_planes : (operation : Operation) (s t r : ℕ) → ((z : ℕ) → has_point r z ≡ kept operation (has_point s z) (has_point t z)) → plane_points r ≡ combined_of operation (plane_points s) (plane_points t)
combined_planes operation s t r each =
    members_decide (plane_points r) (combined_of operation (plane_points s) (plane_points t)) (rising-plane_points r) (rising-combined_of operation (plane_points s) (plane_points t) (rising-plane_points s) (rising-plane_points t)) (λ z. has-plane_points r z ∙ ap (λ b. b && ltb z POINT_LIMIT) (each z) ∙ within (has_point s z) (has_point t z) (ltb z POINT_LIMIT) ∙ sym (has-combined_of operation (plane_points s) (plane_points t) z ∙ ap (λ b. kept operation b (has (plane_points t) z)) (has-plane_points s z) ∙ ap (kept operation (has_point s z && ltb z POINT_LIMIT)) (has-plane_points t z)))
  where
    within : (a b c : Bool) → (kept operation a b && c) ≡ kept operation (a && c) (b && c)
    within a b true = and_true (kept operation a b) ∙ ap (λ u. kept operation u b) (sym (and_true a)) ∙ ap (kept operation (a && true)) (sym (and_true b))
      where
        and_true : (t : Bool) → (t && true) ≡ t
        and_true true = refl
        and_true false = refl
    within a b false = and_right (kept operation a b) false refl ∙ sym (ap (λ u. kept operation u (b && false)) (and_right a false refl) ∙ ap (kept operation false) (and_right b false refl) ∙ kept_none operation)

-- ---- how many there are, and where

pub length-plane_points : (s : ℕ) → length (plane_points s) ≡ count_below (has_point s) POINT_LIMIT
length-plane_points s = length-passing (has_point s) POINT_LIMIT

module _ (s point place : ℕ) (below : IsBelow POINT_LIMIT s) (at : IsPlace s point place) where
  under : point < POINT_LIMIT
  under = ⊎_elim (λ l. l) (λ g. absurd (false_true (sym (below point g) ∙ at.there))) (cases_lt point POINT_LIMIT)
    where
      false_true : false ≡ true → ⊥
      false_true = λ e. cc

  point_there : get_or (plane_points s) place 0 ≡ point
  point_there = ap (λ k. get_or (plane_points s) k 0) (sym at.before) ∙ passing_at (has_point s) point POINT_LIMIT under at.there

  place_in : place < length (plane_points s)
  place_in = omega (arith, at.before, passing_within (has_point s) point POINT_LIMIT under at.there)

  pub point_of_place : slice_get (plane_points s) place ≡ Some point
  point_of_place = slice_get-get_or (plane_points s) place 0 place_in ∙ ap Some point_there

  pub place_of_point : position (λ y. eqb y point) (plane_points s) ≡ Some place
  place_of_point = position_is (plane_points s) point ∙ position_at 0 (plane_points s) place point (rising-plane_points s) place_in point_there ∙ ap Some (omega arith)

pub no_point_at : (s place : ℕ) → count_below (has_point s) POINT_LIMIT ≤ place → slice_get (plane_points s) place ≡ None
no_point_at s place l = slice_get_past (plane_points s) place (omega (arith, length-plane_points s))

-- ---- the runs of a plane

one_both : (p q : ℕ → Bool) (x : ℕ) (xs : List ℕ) → length (filter q (filter p xs)) ≡ length (filter (λ y. p y && q y) xs) → length (filter q (filter p (x ∷ xs))) ≡ length (filter (λ y. p y && q y) (x ∷ xs))
one_both p q x xs rest = ⊎_elim (λ e. ⊎_elim (kept e) (left e) (cases_Bool (q x))) out (cases_Bool (p x))
  where
    kept : p x ≡ true → q x ≡ true → length (filter q (filter p (x ∷ xs))) ≡ length (filter (λ y. p y && q y) (x ∷ xs))
    kept e f = ap (λ l. length (filter q l)) (cond-true (p x) (x ∷ filter p xs) (filter p xs) e) ∙ ap length (cond-true (q x) (x ∷ filter q (filter p xs)) (filter q (filter p xs)) f) ∙ ap suc rest ∙ sym (ap length (cond-true (p x && q x) (x ∷ filter (λ y. p y && q y) xs) (filter (λ y. p y && q y) xs) (ap (λ b. b && q x) e ∙ f)))

    left : p x ≡ true → q x ≡ false → length (filter q (filter p (x ∷ xs))) ≡ length (filter (λ y. p y && q y) (x ∷ xs))
    left e f = ap (λ l. length (filter q l)) (cond-true (p x) (x ∷ filter p xs) (filter p xs) e) ∙ ap length (cond-false (q x) (x ∷ filter q (filter p xs)) (filter q (filter p xs)) f) ∙ rest ∙ sym (ap length (cond-false (p x && q x) (x ∷ filter (λ y. p y && q y) xs) (filter (λ y. p y && q y) xs) (ap (λ b. b && q x) e ∙ f)))

    out : p x ≡ false → length (filter q (filter p (x ∷ xs))) ≡ length (filter (λ y. p y && q y) (x ∷ xs))
    out e = ap (λ l. length (filter q l)) (cond-false (p x) (x ∷ filter p xs) (filter p xs) e) ∙ rest ∙ sym (ap length (cond-false (p x && q x) (x ∷ filter (λ y. p y && q y) xs) (filter (λ y. p y && q y) xs) (ap (λ b. b && q x) e)))

both_tests : (p q : ℕ → Bool) (xs : List ℕ) → length (filter q (filter p xs)) ≡ length (filter (λ x. p x && q x) xs)
both_tests p q [] = refl
both_tests p q (x ∷ xs) = one_both p q x xs (both_tests p q xs)

count_same : (p q : ℕ → Bool) (n : ℕ) → ((z : ℕ) → p z ≡ q z) → count_below p n ≡ count_below q n
unfolding count_below
count_same p q zero same = refl
count_same p q (suc n) same =
    ap (λ c. c + cond (p n) 1 0) (count_same p q n same) ∙ ap (λ b. count_below q n + cond b 1 0) (same n)

passing_both : (p q : ℕ → Bool) (n : ℕ) → length (filter q (passing p n)) ≡ count_below (λ x. p x && q x) n
unfolding passing
passing_both p q n = both_tests p q (counted_from 0 n) ∙ length-filtered (λ x. p x && q x) n

pub runs-plane_points : (s : ℕ) → IsBelow POINT_LIMIT s → runs_of (plane_points s) ≡ count_below (is_last s) POINT_LIMIT
runs-plane_points s b =
    passing_both (has_point s) (λ x. not (has (plane_points s) (x + 1))) POINT_LIMIT ∙ count_same (λ x. has_point s x && not (has (plane_points s) (x + 1))) (is_last s) POINT_LIMIT (λ z. ap (λ t. has_point s z && not t) (has_plane s b (z + 1)))
