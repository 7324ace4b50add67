-- What a plane tells of its points, said of the list of them.
use Rattle.std.proofs.Common.{◌≡◌, ℕ, ◌<◌, ◌≤◌, Bool, true, false, not, ◌&&◌, eqb, List, Option, Some, None, IfSome, slice_get, refl, sym, ap, ◌∙◌, arith, ⊎_elim}
use Rattle.std.proofs.lemmas.Bool.{and_from, and_left, and_right, cases_lt, false≢true}
use Rattle.std.specs.Prelude.{IfNone}
use Rattle.std.specs.List.{position}
use Rattle.plain_values.specs.Points.{has, meets, within}
use Rattle.bit_planes.specs.Planes.{IsBelow, IsPlace, count_below, has_point}
use Rattle.point_sets.specs.Forms.{plane_points}
use Rattle.point_sets.specs.Stretches.{IsStretchFrom}
use Rattle.point_sets.specs.declared.TheConstants.{POINT_LIMIT}
use Rattle.point_sets.proofs.Places.{position_is}
use Rattle.point_sets.proofs.PlaneLists.{has_plane, no_point_at, place_of_point, point_of_place}
use Rattle.point_sets.proofs.Rising.{meets_at, meets_is, position_absent, within_is}

pub some_weaker : {X : Type 0} (r : Option X) (P Q : X → Type 0) → ((x : X) → P x → Q x) → IfSome r P → IfSome r Q
some_weaker None P Q f h = tt
some_weaker (Some x) P Q f h = f x h

pub none_told : {X : Type 0} (r : Option X) (Q : Type 0) → IfNone r Q → r ≡ None → Q
none_told None Q h e = h
none_told (Some x) Q h e = absurd (some_none x e)
  where
    some_none : {X : Type 0} (x : X) → Some x ≡ None → ⊥
    some_none x e = cc

-- ---- places

module _ (s : ℕ) (b : IsBelow POINT_LIMIT s) where
  pub at_is : (place : ℕ) (r : Option ℕ) → IfSome r (λ point. IsPlace s point place) → IfNone r (count_below (has_point s) POINT_LIMIT ≤ place) → r ≡ slice_get (plane_points s) place
  at_is place None some none = sym (no_point_at s place none)
  at_is place (Some point) some none = sym (point_of_place s point place b some)

  pub place_is : (point : ℕ) (r : Option ℕ) → IfSome r (λ place. IsPlace s point place) → IfNone r (has_point s point ≡ false) → r ≡ position (λ y. eqb y point) (plane_points s)
  place_is point None some none = sym (position_is (plane_points s) point ∙ position_absent point 0 (plane_points s) (has_plane s b point ∙ none))
  place_is point (Some place) some none = sym (place_of_point s point place b some)

-- ---- two planes

module _ (s t : ℕ) (b : IsBelow POINT_LIMIT s) (b' : IsBelow POINT_LIMIT t) where
  both : (z : ℕ) → (has (plane_points s) z && has (plane_points t) z) ≡ (has_point s z && has_point t z)
  both z = ap (λ u. u && has (plane_points t) z) (has_plane s b z) ∙ ap (λ u. has_point s z && u) (has_plane t b' z)

  rest : (z : ℕ) → (has (plane_points s) z && not (has (plane_points t) z)) ≡ (has_point s z && not (has_point t z))
  rest z = ap (λ u. u && not (has (plane_points t) z)) (has_plane s b z) ∙ ap (λ u. has_point s z && not u) (has_plane t b' z)

  pub meets_planes : (r : Bool) → (r ≡ true → (z : ℕ) × ((has_point s z && has_point t z) ≡ true)) → (r ≡ false → (z : ℕ) → (has_point s z && has_point t z) ≡ false) → r ≡ meets (plane_points s) (plane_points t)
  meets_planes r some none =
      meets_is r (plane_points s) (plane_points t) (λ e. let w = some e in (w.0, both w.0 ∙ w.1)) (λ e z. both z ∙ none e z)

  pub within_planes : (r : Bool) → (r ≡ true → (z : ℕ) → (has_point s z && not (has_point t z)) ≡ false) → (r ≡ false → (z : ℕ) × ((has_point s z && not (has_point t z)) ≡ true)) → r ≡ within (plane_points s) (plane_points t)
  within_planes true all some =
      within_is false (plane_points s) (plane_points t) (λ e. absurd (false≢true e)) (λ _ z. rest z ∙ all refl z)
  within_planes false all some =
      within_is true (plane_points s) (plane_points t) (λ _. let w = some refl in (w.0, rest w.0 ∙ w.1)) (λ e. absurd (false≢true (sym e)))

-- ---- two sets, stretch by stretch

module _ (xs ys : List ℕ) where
  pub meets_in : (p s e t u : ℕ) → IsStretchFrom xs p s e → IsStretchFrom ys s t u → t < e → true ≡ meets xs ys
  meets_in p s e t u ours theirs l =
      sym (meets_at xs ys t (and_from (has xs t) (has ys t) (ours.full t theirs.ahead l) (theirs.full t (omega arith) theirs.some)))

  pub meets_not : ((z : ℕ) → (has xs z && has ys z) ≡ false) → false ≡ meets xs ys
  meets_not none = meets_is false xs ys (λ e. absurd (false≢true e)) (λ _. none)

  pub none_behind : (p s e : ℕ) → ((z : ℕ) → z < p → (has xs z && has ys z) ≡ false) → IsStretchFrom xs p s e → ((z : ℕ) → s ≤ z → has ys z ≡ false) → (z : ℕ) → (has xs z && has ys z) ≡ false
  none_behind p s e before ours none z =
      ⊎_elim (before z) (λ g. ⊎_elim (λ l. and_left (has xs z) (has ys z) (ours.gap z g l)) (λ h. and_right (has xs z) (has ys z) (none z h)) (cases_lt z s)) (cases_lt z p)

  -- where the rest of the first is empty
  pub none_left : (q : ℕ → Bool) (p : ℕ) → ((z : ℕ) → z < p → (has xs z && q z) ≡ false) → ((z : ℕ) → p ≤ z → has xs z ≡ false) → (z : ℕ) → (has xs z && q z) ≡ false
  none_left q p before none z =
      ⊎_elim (before z) (λ g. and_left (has xs z) (q z) (none z g)) (cases_lt z p)

  pub within_not : (z : ℕ) → has xs z ≡ true → has ys z ≡ false → false ≡ within xs ys
  within_not z here out =
      within_is true xs ys (λ _. (z, and_from (has xs z) (not (has ys z)) here (ap not out))) (λ e. absurd (false≢true (sym e)))

  pub within_all : ((z : ℕ) → (has xs z && not (has ys z)) ≡ false) → true ≡ within xs ys
  within_all none = within_is false xs ys (λ e. absurd (false≢true e)) (λ _. none)
