-- Points gathered from one requirement after another.
use Rattle.std.proofs.Common.{◌≡◌, ℕ, ◌+◌, ◌<◌, Bool, true, false, ◌&&◌, List, ◌∷◌, length, get_or, drop, sym, ap, subst, ◌∙◌}
use Rattle.std.proofs.lemmas.List.{drop_more}
use Rattle.lane_kernels.specs.declared.numbers.Mode.{Mode}
use Rattle.plain_values.specs.Points.{IsPoints, union_of}
use Rattle.point_sets.specs.declared.TheConstants.{POINT_LIMIT}
use Rattle.region_tree.specs.Modes.{is_as}
use Rattle.region_tree.specs.Requirements.{Requirement, is_of}
use Rattle.region_tree.proofs.Dividing.{IsGathered, gathered_wanted, gathered_unwanted}

module _ (needs : List Requirement) (i : ℕ) (item : Requirement) (is : item ≡ get_or needs i item)
    (l : i < length needs) (root field : ℕ) (mode : Mode) (same : Bool) (all : List Requirement) (points : List ℕ)
    (h : IsGathered root field mode same all (drop i needs) points) where
  next_left : IsGathered root field mode same all (item ∷ drop (i + 1) needs) points
  next_left = subst (λ (ns : List Requirement). IsGathered root field mode same all ns points)
      (drop_more needs i item l ∙ ap (λ (r : Requirement). r ∷ drop (i + 1) needs) (sym is)) h

  pub gathered_next : (set after : List ℕ) →
      (is_of root field item && is_as mode same item.mode) ≡ true →
      set ≡ item.points → after ≡ union_of points set →
      IsPoints POINT_LIMIT after →
      IsGathered root field mode same all (drop (i + 1) needs) after
  gathered_next set after e same_points made good =
      let whole = made ∙ ap (union_of points) same_points in
      subst (IsGathered root field mode same all (drop (i + 1) needs)) (sym whole)
      (gathered_wanted root field mode same all item (drop (i + 1) needs) points
      next_left e (subst (IsPoints POINT_LIMIT) whole good))

  pub passed_next :
      (is_of root field item && is_as mode same item.mode) ≡ false →
      IsGathered root field mode same all (drop (i + 1) needs) points
  passed_next e = gathered_unwanted root field mode same all item
      (drop (i + 1) needs) points next_left e
