-- Separated nodes share no point.
use Rattle.std.proofs.Common.{◌≡◌, ◌≢◌, ℕ, ◌<◌, true, false, eqb, ⊎_elim, Option, Some, None, List}
use Rattle.std.proofs.Common.{ap, ◌∙◌, sym}
use Rattle.std.proofs.Common.{Bool}
use Rattle.std.proofs.Common.{◌∷◌, ◌++◌, length, refl, sym, subst, arith}
use Rattle.std.proofs.lemmas.Bool.{and_parts, and_from, cases_order, false_from_ne_true, false≢true}
use Rattle.std.proofs.lemmas.Bool.{eq-eqb, eqb-true}
use Rattle.std.proofs.lemmas.Bool.{both_ways}
use Rattle.std.proofs.lemmas.List.Elements.{All-contains, Contains-append_right}
use Rattle.std.specs.List.{Contains}
use Rattle.plain_values.specs.Points.{has, meets, within}
use Rattle.point_sets.proofs.Rising.{meets_at, meets_where, within_each}
use Rattle.region_tree.specs.Kept.{IsTree, LeadsTo}
use Rattle.region_tree.specs.Paths.{parting, PartAt}
use Rattle.region_tree.specs.Paths.{child_number}
use Rattle.region_tree.specs.Trees.{RegionTree, separated, parts_disjoint, is_disjoint, path_at}
use Rattle.region_tree.specs.Trees.{AreSeparated, root_at}
use Rattle.region_tree.specs.Trees.{points_at, root_at, set_at, colours_at}
use Rattle.region_tree.specs.declared.content.Node.{Node}
use Rattle.region_tree.specs.declared.path.Step.{Step}
use Rattle.region_tree.proofs.Parting.{part_at-from_parting, parting-from_part_at}

pub meets_swap : (xs ys : List ℕ) → meets ys xs ≡ false → meets xs ys ≡ false
meets_swap xs ys h =
    false_from_ne_true (meets xs ys) (λ e. let at = meets_where xs ys e in
    let parts = and_parts (has xs at.0) (has ys at.0) at.1 in
    both_ways (meets ys xs) h (meets_at ys xs at.0
    (and_from (has ys at.0) (has xs at.0) parts.1 parts.0)))

-- sets within two that share nothing share nothing
pub apart_within : (xs ys us vs : List ℕ) → within xs us ≡ true → within ys vs ≡ true →
    meets us vs ≡ false → meets xs ys ≡ false
apart_within xs ys us vs in_us in_vs h =
    false_from_ne_true (meets xs ys) (λ e. let at = meets_where xs ys e in
    let parts = and_parts (has xs at.0) (has ys at.0) at.1 in
    both_ways (meets us vs) h (meets_at us vs at.0
    (and_from (has us at.0) (has vs at.0) (within_each xs us in_us at.0 parts.0)
    (within_each ys vs in_vs at.0 parts.1))))

where_disjoint : (t : RegionTree) (o : Option Node) → parts_disjoint t o ≡ true → (p : Node) ×
    (o ≡ Some p) × (is_disjoint t p.0 ≡ true)
where_disjoint t None h = absurd (false≢true h)
where_disjoint t (Some p) h = (p, refl, h)

listed : (xs : List Step) (s : Step) (ys : List Step) → Contains (xs ++ s ∷ ys) s
listed xs s ys = Contains-append_right xs (s ∷ ys) s (0, omega arith, refl)

module _ (t : RegionTree) (tree : IsTree t) (a b : ℕ) (in_a : a < length t.nodes)
    (in_b : b < length t.nodes) where
  children_apart : (p : Node) → is_disjoint t p.0 ≡ true → p.0 < length t.nodes → (i j : ℕ) →
      i ≢ j → i < colours_at t p.0 → j < colours_at t p.0 →
      meets (set_at t (child_number p.0 i)) (set_at t (child_number p.0 j)) ≡ false
  children_apart p d there i j ne below_i below_j =
      ⊎_elim (λ e. absurd (ne e)) (λ o. ⊎_elim (λ l. (tree.nodes p.0 there).apart i j d l below_j)
      (λ l. meets_swap (set_at t (child_number p.0 i)) (set_at t (child_number p.0 j))
      ((tree.nodes p.0 there).apart j i d l below_i)) o) (cases_order i j)

  apart_at : (p : Node) → is_disjoint t p.0 ≡ true → PartAt p (path_at t a) (path_at t b) →
      meets (points_at t a) (points_at t b) ≡ false
  apart_at p d h =
      apart_within (points_at t a) (points_at t b) (set_at t (child_number p.0 h.one.colour))
      (set_at t (child_number p.0 h.other.colour)) (subst
      (λ (n : Node). within (points_at t a) (set_at t (child_number n.0 h.one.colour)) ≡ true)
      h.of_one one.inside) (subst (λ (n : Node). within (points_at t b)
      (set_at t (child_number n.0 h.other.colour)) ≡ true) h.of_other other.inside)
      (children_apart p d (subst (λ (n : Node). n.0 < length t.nodes) h.of_one one.there)
      h.one.colour h.other.colour h.colours (subst (λ (n : Node). h.one.colour < colours_at t
      n.0) h.of_one one.colour) (subst (λ (n : Node). h.other.colour < colours_at t n.0)
      h.of_other other.colour))
    where
      one : LeadsTo t (points_at t a) h.one
      one =
          All-contains (LeadsTo t (points_at t a)) (path_at t a) h.one (tree.nodes a in_a).path
          (subst (λ (l : List Step). Contains l h.one) (sym h.first_path)
          (listed h.shared h.one h.rest))

      other : LeadsTo t (points_at t b) h.other
      other =
          All-contains (LeadsTo t (points_at t b)) (path_at t b) h.other (tree.nodes b in_b).path
          (subst (λ (l : List Step). Contains l h.other) (sym h.second_path)
          (listed h.shared h.other h.other_rest))

  pub apart_from_separated : separated t a b ≡ true → meets (points_at t a) (points_at t b) ≡ false
  apart_from_separated h =
      let parts = and_parts (eqb (root_at t a) (root_at t b))
      (parts_disjoint t (parting (path_at t a) (path_at t b))) h in
      let at = where_disjoint t (parting (path_at t a) (path_at t b)) parts.1 in
      apart_at at.0 at.2 (part_at-from_parting (path_at t a) (path_at t b) at.0 at.1)

-- ---- the test tells

separated_from : (t : RegionTree) (a b : ℕ) → AreSeparated t a b → separated t a b ≡ true
separated_from t a b s =
    and_from (eqb (root_at t a) (root_at t b))
    (parts_disjoint t (parting (path_at t a) (path_at t b)))
    (eq-eqb (root_at t a) (root_at t b) s.root)
    (ap (parts_disjoint t) (parting-from_part_at (path_at t a) (path_at t b) s.partition s.paths) ∙
    s.disjoint)

separated_is : (t : RegionTree) (a b : ℕ) → separated t a b ≡ true → AreSeparated t a b
separated_is t a b h =
    let parts = and_parts (eqb (root_at t a) (root_at t b))
    (parts_disjoint t (parting (path_at t a) (path_at t b))) h in
    let at = where_disjoint t (parting (path_at t a) (path_at t b)) parts.1 in
    record {
      root = eqb-true (root_at t a) (root_at t b) parts.0;
      partition = at.0;
      disjoint = at.2;
      paths = part_at-from_parting (path_at t a) (path_at t b) at.0 at.1;
    }

pub separated_tells : (r : Bool) (t : RegionTree) (a b : ℕ) → r ≡ separated t a b →
    (r ≡ true → AreSeparated t a b) × (AreSeparated t a b → r ≡ true)
separated_tells r t a b e = (λ h. separated_is t a b (sym e ∙ h), λ s. e ∙ separated_from t a b s)
