-- A node on the path of a region has all its points.
use Rattle.std.proofs.Common.{◌≡◌, ℕ, true, List, [], ◌∷◌, All, subst, ⊎_elim}
use Rattle.std.proofs.lemmas.Bool.{eqb-true, false≢true, or_cases}
use Rattle.std.proofs.lemmas.List.Elements.{All-head, All-tail}
use Rattle.std.specs.List.{list_any}
use Rattle.plain_values.specs.Points.{within}
use Rattle.region_tree.specs.Kept.{IsTree, LeadsTo}
use Rattle.region_tree.specs.Paths.{child_number, steps_to}
use Rattle.region_tree.specs.Trees.{RegionTree, IsRegion, node_at, path_at, points_at, set_at}
use Rattle.region_tree.specs.declared.path.Step.{Step}
use Rattle.region_tree.proofs.Growth.{points_of_region}

under_step : (t : RegionTree) (points : List ℕ) (n : ℕ) (ss : List Step) →
    All (LeadsTo t points) ss → list_any (steps_to n) ss ≡ true → within points (set_at t n) ≡ true
under_step t points n [] h e = absurd (false≢true e)
under_step t points n (s ∷ ss) h e =
    ⊎_elim (λ here. subst (λ k. within points (set_at t k) ≡ true)
    (eqb-true (child_number s.partition.0 s.colour) n here)
    (All-head (LeadsTo t points) s ss h).inside)
    (λ later. under_step t points n ss (All-tail (LeadsTo t points) s ss h) later)
    (or_cases (steps_to n s) (list_any (steps_to n) ss) e)

pub under_node : (t : RegionTree) → IsTree t → (a n : ℕ) → IsRegion t a →
    list_any (steps_to n) (path_at t a) ≡ true → within (set_at t a) (set_at t n) ≡ true
under_node t tree a n region e =
    subst (λ (ps : List ℕ). within ps (set_at t n) ≡ true)
    (points_of_region t (node_at t a).content region.kind)
    (under_step t (points_at t a) n (path_at t a) (tree.nodes a region.there).path e)
