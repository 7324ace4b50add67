-- Which region has the points of a node.
use Rattle.std.specs.Prelude.{None, Option, Some}
use Rattle.std.proofs.Common.{◌≡◌, ◌<◌, ◌∙◌, ℕ, List, ap, refl, subst, sym, length}
use Rattle.region_tree.specs.Kept.{DividesRegion, IsTree}
use Rattle.region_tree.specs.Trees.{RegionTree, IsRegion, is_region, node_at, points_at, points_by, points_of_content, set_at}
use Rattle.region_tree.specs.declared.content.Content.{Content}
use Rattle.region_tree.specs.declared.content.Content.TheVariants.{Region, Partition}
use Rattle.region_tree.specs.declared.content.Node.{Node}
use Rattle.region_finder.specs.Forests.{Upward, last_step}
use Rattle.region_forest.specs.Standings.{holder_by, standing_at, standing_by}

-- a region with the points of a node
pub record IsHolder (t : RegionTree) (n : ℕ) (h : Node) : Type 0 where
  pub region : IsRegion t h.0
  pub points : set_at t h.0 ≡ points_at t n

own_holder : (points : List ℕ) (o : Option Upward) (n : Node) → holder_by (standing_by (Region points) o) n ≡ n
own_holder points None n = refl
own_holder points (Some s) n = refl

holds : (t : RegionTree) (n : Node) → n.0 < length t.nodes → (c : Content) (o : Option Upward) → (node_at t n.0).content ≡ c →
    DividesRegion t c → IsHolder t n.0 (holder_by (standing_by c o) n)
holds t n l (Region points) o e d = subst (IsHolder t n.0) (sym (own_holder points o n)) (record {
  region = record { there = l; kind = ap is_region e };
  points = ap points_of_content e ∙ sym (ap (points_by t) e);
})
holds t n l (Partition region disjoint colours) o e d = record {
  region = d;
  points = sym (ap (points_by t) e);
}

pub holder : (t : RegionTree) (n : Node) → IsTree t → n.0 < length t.nodes →
    IsHolder t n.0 (holder_by (standing_at t n.0) n)
holder t n tree l = holds t n l (node_at t n.0).content (last_step (node_at t n.0).path) refl (tree.nodes n.0 l).divides
