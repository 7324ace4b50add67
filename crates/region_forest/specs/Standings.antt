-- What a forest keeps beside its tree: how each node stands.
use Rattle.std.specs.Prelude.{◌≡◌, ◌<◌, ◌+◌, ℕ, Bool, true, false, List, [], ◌∷◌, Option, Some, None, map, suc, zero}
use Rattle.region_tree.specs.Entries.{TreeNode}
use Rattle.region_tree.specs.Kept.{IsTree}
use Rattle.region_tree.specs.Trees.{RegionTree, IsNode, node_at, root_at}
use Rattle.region_tree.specs.declared.content.Content.{Content}
use Rattle.region_tree.specs.declared.content.Content.TheVariants as content
use Rattle.region_tree.specs.declared.content.Node.{Node}
use Rattle.region_finder.specs.Forests.{IsForest, Upward, last_step}
use Rattle.region_forest.specs.declared.standing.Standing.{Standing}
use Rattle.region_forest.specs.declared.standing.Standing.TheVariants.{Root, Child, Partition}

-- by what a node is, and the last step of the path to it
abbrev pub standing_by : Content → Option Upward → Standing
standing_by (content.Region points) None = Root
standing_by (content.Region points) (Some s) = Child s.0 s.1
standing_by (content.Partition region disjoint colours) s = Partition region

abbrev pub standing_of : TreeNode → Standing
standing_of x = standing_by x.content (last_step x.path)

abbrev pub standing_at : RegionTree → ℕ → Standing
standing_at t n = standing_of (node_at t n)

-- what stands above a node that stands so
abbrev pub above_by : Standing → Option Upward
above_by Root = None
above_by (Child partition colour) = Some (partition, colour)
above_by (Partition region) = Some (region, 0)

-- whether it is a region
abbrev pub is_region_by : Standing → Bool
is_region_by (Partition region) = false
is_region_by _ = true

-- the region that has its points
abbrev pub holder_by : Standing → Node → Node
holder_by (Partition region) n = region
holder_by _ n = n

-- how a partition of a region and its children stand
abbrev pub child_standings : Node → ℕ → ℕ → List Standing
child_standings p colour zero = []
child_standings p colour (suc left) = Child p colour ∷ child_standings p (colour + 1) left

abbrev pub partition_standings : Node → Node → ℕ → List Standing
partition_standings region p colours = Partition region ∷ child_standings p 0 colours

-- what a forest keeps
pub record IsKept (t : RegionTree) (standings : List Standing) : Type 0 where
  pub tree : IsTree t
  pub forest : IsForest t
  pub rooted : (n : ℕ) → IsNode t n → root_at t n < t.roots
  pub listed : standings ≡ map standing_of t.nodes
