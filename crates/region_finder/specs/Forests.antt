-- Region trees seen from below: what stands above a node.
use Rattle.std.specs.Prelude.{◌≡◌, ◌<◌, ◌++◌, ℕ, true, false, List, [], ◌∷◌, Option, Some, None, length, not}
use Rattle.std.specs.Prelude.{suc, zero}
use Rattle.plain_values.specs.Points.{meets, within}
use Rattle.region_tree.specs.Trees.{RegionTree, IsNode, is_region, node_at, path_at, points_at, root_at, separated}
use Rattle.region_tree.specs.declared.content.Content.{Content}
use Rattle.region_tree.specs.declared.content.Content.TheVariants.{Region, Partition}
use Rattle.region_tree.specs.declared.content.Node.{Node}
use Rattle.region_tree.specs.declared.path.Step.{Step}

-- what stands above a node, with a colour
abbrev pub Upward : Type 0
Upward = Node × ℕ

abbrev pub last_step : List Step → Option Upward
last_step [] = None
last_step (s ∷ []) = Some (s.partition, s.colour)
last_step (s ∷ t ∷ ss) = last_step (t ∷ ss)

abbrev pub above_content : Content → List Step → Option Upward
above_content (Region points) path = last_step path
above_content (Partition region disjoint colours) path = Some (region, 0)

-- above a child its partition with its colour, above a partition the region that it divides with 0, and
-- above the region of a root nothing
abbrev pub above : RegionTree → ℕ → Option Upward
above t n = above_content (node_at t n).content (path_at t n)

-- the path of a node goes on from that of what stands above it: by a step to a child, and of a partition
-- it is the same
abbrev pub path_from : Content → List Step → Upward → List Step
path_from (Region points) path s = path ++ record { partition = s.0; colour = s.1 } ∷ []
path_from (Partition region disjoint colours) path s = path

-- what stands above a node has a smaller number, its root, and all its points; partitions stand above regions,
-- and regions above partitions
pub record StandsAbove (t : RegionTree) (n : ℕ) (s : Upward) : Type 0 where
  pub smaller : s.0.0 < n
  pub root : root_at t s.0.0 ≡ root_at t n
  pub points : within (points_at t n) (points_at t s.0.0) ≡ true
  pub path : path_at t n ≡ path_from (node_at t n).content (path_at t s.0.0) s
  pub kind : is_region (node_at t s.0.0).content ≡ not (is_region (node_at t n).content)

-- A tree in which one can go up: beside what stands above nodes, two roots have two numbers, and separated
-- nodes share no point.
pub record IsForest (t : RegionTree) : Type 0 where
  pub upward : (n : ℕ) (s : Upward) → IsNode t n → above t n ≡ Some s → StandsAbove t n s
  pub roots : (a b : ℕ) → IsNode t a → IsNode t b → above t a ≡ None → above t b ≡ None →
      root_at t a ≡ root_at t b → a ≡ b
  pub apart : (a b : ℕ) → IsNode t a → IsNode t b → separated t a b ≡ true →
      meets (points_at t a) (points_at t b) ≡ false

-- ---- the way up from a node

-- the step up, if there is one, and what comes behind it
abbrev pub and_on : Option Upward → (ℕ → List Upward) → List Upward
and_on None onward = []
and_on (Some s) onward = s ∷ onward s.0.0

-- at most so many steps; numbers fall on the way, so a node's own number and one more are enough
abbrev pub climbed : ℕ → RegionTree → ℕ → List Upward
climbed zero t n = []
climbed (suc k) t n = and_on (above t n) (climbed k t)

-- what stands above a node, what stands above that, and so on up to the region of its root
abbrev pub way_up : RegionTree → ℕ → List Upward
way_up t n = climbed (suc n) t n
