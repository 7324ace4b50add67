-- What every region tree keeps.
use Rattle.std.specs.Prelude.{◌≡◌, ◌<◌, ◌≤◌, ℕ, true, false, All, List, length}
use Rattle.plain_values.specs.Points.{meets, within}
use Rattle.region_tree.specs.Trees.{RegionTree, IsRegion, path_at, points_at, set_at, colours_at}
use Rattle.region_tree.specs.Paths.{child_number}
use Rattle.region_tree.specs.Trees.{is_disjoint, node_at}
use Rattle.region_tree.specs.declared.content.Content.{Content}
use Rattle.region_tree.specs.declared.content.Content.TheVariants.{Region, Partition}
use Rattle.region_tree.specs.declared.path.Step.{Step}

-- the child of a partition by a colour is a region, within the one that the partition divides
pub record IsChild (t : RegionTree) (p colour : ℕ) : Type 0 where
  pub region : IsRegion t (child_number p colour)
  pub inside : within (set_at t (child_number p colour)) (points_at t p) ≡ true

-- the children of a disjoint partition share no point
abbrev pub AreApart : RegionTree → ℕ → Type 0
AreApart t p =
    (i j : ℕ) → is_disjoint t p ≡ true → i < j → j < colours_at t p →
    meets (set_at t (child_number p i)) (set_at t (child_number p j)) ≡ false

-- a step of the path to a node leads to a child that has all points of the node
pub record LeadsTo (t : RegionTree) (points : List ℕ) (s : Step) : Type 0 where
  pub there : s.partition.0 < length t.nodes
  pub colour : s.colour < colours_at t s.partition.0
  pub inside : within points (set_at t (child_number s.partition.0 s.colour)) ≡ true

-- a partition divides a region
abbrev pub DividesRegion : RegionTree → Content → Type 0
DividesRegion t (Region xs) = Unit {0}
DividesRegion t (Partition region disjoint colours) = IsRegion t region.0

-- what is so of each node of a tree
pub record IsKept (t : RegionTree) (n : ℕ) : Type 0 where
  pub divides : DividesRegion t (node_at t n).content
  pub children : (colour : ℕ) → colour < colours_at t n → IsChild t n colour
  pub apart : AreApart t n
  pub path : All (LeadsTo t (points_at t n)) (path_at t n)

-- a region tree
pub record IsTree (t : RegionTree) : Type 0 where
  pub counted : t.roots ≤ length t.nodes
  pub nodes : (n : ℕ) → n < length t.nodes → IsKept t n

-- a tree has grown: what was there is as it was
pub record Grows (t u : RegionTree) : Type 0 where
  pub roots : t.roots ≤ u.roots
  pub nodes : length t.nodes ≤ length u.nodes
  pub same : (n : ℕ) → n < length t.nodes → node_at u n ≡ node_at t n
