-- Region trees (Language Support for Dynamic, Hierarchical Data Partitioning, OOPSLA 2013).
use Rattle.std.specs.Prelude.{◌≡◌, ◌+◌, ◌<◌, ℕ, Bool, true, false, ◌&&◌, ◌==◌, cond, nat_lt}
use Rattle.std.specs.Prelude.{List, [], ◌∷◌, ◌++◌, length, get_or, Option, Some, None}
use Rattle.region_tree.specs.Entries.{TreeNode}
use Rattle.region_tree.specs.Paths.{PartAt, child_number, parting}
use Rattle.region_tree.specs.declared.content.Content.{Content}
use Rattle.region_tree.specs.declared.content.Content.TheVariants.{Region, Partition}
use Rattle.region_tree.specs.declared.content.Node.{Node}
use Rattle.region_tree.specs.declared.path.Step.{Step}

-- how many roots there are, and the nodes; both are named by their numbers in order of making
pub record RegionTree : Type 0 where
  pub roots : ℕ
  pub nodes : List TreeNode

abbrev pub empty_tree : RegionTree
empty_tree = record { roots = 0; nodes = [] }

abbrev pub no_node : TreeNode
no_node = record { root = 0; path = []; content = Region [] }

abbrev pub node_at : RegionTree → ℕ → TreeNode
node_at t n = get_or t.nodes n no_node

-- ---- what is asked of a node

abbrev pub is_region : Content → Bool
is_region (Region xs) = true
is_region (Partition region disjoint colours) = false

-- a number is that of a node of the tree, of a region, of a partition
abbrev pub IsNode : RegionTree → ℕ → Type 0
IsNode t n = n < length t.nodes

pub record IsRegion (t : RegionTree) (n : ℕ) : Type 0 where
  pub there : n < length t.nodes
  pub kind : is_region (node_at t n).content ≡ true

pub record IsPartition (t : RegionTree) (n : ℕ) : Type 0 where
  pub there : n < length t.nodes
  pub kind : is_region (node_at t n).content ≡ false

-- the root of a node, and the path from there
abbrev pub root_at : RegionTree → ℕ → ℕ
root_at t n = (node_at t n).root

abbrev pub path_at : RegionTree → ℕ → List Step
path_at t n = (node_at t n).path

-- the number of colours of a partition, and whether it is disjoint
abbrev pub colours_in : Content → ℕ
colours_in (Region xs) = 0
colours_in (Partition region disjoint colours) = colours

abbrev pub disjoint_in : Content → Bool
disjoint_in (Region xs) = false
disjoint_in (Partition region disjoint colours) = disjoint

abbrev pub colours_at : RegionTree → ℕ → ℕ
colours_at t n = colours_in (node_at t n).content

abbrev pub is_disjoint : RegionTree → ℕ → Bool
is_disjoint t n = disjoint_in (node_at t n).content

-- the points of a region
abbrev pub points_of_content : Content → List ℕ
points_of_content (Region xs) = xs
points_of_content (Partition region disjoint colours) = []

abbrev pub set_at : RegionTree → ℕ → List ℕ
set_at t n = points_of_content (node_at t n).content

-- the points of a node: those of a region, and of a partition those of the region that it divides
abbrev pub points_by : RegionTree → Content → List ℕ
points_by t (Region xs) = xs
points_by t (Partition region disjoint colours) = set_at t region.0

abbrev pub points_at : RegionTree → ℕ → List ℕ
points_at t n = points_by t (node_at t n).content

-- the child of a partition by a colour
abbrev pub child_at : RegionTree → ℕ → ℕ → Option Node
child_at t p colour =
    cond (nat_lt colour (colours_at t p)) (Some (record { 0 = child_number p colour })) None

-- ---- separated nodes

-- whether two paths part at a disjoint partition
abbrev pub parts_disjoint : RegionTree → Option Node → Bool
parts_disjoint t None = false
parts_disjoint t (Some p) = is_disjoint t p.0

-- Whether two nodes are separated: their paths begin at one root, and where they part they go on to two
-- colours of a partition that is disjoint.
abbrev pub separated : RegionTree → ℕ → ℕ → Bool
separated t a b =
    (root_at t a == root_at t b) && parts_disjoint t (parting (path_at t a) (path_at t b))

-- that they are
pub record AreSeparated (t : RegionTree) (a b : ℕ) : Type 0 where
  pub root : root_at t a ≡ root_at t b
  pub partition : Node
  pub disjoint : is_disjoint t partition.0 ≡ true
  pub paths : PartAt partition (path_at t a) (path_at t b)

-- ---- how a tree grows

-- a root brings a region with its points
abbrev pub with_root : RegionTree → List ℕ → RegionTree
with_root t points = record {
  roots = t.roots + 1;
  nodes = t.nodes ++ record { root = t.roots; path = []; content = Region points } ∷ [];
}

-- the child by a colour of a partition, which divides the region of a node
abbrev pub child_of : TreeNode → ℕ → ℕ → List ℕ → TreeNode
child_of divided p colour set = record {
  root = divided.root;
  path = divided.path ++ record { partition = record { 0 = p }; colour = colour } ∷ [];
  content = Region set;
}

-- its children from a colour on
abbrev pub children : TreeNode → ℕ → ℕ → List (List ℕ) → List TreeNode
children divided p colour [] = []
children divided p colour (set ∷ sets) =
    child_of divided p colour set ∷ children divided p (colour + 1) sets

-- its own node
abbrev pub partition_of : TreeNode → ℕ → Bool → ℕ → TreeNode
partition_of divided region disjoint colours = record {
  root = divided.root;
  path = divided.path;
  content = Partition (record { 0 = region }) disjoint colours;
}

-- the nodes that a partition brings: itself, and behind it a child for each colour
abbrev pub partition_nodes : TreeNode → ℕ → ℕ → List (List ℕ) → Bool → List TreeNode
partition_nodes divided region p sets disjoint =
    partition_of divided region disjoint (length sets) ∷ children divided p 0 sets

abbrev pub with_partition : RegionTree → ℕ → List (List ℕ) → Bool → RegionTree
with_partition t region sets disjoint = record {
  roots = t.roots;
  nodes =
      t.nodes ++ partition_nodes (node_at t region) region (length t.nodes) sets disjoint;
}
