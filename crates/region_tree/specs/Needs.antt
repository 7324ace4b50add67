-- Needs of a tree's regions, as requirements.
use Rattle.std.specs.Prelude.{◌≡◌, List, All, map}
use Rattle.region_tree.specs.Requirements.{Requirement}
use Rattle.region_tree.specs.Trees.{RegionTree, IsRegion, root_at, set_at}
use Rattle.region_tree.specs.declared.needs.Need.{Need}

-- a need names a region of the tree, with the region's root
pub record IsNeed (t : RegionTree) (n : Need) : Type 0 where
  pub region : IsRegion t n.node.0
  pub root : n.root.0 ≡ root_at t n.node.0

abbrev pub AreNeeds : RegionTree → List Need → Type 0
AreNeeds t ns = All (IsNeed t) ns

-- it requires the region's points
abbrev pub requirement_of : RegionTree → Need → Requirement
requirement_of t n = record {
  root = n.root.0;
  points = set_at t n.node.0;
  field = n.field;
  mode = n.mode;
}

abbrev pub requirements_of : RegionTree → List Need → List Requirement
requirements_of t ns = map (requirement_of t) ns
