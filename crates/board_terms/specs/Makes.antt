-- Roots and partitions that are made on a board.
use Rattle.std.specs.Prelude.{ℕ, zero, suc, List, [], ◌∷◌, ◌++◌, ◌==◌, ◌&&◌, Bool, length, nat_lt}
use Rattle.plain_values.specs.Points.{points}
use Rattle.lane_kernels.specs.declared.numbers.Mode.TheVariants.{Write}
use Rattle.region_tree.specs.declared.needs.Need.{Need}
use Rattle.region_tree.specs.declared.tree.RootId.{RootId}
use Rattle.region_tree.specs.Paths.{child_number}
use Rattle.region_tree.specs.Trees.{RegionTree, is_region, node_at, root_at, with_partition, with_root}
use Rattle.logical_map.specs.Maps.{opened}
use Rattle.task_code.specs.declared.code.Code.{Code}
use Rattle.machine_terms.specs.declared.frame.Frame.{Frame}
use Rattle.machine_terms.specs.declared.value.RegionValue.{RegionValue}
use Rattle.machine_terms.specs.declared.value.Value.TheVariants as value
use Rattle.machine_terms.specs.Contents.{kinds_of}
use Rattle.machine_terms.specs.Makes.{fields_needed, pushed}
use Rattle.board_terms.specs.States.{State, operation_at, with_operation}

-- whether a region that a value names is one of the tree: its node is a region, of its root
abbrev pub is_here : RegionTree → RegionValue → Bool
is_here t r = nat_lt r.node.0 (length t.nodes)
    && (is_region (node_at t r.node.0).content && (root_at t r.node.0 == r.root.0))

abbrev pub region_at : RootId → ℕ → List ℕ → RegionValue
region_at root node xs = record { root = root; node = record { 0 = node }; points = xs }

abbrev pub next_root : State → RootId
next_root s = record { 0 = s.tree.roots }

abbrev pub next_node : State → ℕ
next_node s = length s.tree.nodes

-- ---- roots

-- the first so many fields of a new root are needed for writing
abbrev pub needs_of_root : RootId → ℕ → ℕ → List Need
needs_of_root root node zero = []
needs_of_root root node (suc field) = needs_of_root root node field
    ++ record { root = root; node = record { 0 = node }; field = field; mode = Write } ∷ []

-- the root's region is on the stack, and its fields are needed
abbrev pub frame_with_root : Code → RootId → ℕ → ℕ → ℕ → Frame → Frame
frame_with_root code root node size space f = record f {
  stack = value.Region (region_at root node (points size)) ∷ f.stack;
  needs = record { items = f.needs.items ++ needs_of_root root node (fields_needed code size space) };
  own = f.own ++ root ∷ [];
}

-- a root that holds the zeros of its fields
abbrev pub root_made : Code → ℕ → ℕ → State → ℕ → State
root_made code size space s k = record
    (with_operation s k (record (operation_at s k) {
      frame = frame_with_root code (next_root s) (next_node s) size space (operation_at s k).frame;
    })) {
      tree = with_root s.tree (points size);
      roots = s.roots ++ record { space = space; count = size } ∷ [];
      map = opened s.tree.roots (points size) (kinds_of code space) s.map;
    }

-- ---- partitions

-- a region for each colour, from one on
abbrev pub children_from : RootId → ℕ → ℕ → List (List ℕ) → List RegionValue
children_from root partition colour [] = []
children_from root partition colour (xs ∷ rest) =
    region_at root (child_number partition colour) xs ∷ children_from root partition (suc colour) rest

-- the partition is on the stack
abbrev pub partition_made : RegionValue → List (List ℕ) → Bool → State → ℕ → State
partition_made r sets disjoint s k = record
    (with_operation s k (record (operation_at s k) {
      frame = pushed (value.Partition (record {
        root = r.root;
        disjoint = disjoint;
        children = children_from r.root (next_node s) 0 sets;
      })) (operation_at s k).frame;
    })) {
      tree = with_partition s.tree r.node.0 sets disjoint;
    }
