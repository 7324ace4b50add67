-- Roots and partitions that segments make.
use Rattle.std.specs.Prelude.{◌<◌, ◌&&◌, ℕ, List, Bool, length}
use Rattle.region_tree.specs.Trees.{RegionTree, set_at}
use Rattle.region_tree.specs.declared.tree.RootId.{RootId}
use Rattle.logical_map.specs.Maps.{LiveRoot}
use Rattle.task_code.specs.declared.code.Code.{Code}
use Rattle.machine_terms.specs.declared.frame.Frame.{Frame}
use Rattle.machine_terms.specs.declared.outcome.After.{After}
use Rattle.machine_terms.specs.declared.value.RegionValue.{RegionValue}
use Rattle.machine_terms.specs.declared.value.Value.TheVariants as value
use Rattle.machine_terms.specs.Makes.{is_sound, pushed}
use Rattle.board_terms.specs.declared.operation.Operation.{Operation}
use Rattle.board_terms.specs.declared.operation.Wait.TheVariants.{Nothing}
use Rattle.board_terms.specs.Gives.{behind_segment, frame_left}
use Rattle.board_terms.specs.Makes.{children_from, frame_with_root, is_here}

-- ---- roots

-- a root has a number below this
abbrev pub IsRootBelow : ℕ → LiveRoot → Type 0
IsRootBelow n r = r.root < n

-- an operation that made the next root of a tree, and waits for nothing
abbrev pub rooted_with : Code → RegionTree → ℕ → ℕ → Operation → After → Operation
rooted_with code t size space o a = record (behind_segment o a) {
  frame = frame_with_root code (record { 0 = t.roots }) (length t.nodes) size space (frame_left o.frame a.frame);
  wait = Nothing;
}

-- ---- partitions

-- a region may have a partition into these sets
abbrev pub may_part : RegionTree → RegionValue → List (List ℕ) → Bool → Bool
may_part t r sets disjoint = is_here t r && is_sound (set_at t r.node.0) sets disjoint

-- a partition, by the number of its node, is on the stack
abbrev pub frame_with_partition : ℕ → RootId → List (List ℕ) → Bool → Frame → Frame
frame_with_partition node root sets disjoint f = pushed (value.Partition (record {
  root = root;
  disjoint = disjoint;
  children = children_from root node 0 sets;
})) f

-- an operation that made the next partition of a tree, and waits for nothing
abbrev pub parted_with : RegionTree → RegionValue → List (List ℕ) → Bool → Operation → After → Operation
parted_with t r sets disjoint o a = record (behind_segment o a) {
  frame = frame_with_partition (length t.nodes) r.root sets disjoint (frame_left o.frame a.frame);
  wait = Nothing;
}
