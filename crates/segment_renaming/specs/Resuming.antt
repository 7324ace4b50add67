-- What a task instance is given between its segments, where roots and nodes have other numbers: the value of a
-- child, the frame in which a task begins, and the value of what was made.
use Rattle.std.specs.Prelude.{◌≡◌, ℕ, ℤ, List, [], ◌∷◌, ◌++◌, Bool, map}
use Rattle.task_code.specs.declared.code.TaskCode.{TaskCode}
use Rattle.machine_terms.specs.declared.frame.Frame.{Frame}
use Rattle.machine_terms.specs.declared.value.RegionValue.{RegionValue}
use Rattle.machine_terms.specs.declared.value.Value.{Value}
use Rattle.machine_terms.specs.declared.value.Value.TheVariants.{Partition, Region}
use Rattle.machine_terms.specs.Makes.{pushed, region_with, root_needs}
use Rattle.machine_terms.specs.Opening.{opening}
use Rattle.machine_terms.specs.Orders.{settled}
use Rattle.segment_renaming.specs.Renaming.{Names, frame_to, region_to, value_to}

-- the frame with a child's value in every slot that held the child
abbrev pub awaited : ℕ → ℤ → Frame → Frame
awaited child z f = record f { slots = map (settled child z) f.slots }

abbrev pub AwaitedRenamed : Type 0
AwaitedRenamed = (n : Names) (child : ℕ) (z : ℤ) (f : Frame) → awaited child z (frame_to n f) ≡ frame_to n (awaited child z f)

-- the frame in which a task begins on renamed arguments is that frame, renamed
abbrev pub OpeningsRenamed : Type 0
OpeningsRenamed = (n : Names) (turns depth task : ℕ) (t : TaskCode) (vs : List Value) →
    opening turns depth task t (map (value_to n) vs) ≡ frame_to n (opening turns depth task t vs)

-- ---- what was made, whose nodes are 0 as in the run in order

-- the frame with a new root of these points, of which so many fields are needed
abbrev pub with_root : ℕ → List ℕ → ℕ → Frame → Frame
with_root root points fields f = record f {
  stack = Region (region_with root points) ∷ f.stack;
  needs = record { items = f.needs.items ++ root_needs root fields };
  own = f.own ++ record { 0 = root } ∷ [];
}

abbrev pub RootsRenamed : Type 0
RootsRenamed = (n : Names) → n.node 0 ≡ 0 → (root : ℕ) (points : List ℕ) (fields : ℕ) (f : Frame) →
    with_root (n.root root) points fields (frame_to n f) ≡ frame_to n (with_root root points fields f)

-- the frame with a new partition of a region
abbrev pub with_partition : RegionValue → List (List ℕ) → Bool → Frame → Frame
with_partition r sets disjoint f = pushed (Partition (record {
  root = r.root;
  disjoint = disjoint;
  children = map (region_with r.root.0) sets;
})) f

abbrev pub PartitionsRenamed : Type 0
PartitionsRenamed = (n : Names) → n.node 0 ≡ 0 → (r : RegionValue) (sets : List (List ℕ)) (disjoint : Bool) (f : Frame) →
    with_partition (region_to n r) sets disjoint (frame_to n f) ≡ frame_to n (with_partition r sets disjoint f)
