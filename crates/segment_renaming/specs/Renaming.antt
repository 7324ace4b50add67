-- Frames, parts and what a segment gives, where roots and nodes have other numbers.
use Rattle.std.specs.Prelude.{◌≡◌, ℕ, map, option_map}
use Rattle.region_tree.specs.declared.content.Node.{Node}
use Rattle.region_tree.specs.declared.needs.Need.{Need}
use Rattle.region_tree.specs.declared.piece.Part.{Part}
use Rattle.region_tree.specs.declared.tree.RootId.{RootId}
use Rattle.machine_terms.specs.declared.frame.Before.{Before}
use Rattle.machine_terms.specs.declared.frame.Frame.{Frame}
use Rattle.machine_terms.specs.declared.outcome.After.{After}
use Rattle.machine_terms.specs.declared.outcome.CallOut.{CallOut}
use Rattle.machine_terms.specs.declared.outcome.Made.{Made}
use Rattle.machine_terms.specs.declared.outcome.Made.TheVariants as made
use Rattle.machine_terms.specs.declared.outcome.Yield.{Yield}
use Rattle.machine_terms.specs.declared.outcome.Yield.TheVariants as yield
use Rattle.machine_terms.specs.declared.value.PartitionValue.{PartitionValue}
use Rattle.machine_terms.specs.declared.value.RegionValue.{RegionValue}
use Rattle.machine_terms.specs.declared.value.Value.{Value}
use Rattle.machine_terms.specs.declared.value.Value.TheVariants as value
use Rattle.machine_terms.specs.Machine.{Machine, Stepped, goes, prints, stops}
use Rattle.machine_terms.specs.Segments.{Stopped, segment}

-- the numbers of roots, and those of nodes
pub record Names : Type 0 where
  pub root : ℕ → ℕ
  pub node : ℕ → ℕ

-- no two roots have the same number then
abbrev pub IsOneToOne : Names → Type 0
IsOneToOne n = (a b : ℕ) → n.root a ≡ n.root b → a ≡ b

module _ (n : Names) where
  abbrev pub root_to : RootId → RootId
  root_to r = record { 0 = n.root r.0 }

  abbrev pub node_to : Node → Node
  node_to r = record { 0 = n.node r.0 }

  abbrev pub region_to : RegionValue → RegionValue
  region_to r = record { root = root_to r.root; node = node_to r.node; points = r.points }

  abbrev pub partition_to : PartitionValue → PartitionValue
  partition_to p = record {
    root = root_to p.root;
    disjoint = p.disjoint;
    children = map region_to p.children;
  }

  abbrev pub value_to : Value → Value
  value_to (value.Number z) = value.Number z
  value_to (value.Space s) = value.Space s
  value_to (value.Region r) = value.Region (region_to r)
  value_to (value.Partition p) = value.Partition (partition_to p)
  value_to (value.Pending i) = value.Pending i

  abbrev pub need_to : Need → Need
  need_to d = record { root = root_to d.root; node = node_to d.node; field = d.field; mode = d.mode }

  abbrev pub part_to : Part → Part
  part_to q = record { root = root_to q.root; field = q.field; kind = q.kind; pieces = q.pieces }

  abbrev pub frame_to : Frame → Frame
  frame_to f = record {
    task = f.task;
    pc = f.pc;
    slots = map value_to f.slots;
    stack = map value_to f.stack;
    turns = f.turns;
    depth = f.depth;
    needs = record { items = map need_to f.needs.items };
    own = map root_to f.own;
    children = f.children;
    later = f.later;
  }

  abbrev pub machine_to : Machine → Machine
  machine_to m = record { frame = frame_to m.frame; parts = map part_to m.parts }

  abbrev pub call_to : CallOut → CallOut
  call_to c = record { task = c.task; args = map value_to c.args }

  abbrev pub made_to : Made → Made
  made_to (made.Root space fields) = made.Root space fields
  made_to (made.Partition r sets disjoint) = made.Partition (region_to r) sets disjoint

  abbrev pub yield_to : Yield → Yield
  yield_to (yield.Calls cs) = yield.Calls (map call_to cs)
  yield_to (yield.Want r f) = yield.Want (root_to r) f
  yield_to (yield.Await i) = yield.Await i
  yield_to (yield.Make d) = yield.Make (made_to d)
  yield_to (yield.End v) = yield.End v
  yield_to (yield.Fault f) = yield.Fault f
  yield_to yield.MachineFault = yield.MachineFault

  abbrev pub stepped_to : Stepped → Stepped
  stepped_to (goes m) = goes (machine_to m)
  stepped_to (prints t m) = prints t (machine_to m)
  stepped_to (stops y m) = stops (yield_to y) (machine_to m)

  abbrev pub stopped_to : Stopped → Stopped
  stopped_to s = record { ends = yield_to s.ends; machine = machine_to s.machine; text = s.text }

  abbrev pub before_to : Before → Before
  before_to b = record { code = b.code; frame = frame_to b.frame; parts = map part_to b.parts }

  abbrev pub after_to : After → After
  after_to a = record {
    frame = option_map frame_to a.frame;
    parts = map part_to a.parts;
    text = a.text;
    ends = yield_to a.ends;
  }

-- where roots and nodes have other numbers, no two roots the same one, a segment gives the same with these
-- numbers
abbrev pub SegmentsRunRenamed : Type 0
SegmentsRunRenamed = (n : Names) → IsOneToOne n → (b : Before) → segment (before_to n b) ≡ after_to n (segment b)
