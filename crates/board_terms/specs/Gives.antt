-- What a segment that is given back makes of the board.
use Rattle.std.specs.Prelude.{ℕ, List, [], ◌∷◌, ◌++◌, ◌==◌, ◌&&◌, Bool, cond, filter, length, Option, Some, None, slice_get}
use Rattle.region_tree.specs.declared.needs.Need.{Need}
use Rattle.region_tree.specs.declared.needs.Needs.{Needs}
use Rattle.region_tree.specs.declared.piece.Part.{Part}
use Rattle.region_tree.specs.Trees.{set_at}
use Rattle.region_tree.specs.declared.tree.OpNumber.{OpNumber}
use Rattle.logical_map.specs.Gives.{add_reduction, put_back}
use Rattle.logical_map.specs.Maps.{LogicalMap}
use Rattle.dependence_graph.specs.Graphs.{parked}
use Rattle.dependence_graph.specs.declared.stage.Waiting.{Waiting}
use Rattle.dependence_graph.specs.declared.stage.Waiting.TheVariants as graph
use Rattle.task_code.specs.declared.code.Code.{Code}
use Rattle.machine_terms.specs.declared.frame.Frame.{Frame}
use Rattle.machine_terms.specs.declared.outcome.After.{After}
use Rattle.machine_terms.specs.declared.outcome.Made.{Made}
use Rattle.machine_terms.specs.declared.outcome.Made.TheVariants as made
use Rattle.machine_terms.specs.declared.outcome.Yield.{Yield}
use Rattle.machine_terms.specs.declared.outcome.Yield.TheVariants as yield
use Rattle.machine_terms.specs.Makes.{is_sound}
use Rattle.machine_terms.specs.Segments.{segment}
use Rattle.board_terms.specs.declared.operation.Ending.{Ending}
use Rattle.board_terms.specs.declared.operation.Ending.TheVariants as ending
use Rattle.board_terms.specs.declared.operation.Operation.{Operation}
use Rattle.board_terms.specs.declared.operation.Said.{Said}
use Rattle.board_terms.specs.declared.operation.Activity.{Activity}
use Rattle.board_terms.specs.declared.operation.Activity.TheVariants.{Closing, Idle, Out}
use Rattle.board_terms.specs.declared.operation.Wait.{Wait}
use Rattle.board_terms.specs.declared.operation.Wait.TheVariants as wait
use Rattle.board_terms.specs.Calls.{called}
use Rattle.board_terms.specs.Closings.{followed}
use Rattle.board_terms.specs.Makes.{is_here, partition_made, root_made}
use Rattle.board_terms.specs.States.{State, no_frame, operation_at, with_operation}

-- ---- parts that go back

-- what a part's pieces for writing and its reductions make of the map
abbrev pub with_part : Part → LogicalMap → LogicalMap
with_part q roots = put_back q (add_reduction q roots)

abbrev pub with_parts : List Part → LogicalMap → LogicalMap
with_parts [] roots = roots
with_parts (q ∷ qs) roots = with_parts qs (with_part q roots)

-- no part is held behind that
abbrev pub parts_given : State → ℕ → State
parts_given s k = record (with_operation s k (record (operation_at s k) { parts = [] })) {
  map = with_parts (operation_at s k).parts s.map;
}

-- ---- what the segment leaves

-- what is printed, if anything
abbrev pub also_said : ℕ → List ℕ → List Said → List Said
also_said children [] said = said
also_said children (b ∷ bs) said = said ++ record { children = children; text = b ∷ bs } ∷ []

-- when its own work has ended, an operation keeps the roots that it made
abbrev pub frame_left : Frame → Option Frame → Frame
frame_left f (Some g) = g
frame_left f None = record no_frame { own = f.own }

abbrev pub behind_segment : Operation → After → Operation
behind_segment o a = record o {
  frame = frame_left o.frame a.frame;
  parts = a.parts;
  said = also_said (length o.children) a.text o.said;
  activity = Idle;
}

-- ---- what it yields

-- its own work has ended, and it holds no part
abbrev pub ended_by : State → ℕ → Ending → State
ended_by s k e = with_operation s k (record (operation_at s k) { parts = []; activity = Closing e })

abbrev pub is_on : ℕ → ℕ → Need → Bool
is_on root field n = (n.root.0 == root) && (n.field == field)

-- its needs of a field of a root
abbrev pub needs_on : Frame → ℕ → ℕ → Needs
needs_on f root field = record { items = filter (is_on root field) f.needs.items }

-- what it waits for in the graph: a child that isn't there isn't waited for
abbrev pub waits_for : Option OpNumber → Waiting
waits_for None = graph.Nothing
waits_for (Some child) = graph.Child child

abbrev pub parked_for : State → ℕ → Wait → Waiting → State
parked_for s k w on = record (with_operation s k (record (operation_at s k) { wait = w })) {
  waits = parked s.tree s.waits k on;
}

-- Sets that leave their region or break their flag break the operation.
abbrev pub making : Code → Made → State → ℕ → State
making code (made.Root size space) s k = parked_for (root_made code size space s k) k wait.Nothing graph.Nothing
making code (made.Partition r sets disjoint) s k = cond
    (is_here s.tree r && is_sound (set_at s.tree r.node.0) sets disjoint)
    (parked_for (partition_made r sets disjoint s k) k wait.Nothing graph.Nothing)
    (ended_by s k ending.Broken)

abbrev pub yielded : Code → ℕ → State → ℕ → Yield → State
yielded code turns s k (yield.Calls cs) = called code turns (parts_given s k) k cs
yielded code turns s k (yield.Want root field) =
    parked_for s k (wait.Part root field) (graph.Part (needs_on (operation_at s k).frame root.0 field))
yielded code turns s k (yield.Await n) =
    parked_for s k (wait.Child n) (waits_for (slice_get (operation_at s k).children n))
yielded code turns s k (yield.Make m) = making code m s k
yielded code turns s k (yield.End v) = ended_by (parts_given s k) k (ending.Value v)
yielded code turns s k (yield.Fault f) = ended_by s k (ending.Fault f)
yielded code turns s k yield.MachineFault = ended_by s k ending.Broken

-- ---- a give

abbrev pub given_after : Code → ℕ → State → ℕ → After → State
given_after code turns s k a =
    followed (yielded code turns (with_operation s k (behind_segment (operation_at s k) a)) k a.ends) k

abbrev pub given_in : Code → ℕ → State → ℕ → ℕ → Activity → Option State
given_in code turns s k seat (Out c before) = cond (c.seat == seat)
    (Some (given_after code turns s k (segment before))) None
given_in code turns s k seat st = None

-- where that seat's claim is out, and else nowhere
abbrev pub given : Code → ℕ → State → ℕ → ℕ → Option State
given code turns s k seat = given_in code turns s k seat (operation_at s k).activity
