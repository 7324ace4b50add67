-- The state of a board.
use Rattle.std.specs.Prelude.{ℕ, List, [], ◌∷◌, cond, Option, Some, None, get_or, set, slice_get}
use Rattle.region_tree.specs.Trees.{RegionTree, empty_tree}
use Rattle.region_tree.specs.declared.tree.OpNumber.{OpNumber}
use Rattle.logical_map.specs.Maps.{LogicalMap}
use Rattle.dependence_graph.specs.Graphs.{Waits, ended, new_graph, parked_on}
use Rattle.dependence_graph.specs.Knots.{number}
use Rattle.dependence_graph.specs.declared.stage.How.TheVariants.{Failed}
use Rattle.task_code.specs.declared.code.TaskCode.{TaskCode}
use Rattle.task_code.specs.declared.job.Job.{Job}
use Rattle.machine_terms.specs.declared.frame.Frame.{Frame}
use Rattle.machine_terms.specs.Jobs.{first_frame, may_start}
use Rattle.board_terms.specs.declared.extent.Extent.{Extent}
use Rattle.board_terms.specs.declared.operation.Ending.TheVariants.{Broken}
use Rattle.board_terms.specs.declared.operation.Operation.{Operation}
use Rattle.board_terms.specs.declared.operation.Activity.{Activity}
use Rattle.board_terms.specs.declared.operation.Activity.TheVariants.{Closing, Idle}
use Rattle.board_terms.specs.declared.operation.Wait.TheVariants.{Beginning}

abbrev pub no_extent : Extent
no_extent = record { space = 0; count = 0 }

-- The regions that were made, the roots' extents in order of making, what the live roots hold, the operations in
-- order of issue, what waits for what among them, and how many claims there were.
pub record State : Type 0 where
  pub tree : RegionTree
  pub roots : List Extent
  pub map : LogicalMap
  pub operations : List Operation
  pub waits : Waits
  pub turns : ℕ

-- ---- operations

abbrev pub no_frame : Frame
no_frame = record {
  task = 0;
  pc = 0;
  slots = [];
  stack = [];
  turns = 0;
  depth = 0;
  needs = record { items = [] };
  own = [];
  children = 0;
  later = None;
}

-- one that begins in a frame, called by another one
abbrev pub called_by : OpNumber → Frame → Operation
called_by parent f = record {
  parent = parent;
  children = [];
  frame = f;
  parts = [];
  said = [];
  wait = Beginning;
  activity = Idle;
}

-- a number that was never issued is none of these
abbrev pub no_operation : Operation
no_operation = called_by (number 0) no_frame

abbrev pub operation_at : State → ℕ → Operation
operation_at s k = get_or s.operations k no_operation

abbrev pub with_operation : State → ℕ → Operation → State
with_operation s k o = record s { operations = set s.operations k o }

abbrev pub doing : State → ℕ → Activity → State
doing s k st = with_operation s k (record (operation_at s k) { activity = st })

-- ---- the beginning

-- main alone
abbrev pub begun_with : Operation → Waits → State
begun_with main waits = record {
  tree = empty_tree;
  roots = [];
  map = [];
  operations = main ∷ [];
  waits = waits;
  turns = 0;
}

-- main is idle, and waits for nothing
abbrev pub with_main : Frame → State
with_main f = begun_with (called_by (number 0) f) (parked_on new_graph 0 [])

-- main is broken from the start, where the job is void
abbrev pub void_state : State
void_state = begun_with (record no_operation { activity = Closing Broken }) (ended new_graph 0 Failed)

abbrev pub opened_with : Job → Option TaskCode → State
opened_with job None = void_state
opened_with job (Some t) = cond (may_start job t) (with_main (first_frame job t)) void_state

abbrev pub opened : Job → State
opened job = opened_with job (slice_get job.code.tasks job.code.start)
