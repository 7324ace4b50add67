-- What the calls of a segment make of the parts of a board's state.
use Rattle.std.specs.Prelude.{ℕ, List, [], ◌++◌, ◌==◌, Bool, true, false, get_or, length, map, set, Option, Some, None}
use Rattle.plain_values.specs.Points.{counted_from}
use Rattle.region_tree.specs.Needs.{AreNeeds}
use Rattle.region_tree.specs.Trees.{RegionTree}
use Rattle.region_tree.specs.declared.tree.OpNumber.{OpNumber}
use Rattle.logical_map.specs.Maps.{LogicalMap}
use Rattle.dependence_graph.specs.Graphs.{Waits, issued, new_graph, parked_on}
use Rattle.dependence_graph.specs.Knots.{number}
use Rattle.task_code.specs.declared.code.Code.{Code}
use Rattle.machine_terms.specs.declared.frame.Frame.{Frame}
use Rattle.machine_terms.specs.declared.outcome.After.{After}
use Rattle.machine_terms.specs.declared.outcome.CallOut.{CallOut}
use Rattle.machine_terms.specs.declared.outcome.Yield.{Yield}
use Rattle.machine_terms.specs.declared.outcome.Yield.TheVariants as yield
use Rattle.board_terms.specs.Calls.{frames_before, needs_of}
use Rattle.board_terms.specs.Gives.{behind_segment}
use Rattle.board_terms.specs.States.{State, called_by, no_operation}
use Rattle.board_terms.specs.declared.operation.Activity.{Activity}
use Rattle.board_terms.specs.declared.operation.Activity.TheVariants.{Closing, Idle}
use Rattle.board_terms.specs.declared.operation.Ending.TheVariants.{Broken}
use Rattle.board_terms.specs.declared.operation.Operation.{Operation}
use Rattle.board_terms.specs.declared.operation.Wait.TheVariants.{Nothing}

-- ---- what a call is checked against

-- a tree with what its roots hold, and nothing else
abbrev pub place : RegionTree → LogicalMap → State
place t map = record { tree = t; roots = []; map = map; operations = []; waits = new_graph; turns = 0 }

-- one that calls, by its frame alone
abbrev pub caller_in : Frame → Operation
caller_in f = called_by (number 0) f

-- the frames of the calls before the first that may not be issued
abbrev pub frames_in : Code → ℕ → RegionTree → LogicalMap → Frame → List CallOut → List Frame
frames_in code turns t map f cs = frames_before code turns (place t map) (caller_in f) cs

abbrev pub HasNeedsOf : RegionTree → Frame → Type 0
HasNeedsOf t f = AreNeeds t f.needs.items

-- ---- what is issued

-- the calls that a segment ends in
abbrev pub calls_in : Yield → List CallOut
calls_in (yield.Calls cs) = cs
calls_in _ = []

-- a segment that ends in calls leaves a frame
abbrev pub frames_by : Code → ℕ → RegionTree → LogicalMap → List CallOut → Option Frame → List Frame
frames_by code turns t map cs None = []
frames_by code turns t map cs (Some f) = frames_in code turns t map f cs

abbrev pub numbers_from : ℕ → ℕ → List OpNumber
numbers_from first count = map number (counted_from first count)

-- where all calls were issued the caller goes on, and else it is broken
abbrev pub activity_by : Bool → Activity
activity_by true = Idle
activity_by false = Closing Broken

-- the caller behind its segment, with its new children and no part
abbrev pub calling : Operation → After → ℕ → ℕ → Bool → Operation
calling o a first count all = record (behind_segment o a) {
  children = o.children ++ numbers_from first count;
  parts = [];
  wait = Nothing;
  activity = activity_by all;
}

-- the frames that a segment's calls begin in, as far as they may be issued, and whether all may be
abbrev pub frames_of : Code → ℕ → RegionTree → LogicalMap → After → List Frame
frames_of code turns t map a = frames_by code turns t map (calls_in a.ends) a.frame

abbrev pub are_all : Code → ℕ → RegionTree → LogicalMap → After → Bool
are_all code turns t map a = length (frames_of code turns t map a) == length (calls_in a.ends)

-- the operations, with the children behind them
abbrev pub called_operations : List Operation → OpNumber → After → List Frame → Bool → List Operation
called_operations os op a fs all =
    set os op.0 (calling (get_or os op.0 no_operation) a (length os) (length fs) all) ++ map (called_by op) fs

-- what waits for what: where all were issued the caller waits for nothing
abbrev pub waiting_by : Bool → Waits → ℕ → Waits
waiting_by true g k = parked_on g k []
waiting_by false g k = g

abbrev pub called_waits : RegionTree → Waits → OpNumber → List Frame → Bool → Waits
called_waits t g op fs all = waiting_by all (issued t g op (needs_of fs)) op.0
