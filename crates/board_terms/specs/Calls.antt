-- Calls that are issued on a board.
use Rattle.std.specs.Prelude.{ℕ, suc, List, [], ◌∷◌, ◌++◌, Bool, true, false, ◌&&◌, ◌==◌, cond, length, map, set, nat_le, nat_lt, Option, Some, None, slice_get}
use Rattle.std.specs.List.{list_all}
use Rattle.plain_values.specs.Points.{counted_from}
use Rattle.region_tree.specs.Needs.{requirements_of}
use Rattle.region_tree.specs.Requirements.{is_within}
use Rattle.region_tree.specs.declared.needs.Needs.{Needs}
use Rattle.logical_map.specs.Maps.{LogicalMap, columns_of}
use Rattle.dependence_graph.specs.Graphs.{issued, parked_on}
use Rattle.dependence_graph.specs.Knots.{number}
use Rattle.task_code.specs.declared.code.Code.{Code}
use Rattle.task_code.specs.declared.code.NeedCode.{NeedCode}
use Rattle.task_code.specs.declared.code.TaskCode.{TaskCode}
use Rattle.machine_terms.specs.declared.frame.Frame.{Frame}
use Rattle.machine_terms.specs.declared.outcome.CallOut.{CallOut}
use Rattle.machine_terms.specs.declared.value.RegionValue.{RegionValue}
use Rattle.machine_terms.specs.declared.value.Value.{Value}
use Rattle.machine_terms.specs.Opening.{opening}
use Rattle.machine_terms.specs.Pointers.{region_in}
use Rattle.board_terms.specs.declared.operation.Ending.TheVariants.{Broken}
use Rattle.board_terms.specs.declared.operation.Operation.{Operation}
use Rattle.board_terms.specs.declared.operation.Activity.{Activity}
use Rattle.board_terms.specs.declared.operation.Activity.TheVariants.{Closing, Idle}
use Rattle.board_terms.specs.declared.operation.Wait.TheVariants.{Nothing}
use Rattle.board_terms.specs.Makes.{is_here}
use Rattle.board_terms.specs.States.{State, called_by, operation_at}

-- ---- whether a call may be issued

-- each declared need is of a region whose root has the field
abbrev pub is_there : LogicalMap → ℕ → ℕ → Bool
is_there roots root field = nat_lt field (length (columns_of roots root))

abbrev pub has_field : State → ℕ → Option RegionValue → Bool
has_field s field None = false
has_field s field (Some r) = is_here s.tree r && is_there s.map r.root.0 field

abbrev pub are_declared : State → List NeedCode → List Value → Bool
are_declared s ns vs = list_all (λ (n : NeedCode). has_field s n.field (region_in (slice_get vs n.param))) ns

-- what a frame needs is within what an operation needs
abbrev pub needs_within : State → Frame → Operation → Bool
needs_within s f o = is_within (requirements_of s.tree f.needs.items) (requirements_of s.tree o.frame.needs.items)

-- the frame in which the called task begins
abbrev pub opening_of : Code → ℕ → Operation → CallOut → TaskCode → Frame
opening_of code turns o c t = opening turns (suc o.frame.depth) c.task t c.args

abbrev pub opens : Code → ℕ → State → Operation → CallOut → Option TaskCode → Option Frame
opens code turns s o c None = None
opens code turns s o c (Some t) = cond
    (nat_le (length c.args) t.slots
    && (are_declared s t.needs c.args && needs_within s (opening_of code turns o c t) o))
    (Some (opening_of code turns o c t)) None

-- ---- the calls before the first that may not be issued

abbrev pub first_opens : Option Frame → List Frame → List Frame
first_opens None rest = []
first_opens (Some f) rest = f ∷ rest

abbrev pub frames_before : Code → ℕ → State → Operation → List CallOut → List Frame
frames_before code turns s o [] = []
frames_before code turns s o (c ∷ cs) =
    first_opens (opens code turns s o c (slice_get code.tasks c.task)) (frames_before code turns s o cs)

-- ---- what calls do

-- the caller has so many children more, and goes on or is broken
abbrev pub caller_of : State → Operation → List Frame → Activity → Operation
caller_of s o fs st = record o {
  children = o.children ++ map number (counted_from (length s.operations) (length fs));
  wait = Nothing;
  activity = st;
}

abbrev pub needs_of : List Frame → List Needs
needs_of fs = map (λ (f : Frame). f.needs) fs

-- these children are issued in order
abbrev pub with_children : State → ℕ → List Frame → Activity → State
with_children s k fs st = record s {
  operations = set s.operations k (caller_of s (operation_at s k) fs st) ++ map (called_by (number k)) fs;
  waits = issued s.tree s.waits (number k) (needs_of fs);
}

-- behind them the caller waits for nothing
abbrev pub going_on : State → ℕ → State
going_on s k = record s { waits = parked_on s.waits k [] }

abbrev pub called_in : State → ℕ → List Frame → Bool → State
called_in s k fs true = going_on (with_children s k fs Idle) k
called_in s k fs false = with_children s k fs (Closing Broken)

-- All are issued, and the caller waits for nothing; or those before the first that may not be, and the caller is broken.
abbrev pub called : Code → ℕ → State → ℕ → List CallOut → State
called code turns s k cs =
    let fs = frames_before code turns s (operation_at s k) cs in
    called_in s k fs (length fs == length cs)
