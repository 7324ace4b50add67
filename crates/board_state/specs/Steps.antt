-- What steps make of a state, where they may be made.
use Rattle.std.specs.Prelude.{◌≡◌, ℕ, List, [], ◌∷◌, ◌++◌, Bool, true, false, cond, ◌==◌, ◌&&◌, ◌-◌, Option, Some, None, nat_lt}
use Rattle.plain_values.specs.Points.{points}
use Rattle.region_tree.specs.Trees.{with_partition, with_root}
use Rattle.logical_map.specs.Fills.{Filling, chunk, chunk_moved, elements_of}
use Rattle.logical_map.specs.Maps.{LogicalMap, opened}
use Rattle.task_code.specs.declared.code.Code.{Code}
use Rattle.machine_terms.specs.declared.frame.Before.{Before}
use Rattle.board_terms.specs.declared.claim.Claim.{Claim}
use Rattle.board_terms.specs.declared.operation.Activity.{Activity}
use Rattle.board_terms.specs.declared.operation.Activity.TheVariants as activity
use Rattle.board_terms.specs.declared.operation.Operation.{Operation}
use Rattle.board_terms.specs.Claims.{activity_behind, moved_on}
use Rattle.board_terms.specs.States.{State, doing, operation_at, with_operation}
use Rattle.board_terms.specs.Gives.{behind_segment, with_parts, yielded}
use Rattle.board_terms.specs.declared.operation.Ending.{Ending}
use Rattle.board_terms.specs.declared.operation.Ending.TheVariants.{Broken}
use Rattle.board_terms.specs.declared.operation.Wait.{Wait}
use Rattle.board_gives.specs.Gives.{ended_with, parked_with}
use Rattle.board_gives.specs.Makes.{may_part, parted_with, rooted_with}
use Rattle.board_calls.specs.Calls.{are_all, called_operations, called_waits, frames_of}
use Rattle.dependence_graph.specs.Graphs.{parked, parked_on}
use Rattle.dependence_graph.specs.Knots.{number}
use Rattle.dependence_graph.specs.declared.stage.Waiting.{Waiting}
use Rattle.machine_terms.specs.declared.outcome.After.{After}
use Rattle.machine_terms.specs.declared.value.RegionValue.{RegionValue}
use Rattle.machine_terms.specs.Contents.{kinds_of}
use Rattle.machine_terms.specs.Segments.{segment}

-- ---- claims

-- two claims are one
abbrev pub same_claim : Claim → Claim → Bool
same_claim c d = (c.op.0 == d.op.0) && ((c.seat == d.seat) && (c.turn == d.turn))

-- an operation is being filled, or out, under a claim
abbrev pub is_filled_by : Claim → Activity → Bool
is_filled_by c (activity.Filling d fill) = same_claim c d
is_filled_by c _ = false

abbrev pub is_out_by : Claim → Activity → Bool
is_out_by c (activity.Out d before) = same_claim c d
is_out_by c _ = false

-- what the segment of an operation is run from that is out under a claim
abbrev pub before_by : Claim → Activity → Option Before
before_by c (activity.Out d before) = cond (same_claim c d) (Some before) None
before_by c _ = None

-- ---- copies

abbrev pub is_filling : Activity → Bool
is_filling (activity.Filling claim fill) = true
is_filling _ = false

-- elements are left behind the next ones
abbrev pub has_more : Activity → Bool
has_more (activity.Filling claim (Some f)) = nat_lt chunk (elements_of f.pieces - f.moved)
has_more _ = false

abbrev pub fill_in : Activity → Option Filling
fill_in (activity.Filling claim fill) = fill
fill_in _ = None

-- the next elements are moved
abbrev pub more_moved : LogicalMap → Activity → Activity
more_moved map (activity.Filling claim (Some f)) = activity.Filling claim (Some (chunk_moved map f))
more_moved map a = a

-- out, to be run from this
abbrev pub sent_out : Before → Activity → Activity
sent_out before (activity.Filling claim fill) = activity.Out claim before
sent_out before a = a

-- what an operation that is being filled does behind the next elements
abbrev pub copied_activity : Code → State → Operation → Activity → Activity
copied_activity code s o (activity.Filling claim fill) = activity_behind code s o claim (moved_on s fill)
copied_activity code s o a = a

abbrev pub copy_made : Code → State → ℕ → State
copy_made code s k = doing s k (copied_activity code s (operation_at s k) (operation_at s k).activity)

-- what the segment of an operation that is out is run from
abbrev pub before_out : Activity → Option Before
before_out (activity.Out claim before) = Some before
before_out _ = None

-- ---- gives

-- an operation that is out, whose segment left this
abbrev pub HasLeft : Activity → After → Type 0
HasLeft (activity.Out claim before) a = a ≡ segment before
HasLeft _ a = ⊥

-- the operation is as a segment left it
abbrev pub behind : State → ℕ → After → State
behind s k a = with_operation s k (behind_segment (operation_at s k) a)

-- what a segment that is given back makes of a state, before what follows from it
abbrev pub given_by : Code → ℕ → State → ℕ → After → State
given_by code turns s k a = yielded code turns (behind s k a) k a.ends

-- its own work has ended, and the map is another
abbrev pub ended_in : State → ℕ → After → Ending → LogicalMap → State
ended_in s k a e map = record (with_operation s k (ended_with (operation_at s k) a e)) { map = map }

-- it waits, also in the graph
abbrev pub parked_in : State → ℕ → After → Wait → Waiting → State
parked_in s k a w on = record (with_operation s k (parked_with (operation_at s k) a w)) { waits = parked s.tree s.waits k on }

-- it made a root, and waits for nothing
abbrev pub rooted_in : Code → ℕ → ℕ → State → ℕ → After → State
rooted_in code size space s k a = record (with_operation s k (rooted_with code s.tree size space (operation_at s k) a)) {
  tree = with_root s.tree (points size);
  roots = s.roots ++ record { space = space; count = size } ∷ [];
  map = opened s.tree.roots (points size) (kinds_of code space) s.map;
  waits = parked_on s.waits k [];
}

-- it made a partition, and waits for nothing
abbrev pub parted_in : RegionValue → List (List ℕ) → Bool → State → ℕ → After → State
parted_in r sets disjoint s k a = record (with_operation s k (parted_with s.tree r sets disjoint (operation_at s k) a)) {
  tree = with_partition s.tree r.node.0 sets disjoint;
  waits = parked_on s.waits k [];
}

-- or it is broken, where it may not make it
abbrev pub parting_in : RegionValue → List (List ℕ) → Bool → State → ℕ → After → State
parting_in r sets disjoint s k a =
    cond (may_part s.tree r sets disjoint) (parted_in r sets disjoint s k a) (ended_in s k a Broken s.map)

-- calls are issued, as far as they may be, and the parts go back
abbrev pub called_with : Code → ℕ → State → ℕ → After → State
called_with code turns s k a = record s {
  map = with_parts a.parts s.map;
  operations = called_operations s.operations (number k) a (frames_of code turns s.tree s.map a) (are_all code turns s.tree s.map a);
  waits = called_waits s.tree s.waits (number k) (frames_of code turns s.tree s.map a) (are_all code turns s.tree s.map a);
}
