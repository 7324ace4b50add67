-- Claims: an operation is taken by a seat, its wanted part is filled, and the claim may be taken back.
use Rattle.std.specs.Prelude.{ℕ, suc, ℤ, pos, List, [], ◌∷◌, ◌++◌, ◌==◌, cond, map, Option, Some, None, slice_get}
use Rattle.region_tree.specs.declared.piece.Part.{Part}
use Rattle.region_tree.specs.declared.tree.OpNumber.{OpNumber}
use Rattle.region_tree.specs.Needs.{requirements_of}
use Rattle.region_tree.specs.Requirements.{Requirement, part_of}
use Rattle.logical_map.specs.Fills.{Filling, chunk_moved, elements_of, started}
use Rattle.dependence_graph.specs.Graphs.{begun, parked_on}
use Rattle.dependence_graph.specs.Knots.{number}
use Rattle.task_code.specs.declared.code.Code.{Code}
use Rattle.machine_terms.specs.declared.frame.Before.{Before}
use Rattle.machine_terms.specs.declared.frame.Frame.{Frame}
use Rattle.machine_terms.specs.Orders.{result_of, settled}
use Rattle.board_terms.specs.declared.claim.Claim.{Claim}
use Rattle.board_terms.specs.declared.operation.Ending.TheVariants.{Value}
use Rattle.board_terms.specs.declared.operation.Operation.{Operation}
use Rattle.board_terms.specs.declared.operation.Activity.{Activity}
use Rattle.board_terms.specs.declared.operation.Activity.TheVariants.{Closing, Filling as fills, Idle, Out}
use Rattle.board_terms.specs.declared.operation.Wait.{Wait}
use Rattle.board_terms.specs.declared.operation.Wait.TheVariants as wait
use Rattle.board_terms.specs.Stages.{may_be_claimed}
use Rattle.board_terms.specs.States.{State, doing, operation_at}

-- ---- a claim

-- what an operation needs, with the points
abbrev pub requirements_at : State → Operation → List Requirement
requirements_at s o = requirements_of s.tree o.frame.needs.items

-- the part that it wants isn't filled yet
abbrev pub fill_for : State → Operation → Wait → Option Filling
fill_for s o (wait.Part root field) = Some (started root.0 field (part_of (requirements_at s o) root.0 field) s.map)
fill_for s o _ = None

abbrev pub claim_on : State → ℕ → ℕ → Claim
claim_on s k seat = record { op = number k; seat = seat; turn = s.turns }

-- it is being filled, and has begun
abbrev pub claim_made : State → ℕ → ℕ → State
claim_made s k seat =
    record (doing s k (fills (claim_on s k seat) (fill_for s (operation_at s k) (operation_at s k).wait))) {
      waits = begun s.waits k;
      turns = suc s.turns;
    }

-- an operation that is ready, and no other
abbrev pub claimed : State → ℕ → ℕ → Option State
claimed s k seat = cond (may_be_claimed s k) (Some (claim_made s k seat)) None

-- ---- what a segment is run from

-- the value of a child that has ended; one that gave none counts as 0, and so does one that isn't there
abbrev pub value_of : Activity → ℤ
value_of (Closing (Value v)) = result_of v
value_of _ = pos 0

abbrev pub value_at : State → Option OpNumber → ℤ
value_at s (Some child) = value_of (operation_at s child.0).activity
value_at s None = pos 0

-- where a child's value was waited for, it stands in every slot that held the child
abbrev pub frame_behind : State → Operation → Wait → Frame
frame_behind s o (wait.Child n) = record o.frame {
  slots = map (settled n (value_at s (slice_get o.children n))) o.frame.slots;
}
frame_behind s o _ = o.frame

abbrev pub part_filled : Filling → Part
part_filled f = record { root = record { 0 = f.root }; field = f.field; kind = f.kind; pieces = f.pieces }

abbrev pub filled_parts : Option Filling → List Part
filled_parts None = []
filled_parts (Some f) = part_filled f ∷ []

abbrev pub before_of : Code → State → Operation → Option Filling → Before
before_of code s o fill = record {
  code = code;
  frame = frame_behind s o o.wait;
  parts = o.parts ++ filled_parts fill;
}

-- ---- a copy

-- where none is left of the elements, a segment may be run
abbrev pub activity_behind : Code → State → Operation → Claim → Option Filling → Activity
activity_behind code s o c None = Out c (before_of code s o None)
activity_behind code s o c (Some f) = cond (f.moved == elements_of f.pieces)
    (Out c (before_of code s o (Some f))) (fills c (Some f))

-- the next elements are moved, or all that are left
abbrev pub moved_on : State → Option Filling → Option Filling
moved_on s None = None
moved_on s (Some f) = Some (chunk_moved s.map f)

abbrev pub copied_in : Code → State → ℕ → ℕ → Activity → Option State
copied_in code s k seat (fills c fill) = cond (c.seat == seat)
    (Some (doing s k (activity_behind code s (operation_at s k) c (moved_on s fill)))) None
copied_in code s k seat st = None

-- where that seat's claim is being filled, and else nowhere
abbrev pub copied : Code → State → ℕ → ℕ → Option State
copied code s k seat = copied_in code s k seat (operation_at s k).activity

-- ---- back

-- the operation waits as before the claim; what it waited for is there
abbrev pub taken_back : State → ℕ → State
taken_back s k = record (doing s k Idle) { waits = parked_on s.waits k [] }

abbrev pub back_in : State → ℕ → ℕ → Activity → Option State
back_in s k seat (fills c fill) = cond (c.seat == seat) (Some (taken_back s k)) None
back_in s k seat (Out c before) = cond (c.seat == seat) (Some (taken_back s k)) None
back_in s k seat st = None

-- where that seat has a claim on it, and else nowhere
abbrev pub backed : State → ℕ → ℕ → Option State
backed s k seat = back_in s k seat (operation_at s k).activity
