-- Examples: launches.
use Rattle.std.specs.Prelude.{◌≡◌, ℕ, List, [], ◌∷◌, map, length, Option, Some, None, true, ◌+◌, ◌^◌, ◌-◌}
use Rattle.index_launch.specs.declared.points.LaunchArg.{LaunchArg}
use Rattle.index_launch.specs.declared.points.LaunchArg.TheVariants as launch
use Rattle.plain_values.specs.Points.{points}
use Rattle.regent_tree.specs.declared.outcome.Fault.{Fault}
use Rattle.regent_tree.specs.declared.outcome.FaultKind.{FaultKind}
use Rattle.regent_tree.specs.declared.outcome.FaultKind.TheVariants.{BadColor, Depth, Turns}
use Rattle.task_code.specs.declared.instr.Instr.TheVariants as instr
use Rattle.machine_terms.specs.declared.frame.Before.{Before}
use Rattle.machine_terms.specs.declared.outcome.CallOut.{CallOut}
use Rattle.machine_terms.specs.declared.outcome.Yield.TheVariants as yield
use Rattle.machine_terms.specs.declared.value.Value.{Value}
use Rattle.machine_terms.specs.declared.value.Value.TheVariants as value
use Rattle.machine_terms.specs.Segments.{segment}
use Rattle.machine_laws.specs.Words.{task, code_of, number, region, region_of, frame, breaks, faults}

-- ---- code

-- the colours of a launch, and the regions of so many colours, each of its own point of root 5
abbrev pub colours : ℕ → Value
colours n = value.Space n

abbrev pub parts : ℕ → Value
parts n = value.Partition (record {
  root = record { 0 = 5 };
  disjoint = true;
  children = map (λ c. region_of 5 (c ∷ [])) (points n);
})

-- A launch on line 1 of a task, with a call on line 7, from these slots, of which the first has the colours. There
-- is one other task, of three parameters. The turns, the depth and the number of children before it.
abbrev pub launching : ℕ → List LaunchArg → List Value → ℕ → ℕ → ℕ → Before
launching called args slots turns depth children = record {
  code = code_of (task 0 (length slots) (instr.Launch called 0 7 args ∷ instr.Return ∷ [])
      ∷ task 3 3 [] ∷ []) [];
  frame = record (frame 0 slots []) { turns = turns; depth = depth; children = children };
  parts = [];
}

-- each call has its part, the number 9 and its colour
abbrev pub arguments : List LaunchArg
arguments = launch.Child 1 ∷ launch.Keep 2 ∷ launch.Point ∷ []

abbrev pub call : ℕ → CallOut
call c = record { task = 1; args = region 5 (c ∷ []) ∷ number 9 ∷ number c ∷ [] }

-- over so many colours, of which so many have a part
abbrev pub over : ℕ → ℕ → ℕ → ℕ → Before
over n m turns depth =
    launching 1 arguments (colours n ∷ parts m ∷ number 9 ∷ []) turns depth 4

-- These calls are yielded; with so many turns left the instance goes on behind the launch, or with a fault.
abbrev pub calls_then : Before → List CallOut → ℕ → Option Fault → Type 0
calls_then b calls turns fault = segment b ≡ record {
  frame = Some (record b.frame {
    pc = 1;
    turns = turns;
    children = b.frame.children + length calls;
    later = fault;
  });
  parts = [];
  text = [];
  ends = yield.Calls calls;
}

abbrev pub fault_on : FaultKind → ℕ → Option Fault
fault_on kind line = Some (record { kind = kind; line = line })

-- ---- what it yields

abbrev pub all_calls_are_yielded : Type 0
all_calls_are_yielded = calls_then (over 3 3 6 1) (call 0 ∷ call 1 ∷ call 2 ∷ []) 0 None
    × calls_then (over 2 3 6 63) (call 0 ∷ call 1 ∷ []) 2 None

-- a colour that the partition lacks: the last one, one between, and the first one
abbrev pub calls_before_a_fault_are_yielded : Type 0
calls_before_a_fault_are_yielded =
    calls_then (over 3 2 9 1) (call 0 ∷ call 1 ∷ []) 4 (fault_on BadColor 7)
    × calls_then (over 3 1 9 1) (call 0 ∷ []) 6 (fault_on BadColor 7)
    × faults (over 3 0 9 1) BadColor 7

-- turns that are spent: those of a round on the line of the loop, those of a call on its own
abbrev pub rounds_and_calls_take_turns : Type 0
rounds_and_calls_take_turns = faults (over 3 3 0 1) Turns 1 × faults (over 3 3 1 1) Turns 7
    × calls_then (over 3 3 2 1) (call 0 ∷ []) 0 (fault_on Turns 1)
    × calls_then (over 3 3 3 1) (call 0 ∷ []) 0 (fault_on Turns 7)
    × calls_then (over 3 3 5 1) (call 0 ∷ call 1 ∷ []) 0 (fault_on Turns 7)

-- The colour comes before the turn of the call, and that before the depth.
abbrev pub launch_costs_come_in_order : Type 0
launch_costs_come_in_order = faults (over 3 0 1 64) BadColor 7 × faults (over 3 3 1 64) Turns 7
    × faults (over 3 3 2 64) Depth 7

-- over no colours there is no call and no fault
abbrev pub no_colours_make_no_calls : Type 0
no_colours_make_no_calls = calls_then (over 0 0 0 64) [] 0 None

abbrev pub too_many_launched_break : Type 0
too_many_launched_break =
    breaks (launching 1 arguments (colours 2 ∷ parts 2 ∷ number 9 ∷ []) 9 1 (2 ^ 64 - 2))
    × calls_then (launching 1 arguments (colours 1 ∷ parts 2 ∷ number 9 ∷ []) 9 1 (2 ^ 64 - 2))
    (call 0 ∷ []) 7 None

-- ---- what breaks, also over no colours

-- a task that isn't there, and one with another number of parameters
abbrev pub wrong_launches_break : Type 0
wrong_launches_break =
    breaks (launching 2 arguments (colours 0 ∷ parts 2 ∷ number 9 ∷ []) 9 1 0)
    × breaks (launching 0 arguments (colours 0 ∷ parts 2 ∷ number 9 ∷ []) 9 1 0)
    × breaks (launching 1 (launch.Point ∷ []) (colours 0 ∷ []) 9 1 0)

-- a pending child, a slot that isn't there, and a part of no partition
abbrev pub wrong_arguments_break : Type 0
wrong_arguments_break =
    breaks (launching 1 arguments (colours 0 ∷ parts 2 ∷ value.Pending 0 ∷ []) 9 1 0)
    × breaks (launching 1 arguments (colours 0 ∷ parts 2 ∷ []) 9 1 0)
    × breaks (launching 1 arguments (colours 0 ∷ region 5 [] ∷ number 9 ∷ []) 9 1 0)

-- what isn't an index space
abbrev pub wrong_colours_break : Type 0
wrong_colours_break = breaks (launching 1 arguments (number 0 ∷ parts 2 ∷ number 9 ∷ []) 9 1 0)
    × breaks (launching 1 arguments (region 5 [] ∷ parts 2 ∷ number 9 ∷ []) 9 1 0)
