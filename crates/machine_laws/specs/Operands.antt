-- Examples: values that are missing or of a wrong kind, and slots and places out of range.
use Rattle.std.specs.Prelude.{ℕ, pos, [], ◌∷◌, None}
use Rattle.lane_kernels.specs.declared.numbers.Width.TheVariants.{W64}
use Rattle.regent_tree.specs.declared.outcome.FaultKind.TheVariants.{Turns}
use Rattle.task_code.specs.declared.instr.Instr.{Instr}
use Rattle.task_code.specs.declared.instr.Instr.TheVariants as instr
use Rattle.task_code.specs.declared.instr.PrintPart.TheVariants as print_part
use Rattle.machine_terms.specs.declared.frame.Before.{Before}
use Rattle.machine_terms.specs.declared.outcome.Yield.TheVariants as yield
use Rattle.machine_terms.specs.declared.value.Value.{Value}
use Rattle.machine_terms.specs.declared.value.Value.TheVariants as value
use Rattle.machine_laws.specs.Words.{task, code_of, num, number, region, frame, alone, ends, breaks, faults, gives}

-- ---- operands

-- a sum of what stands in two slots
abbrev pub sum_of : Value → Value → Before
sum_of a b = alone (a ∷ b ∷ []) [] []
    (instr.Load 0 ∷ instr.Load 1 ∷ instr.Add W64 ∷ instr.ReturnValue ∷ [])

abbrev pub two_numbers_add : Type 0
two_numbers_add = gives (sum_of (number 2) (number 3)) (pos 5)

abbrev pub space_in_sum_breaks : Type 0
space_in_sum_breaks = breaks (sum_of (number 2) (value.Space 3))

abbrev pub region_in_sum_breaks : Type 0
region_in_sum_breaks = breaks (sum_of (region 0 (2 ∷ [])) (number 3))

abbrev pub missing_operand_breaks : Type 0
missing_operand_breaks = breaks (alone [] [] [] (num 2 ∷ instr.Add W64 ∷ instr.Return ∷ []))

abbrev pub nothing_to_store_breaks : Type 0
nothing_to_store_breaks = breaks (alone (number 0 ∷ []) [] [] (instr.Store 0 ∷ instr.Return ∷ []))

abbrev pub nothing_to_drop_breaks : Type 0
nothing_to_drop_breaks = breaks (alone [] [] [] (instr.Drop ∷ instr.Return ∷ []))

-- ---- slots

abbrev pub loaded_from : ℕ → Before
loaded_from s = alone (number 4 ∷ []) [] [] (instr.Load s ∷ instr.ReturnValue ∷ [])

abbrev pub stored_in : ℕ → Before
stored_in s = alone (number 4 ∷ []) [] []
    (num 5 ∷ instr.Store s ∷ instr.Load 0 ∷ instr.ReturnValue ∷ [])

abbrev pub slots_hold : Type 0
slots_hold = gives (loaded_from 0) (pos 4) × gives (stored_in 0) (pos 5)

abbrev pub absent_slots_break : Type 0
absent_slots_break = breaks (loaded_from 1) × breaks (stored_in 1)

-- ---- places

-- a jump over one instruction
abbrev pub jumping_to : ℕ → Before
jumping_to to = alone [] [] []
    (num 7 ∷ instr.Jump to ∷ instr.Drop ∷ instr.ReturnValue ∷ [])

abbrev pub jump_goes_there : Type 0
jump_goes_there = gives (jumping_to 3) (pos 7)

-- behind the body, to itself, and back to what takes no turn
abbrev pub jumps_out_of_range_break : Type 0
jumps_out_of_range_break = breaks (jumping_to 4) × breaks (jumping_to 1) × breaks (jumping_to 0)

-- a jump back to a turn may be made until the turns are spent
abbrev pub jump_back_takes_turns : Type 0
jump_back_takes_turns = faults (alone [] [] [] (instr.Turn ∷ instr.Jump 0 ∷ [])) Turns 1

-- the place of a jump that isn't made doesn't count
abbrev pub jumping_on_0 : ℕ → Before
jumping_on_0 n = alone [] [] [] (num n ∷ instr.JumpIfNot 9 ∷ instr.Return ∷ [])

abbrev pub jump_not_made_returns : Type 0
jump_not_made_returns = ends (jumping_on_0 1) (yield.End None) × breaks (jumping_on_0 0)

-- The head of a counted loop, with its counter below the limit or not: the exit lies behind the head,
-- and is looked at where the loop is left.
abbrev pub counting : ℕ → ℕ → Before
counting counter exit = alone (number counter ∷ number 1 ∷ number 0 ∷ []) [] []
    (instr.NextNumber 0 1 2 exit ∷ instr.Return ∷ num 6 ∷ instr.ReturnValue ∷ [])

abbrev pub counted_loop_exits : Type 0
counted_loop_exits = gives (counting 1 2) (pos 6) × breaks (counting 1 0)
    × ends (counting 0 2) (yield.End None)

-- ---- pending children

-- an instruction on a child that is pending
abbrev pub on_pending : Instr → Before
on_pending i = record {
  code = code_of (task 1 1 (i ∷ instr.Return ∷ []) ∷ []) [];
  frame = record (frame 0 (number 0 ∷ []) []) { stack = value.Pending 0 ∷ []; children = 1 };
  parts = [];
}

abbrev pub pending_child_breaks : Type 0
pending_child_breaks = breaks (on_pending instr.Not)
    × breaks (on_pending instr.Assert)
    × breaks (on_pending (instr.JumpIfNot 1))
    × breaks (on_pending (instr.Call 0 1))
    × breaks (on_pending (instr.Print (print_part.Number ∷ [])))
    × breaks (on_pending instr.Space)
    × breaks (on_pending instr.ReturnValue)

-- it may be stored and dropped, and where it is loaded it is awaited
abbrev pub stored_child_is_kept : Type 0
stored_child_is_kept = ends (on_pending (instr.Store 0)) (yield.End None)
    × ends (on_pending instr.Drop) (yield.End None)

abbrev pub loaded_child_is_awaited : Type 0
loaded_child_is_awaited = ends (alone (value.Pending 3 ∷ []) [] [] (instr.Load 0 ∷ [])) (yield.Await 3)
