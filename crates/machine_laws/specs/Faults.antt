-- Examples: each fault, with its line.
use Rattle.std.specs.Prelude.{pos, neg_ℤ, List, [], ◌∷◌, None, ◌^◌}
use Rattle.lane_kernels.specs.declared.numbers.Width.TheVariants.{W32, W64}
use Rattle.regent_tree.specs.declared.outcome.FaultKind.TheVariants.{DivideByZero, OutOfRegion, NullPointer, BadColor, AssertFailed, Turns, Depth, BadSize}
use Rattle.task_code.specs.declared.instr.Instr.{Instr}
use Rattle.task_code.specs.declared.instr.Instr.TheVariants as instr
use Rattle.machine_terms.specs.declared.frame.Before.{Before}
use Rattle.machine_terms.specs.declared.outcome.Yield.TheVariants as yield
use Rattle.machine_terms.specs.declared.value.Value.TheVariants as value
use Rattle.machine_laws.specs.Calls.{calling}
use Rattle.machine_laws.specs.Partitions.{partition}
use Rattle.machine_laws.specs.Words.{num, null, region, alone, ends, faults, gives}

-- a region of the points 4 and 5, a partition of it, and 65,537 colours
abbrev pub running : List Instr → Before
running body = alone
    (region 0 (4 ∷ 5 ∷ []) ∷ partition 0 ((4 ∷ []) ∷ (5 ∷ []) ∷ []) ∷ value.Space 65537 ∷ []) [] [] body

abbrev pub divide_by_zero_faults : Type 0
divide_by_zero_faults =
    faults (running (num 1 ∷ num 0 ∷ instr.Div W64 ∷ instr.Return ∷ [])) DivideByZero 3
    × faults (running (num 1 ∷ num 0 ∷ instr.Rem W32 ∷ instr.Return ∷ [])) DivideByZero 3

abbrev pub out_of_region_faults : Type 0
out_of_region_faults = faults (running (num 6 ∷ instr.At 0 ∷ instr.Return ∷ [])) OutOfRegion 2

abbrev pub null_pointer_faults : Type 0
null_pointer_faults =
    faults (running (instr.Num null ∷ instr.Point ∷ instr.Return ∷ [])) NullPointer 2

abbrev pub bad_colour_faults : Type 0
bad_colour_faults = faults (running (num 2 ∷ instr.Child 1 ∷ instr.Return ∷ [])) BadColor 2

abbrev pub failed_assert_faults : Type 0
failed_assert_faults =
    faults (running (num 1 ∷ instr.Assert ∷ num 0 ∷ instr.Assert ∷ instr.Return ∷ [])) AssertFailed 4

-- the frame has three turns
abbrev pub spent_turns_fault : Type 0
spent_turns_fault =
    faults (running (instr.Turn ∷ instr.Turn ∷ instr.Turn ∷ instr.Turn ∷ instr.Return ∷ [])) Turns 4
    × ends (running (instr.Turn ∷ instr.Turn ∷ instr.Turn ∷ instr.Return ∷ [])) (yield.End None)

abbrev pub deep_call_faults : Type 0
deep_call_faults = faults (calling 1 2 1 64 0) Depth 3

abbrev pub bad_size_faults : Type 0
bad_size_faults = faults (running (num 4194305 ∷ instr.Space ∷ instr.Return ∷ [])) BadSize 2
    × faults (running (instr.Load 2 ∷ instr.Equal 0 ∷ instr.Return ∷ [])) BadSize 2

-- the least number divided by -1 is no fault
abbrev pub least_quotient_wraps : Type 0
least_quotient_wraps =
    gives (running (instr.Num (neg_ℤ (pos (2 ^ 63))) ∷ instr.Num null ∷ instr.Div W64 ∷ instr.ReturnValue ∷ []))
    (neg_ℤ (pos (2 ^ 63)))
    × gives (running (instr.Num (neg_ℤ (pos (2 ^ 63))) ∷ instr.Num null ∷ instr.Rem W64 ∷ instr.ReturnValue ∷ []))
    (pos 0)
