-- Examples: kept pointers, and where their positions are looked up.
use Rattle.std.specs.Prelude.{ℤ, pos, neg_ℤ, List, [], ◌∷◌, ◌^◌, ◌-◌, ◌+◌}
use Rattle.lane_kernels.specs.declared.numbers.FieldKind.TheVariants.{Int64}
use Rattle.lane_kernels.specs.declared.numbers.Mode.TheVariants as mode
use Rattle.lane_kernels.specs.declared.numbers.Op.TheVariants.{Sum}
use Rattle.lane_kernels.specs.declared.numbers.Width.TheVariants.{W64}
use Rattle.regent_tree.specs.declared.outcome.FaultKind.TheVariants.{OutOfRegion, NullPointer}
use Rattle.task_code.specs.declared.instr.Instr.{Instr}
use Rattle.task_code.specs.declared.instr.Instr.TheVariants as instr
use Rattle.machine_terms.specs.declared.frame.Before.{Before}
use Rattle.machine_laws.specs.Words.{null, pointer, number, region, need, held, part, alone, breaks, faults, gives}

-- A task with two regions of root 0, of the points 1 and 2 and of the points 2 and 3, and a number. It
-- may write a field. It begins with a number on the stack.
abbrev pub from_number : ℤ → List Instr → Before
from_number z is = alone (region 0 (1 ∷ 2 ∷ []) ∷ region 0 (2 ∷ 3 ∷ []) ∷ number 0 ∷ [])
    (need 0 0 mode.Write ∷ [])
    (part 0 0 Int64 (held (1 ∷ 2 ∷ 3 ∷ []) mode.Write (pos 10 ∷ pos 20 ∷ pos 30 ∷ []) ∷ []) ∷ [])
    (instr.Num z ∷ is)

abbrev pub after_one : ℤ → Instr → Before
after_one z i = from_number z (i ∷ instr.ReturnValue ∷ [])

-- ---- what is kept

-- each number below 0 is null
abbrev pub kept_numbers_are_read : Type 0
kept_numbers_are_read = gives (after_one null instr.IsNull) (pos 1)
    × gives (after_one (neg_ℤ (pos (2 ^ 63))) instr.IsNull) (pos 1)
    × gives (after_one (pos 0) instr.IsNull) (pos 0)
    × gives (after_one (pointer 3 7) instr.Point) (pos 7)
    × gives (after_one (pos (2 ^ 63 - 1)) instr.Point) (pos (2 ^ 32 - 1))

-- two pointers with one point are equal, and so are two that are null
abbrev pub comparing : ℤ → ℤ → Before
comparing a b = from_number a (instr.Num b ∷ instr.PtrEq ∷ instr.ReturnValue ∷ [])

abbrev pub positions_are_not_compared : Type 0
positions_are_not_compared = gives (comparing (pointer 1 2) (pointer 2 2)) (pos 1)
    × gives (comparing (pointer 1 2) (pointer 1 3)) (pos 0)
    × gives (comparing null (neg_ℤ (pos 7))) (pos 1)
    × gives (comparing null (pointer 0 0)) (pos 0)

-- ---- positions

abbrev pub moving : ℤ → Before
moving z = after_one z (instr.Move (2 ∷ 0 ∷ []))

abbrev pub moved_pointer_is_moved : Type 0
moved_pointer_is_moved = gives (moving (pointer 1 5)) (pointer 2 5)
    × gives (moving (pointer 2 5)) (pointer 0 5)
    × gives (moving (pointer 0 5)) (pointer 0 5)
    × gives (moving null) null
    × breaks (moving (pointer 3 5))

abbrev pub reading : ℤ → Before
reading z = after_one z (instr.Read (0 ∷ 1 ∷ []) 0)

abbrev pub read_positions_are_looked_up : Type 0
read_positions_are_looked_up = gives (reading (pointer 1 2)) (pos 20)
    × gives (reading (pointer 2 3)) (pos 30)
    × faults (reading (pointer 1 3)) OutOfRegion 2
    × faults (reading (pointer 0 2)) OutOfRegion 2
    × faults (reading null) NullPointer 2

-- above the length of the list
abbrev pub high_positions_break : Type 0
high_positions_break = breaks (reading (pointer 3 2))
    × breaks (from_number (pos 7) (instr.Num (pointer 3 2) ∷ instr.Write (0 ∷ 1 ∷ []) 0 W64 ∷ instr.Return ∷ []))
    × breaks (from_number (pos 7) (instr.Num (pointer 3 2) ∷ instr.Reduce (0 ∷ 1 ∷ []) 0 Sum W64 ∷ instr.Return ∷ []))

-- no region stands in the slot of the position
abbrev pub position_of_number_breaks : Type 0
position_of_number_breaks = breaks (after_one (pointer 1 2) (instr.Read (2 ∷ []) 0))

-- ---- casts

-- the first region that holds the point decides, whatever the position was
abbrev pub casting : ℤ → Before
casting z = after_one z (instr.Cast (0 ∷ 1 ∷ []))

abbrev pub casting_pointer : ℤ → Before
casting_pointer z = after_one z (instr.CastPtr (0 ∷ 1 ∷ []))

abbrev pub first_region_is_taken : Type 0
first_region_is_taken = gives (casting (pos 2)) (pointer 1 2)
    × gives (casting (pos 3)) (pointer 2 3)
    × gives (casting (pos 4)) null
    × gives (casting null) null
    × gives (casting (pos (2 ^ 32 + 2))) null

abbrev pub cast_looks_up_no_position : Type 0
cast_looks_up_no_position = gives (casting_pointer (pointer 9 3)) (pointer 2 3)
    × gives (casting_pointer (pointer 0 2)) (pointer 1 2)
    × gives (casting_pointer (pointer 1 4)) null
    × gives (casting_pointer null) null

-- an element of a region has position 1
abbrev pub element_is_taken : Type 0
element_is_taken = gives (after_one (pos 3) (instr.At 1)) (pointer 1 3)
    × faults (after_one (pos 1) (instr.At 1)) OutOfRegion 2
    × faults (after_one null (instr.At 1)) OutOfRegion 2
    × breaks (after_one (pos 3) (instr.At 2))
