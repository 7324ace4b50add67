-- Examples: reads, writes, reductions and fills.
use Rattle.std.specs.Prelude.{◌≡◌, ℕ, ℤ, pos, neg_ℤ, List, [], ◌∷◌, None, ◌^◌}
use Rattle.lane_kernels.specs.declared.numbers.FieldKind.{FieldKind}
use Rattle.lane_kernels.specs.declared.numbers.FieldKind.TheVariants.{Int32, Int64}
use Rattle.lane_kernels.specs.declared.numbers.Mode.{Mode}
use Rattle.lane_kernels.specs.declared.numbers.Mode.TheVariants as mode
use Rattle.lane_kernels.specs.declared.numbers.Op.TheVariants.{Sum, Least}
use Rattle.lane_kernels.specs.declared.numbers.Width.{Width}
use Rattle.lane_kernels.specs.declared.numbers.Width.TheVariants.{W32, W64}
use Rattle.region_tree.specs.declared.needs.Need.{Need}
use Rattle.region_tree.specs.declared.piece.Part.{Part}
use Rattle.task_code.specs.declared.instr.Instr.{Instr}
use Rattle.task_code.specs.declared.instr.Instr.TheVariants as instr
use Rattle.machine_terms.specs.declared.frame.Before.{Before}
use Rattle.machine_terms.specs.declared.outcome.Yield.TheVariants as yield
use Rattle.machine_terms.specs.Segments.{segment}
use Rattle.machine_laws.specs.Words.{num, pointer, region, need, held, part, alone, ends, breaks, gives}

-- A task with a region of the points 2 and 3 of root 0, which needs field 0 there in a mode and holds it,
-- with the numbers 20 and 30.
abbrev pub holding : FieldKind → Mode → List Part
holding kind mode = part 0 0 kind (held (2 ∷ 3 ∷ []) mode (pos 20 ∷ pos 30 ∷ []) ∷ []) ∷ []

abbrev pub running : List Need → List Part → List Instr → Before
running needs parts body = alone (region 0 (2 ∷ 3 ∷ 4 ∷ []) ∷ []) needs parts body

abbrev pub in_mode : FieldKind → Mode → List Instr → Before
in_mode kind mode body = running (need 0 0 mode ∷ []) (holding kind mode) body

-- ---- needs and parts

-- point 3, field 0
abbrev pub reading : List Instr
reading = instr.Num (pointer 1 3) ∷ instr.Read (0 ∷ []) 0 ∷ instr.ReturnValue ∷ []

abbrev pub held_point_is_read : Type 0
held_point_is_read = gives (in_mode Int64 mode.Read reading) (pos 30)
    × gives (in_mode Int64 mode.Write reading) (pos 30)

-- another field is needed, a field of another root, or nothing
abbrev pub touch_outside_needs_breaks : Type 0
touch_outside_needs_breaks = breaks (running (need 0 1 mode.Read ∷ []) (holding Int64 mode.Read) reading)
    × breaks (running (need 1 0 mode.Read ∷ []) (holding Int64 mode.Read) reading)
    × breaks (running [] (holding Int64 mode.Read) reading)
    × breaks (running [] [] reading)

abbrev pub missing_part_is_wanted : Type 0
missing_part_is_wanted =
    ends (running (need 0 0 mode.Read ∷ []) [] reading) (yield.Want (record { 0 = 0 }) 0)

-- the region has the point, and the part lacks it
abbrev pub point_outside_part_breaks : Type 0
point_outside_part_breaks = breaks (in_mode Int64 mode.Read
    (instr.Num (pointer 1 4) ∷ instr.Read (0 ∷ []) 0 ∷ instr.ReturnValue ∷ []))

abbrev pub read_of_reduction_breaks : Type 0
read_of_reduction_breaks = breaks (in_mode Int64 (mode.Reduce Sum) reading)

-- ---- writes and reductions

-- 7 is written at point 3 at a width, or folded in
abbrev pub writing : Width → List Instr
writing w = num 7 ∷ instr.Num (pointer 1 3) ∷ instr.Write (0 ∷ []) 0 w ∷ instr.Return ∷ []

abbrev pub adding : Width → List Instr
adding w = num 7 ∷ instr.Num (pointer 1 3) ∷ instr.Reduce (0 ∷ []) 0 Sum w ∷ instr.Return ∷ []

-- it ends, and point 3 has another number then
abbrev pub sets : FieldKind → Mode → List Instr → ℤ → Type 0
sets kind mode body z = ends (in_mode kind mode body) (yield.End None)
    × ((segment (in_mode kind mode body)).parts
    ≡ part 0 0 kind (held (2 ∷ 3 ∷ []) mode (pos 20 ∷ z ∷ []) ∷ []) ∷ [])

abbrev pub written_point_is_set : Type 0
written_point_is_set = sets Int64 mode.Write (writing W64) (pos 7)
    × sets Int32 mode.Write (writing W32) (pos 7)
    × sets Int64 mode.Write (adding W64) (pos 37)
    × sets Int64 (mode.Reduce Sum) (adding W64) (pos 37)

-- a mode that doesn't allow it
abbrev pub other_modes_break : Type 0
other_modes_break = breaks (in_mode Int64 mode.Read (writing W64))
    × breaks (in_mode Int64 (mode.Reduce Sum) (writing W64))
    × breaks (in_mode Int64 mode.Read (adding W64))
    × breaks (in_mode Int64 (mode.Reduce Least) (adding W64))

abbrev pub other_width_breaks : Type 0
other_width_breaks = breaks (in_mode Int64 mode.Write (writing W32))
    × breaks (in_mode Int32 mode.Write (writing W64))
    × breaks (in_mode Int64 mode.Write (adding W32))
    × breaks (in_mode Int32 (mode.Reduce Sum) (adding W64))

-- what is written is wrapped, and what is folded in is wrapped before: the least of 30 and -2^31
abbrev pub great_number_is_wrapped : Type 0
great_number_is_wrapped = sets Int32 mode.Write
    (num (2 ^ 31) ∷ instr.Num (pointer 1 3) ∷ instr.Write (0 ∷ []) 0 W32 ∷ instr.Return ∷ [])
    (neg_ℤ (pos (2 ^ 31)))
    × sets Int32 (mode.Reduce Least)
    (num (2 ^ 31) ∷ instr.Num (pointer 1 3) ∷ instr.Reduce (0 ∷ []) 0 Least W32 ∷ instr.Return ∷ [])
    (neg_ℤ (pos (2 ^ 31)))

-- ---- fills

-- 7 at the points of a region, at a width
abbrev pub filling : List ℕ → Width → List Need → List Part → Before
filling ps w needs parts =
    alone (region 0 ps ∷ []) needs parts (num 7 ∷ instr.Fill 0 0 w ∷ instr.Return ∷ [])

abbrev pub fill_is_done : Type 0
fill_is_done = (segment (filling (2 ∷ 3 ∷ []) W64 (need 0 0 mode.Write ∷ []) (holding Int64 mode.Write))).parts
    ≡ part 0 0 Int64 (held (2 ∷ 3 ∷ []) mode.Write (pos 7 ∷ pos 7 ∷ []) ∷ []) ∷ []

abbrev pub wrong_fills_break : Type 0
wrong_fills_break = breaks (filling (2 ∷ []) W32 (need 0 0 mode.Write ∷ []) (holding Int64 mode.Write))
    × breaks (filling (2 ∷ []) W64 (need 0 0 mode.Read ∷ []) (holding Int64 mode.Read))
    × breaks (filling (2 ∷ []) W64 (need 0 0 (mode.Reduce Sum) ∷ []) (holding Int64 (mode.Reduce Sum)))
    × breaks (filling (2 ∷ 4 ∷ []) W64 (need 0 0 mode.Write ∷ []) (holding Int64 mode.Write))
    × breaks (filling (2 ∷ []) W64 [] [])

-- of no points nothing is touched, and no part is wanted
abbrev pub missing_fill_part_is_wanted : Type 0
missing_fill_part_is_wanted = ends (filling (2 ∷ []) W64 (need 0 0 mode.Write ∷ []) []) (yield.Want (record { 0 = 0 }) 0)
    × ends (filling [] W64 [] []) (yield.End None)
