-- Examples: the touches of segments.
use Rattle.std.specs.Prelude.{◌≡◌, ℕ, List, [], ◌∷◌}
use Rattle.lane_kernels.specs.declared.numbers.FieldKind.TheVariants.{Int64}
use Rattle.lane_kernels.specs.declared.numbers.Mode.{Mode}
use Rattle.lane_kernels.specs.declared.numbers.Mode.TheVariants as mode
use Rattle.lane_kernels.specs.declared.numbers.Op.TheVariants.{Sum}
use Rattle.lane_kernels.specs.declared.numbers.Width.TheVariants.{W64}
use Rattle.regent_tree.specs.Store.{Touch}
use Rattle.task_code.specs.declared.instr.Instr.TheVariants as instr
use Rattle.machine_terms.specs.declared.frame.Before.{Before}
use Rattle.machine_terms.specs.Touches.{segment_touches}
use Rattle.machine_laws.specs.Accesses.{filling, holding, in_mode}
use Rattle.machine_laws.specs.Frames.{faulting_later}
use Rattle.machine_laws.specs.Partitions.{by_field_of, imaging, needs, parts, preimaging}
use Rattle.machine_laws.specs.Resumptions.{wanting}
use Rattle.machine_laws.specs.Words.{num, null, pointer, need}

-- a touch of field 0
abbrev pub touch : ℕ → ℕ → Mode → Touch
touch root point access = record { root = root; field = 0; point = point; access = access }

abbrev pub touches : Before → List Touch → Type 0
touches b ts = segment_touches b ≡ ts

-- point 3 is read, and its number written at point 2 and folded in at point 3
abbrev pub touches_come_in_order : Type 0
touches_come_in_order = touches (in_mode Int64 mode.Write
    (instr.Num (pointer 1 3) ∷ instr.Read (0 ∷ []) 0
    ∷ instr.Num (pointer 1 2) ∷ instr.Write (0 ∷ []) 0 W64
    ∷ num 1 ∷ instr.Num (pointer 1 3) ∷ instr.Reduce (0 ∷ []) 0 Sum W64 ∷ instr.Return ∷ []))
    (touch 0 3 mode.Read ∷ touch 0 2 mode.Write ∷ touch 0 3 (mode.Reduce Sum) ∷ [])

-- what waits for its part, and what faults, makes no touch; those before a fault count
abbrev pub want_touches_nothing : Type 0
want_touches_nothing = touches wanting []

abbrev pub fault_touches_nothing : Type 0
fault_touches_nothing = touches (in_mode Int64 mode.Read
    (instr.Num (pointer 1 3) ∷ instr.Read (0 ∷ []) 0 ∷ instr.Num null ∷ instr.Read (0 ∷ []) 0 ∷ []))
    (touch 0 3 mode.Read ∷ [])

abbrev pub later_fault_touches_nothing : Type 0
later_fault_touches_nothing = touches (faulting_later 0) []

-- each point of a region
abbrev pub fill_touches_each_point : Type 0
fill_touches_each_point = touches
    (filling (2 ∷ 3 ∷ []) W64 (need 0 0 mode.Write ∷ []) (holding Int64 mode.Write))
    (touch 0 2 mode.Write ∷ touch 0 3 mode.Write ∷ [])
    × touches (filling [] W64 [] []) []

-- of the region whose field is read, also where fewer points are named
abbrev pub partition_touches_each_point : Type 0
partition_touches_each_point = touches (by_field_of (0 ∷ 2 ∷ []) 1 needs parts)
    (touch 1 0 mode.Read ∷ touch 1 2 mode.Read ∷ [])
    × touches (imaging 1 ((1 ∷ []) ∷ []) (0 ∷ 1 ∷ []))
    (touch 1 0 mode.Read ∷ touch 1 1 mode.Read ∷ [])
    × touches (preimaging 1 (1 ∷ []) (0 ∷ 1 ∷ []))
    (touch 1 0 mode.Read ∷ touch 1 1 mode.Read ∷ [])
