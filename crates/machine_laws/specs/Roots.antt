-- Examples: index spaces and roots.
use Rattle.std.specs.Prelude.{ℕ, zero, suc, List, [], ◌∷◌, None, codes}
use Rattle.lane_kernels.specs.declared.numbers.FieldKind.TheVariants.{Int64}
use Rattle.regent_tree.specs.declared.outcome.FaultKind.TheVariants.{BadSize}
use Rattle.task_code.specs.declared.code.FieldCode.{FieldCode}
use Rattle.task_code.specs.declared.instr.Instr.TheVariants as instr
use Rattle.machine_terms.specs.declared.frame.Before.{Before}
use Rattle.machine_terms.specs.declared.outcome.Made.TheVariants as made
use Rattle.machine_terms.specs.declared.outcome.Yield.TheVariants as yield
use Rattle.machine_laws.specs.Words.{task, code_of, num, null, frame, alone, ends, breaks, faults}

-- so many fields
abbrev pub fields : ℕ → List FieldCode
fields zero = []
fields (suc n) = record { name = codes "x"; kind = Int64 } ∷ fields n

-- a root of a field space; the code has one, with so many fields
abbrev pub rooting : ℕ → ℕ → Before
rooting count space = record {
  code = code_of (task 0 0 (num 4 ∷ instr.Space ∷ instr.NewRoot space ∷ instr.Return ∷ []) ∷ [])
      (record { name = codes "f"; fields = fields count } ∷ []);
  frame = frame 0 [] [];
  parts = [];
}

abbrev pub root_is_made : Type 0
root_is_made = ends (rooting 256 0) (yield.Make (made.Root 4 0))

abbrev pub absent_space_breaks : Type 0
absent_space_breaks = breaks (rooting 1 1)

abbrev pub too_many_fields_break : Type 0
too_many_fields_break = breaks (rooting 257 0)

abbrev pub root_of_number_breaks : Type 0
root_of_number_breaks = breaks (alone [] [] [] (num 4 ∷ instr.NewRoot 0 ∷ []))

-- ---- spaces

abbrev pub sized : ℕ → Before
sized n = alone [] [] [] (num n ∷ instr.Space ∷ instr.Return ∷ [])

abbrev pub sizes_have_a_limit : Type 0
sizes_have_a_limit = ends (sized 4194304) (yield.End None) × faults (sized 4194305) BadSize 2
    × faults (alone [] [] [] (instr.Num null ∷ instr.Space ∷ [])) BadSize 2
