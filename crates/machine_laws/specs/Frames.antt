-- Examples: frames that don't fit their code, and the end of a body.
use Rattle.std.specs.Prelude.{ℕ, List, [], ◌∷◌, Some, None}
use Rattle.regent_tree.specs.declared.outcome.FaultKind.TheVariants.{BadColor}
use Rattle.task_code.specs.declared.instr.Instr.TheVariants as instr
use Rattle.machine_terms.specs.declared.frame.Before.{Before}
use Rattle.machine_terms.specs.declared.outcome.Yield.TheVariants as yield
use Rattle.machine_terms.specs.declared.value.Value.{Value}
use Rattle.machine_laws.specs.Words.{task, code_of, num, number, frame, alone, ends, breaks, faults}

-- A code with one task, of one slot, which returns at once; a frame of one of its tasks.
abbrev pub returning : ℕ → List Value → Before
returning n slots = record {
  code = code_of (task 0 1 (instr.Return ∷ []) ∷ []) [];
  frame = frame n slots [];
  parts = [];
}

abbrev pub fitting_frame_returns : Type 0
fitting_frame_returns = ends (returning 0 (number 5 ∷ [])) (yield.End None)

-- the task isn't there
abbrev pub absent_task_breaks : Type 0
absent_task_breaks = breaks (returning 1 (number 5 ∷ []))

-- a slot too few, or too many
abbrev pub few_slots_break : Type 0
few_slots_break = breaks (returning 0 [])

abbrev pub many_slots_break : Type 0
many_slots_break = breaks (returning 0 (number 5 ∷ number 6 ∷ []))

-- a fault that was kept for later comes at once, whatever the code is
abbrev pub faulting_later : ℕ → Before
faulting_later n = record {
  code = code_of (task 0 0 (instr.Return ∷ []) ∷ []) [];
  frame = record (frame n [] []) { later = Some (record { kind = BadColor; line = 7 }) };
  parts = [];
}

abbrev pub later_fault_comes : Type 0
later_fault_comes = faults (faulting_later 0) BadColor 7

abbrev pub later_fault_of_absent_task_breaks : Type 0
later_fault_of_absent_task_breaks = breaks (faulting_later 1)

-- past the body's end, and at once where the body is empty
abbrev pub passed_end_breaks : Type 0
passed_end_breaks = breaks (alone [] [] [] (num 1 ∷ []))

abbrev pub empty_body_breaks : Type 0
empty_body_breaks = breaks (alone [] [] [] [])
