-- Examples: calls.
use Rattle.std.specs.Prelude.{ℕ, [], ◌∷◌, ◌^◌, ◌-◌}
use Rattle.regent_tree.specs.declared.outcome.FaultKind.TheVariants.{Turns, Depth}
use Rattle.task_code.specs.declared.instr.Instr.TheVariants as instr
use Rattle.machine_terms.specs.declared.frame.Before.{Before}
use Rattle.machine_terms.specs.declared.outcome.Yield.TheVariants as yield
use Rattle.machine_laws.specs.Words.{task, code_of, num, number, frame, ends, breaks, faults}

-- A call of a task with so many arguments; there is one other task, of two parameters. The turns, the
-- depth and the number of children before it.
abbrev pub calling : ℕ → ℕ → ℕ → ℕ → ℕ → Before
calling called count turns depth children = record {
  code = code_of (task 0 0 (num 8 ∷ num 9 ∷ instr.Call called count ∷ []) ∷ task 2 2 [] ∷ []) [];
  frame = record (frame 0 [] []) { turns = turns; depth = depth; children = children };
  parts = [];
}

abbrev pub call_is_yielded : Type 0
call_is_yielded = ends (calling 1 2 1 63 4)
    (yield.Calls (record { task = 1; args = number 8 ∷ number 9 ∷ [] } ∷ []))

abbrev pub absent_callee_breaks : Type 0
absent_callee_breaks = breaks (calling 2 2 1 1 0)

-- an argument too few, too many, and one that isn't on the stack
abbrev pub wrong_count_breaks : Type 0
wrong_count_breaks = breaks (calling 1 1 1 1 0) × breaks (calling 1 3 1 1 0) × breaks (calling 0 3 1 1 0)

-- turns come before depth, and both before the number of children
abbrev pub call_costs_come_in_order : Type 0
call_costs_come_in_order = faults (calling 1 2 0 1 0) Turns 3 × faults (calling 1 2 1 64 0) Depth 3
    × faults (calling 1 2 0 64 0) Turns 3

abbrev pub too_many_children_break : Type 0
too_many_children_break = breaks (calling 1 2 1 1 (2 ^ 64 - 1))
    × ends (calling 1 2 1 1 (2 ^ 64 - 2))
    (yield.Calls (record { task = 1; args = number 8 ∷ number 9 ∷ [] } ∷ []))
