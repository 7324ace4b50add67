-- Programs of which the run in order of the compiled code is what the program means.
use Rattle.std.specs.Prelude.{[], ◌∷◌}
use Rattle.code_laws.specs.Programs.{RunsAsMeant}
use Rattle.worked_examples.specs.Words.{below_zero}
use Rattle.worked_examples.specs.Numbers.{assignment_program, empty_task_program, input_printed_program, narrow_product_program, signed_division_program}

abbrev pub assignment_runs : Type 0
assignment_runs = RunsAsMeant assignment_program [] 1000000

abbrev pub narrow_product_runs : Type 0
narrow_product_runs = RunsAsMeant narrow_product_program [] 1000000

abbrev pub empty_task_runs : Type 0
empty_task_runs = RunsAsMeant empty_task_program [] 1000000

abbrev pub signed_division_runs : Type 0
signed_division_runs = RunsAsMeant signed_division_program [] 1000000

abbrev pub input_printed_runs : Type 0
input_printed_runs = RunsAsMeant input_printed_program (below_zero 3 ∷ []) 1000000
