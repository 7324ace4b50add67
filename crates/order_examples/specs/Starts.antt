-- Examples: jobs that start, and void jobs.
use Rattle.std.specs.Prelude.{ℤ, pos, List, [], ◌∷◌, codes}
use Rattle.lane_kernels.specs.declared.numbers.Mode.TheVariants as mode
use Rattle.regent_tree.specs.declared.outcome.Ending.TheVariants.{Finished, Broken}
use Rattle.task_code.specs.declared.instr.Instr.{Instr}
use Rattle.task_code.specs.declared.instr.Instr.TheVariants as instr
use Rattle.order_examples.specs.Words.{task, plain, need, say, job, gives}

-- a body that prints an a
abbrev pub speaking : List Instr
speaking = say (codes "a") ∷ instr.Return ∷ []

abbrev pub one_input : List ℤ
one_input = pos 1 ∷ []

abbrev pub job_is_started : Type 0
job_is_started = gives (job 0 one_input (task 1 1 [] speaking ∷ [])) (codes "a") (Finished [])

abbrev pub absent_start_is_void : Type 0
absent_start_is_void = gives (job 1 [] (plain 0 speaking ∷ [])) [] Broken

abbrev pub wrong_inputs_are_void : Type 0
wrong_inputs_are_void = gives (job 0 one_input (plain 0 speaking ∷ [])) [] Broken
    × gives (job 0 [] (task 1 1 [] speaking ∷ [])) [] Broken

abbrev pub needy_start_is_void : Type 0
needy_start_is_void = gives (job 0 one_input (task 1 1 (need 0 mode.Read ∷ []) speaking ∷ [])) [] Broken

-- with fewer slots than parameters
abbrev pub narrow_start_is_void : Type 0
narrow_start_is_void = gives (job 0 one_input (task 1 0 [] speaking ∷ [])) [] Broken
