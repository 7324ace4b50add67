-- Programs of which the run in order of the compiled code is what the program means.
use Rattle.std.specs.Prelude.{◌≡◌, [], ◌∷◌}
use Rattle.code_laws.specs.Programs.{RunsAsMeant, job_of}
use Rattle.machine_terms.specs.Jobs.{order_run}
use Rattle.worked_examples.specs.Words.{prints, root, naturals}
use Rattle.worked_examples.specs.Images.{neighbours_program, preimage_of_colour_0_program, preimage_of_colour_1_program}

abbrev pub preimage_of_colour_0_runs : Type 0
preimage_of_colour_0_runs = RunsAsMeant preimage_of_colour_0_program [] 1000000

abbrev pub preimage_of_colour_1_runs : Type 0
preimage_of_colour_1_runs = RunsAsMeant preimage_of_colour_1_program [] 1000000

abbrev pub neighbours_runs : Type 0
neighbours_runs = order_run (job_of neighbours_program [] 1000000) ≡ prints "1 3 5 7 9 11 13 7 56"
    (root 0 8
    (naturals (0 ∷ 1 ∷ 2 ∷ 3 ∷ 4 ∷ 5 ∷ 6 ∷ 7 ∷ [])
    ∷ naturals (1 ∷ 3 ∷ 5 ∷ 7 ∷ 9 ∷ 11 ∷ 13 ∷ 7 ∷ [])
    ∷ naturals (1 ∷ 2 ∷ 3 ∷ 4 ∷ 5 ∷ 6 ∷ 7 ∷ 0 ∷ [])
    ∷ [])
    ∷ [])
