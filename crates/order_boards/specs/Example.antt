-- The jobs of code_boards, computed: the machine's run in order has the outcome of the run by numbers.
use Rattle.std.specs.Prelude.{[], ◌∷◌}
use Rattle.machine_terms.specs.Jobs.{order_run}
use Rattle.regent_boards.specs.RegentMachine.{root_of}
use Rattle.code_boards.specs.Example.{empty_job, job, main_task, start_task}
use Rattle.code_boards.specs.Laws.{ordered}
use Rattle.code_boards.specs.Views.{spaces_of}
use Rattle.order_boards.specs.Outcomes.{IsOutcome}

-- the first making of the first task is its root, of field space 0 and size 2, which holds 0 and 42 at the end
abbrev pub FirstRootHolds : Type 0
FirstRootHolds = IsOutcome (spaces_of job.code) (root_of 0 2 0 ∷ []) (0 ∷ []) (ordered 20 job main_task) (order_run job)

-- and the job whose child needs an empty region alone is Broken in both
abbrev pub BothAreBroken : Type 0
BothAreBroken = IsOutcome (spaces_of empty_job.code) [] [] (ordered 20 empty_job start_task) (order_run empty_job)
