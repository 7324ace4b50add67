-- What a table tells before it has finished.
use Rattle.std.specs.Prelude.{◌≡◌, List, Some, slice_get, true}
use Rattle.regent_tree.specs.declared.outcome.Outcome.{Outcome}
use Rattle.task_code.specs.declared.code.TaskCode.{TaskCode}
use Rattle.task_code.specs.declared.job.Job.{Job}
use Rattle.machine_terms.specs.Jobs.{may_start, order_run}
use Rattle.board_rules.specs.NumberedBoards.{Board, Step, board_of}
use Rattle.regent_boards.specs.RegentMachine.{regent_ground}
use Rattle.code_boards.specs.Laws.{machine_of, main_of}
use Rattle.code_boards.specs.Views.{spaces_of}
use Rattle.board_terms.specs.Settled.{settled}
use Rattle.board_terms.specs.States.{State}
use Rattle.board_trees.specs.Shows.{ShowsBoard}

-- Of a job that isn't void: where the table shows the board to which some steps led, and a fault comes on it before all that
-- isn't over, the outcome that it settles is that of the job's run in order.
abbrev pub SettledIsOrdered : Type 0
SettledIsOrdered = (job : Job) (t : TaskCode) (steps : List Step) (b : Board (regent_ground (spaces_of job.code))) (s : State) (o : Outcome) →
    slice_get job.code.tasks job.code.start ≡ Some t → may_start job t ≡ true →
    board_of (regent_ground (spaces_of job.code)) (machine_of job) (main_of job t) steps ≡ Some b → ShowsBoard job s b →
    settled s ≡ Some o → order_run job ≡ o
