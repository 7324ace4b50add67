-- What the table of a board comes to, where it shows a tree of operations.
use Rattle.std.specs.Prelude.{◌≡◌, List, None, Some, cond, slice_get, true}
use Rattle.task_code.specs.declared.code.TaskCode.{TaskCode}
use Rattle.task_code.specs.declared.job.Job.{Job}
use Rattle.machine_terms.specs.Jobs.{may_start, order_run}
use Rattle.board_rules.specs.Boards.{is_over, stage_of}
use Rattle.board_rules.specs.NumberedBoards.{Board, Step, board_of}
use Rattle.regent_boards.specs.RegentMachine.{regent_ground}
use Rattle.code_boards.specs.Laws.{machine_of, main_of}
use Rattle.code_boards.specs.Views.{spaces_of}
use Rattle.board_terms.specs.Outcomes.{result}
use Rattle.board_terms.specs.States.{State}
use Rattle.board_trees.specs.Shows.{ShowsBoard}

-- Of a job that isn't void: where the table shows the board to which some steps led, it has a result exactly where the
-- first task is over there, and that is the outcome of the job's run in order.
abbrev pub ResultsAreOrdered : Type 0
ResultsAreOrdered = (job : Job) (t : TaskCode) (steps : List Step) (b : Board (regent_ground (spaces_of job.code))) (s : State) →
    slice_get job.code.tasks job.code.start ≡ Some t → may_start job t ≡ true →
    board_of (regent_ground (spaces_of job.code)) (machine_of job) (main_of job t) steps ≡ Some b → ShowsBoard job s b →
    result s ≡ cond (is_over (regent_ground (spaces_of job.code)) (stage_of (regent_ground (spaces_of job.code)) b.state.tree)) (Some (order_run job)) None
