-- A board on which a fault comes before all that isn't over tells the outcome of its job.
use Rattle.std.specs.Prelude.{◌≡◌, ℕ, List, Some, slice_get, true}
use Rattle.regent_tree.specs.declared.outcome.Outcome.{Outcome}
use Rattle.task_code.specs.declared.code.TaskCode.{TaskCode}
use Rattle.task_code.specs.declared.job.Job.{Job}
use Rattle.machine_terms.specs.Jobs.{ending_of, may_start, order_run}
use Rattle.board_rules.specs.Known.{known, stops_at}
use Rattle.board_rules.specs.NumberedBoards.{Board, Step, board_of}
use Rattle.regent_boards.specs.Frames.{Stop}
use Rattle.regent_boards.specs.RegentMachine.{regent_ground}
use Rattle.code_boards.specs.Laws.{machine_of, main_of}
use Rattle.code_boards.specs.Views.{spaces_of}
use Rattle.order_boards.specs.Outcomes.{fault_of}

-- Whatever steps the seats make, and whatever they would make next: the run in order of the job ends there.
abbrev pub SettledBoardsAgree : Type 0
SettledBoardsAgree = (job : Job) (t : TaskCode) (steps : List Step) (b : Board (regent_ground (spaces_of job.code))) (x : Stop) (text : List ℕ) →
    slice_get job.code.tasks job.code.start ≡ Some t → may_start job t ≡ true →
    board_of (regent_ground (spaces_of job.code)) (machine_of job) (main_of job t) steps ≡ Some b →
    known (regent_ground (spaces_of job.code)) b.state.tree ≡ stops_at x text →
    order_run job ≡ record { text = text; ending = ending_of (fault_of x) }
