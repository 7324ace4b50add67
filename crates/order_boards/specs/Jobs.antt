-- What is asked of boards of a job, be it void or not.
use Rattle.std.specs.Prelude.{◌≡◌, List, Bool, true, false, Option, Some, None, slice_get}
use Rattle.regent_tree.specs.declared.outcome.Outcome.{Outcome}
use Rattle.task_code.specs.declared.code.TaskCode.{TaskCode}
use Rattle.task_code.specs.declared.job.Job.{Job}
use Rattle.machine_terms.specs.Jobs.{may_start, order_run, void_outcome}
use Rattle.board_rules.specs.Boards.{is_over, stage_of}
use Rattle.board_rules.specs.NumberedBoards.{Board, Step, board_of}
use Rattle.regent_boards.specs.RegentMachine.{regent_ground}
use Rattle.code_boards.specs.Laws.{machine_of, main_of}
use Rattle.code_boards.specs.Views.{spaces_of}
use Rattle.order_boards.specs.Finished.{HasOutcome}

-- Any finished board of a job whose start is this task has the outcome. A void job's board is over from the beginning:
-- Broken, and without text.
abbrev pub IsResultOf : Job → List Step → TaskCode → Bool → Outcome → Type 0
IsResultOf job steps t true o = (b : Board (regent_ground (spaces_of job.code))) →
    board_of (regent_ground (spaces_of job.code)) (machine_of job) (main_of job t) steps ≡ Some b →
    is_over (regent_ground (spaces_of job.code)) (stage_of (regent_ground (spaces_of job.code)) b.state.tree) ≡ true → HasOutcome job t steps b o
IsResultOf job steps t false o = o ≡ void_outcome

abbrev pub IsResult : Job → List Step → Option TaskCode → Outcome → Type 0
IsResult job steps (Some t) o = IsResultOf job steps t (may_start job t) o
IsResult job steps None o = o ≡ void_outcome

-- of every job, compiled or not, void or not, and whatever steps the seats of its board make
abbrev pub BoardsAgree : Type 0
BoardsAgree = (job : Job) (steps : List Step) → IsResult job steps (slice_get job.code.tasks job.code.start) (order_run job)
