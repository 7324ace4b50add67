-- When a board has an outcome of a job.
use Rattle.std.specs.Prelude.{◌≡◌, ℕ, List, Option, Some, None, map, slice_get, true}
use Rattle.regent_tree.specs.declared.outcome.Ending.{Ending}
use Rattle.regent_tree.specs.declared.outcome.Ending.TheVariants.{Finished}
use Rattle.regent_tree.specs.declared.outcome.Outcome.{Outcome}
use Rattle.task_code.specs.declared.code.TaskCode.{TaskCode}
use Rattle.task_code.specs.declared.job.Job.{Job}
use Rattle.machine_terms.specs.Jobs.{ending_of, may_start, order_run}
use Rattle.board_rules.specs.Boards.{Operation, is_over, op, stage_of}
use Rattle.board_rules.specs.Journals.{told}
use Rattle.board_rules.specs.NumberedBoards.{Board, Step, board_of}
use Rattle.regent_boards.specs.Frames.{Spaces, Stop}
use Rattle.regent_boards.specs.RegentMachine.{regent_ground}
use Rattle.code_boards.specs.Laws.{machine_of, main_of}
use Rattle.code_boards.specs.Views.{spaces_of}
use Rattle.order_boards.specs.Outcomes.{fault_of, image_on}

-- the roots that an operation made, in order
abbrev pub own_roots_of : (spaces : Spaces) → Operation (regent_ground spaces) → List ℕ
own_roots_of spaces (op D N i f ps st is) = f.own

module _ (job : Job) (t : TaskCode) (steps : List Step) (b : Board (regent_ground (spaces_of job.code))) where
  -- Without a fault the outcome has what the first task's roots hold on the board; else it has the fault, or is Broken.
  abbrev pub HasEnding : Option Stop → Ending → Type 0
  HasEnding None e = e ≡ Finished (map (image_on (spaces_of job.code) b.state.map) (own_roots_of (spaces_of job.code) b.state.tree))
  HasEnding (Some x) e = e ≡ ending_of (fault_of x)

  -- the board's text and ending, read by place
  pub record HasOutcome (o : Outcome) : Type 0 where
    pub text : o.text ≡ (told (regent_ground (spaces_of job.code)) (machine_of job 0) b.state.tree).text
    pub ending : HasEnding (told (regent_ground (spaces_of job.code)) (machine_of job 0) b.state.tree).fault o.ending

-- Whatever steps the seats of a board make, once it is finished it has the outcome of the run in order of its job.
abbrev pub FinishedBoardsAgree : Type 0
FinishedBoardsAgree = (job : Job) (t : TaskCode) (steps : List Step) (b : Board (regent_ground (spaces_of job.code))) →
    slice_get job.code.tasks job.code.start ≡ Some t → may_start job t ≡ true →
    board_of (regent_ground (spaces_of job.code)) (machine_of job) (main_of job t) steps ≡ Some b →
    is_over (regent_ground (spaces_of job.code)) (stage_of (regent_ground (spaces_of job.code)) b.state.tree) ≡ true →
    HasOutcome job t steps b (order_run job)
