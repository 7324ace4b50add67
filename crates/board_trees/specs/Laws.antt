-- The board's state and the boards of the laws: the beginning, and what a step is to keep.
use Rattle.std.specs.Prelude.{◌≡◌, None, Option, Some, slice_get, true}
use Rattle.task_code.specs.declared.code.TaskCode.{TaskCode}
use Rattle.task_code.specs.declared.job.Job.{Job}
use Rattle.machine_terms.specs.Jobs.{may_start}
use Rattle.board_rules.specs.NumberedBoards.{Board, start}
use Rattle.regent_boards.specs.RegentMachine.{regent_ground}
use Rattle.code_boards.specs.Laws.{machine_of, main_of}
use Rattle.code_boards.specs.Views.{spaces_of}
use Rattle.board_terms.specs.States.{State, opened}
use Rattle.board_trees.specs.Shows.{ShowsBoard}

-- the board of a job that isn't void, with main alone, shows the tree's beginning
abbrev pub NewBoardsShow : Type 0
NewBoardsShow = (job : Job) (t : TaskCode) → slice_get job.code.tasks job.code.start ≡ Some t → may_start job t ≡ true →
    ShowsBoard job (opened job) (start (regent_ground (spaces_of job.code)) (machine_of job) (main_of job t))

-- both steps may be made, and what results shows again, or neither may be
abbrev pub BothShow : (job : Job) → Option State → Option (Board (regent_ground (spaces_of job.code))) → Type 0
BothShow job None None = Unit {0}
BothShow job (Some s) (Some b) = ShowsBoard job s b
BothShow job _ _ = ⊥
