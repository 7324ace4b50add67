-- A give on both, or on neither.
use Rattle.std.specs.Prelude.{◌≡◌, ℕ, Some, List}
use Rattle.task_code.specs.declared.job.Job.{Job}
use Rattle.machine_terms.specs.declared.frame.Before.{Before}
use Rattle.board_rules.specs.Boards.{give}
use Rattle.board_rules.specs.NumberedBoards.{Board, after_step}
use Rattle.regent_boards.specs.RegentMachine.{regent_ground}
use Rattle.code_boards.specs.Laws.{machine_of}
use Rattle.code_boards.specs.Views.{spaces_of}
use Rattle.board_terms.specs.declared.claim.Claim.{Claim}
use Rattle.board_terms.specs.declared.operation.Activity.TheVariants as activity
use Rattle.board_terms.specs.Gives.{given}
use Rattle.board_terms.specs.States.{State, operation_at}
use Rattle.board_trees.specs.Laws.{BothShow}
use Rattle.board_trees.specs.Shows.{ShowsBoard}
use Rattle.changed_trees.specs.Changes.{IsAt}
use Rattle.changed_trees.specs.Given.{Opens}

-- Where a state shows a board, a segment is given back on both or on neither, and what results shows again.
abbrev pub GivesShow : Type 0
GivesShow = (job : Job) (s : State) (b : Board (regent_ground (spaces_of job.code))) → ShowsBoard job s b → (k seat : ℕ) →
    BothShow job (given job.code job.turns s k seat)
    (after_step (regent_ground (spaces_of job.code)) (machine_of job) (Some b) (record { kind = give; number = k; seat = seat }))

-- whatever it yields, the segment of one that is out leaves an open board
abbrev pub YieldsAllOpen : Type 0
YieldsAllOpen = (job : Job) (s : State) (b : Board (regent_ground (spaces_of job.code))) → ShowsBoard job s b → (k : ℕ) (v : List ℕ) → IsAt job b.ways k v →
    (claim : Claim) (before : Before) → (operation_at s k).activity ≡ activity.Out claim before → Opens job b k v s before
