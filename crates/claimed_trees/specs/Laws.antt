-- Claims, copies and claims that are taken back, on a board's state and on a board of the laws.
use Rattle.std.specs.Prelude.{ℕ, Some}
use Rattle.task_code.specs.declared.job.Job.{Job}
use Rattle.board_rules.specs.Boards.{back, claim, copy}
use Rattle.board_rules.specs.NumberedBoards.{Board, after_step}
use Rattle.regent_boards.specs.RegentMachine.{regent_ground}
use Rattle.code_boards.specs.Laws.{machine_of}
use Rattle.code_boards.specs.Views.{spaces_of}
use Rattle.board_terms.specs.Claims.{backed, claimed, copied}
use Rattle.board_terms.specs.States.{State}
use Rattle.board_trees.specs.Laws.{BothShow}
use Rattle.board_trees.specs.Shows.{ShowsBoard}

-- an operation is claimed on both, or on neither
abbrev pub ClaimsShow : Type 0
ClaimsShow = (job : Job) (s : State) (b : Board (regent_ground (spaces_of job.code))) → ShowsBoard job s b → (k seat : ℕ) →
    BothShow job (claimed s k seat)
    (after_step (regent_ground (spaces_of job.code)) (machine_of job) (Some b) (record { kind = claim; number = k; seat = seat }))

-- the next elements are moved on both, or on neither
abbrev pub CopiesShow : Type 0
CopiesShow = (job : Job) (s : State) (b : Board (regent_ground (spaces_of job.code))) → ShowsBoard job s b → (k seat : ℕ) →
    BothShow job (copied job.code s k seat)
    (after_step (regent_ground (spaces_of job.code)) (machine_of job) (Some b) (record { kind = copy; number = k; seat = seat }))

-- a claim is taken back on both, or on neither
abbrev pub BacksShow : Type 0
BacksShow = (job : Job) (s : State) (b : Board (regent_ground (spaces_of job.code))) → ShowsBoard job s b → (k seat : ℕ) →
    BothShow job (backed s k seat)
    (after_step (regent_ground (spaces_of job.code)) (machine_of job) (Some b) (record { kind = back; number = k; seat = seat }))
