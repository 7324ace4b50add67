-- What is so of the board of every job, compiled or not, whatever steps its seats make.
use Rattle.std.specs.Prelude.{◌≡◌, List, Some}
use Rattle.board_rules.specs.NumberedBoards.{Board, Step, board_of}
use Rattle.code_boards.specs.Laws.{machine_of, main_of}
use Rattle.code_boards.specs.Views.{spaces_of}
use Rattle.progress_laws.specs.Progress.{FilledIsMap, HeldIsApart, IssuedIsNeeded, ProgressIsApart, SomeIsReady}
use Rattle.regent_boards.specs.RegentMachine.{regent_ground}
use Rattle.task_code.specs.declared.code.TaskCode.{TaskCode}
use Rattle.task_code.specs.declared.job.Job.{Job}

abbrev pub OfEachJob : ((job : Job) → Board (regent_ground (spaces_of job.code)) → Type 0) → Type 0
OfEachJob P = (job : Job) (t : TaskCode) (steps : List Step) (b : Board (regent_ground (spaces_of job.code))) →
    board_of (regent_ground (spaces_of job.code)) (machine_of job) (main_of job t) steps ≡ Some b → P job b

-- operations in progress that are no ancestors of each other never interfere
abbrev pub JobsInProgressApart : Type 0
JobsInProgressApart = OfEachJob (λ job b. ProgressIsApart (regent_ground (spaces_of job.code)) b)

-- what an operation was issued with it still needs
abbrev pub JobsIssuedNeeded : Type 0
JobsIssuedNeeded = OfEachJob (λ job b. IssuedIsNeeded (regent_ground (spaces_of job.code)) b)

-- what an operation holds conflicts with no need of its unfinished children
abbrev pub JobsHeldApart : Type 0
JobsHeldApart = OfEachJob (λ job b. HeldIsApart (regent_ground (spaces_of job.code)) b)

-- what was filled of an operation so far is what would be filled now
abbrev pub JobsFilled : Type 0
JobsFilled = OfEachJob (λ job b. FilledIsMap (regent_ground (spaces_of job.code)) (machine_of job) b)

-- where there is no claim and the first task isn't over, some operation can be claimed
abbrev pub JobsSomeReady : Type 0
JobsSomeReady = OfEachJob (λ job b. SomeIsReady (regent_ground (spaces_of job.code)) (machine_of job) b)
