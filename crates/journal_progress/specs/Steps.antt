-- The steps of the boards' laws that a journal makes, and that they lead to a board that the table shows.
use Rattle.std.specs.Prelude.{◌≡◌, ◌⊎◌, ◌∷◌, List, None, Some, false, map, slice_get, true}
use Rattle.task_code.specs.declared.code.TaskCode.{TaskCode}
use Rattle.task_code.specs.declared.job.Job.{Job}
use Rattle.machine_terms.specs.Jobs.{may_start}
use Rattle.run_journal.specs.declared.entry.Entry.{Entry}
use Rattle.run_journal.specs.declared.entry.StepKind.{StepKind}
use Rattle.run_journal.specs.declared.entry.StepKind.TheVariants.{Back, Claim, Copy, Give}
use Rattle.board_rules.specs.Boards.{Kind, back, claim, copy, give}
use Rattle.board_rules.specs.NumberedBoards.{Step, board_of}
use Rattle.regent_boards.specs.RegentMachine.{regent_ground}
use Rattle.code_boards.specs.Laws.{machine_of, main_of}
use Rattle.code_boards.specs.Views.{spaces_of}
use Rattle.board_terms.specs.Replays.{replay}
use Rattle.board_trees.specs.Laws.{BothShow}

abbrev pub kind_of : StepKind → Kind
kind_of Claim = claim
kind_of Copy = copy
kind_of Give = give
kind_of Back = back

-- an entry of a journal as a step of the laws: of the same kind, on the same operation, by the same seat
abbrev pub step_of : Entry → Step
step_of e = record { kind = kind_of e.kind; number = e.op.0; seat = e.seat }

abbrev pub steps_of : List Entry → List Step
steps_of journal = map step_of journal

-- Of every job whose first task may start, and of every journal: its entries may be made on the table exactly where the same
-- steps may be made on the board of the laws, and then what they lead to shows what these lead to.
abbrev pub JournalsShow : Type 0
JournalsShow = (job : Job) (t : TaskCode) → slice_get job.code.tasks job.code.start ≡ Some t → may_start job t ≡ true → (journal : List Entry) →
    BothShow job (replay job journal) (board_of (regent_ground (spaces_of job.code)) (machine_of job) (main_of job t) (steps_of journal))

-- it has no first task, or one that may not start
abbrev pub IsVoid : Job → Type 0
IsVoid job = (slice_get job.code.tasks job.code.start ≡ None)
    ⊎ ((t : TaskCode) × (slice_get job.code.tasks job.code.start ≡ Some t) × (may_start job t ≡ false))

-- The laws have no board of a void job, and on its table no step may be made.
abbrev pub VoidJobsStay : Type 0
VoidJobsStay = (job : Job) → IsVoid job → (e : Entry) (journal : List Entry) → replay job (e ∷ journal) ≡ None
