-- How a job ran, and what it came to.
use Rattle.std.specs.Prelude.{◌≡◌, ◌++◌, ◌∷◌, ℕ, List, [], None, Option, Some, codes, true}
use Rattle.regent_tree.specs.declared.outcome.Outcome.{Outcome}
use Rattle.task_code.specs.declared.job.Job.{Job}
use Rattle.run_journal.specs.Journals.{text_of}
use Rattle.board_terms.specs.Outcomes.{result}
use Rattle.board_terms.specs.Replays.{replay}
use Rattle.board_terms.specs.Stages.{has_finished}
use Rattle.worker_run.specs.Boards.{Standing}
use Rattle.parallel_run.specs.declared.origin.Origin.{Origin}
use Rattle.parallel_run.specs.declared.origin.Origin.TheVariants as origin
use Rattle.parallel_run.specs.declared.ran.Ran.{Ran}
use Rattle.parallel_run.specs.declared.ran.Ran.TheVariants.{ByWorkers, InOrder, NoResult, OtherJob}

-- what it came to: a board, what its state comes to
abbrev pub outcome_of : Ran → Option Outcome
outcome_of (InOrder outcome) = Some outcome
outcome_of (ByWorkers board) = result board.state
outcome_of (OtherJob outcome) = Some outcome
outcome_of (NoResult outcome) = Some outcome

-- A board that was used has finished: no operation is left that isn't over. It is what its journal leads to for its job.
abbrev pub HasEnded : Ran → Type 0
HasEnded (ByWorkers board) = (has_finished board.state ≡ true) × (replay board.job board.journal ≡ Some board.state)
HasEnded ran = Unit {0}

-- a board that was used is of this job
abbrev pub IsOfJob : Job → Ran → Type 0
IsOfJob job (ByWorkers board) = board.job ≡ job
IsOfJob job ran = Unit {0}

-- Where the outcome of a run is from that workers left: the board, where it is of the job and has finished; a run in order,
-- where it is of the job and has no result; and a run in order, where it is of another job.
abbrev pub IsFrom : Job → Standing → Origin → Type 0
IsFrom job board origin.Board = (board.job ≡ job) × (has_finished board.state ≡ true)
IsFrom job board origin.NoResult = (board.job ≡ job) × (result board.state ≡ None)
IsFrom job board origin.OtherJob = ¬ (board.job ≡ job)

-- a run by workers tells that
abbrev pub CameFrom : Job → Standing → Ran → Type 0
CameFrom job board (InOrder outcome) = ⊥
CameFrom job board (ByWorkers used) = IsFrom job board origin.Board × (used ≡ board)
CameFrom job board (OtherJob outcome) = IsFrom job board origin.OtherJob
CameFrom job board (NoResult outcome) = IsFrom job board origin.NoResult

-- no worker was asked for
abbrev pub IsInOrder : Ran → Type 0
IsInOrder (InOrder outcome) = Unit {0}
IsInOrder ran = ⊥

-- the line of a run in order, and the lines that tell why a run by workers was made in order after all
abbrev pub in_order_line : List ℕ
in_order_line = codes "in order" ++ 10 ∷ []

abbrev pub other_job_line : List ℕ
other_job_line = codes "in order: other job" ++ 10 ∷ []

abbrev pub no_result_line : List ℕ
no_result_line = codes "in order: no result" ++ 10 ∷ []

-- the lines that tell how it ran
abbrev pub trace_of : Ran → List ℕ
trace_of (InOrder outcome) = in_order_line
trace_of (ByWorkers board) = text_of board.journal
trace_of (OtherJob outcome) = other_job_line
trace_of (NoResult outcome) = no_result_line
