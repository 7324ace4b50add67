-- The trace of a run.
use Rattle.std.specs.Prelude.{◌≡◌, ◌≢◌, ℕ, ℤ, Bool, true, false, List, [], Ok, Some}
use Rattle.board_terms.specs.Replays.{replay}
use Rattle.board_terms.specs.Stages.{has_finished}
use Rattle.board_terms.specs.States.{State}
use Rattle.check_rules.specs.Acceptance.{input_widths}
use Rattle.code_laws.specs.Programs.{job_of}
use Rattle.command_words.specs.Commands.{Run, turns_or_default, workers_or_default}
use Rattle.parallel_run.specs.Runs.{in_order_line, no_result_line, other_job_line, trace_of}
use Rattle.parallel_run.specs.declared.ran.Ran.{Ran}
use Rattle.regent_reader.specs.Texts.{Reads}
use Rattle.regent_tree.specs.Syntax.{Tree}
use Rattle.regent_run.specs.Inputs.{AreInputs}
use Rattle.run_journal.specs.Journals.{text_of}
use Rattle.run_journal.specs.declared.entry.Entry.{Entry}
use Rattle.task_code.specs.declared.job.Job.{Job}

-- The trace of a run with a number of workers, if it is asked for, and these are its journals.
-- Without workers it is the line of a run in order. With workers it is the text of a journal, or a
-- line that says why the run was made in order after all.
pub data IsTrace (IsJournal : List Entry → Type 0) : Bool → ℕ → List ℕ → Type 0 where
  not_asked : {workers : ℕ} → IsTrace IsJournal false workers []
  in_order : IsTrace IsJournal true 0 in_order_line
  by_workers : {workers : ℕ} (journal : List Entry) → workers ≢ 0 → IsJournal journal →
      IsTrace IsJournal true workers (text_of journal)
  other_job : {workers : ℕ} → workers ≢ 0 → IsTrace IsJournal true workers other_job_line
  no_result : {workers : ℕ} → workers ≢ 0 → IsTrace IsJournal true workers no_result_line

-- for this job the journal produces a board that has finished: no operation is left that hasn't
-- finished
pub record FinishesJob (job : Job) (journal : List Entry) : Type 0 where
  pub state : State
  pub leads : replay job journal ≡ Some state
  pub finished : has_finished state ≡ true

-- the journal finishes the job of the program's code, with the program's arguments in the words and
-- these turns
pub record IsJournal (tree : Tree) (r : Run) (journal : List Entry) : Type 0 where
  pub inputs : List ℤ
  pub given : AreInputs (input_widths tree) r.numbers inputs
  pub finishes : FinishesJob (job_of tree inputs (turns_or_default r.turns_named)) journal

-- the same for the text's program
pub record IsJournalOf (text : List ℕ) (r : Run) (journal : List Entry) : Type 0 where
  pub tree : Tree
  pub reads : Reads text (Ok tree)
  pub journal_is : IsJournal tree r journal

-- the trace of a run that is done, if it is asked for
abbrev pub trace_by : Bool → Ran → List ℕ
trace_by true ran = trace_of ran
trace_by false ran = []

-- ---- the number of workers that serve

-- All requested workers serve; or, if the call runs programs alone, none does.
abbrev pub all_serve : ℕ → ℕ
all_serve asked = asked

abbrev pub none_serve : ℕ → ℕ
none_serve asked = 0

-- the number of workers that serve a run, given how many serve for each number requested
abbrev pub serving : (ℕ → ℕ) → Run → ℕ
serving serves r = serves (workers_or_default r.workers_named)
