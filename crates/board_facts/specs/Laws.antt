-- What is kept on boards: who was called by whom, what was printed, what roots hold.
use Rattle.std.specs.Prelude.{◌≡◌, ◌<◌, ◌≤◌, ◌+◌, ℕ, List, Some, length}
use Rattle.task_code.specs.declared.code.Code.{Code}
use Rattle.task_code.specs.declared.job.Job.{Job}
use Rattle.run_journal.specs.declared.entry.Entry.{Entry}
use Rattle.machine_terms.specs.declared.outcome.After.{After}
use Rattle.board_terms.specs.Gives.{given_after}
use Rattle.board_terms.specs.Outcomes.{told}
use Rattle.board_terms.specs.Replays.{replay}
use Rattle.board_terms.specs.States.{State}
use Rattle.board_facts.specs.Families.{IsFamily, IsSound}
use Rattle.board_facts.specs.Given.{IsGiven}
use Rattle.board_facts.specs.Texts.{said_in}

-- what a journal leads to is sound
abbrev pub ReplaysAreSound : Type 0
ReplaysAreSound = (job : Job) (journal : List Entry) (s : State) → replay job journal ≡ Some s → IsSound s

-- no more is told than was said
abbrev pub TextIsWhatWasSaid : Type 0
TextIsWhatWasSaid = (s : State) → IsFamily s.operations → length (told s).text ≤ said_in s.operations

-- what a segment leaves that is given back
abbrev pub SegmentsAreGiven : Type 0
SegmentsAreGiven = (code : Code) (turns : ℕ) (s : State) (k : ℕ) (a : After) → IsSound s → k < length s.operations →
    IsGiven code s k a (given_after code turns s k a)

-- it says what it printed
abbrev pub TextGrowsByWhatIsPrinted : Type 0
TextGrowsByWhatIsPrinted = (code : Code) (s t : State) (k : ℕ) (a : After) → k < length s.operations → IsGiven code s k a t →
    said_in t.operations ≡ said_in s.operations + length a.text
