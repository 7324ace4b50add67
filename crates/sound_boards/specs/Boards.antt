-- Of every board of an accepted whole program, whatever steps its seats make: no segment breaks, and no operation.
use Rattle.std.specs.Prelude.{◌≡◌, ◌≢◌, ℕ, ◌<◌, ◌^◌, ℤ, List, Some}
use Rattle.regent_tree.specs.Syntax.{Tree}
use Rattle.run_journal.specs.declared.entry.Entry.{Entry}
use Rattle.machine_terms.specs.declared.frame.Before.{Before}
use Rattle.machine_terms.specs.declared.outcome.CallOut.{CallOut}
use Rattle.machine_terms.specs.declared.outcome.Yield.TheVariants as yield
use Rattle.machine_terms.specs.Segments.{segment}
use Rattle.board_terms.specs.declared.claim.Claim.{Claim}
use Rattle.board_terms.specs.declared.operation.Activity.TheVariants as activity
use Rattle.board_terms.specs.declared.operation.Ending.TheVariants as ending
use Rattle.board_terms.specs.Replays.{replay}
use Rattle.board_terms.specs.States.{State, operation_at}
use Rattle.code_rules.specs.Programs.{code_of}
use Rattle.code_laws.specs.Programs.{job_of}
use Rattle.fit_rules.specs.Fits.{Program}
use Rattle.fit_runs.specs.Runs.{IsSoundCode}
use Rattle.fit_boards.specs.Boards.{calls_of, KeepsDeclared}
use Rattle.fit_boards.specs.Steps.{IsRunFitting}
use Rattle.code_laws.specs.AcceptedPrograms.{IsProgramRun}
use Rattle.sound_code.specs.Marks.{IsOfTree}

-- of each state to which a journal leads, for the job of a program's code with these inputs and fewer than 2^64 turns
abbrev pub OfAllBoards : Tree → List ℤ → (State → Type 0) → Type 0
OfAllBoards tree inputs Q = (turns : ℕ) → turns < 2 ^ 64 → (journal : List Entry) (s : State) →
    replay (job_of tree inputs turns) journal ≡ Some s → Q s

-- of what each operation that is out there is to be run from, by its number, with the calls by which operations were issued
abbrev pub OfEachOut : Tree → List ℤ → (List CallOut → State → ℕ → Before → Type 0) → Type 0
OfEachOut tree inputs P = (turns : ℕ) → turns < 2 ^ 64 → (journal : List Entry) (s : State) → replay (job_of tree inputs turns) journal ≡ Some s →
    (k : ℕ) (c : Claim) (b : Before) → (operation_at s k).activity ≡ activity.Out c b → P (calls_of (job_of tree inputs turns) journal) s k b

-- The program's code, with a mark for each place that is the tree's, such that the code of each task is sound. What each operation that is
-- out is run from fits beside a world of the board; and its segment keeps what its task declares: touches, what its children need, and
-- partitions.
pub record BoardsKeepAll (tree : Tree) (inputs : List ℤ) : Type 0 where
  pub program : Program
  pub code : program.code ≡ code_of tree
  pub of_tree : IsOfTree tree program
  pub sound : IsSoundCode program
  pub fits : OfEachOut tree inputs (IsRunFitting program)
  pub declared : OfEachOut tree inputs (KeepsDeclared program)

-- so it is of each accepted whole program, with inputs that it takes
abbrev pub WholeBoardsKeepAll : Type 0
WholeBoardsKeepAll = (tree : Tree) (inputs : List ℤ) → IsProgramRun tree inputs → BoardsKeepAll tree inputs

-- so no segment is a machine fault
abbrev pub NoSegmentBreaks : Type 0
NoSegmentBreaks = (tree : Tree) (inputs : List ℤ) → IsProgramRun tree inputs →
    OfEachOut tree inputs (λ log s k b. (segment b).ends ≢ yield.MachineFault)

-- And no operation is broken: each call that is handed over is issued, and each partition is made.
abbrev pub NoOperationIsBroken : Type 0
NoOperationIsBroken = (tree : Tree) (inputs : List ℤ) → IsProgramRun tree inputs →
    OfAllBoards tree inputs (λ s. (k : ℕ) → (operation_at s k).activity ≢ activity.Closing ending.Broken)
