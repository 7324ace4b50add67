-- Of every board of sound code, whatever steps its seats make: what is handed out fits, so no segment breaks.
use Rattle.std.specs.Prelude.{◌≡◌, ◌≢◌, ℕ, Bool, List, [], ◌∷◌, ◌++◌, None, Option, Some, true}
use Rattle.regent_tree.specs.Store.{Touch}
use Rattle.run_journal.specs.declared.entry.Entry.{Entry}
use Rattle.task_code.specs.declared.code.TaskCode.{TaskCode}
use Rattle.task_code.specs.declared.job.Job.{Job}
use Rattle.machine_terms.specs.declared.frame.Before.{Before}
use Rattle.machine_terms.specs.declared.outcome.CallOut.{CallOut}
use Rattle.machine_terms.specs.declared.outcome.Made.TheVariants as made
use Rattle.machine_terms.specs.declared.outcome.Yield.TheVariants as yield
use Rattle.machine_terms.specs.declared.value.RegionValue.{RegionValue}
use Rattle.machine_terms.specs.Jobs.{may_start}
use Rattle.machine_terms.specs.Makes.{is_sound}
use Rattle.machine_terms.specs.Segments.{segment}
use Rattle.machine_terms.specs.Touches.{segment_touches}
use Rattle.board_terms.specs.declared.claim.Claim.{Claim}
use Rattle.board_terms.specs.declared.operation.Activity.TheVariants as activity
use Rattle.board_terms.specs.declared.operation.Ending.TheVariants as ending
use Rattle.board_terms.specs.Replays.{replay, stepped}
use Rattle.board_terms.specs.States.{opened, State, operation_at}
use Rattle.board_trees.specs.Shows.{ShowsBoard}
use Rattle.board_rules.specs.NumberedBoards.{Board}
use Rattle.regent_boards.specs.RegentMachine.{regent_ground}
use Rattle.code_boards.specs.Views.{spaces_of}
use Rattle.fit_rules.specs.Shapes.{Each}
use Rattle.fit_rules.specs.Fits.{Covers, Program}
use Rattle.fit_rules.specs.Ends.{AfterFits, CallsWell}
use Rattle.fit_laws.specs.Segments.{PassesTest}
use Rattle.fit_boards.specs.Steps.{first_call, FirstFits, IsKnown, IsRunFitting, IsSoundJob, issued_by}

-- a state that shows a board of the laws has what the steps take for granted
abbrev pub ShownIsKnown : Type 0
ShownIsKnown = (job : Job) (s : State) (b : Board (regent_ground (spaces_of job.code))) → ShowsBoard job s b → IsKnown s

-- The calls by which the operations of a board were issued, in order, that of the first task and those of each step of the journal: what
-- segments handed over, as many as operations came.
abbrev pub on_step : Option State → (State → List CallOut) → List CallOut
on_step None f = []
on_step (Some u) f = f u

abbrev pub issued_from : Job → State → List Entry → List CallOut
issued_from job s [] = []
issued_from job s (e ∷ es) = on_step (stepped job s e) (λ u. issued_by s e.op.0 u ++ issued_from job u es)

abbrev pub calls_of : Job → List Entry → List CallOut
calls_of job journal = first_call job ∷ issued_from job (opened job) journal

-- Of each operation that is out, by its number, of every board to which a journal leads, with these calls, where the job's code is sound
-- and its first frame fits.
abbrev pub OfAllOut : (Program → List CallOut → State → ℕ → Before → Type 0) → Type 0
OfAllOut P = (g : Program) (job : Job) (t : TaskCode) → IsSoundJob g job → FirstFits g job t → (journal : List Entry) (s : State) →
    replay job journal ≡ Some s → (k : ℕ) (c : Claim) (b : Before) → (operation_at s k).activity ≡ activity.Out c b →
    P g (calls_of job journal) s k b

-- what its segment is run from fits
abbrev pub BoardsFit : Type 0
BoardsFit = OfAllOut IsRunFitting

-- so the segment isn't a machine fault
abbrev pub NoBoardBreaks : Type 0
NoBoardBreaks = OfAllOut (λ g log s k b. (segment b).ends ≢ yield.MachineFault)

-- In that world its segment keeps all: what it leaves fits again, and it isn't a machine fault. It keeps what its task declares: each
-- touch is covered, or is of a root that the task made; what each child needs is within what the task needs, its opening frame
-- fits, and it passes the test of the run in order; and each partition lies in its region and keeps its flag.
pub record KeepsDeclared (g : Program) (log : List CallOut) (s : State) (k : ℕ) (b : Before) : Type 0 where
  pub run : IsRunFitting g log s k b
  pub after : AfterFits g run.world run.task (operation_at s k).frame.task (segment b)
  pub unbroken : (segment b).ends ≢ yield.MachineFault
  pub touches : Each (λ (u : Touch). Covers g run.world run.task u.root u.field u.point u.access) (segment_touches b)
  pub children : (cs : List CallOut) → (segment b).ends ≡ yield.Calls cs → Each (CallsWell g run.world run.task) cs × Each (PassesTest g run.world run.task) cs
  pub partitions : (r : RegionValue) (sets : List (List ℕ)) (flag : Bool) →
      (segment b).ends ≡ yield.Make (made.Partition r sets flag) → is_sound r.points sets flag ≡ true

abbrev pub BoardsKeepDeclared : Type 0
BoardsKeepDeclared = OfAllOut KeepsDeclared

-- And no operation of such a board is broken, where there are as many inputs as the first task takes: each call that is handed
-- over is issued, and each partition is made.
abbrev pub NoneIsBroken : Type 0
NoneIsBroken = (g : Program) (job : Job) (t : TaskCode) → IsSoundJob g job → FirstFits g job t → may_start job t ≡ true → (journal : List Entry) (s : State) →
    replay job journal ≡ Some s → (k : ℕ) → (operation_at s k).activity ≢ activity.Closing ending.Broken
