-- Every segment yields: its machine comes to a step that stops.
use Rattle.std.specs.Prelude.{◌≡◌, ◌≢◌, ℕ, suc, ◌<◌, List, [], ◌++◌, Some, None, slice_get, length}
use Rattle.regent_tree.specs.declared.outcome.Fault.{Fault}
use Rattle.task_code.specs.declared.code.Code.{Code}
use Rattle.task_code.specs.declared.code.Line.{Line}
use Rattle.task_code.specs.declared.code.TaskCode.{TaskCode}
use Rattle.machine_terms.specs.declared.frame.Before.{Before}
use Rattle.machine_terms.specs.declared.outcome.Yield.{Yield}
use Rattle.machine_terms.specs.declared.outcome.Yield.TheVariants as yield
use Rattle.machine_terms.specs.Machine.{Machine, goes, prints, stops}
use Rattle.machine_terms.specs.Segments.{step, run, after, segment, opened}

-- The task of a frame is there, has as many slots as the frame, and no fault is kept for later.
pub record Begins (b : Before) (t : TaskCode) : Type 0 where
  pub task : slice_get b.code.tasks b.frame.task ≡ Some t
  pub slots : length b.frame.slots ≡ t.slots
  pub later : b.frame.later ≡ None

-- By so many steps, none of which stops, a machine comes from a text and a state to others.
pub data Comes (code : Code) (body : List Line) : ℕ → List ℕ → Machine → List ℕ → Machine → Type 0 where
  comes_here : (text : List ℕ) (m : Machine) → Comes code body 0 text m text m
  comes_going : (k : ℕ) (text last_text : List ℕ) (m n last : Machine) → step code body m ≡ goes n →
      Comes code body k text n last_text last → Comes code body (suc k) text m last_text last
  comes_printing : (k : ℕ) (text more last_text : List ℕ) (m n last : Machine) →
      step code body m ≡ prints more n → Comes code body k (text ++ more) n last_text last →
      Comes code body (suc k) text m last_text last

-- Behind so many steps there is one that stops, and the segment yields what it stops for, whatever
-- more steps are allowed.
pub record StopsAtStep (b : Before) (t : TaskCode) : Type 0 where
  pub steps : ℕ
  pub last : Machine
  pub left : Machine
  pub text : List ℕ
  pub yield : Yield
  pub comes : Comes b.code t.body steps [] (opened b) text last
  pub stops : step b.code t.body last ≡ stops yield left
  pub segment : segment b ≡ after (record { ends = yield; machine = left; text = text })
  pub more_steps : (k : ℕ) → steps < k →
      run b.code t.body k [] (opened b) ≡ record { ends = yield; machine = left; text = text }

abbrev pub SegmentsYield : Type 0
SegmentsYield = (b : Before) (t : TaskCode) → Begins b t → StopsAtStep b t

-- Else it yields before the first step.
abbrev pub YieldsAtOnce : Before → Yield → Type 0
YieldsAtOnce b y = segment b ≡ after (record { ends = y; machine = opened b; text = [] })

abbrev pub AbsentTasksYield : Type 0
AbsentTasksYield = (b : Before) → slice_get b.code.tasks b.frame.task ≡ None →
    YieldsAtOnce b yield.MachineFault

abbrev pub WrongSlotsYield : Type 0
WrongSlotsYield = (b : Before) (t : TaskCode) → slice_get b.code.tasks b.frame.task ≡ Some t →
    length b.frame.slots ≢ t.slots → YieldsAtOnce b yield.MachineFault

abbrev pub LaterFaultsYield : Type 0
LaterFaultsYield = (b : Before) (t : TaskCode) (f : Fault) →
    slice_get b.code.tasks b.frame.task ≡ Some t → length b.frame.slots ≡ t.slots →
    b.frame.later ≡ Some f → YieldsAtOnce b (yield.Fault f)
