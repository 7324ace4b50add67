-- Each step of a board of sound code keeps that its state fits.
use Rattle.std.specs.Prelude.{◌≡◌, ◌⊎◌, ℕ, ◌<◌, ◌^◌, ◌-◌, List, [], ◌∷◌, ◌++◌, false, length, map, take, true, Some, slice_get}
use Rattle.region_tree.specs.Needs.{requirements_of}
use Rattle.region_tree.specs.Trees.{RegionTree, set_at}
use Rattle.region_tree.specs.declared.tree.OpNumber.{OpNumber}
use Rattle.logical_map.specs.Maps.{columns_of}
use Rattle.run_journal.specs.declared.entry.StepKind.{StepKind}
use Rattle.task_code.specs.declared.code.TaskCode.{TaskCode}
use Rattle.task_code.specs.declared.job.Job.{Job}
use Rattle.machine_terms.specs.declared.frame.Before.{Before}
use Rattle.machine_terms.specs.declared.outcome.CallOut.{CallOut}
use Rattle.machine_terms.specs.declared.outcome.Yield.{Yield}
use Rattle.machine_terms.specs.declared.outcome.Yield.TheVariants as yield
use Rattle.machine_terms.specs.declared.value.RegionValue.{RegionValue}
use Rattle.machine_terms.specs.declared.value.Value.{Value}
use Rattle.machine_terms.specs.declared.value.Value.TheVariants.{Number}
use Rattle.machine_terms.specs.Parts.{is_needed}
use Rattle.machine_terms.specs.Pointers.{region_in}
use Rattle.machine_terms.specs.Segments.{segment}
use Rattle.board_terms.specs.declared.claim.Claim.{Claim}
use Rattle.board_terms.specs.declared.operation.Activity.{Activity}
use Rattle.board_terms.specs.declared.operation.Activity.TheVariants as activity
use Rattle.board_terms.specs.Replays.{step_of}
use Rattle.board_terms.specs.Stages.{may_be_claimed}
use Rattle.board_terms.specs.States.{State, opened, operation_at}
use Rattle.fit_rules.specs.Shapes.{Each, World}
use Rattle.fit_rules.specs.Fits.{BeforeFits, claims, Fits, Program}
use Rattle.fit_rules.specs.Ends.{called, opening_machine}
use Rattle.fit_runs.specs.Runs.{IsSoundCode}
use Rattle.fit_boards.specs.Fitting.{IsOfCall, IsRootOf, StateFits}

-- ---- what else is taken for granted of a board's state

abbrev pub IsFilling : Activity → Type 0
IsFilling (activity.Filling c fill) = Unit {0}
IsFilling a = ⊥

-- the regions of some arguments are those of the tree of regions
abbrev pub ArePlaced : RegionTree → List Value → Type 0
ArePlaced t vs = (i : ℕ) (r : RegionValue) → region_in (slice_get vs i) ≡ Some r →
    (r.node.0 < length t.nodes) × (set_at t r.node.0 ≡ r.points)

-- One that may be claimed is there and does nothing. What one needs that may be claimed or is being filled is a field that
-- is there. And the regions that a segment hands to calls are those of the tree of regions.
pub record IsKnown (s : State) : Type 0 where
  pub idle : (k : ℕ) → may_be_claimed s k ≡ true → (k < length s.operations) × ((operation_at s k).activity ≡ activity.Idle)
  pub fields : (k : ℕ) → (may_be_claimed s k ≡ true) ⊎ IsFilling (operation_at s k).activity → (root field : ℕ) →
      is_needed (operation_at s k).frame.needs.items root field ≡ true → field < length (columns_of s.map root)
  pub regions : (k : ℕ) (c : Claim) (b : Before) → (operation_at s k).activity ≡ activity.Out c b → (cs : List CallOut) →
      (segment b).ends ≡ yield.Calls cs → Each (λ (c : CallOut). ArePlaced s.tree c.args) cs

-- ---- the laws

-- a job of sound code
pub record IsSoundJob (g : Program) (job : Job) : Type 0 where
  pub sound : IsSoundCode g
  pub code : job.code ≡ g.code
  pub turns : job.turns < 2 ^ 64

-- the calls that a segment hands over, and those of them by which the operations came that a step made of this one issues
abbrev pub calls_in : Yield → List CallOut
calls_in (yield.Calls cs) = cs
calls_in y = []

abbrev pub calls_out : Activity → List CallOut
calls_out (activity.Out c b) = calls_in (segment b).ends
calls_out a = []

abbrev pub issued_by : State → ℕ → State → List CallOut
issued_by s k u = take (length u.operations - length s.operations) (calls_out (operation_at s k).activity)

-- a step that may be made leaves a state that fits, with the calls by which its operations were issued
abbrev pub StepsKeepFitting : Type 0
StepsKeepFitting = (g : Program) (job : Job) → IsSoundJob g job → (log : List CallOut) (s : State) → IsKnown s → StateFits g log s →
    (kind : StepKind) (k seat : ℕ) (u : State) → step_of job s k seat kind ≡ Some u → StateFits g (log ++ issued_by s k u) u

-- the call by which the first task of a job begins
abbrev pub first_call : Job → CallOut
first_call job = record { task = job.code.start; args = map Number job.inputs }

-- the first task of a job needs nothing, and begins in a frame that fits, in a world without roots
pub record FirstFits (g : Program) (job : Job) (t : TaskCode) : Type 0 where
  pub world : World
  pub there : slice_get job.code.tasks job.code.start ≡ Some t
  pub needs : t.needs ≡ []
  pub none : (r : ℕ) → world.there r ≡ false
  pub fits : Fits g (called world (map Number job.inputs)) t job.code.start
      (opening_machine job.turns 1 job.code.start t (map Number job.inputs))

-- so a new board fits
abbrev pub NewBoardsFit : Type 0
NewBoardsFit = (g : Program) (job : Job) (t : TaskCode) → IsSoundJob g job → FirstFits g job t → StateFits g (first_call job ∷ []) (opened job)

-- What an operation with a number is run from fits beside a world of the board, with the calls by which operations were issued: of the task
-- that was called and with these arguments; each root that is there was made, of that field space and with these points; its own roots are
-- those of the frame; what it needs is what the task claims; and each child's result is that of the task that was called.
pub record IsRunFitting (g : Program) (log : List CallOut) (s : State) (k : ℕ) (b : Before) : Type 0 where
  pub world : World
  pub task : TaskCode
  pub there : slice_get g.code.tasks (operation_at s k).frame.task ≡ Some task
  pub fits : BeforeFits g world task (operation_at s k).frame.task b
  pub call : CallOut
  pub issued : slice_get log k ≡ Some call
  pub named : (operation_at s k).frame.task ≡ call.task
  pub args : world.args ≡ call.args
  pub roots : (r : ℕ) → world.there r ≡ true → IsRootOf s.roots world r
  pub own : world.own ≡ map (λ r. r.0) (operation_at s k).frame.own
  pub needs : b.frame.needs ≡ (operation_at s k).frame.needs
  pub required : requirements_of s.tree b.frame.needs.items ≡ claims g world task
  pub count : length (operation_at s k).children ≡ world.children
  pub results : (n : ℕ) (c : OpNumber) → slice_get (operation_at s k).children n ≡ Some c → IsOfCall g log (world.results n) c.0

abbrev pub OutsFit : Type 0
OutsFit = (g : Program) (log : List CallOut) (s : State) → StateFits g log s → (k : ℕ) (c : Claim) (b : Before) →
    (operation_at s k).activity ≡ activity.Out c b → IsRunFitting g log s k b
