-- Laws of sound code: from every machine that fits, a segment ends well.
use Rattle.std.specs.Prelude.{◌≡◌, ◌≢◌, ℕ, List, Bool, true, Some, slice_get}
use Rattle.region_tree.specs.Requirements.{is_within}
use Rattle.regent_tree.specs.Store.{Touch}
use Rattle.task_code.specs.declared.code.TaskCode.{TaskCode}
use Rattle.machine_terms.specs.declared.frame.Before.{Before}
use Rattle.machine_terms.specs.declared.order.Contents.{Contents}
use Rattle.machine_terms.specs.declared.outcome.CallOut.{CallOut}
use Rattle.machine_terms.specs.declared.outcome.Made.TheVariants as made
use Rattle.machine_terms.specs.declared.outcome.Yield.TheVariants as yield
use Rattle.machine_terms.specs.declared.value.RegionValue.{RegionValue}
use Rattle.machine_terms.specs.Contents.{image_of}
use Rattle.machine_terms.specs.Makes.{is_sound}
use Rattle.machine_terms.specs.Opening.{requirements_on}
use Rattle.machine_terms.specs.Segments.{segment}
use Rattle.machine_terms.specs.Touches.{segment_touches}
use Rattle.fit_rules.specs.Shapes.{Each, World}
use Rattle.fit_rules.specs.Fits.{Program, BeforeFits, claims, declared_claims, Covers}
use Rattle.fit_rules.specs.Ends.{AfterFits, CallsWell}
use Rattle.fit_rules.specs.Sound.{IsSound}

-- of each segment of sound code, from a Before that fits
abbrev pub OfSegments : (Program → World → TaskCode → ℕ → Before → Type 0) → Type 0
OfSegments P = (g : Program) (x : World) (t : TaskCode) (k : ℕ) (b : Before) → IsSound g t k →
    BeforeFits g x t k b → P g x t k b

-- what it leaves fits again
abbrev pub SegmentsKeepFitting : Type 0
SegmentsKeepFitting = OfSegments (λ g x t k b. AfterFits g x t k (segment b))

-- it isn't a machine fault
abbrev pub NoSegmentBreaks : Type 0
NoSegmentBreaks = OfSegments (λ g x t k b. (segment b).ends ≢ yield.MachineFault)

-- each of its touches is covered by what the task declares, or is of a root that the task made
abbrev pub TouchesAreCovered : Type 0
TouchesAreCovered = OfSegments (λ g x t k b.
    Each (λ (u : Touch). Covers g x t u.root u.field u.point u.access) (segment_touches b))

-- what each child needs is within what its caller needs, and its opening frame fits
abbrev pub ChildrenAreWithin : Type 0
ChildrenAreWithin = OfSegments (λ g x t k b. (cs : List CallOut) →
    (segment b).ends ≡ yield.Calls cs → Each (CallsWell g x t) cs)

-- What the roots hold is of the same field spaces as the world.
abbrev pub AgreesWith : World → Contents → Type 0
AgreesWith x contents =
    (root : ℕ) → x.there root ≡ true → (image_of contents root).space ≡ x.spaces root

-- a call passes the test of the run in order: its task's needs on the arguments are told, and are within
-- the caller's
pub record PassesTest (g : Program) (x : World) (t : TaskCode) (c : CallOut) : Type 0 where
  pub callee : TaskCode
  pub there : slice_get g.code.tasks c.task ≡ Some callee
  pub required : (contents : Contents) → AgreesWith x contents →
      requirements_on g.code contents callee.needs c.args ≡ Some (declared_claims callee.needs c.args)
  pub within : is_within (declared_claims callee.needs c.args) (claims g x t) ≡ true

abbrev pub ChildrenPass : Type 0
ChildrenPass = OfSegments (λ g x t k b. (cs : List CallOut) →
    (segment b).ends ≡ yield.Calls cs → Each (PassesTest g x t) cs)

-- each partition passes the test of the run in order: its sets lie in its region, and share no point
-- where its flag says so
abbrev pub PartitionsAreSound : Type 0
PartitionsAreSound = OfSegments (λ g x t k b. (r : RegionValue) (sets : List (List ℕ)) (flag : Bool) →
    (segment b).ends ≡ yield.Make (made.Partition r sets flag) → is_sound r.points sets flag ≡ true)
