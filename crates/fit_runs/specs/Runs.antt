-- A run in order of sound code: the instances to which it comes, and that each of them fits.
use Rattle.std.specs.Prelude.{◌≡◌, ℕ, suc, ◌<◌, ◌^◌, pos, List, [], ◌∷◌, ◌++◌, false, true, Some, get_or, length, map, slice_get}
use Rattle.plain_values.specs.Points.{points}
use Rattle.region_tree.specs.Requirements.{Requirement}
use Rattle.region_tree.specs.declared.tree.RootId.{RootId}
use Rattle.task_code.specs.declared.code.Code.{Code}
use Rattle.task_code.specs.declared.code.TaskCode.{TaskCode}
use Rattle.machine_terms.specs.declared.frame.Frame.{Frame}
use Rattle.machine_terms.specs.declared.order.Contents.{Contents}
use Rattle.machine_terms.specs.declared.order.Instance.{Instance}
use Rattle.machine_terms.specs.declared.order.Resumed.TheVariants.{GoesOn}
use Rattle.machine_terms.specs.declared.outcome.CallOut.{CallOut}
use Rattle.machine_terms.specs.declared.outcome.Yield.TheVariants as yield
use Rattle.machine_terms.specs.declared.value.Value.{Value}
use Rattle.machine_terms.specs.Contents.{image_of, kept_at, no_contents}
use Rattle.machine_terms.specs.Opening.{opening, requirements_on}
use Rattle.machine_terms.specs.Orders.{before_of, begun, call_all, give_all, resume_after, runs, with_parts}
use Rattle.machine_terms.specs.Segments.{segment}
use Rattle.memory_laws.specs.Places.{numbers}
use Rattle.fit_rules.specs.Shapes.{Among, NumberIs, World}
use Rattle.fit_rules.specs.Fits.{BeforeFits, claims, Fits, Program, shape_at}
use Rattle.fit_rules.specs.Ends.{called, opening_machine}
use Rattle.fit_rules.specs.Sound.{IsSound}

-- The instances to which a run in order comes from a first one, each with how many may nest there: the first one, below
-- which 63 calls may nest; what goes on behind a segment of one; and what begins at a call of one, when the calls
-- before it have run.
pub data Comes (code : Code) (turns : ℕ) (first : Instance) : ℕ → Instance → Type 0 where
  comes_first : Comes code turns first 64 first
  comes_on : (more : ℕ) (i j : Instance) → Comes code turns first (suc more) i →
      resume_after code turns (runs code turns more) (segment (before_of code i)) i ≡ GoesOn j → Comes code turns first (suc more) j
  comes_down : (more : ℕ) (i j : Instance) (f : Frame) (before behind : List CallOut) (c : CallOut) (t : TaskCode) (needs : List Requirement) →
      Comes code turns first (suc more) i → (segment (before_of code i)).frame ≡ Some f →
      (segment (before_of code i)).ends ≡ yield.Calls (before ++ c ∷ behind) →
      call_all code turns (runs code turns more) before (give_all (record (with_parts (segment (before_of code i)) i) { frame = f })) ≡ GoesOn j →
      slice_get code.tasks c.task ≡ Some t → requirements_on code j.contents t.needs c.args ≡ Some needs →
      Comes code turns first more (begun (opening turns (suc j.frame.depth) c.task t c.args) needs j.contents)

-- A root of a world is one of the run's, of its field space and with its points, and what it keeps is of its fields' shapes.
pub record IsRootOf (g : Program) (c : Contents) (x : World) (r : ℕ) : Type 0 where
  pub present : Among (numbers c) r
  pub space : x.spaces r ≡ (image_of c r).space
  pub points : x.points r ≡ points (image_of c r).count
  pub kept : (f p : ℕ) → NumberIs (shape_at g (x.spaces r) f) (kept_at c r f p)

-- The next segment of an instance begins from a state that fits, of the task at some place, in a world of the run: each root that is
-- there is one of the run's; its own are those of the frame; the instance has the task's claims; and it has a result for each
-- child, of its shape.
pub record BeginsFitting (g : Program) (i : Instance) : Type 0 where
  pub world : World
  pub task : TaskCode
  pub place : ℕ
  pub there : slice_get g.code.tasks place ≡ Some task
  pub fits : BeforeFits g world task place (before_of g.code i)
  pub roots : (r : ℕ) → world.there r ≡ true → IsRootOf g i.contents world r
  pub own : world.own ≡ map (λ (r : RootId). r.0) i.frame.own
  pub needs : i.needs ≡ claims g world task
  pub count : length i.results ≡ world.children
  pub results : (n : ℕ) → n < world.children → NumberIs (world.results n) (get_or i.results n (pos 0))

-- each task is sound, and 0 is one of its results, since an absent result counts as 0
pub record IsSoundCode (g : Program) : Type 0 where
  pub tasks : (k : ℕ) (t : TaskCode) → slice_get g.code.tasks k ≡ Some t → IsSound g t k
  pub zeros : (k : ℕ) → NumberIs (g.results k) (pos 0)

-- Where a task that needs nothing begins alone with arguments that fit, in a run in order, each segment of the run begins
-- from a state that fits.
abbrev pub RunsFit : Type 0
RunsFit = (g : Program) (turns k : ℕ) (t : TaskCode) (x : World) (args : List Value) → IsSoundCode g → turns < 2 ^ 64 →
    slice_get g.code.tasks k ≡ Some t → t.needs ≡ [] → ((r : ℕ) → x.there r ≡ false) →
    Fits g (called x args) t k (opening_machine turns 1 k t args) → (more : ℕ) (j : Instance) →
    Comes g.code turns (begun (opening turns 1 k t args) [] no_contents) more j → BeginsFitting g j
