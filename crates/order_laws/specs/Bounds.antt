-- The run in order with other bounds than those in its definition.
use Rattle.std.specs.Prelude.{◌≡◌, ℕ, zero, suc, ◌<◌, ◌≤◌, [], cond, Option, Some, None, slice_get, ◌+◌}
use Rattle.regent_tree.specs.declared.outcome.Outcome.{Outcome}
use Rattle.task_code.specs.declared.code.Code.{Code}
use Rattle.task_code.specs.declared.code.TaskCode.{TaskCode}
use Rattle.task_code.specs.declared.job.Job.{Job}
use Rattle.machine_terms.specs.declared.frame.Frame.{Frame}
use Rattle.machine_terms.specs.declared.order.Ended.{Ended}
use Rattle.machine_terms.specs.declared.order.Instance.{Instance}
use Rattle.machine_terms.specs.Contents.{no_contents}
use Rattle.machine_terms.specs.Jobs.{outcome, may_start, void_outcome, first_frame, order_run}
use Rattle.machine_terms.specs.Orders.{Runner, begun, before_of, enough_segments, resume_after, runs, until_over}
use Rattle.machine_terms.specs.Segments.{segment}

-- How many segments an instance may have that begins in a frame, how many instances may nest, and how
-- an instance ends where either runs out.
pub record Bounds : Type 0 where
  pub segments : Frame → ℕ
  pub nested : ℕ
  pub spent : Instance → Ended

-- at most so many segments
abbrev pub segments_within : Code → ℕ → Bounds → Runner → ℕ → Instance → Ended
segments_within code turns b child zero i = b.spent i
segments_within code turns b child (suc k) i =
    until_over (resume_after code turns child (segment (before_of code i)) i)
    (segments_within code turns b child k)

-- at most so many instances nested
abbrev pub runs_within : Code → ℕ → Bounds → ℕ → Runner
runs_within code turns b zero i = b.spent i
runs_within code turns b (suc more) i =
    segments_within code turns b (runs_within code turns b more) (b.segments i.frame) i

abbrev pub run_first_within : Bounds → Job → Option TaskCode → Outcome
run_first_within b job None = void_outcome
run_first_within b job (Some t) = cond (may_start job t)
    (outcome (runs_within job.code job.turns b b.nested (begun (first_frame job t) [] no_contents)))
    void_outcome

-- the run in order of a job with these bounds
abbrev pub order_run_within : Bounds → Job → Outcome
order_run_within b job = run_first_within b job (slice_get job.code.tasks job.code.start)

-- no bound is less than in the definition
pub record AreLarge (code : Code) (b : Bounds) : Type 0 where
  pub segments : (f : Frame) → enough_segments code f ≤ b.segments f
  pub nested : 64 ≤ b.nested

-- ---- the laws

-- A job has the outcome that its definition says, whatever larger bounds there are, and whatever would
-- come where they ran out.
abbrev pub JobsRunWhole : Type 0
JobsRunWhole = (job : Job) (b : Bounds) → AreLarge job.code b → order_run_within b job ≡ order_run job

-- Each instance ends as its definition says, too; the depth of the first one is 1.
abbrev pub InstancesRunWhole : Type 0
InstancesRunWhole = (code : Code) (turns : ℕ) (b : Bounds) (i : Instance) → AreLarge code b →
    0 < i.frame.depth → runs_within code turns b b.nested i ≡ runs code turns 64 i

-- An instance that is called runs with the instances that are left to nest at its depth, and ends as it
-- would with all of them.
abbrev pub CalledRunWhole : Type 0
CalledRunWhole = (code : Code) (turns left : ℕ) (i : Instance) → 0 < i.frame.depth → 0 < left →
    64 < i.frame.depth + left → runs code turns left i ≡ runs code turns 64 i
