-- Segments and calls that come one after another.
use Rattle.std.proofs.Common.{arith, ◌≡◌, ◌<◌, ◌-◌, ℕ, zero, suc, Bool, true, false, cond, None, Option, Some, List, [], ◌∷◌, refl, slice_get, length, nat_le, sym, ap, ◌∙◌}
use Rattle.region_tree.specs.Requirements.{Requirement, is_within}
use Rattle.regent_tree.specs.declared.outcome.Outcome.{Outcome}
use Rattle.task_code.specs.declared.code.Code.{Code}
use Rattle.task_code.specs.declared.code.TaskCode.{TaskCode}
use Rattle.task_code.specs.declared.job.Job.{Job}
use Rattle.machine_terms.specs.declared.frame.Frame.{Frame}
use Rattle.machine_terms.specs.declared.order.Contents.{Contents}
use Rattle.machine_terms.specs.declared.order.Ended.{Ended}
use Rattle.machine_terms.specs.declared.order.Ended.TheVariants.{Broke, CameBack}
use Rattle.machine_terms.specs.declared.order.Instance.{Instance}
use Rattle.machine_terms.specs.declared.order.Resumed.{Resumed}
use Rattle.machine_terms.specs.declared.order.Resumed.TheVariants.{GoesOn, IsOver}
use Rattle.machine_terms.specs.declared.outcome.CallOut.{CallOut}
use Rattle.machine_terms.specs.Contents.{no_contents}
use Rattle.machine_terms.specs.Jobs.{first_frame, may_start, outcome, run_first, void_outcome}
use Rattle.machine_terms.specs.Opening.{opening, requirements_on}
use Rattle.machine_terms.specs.Orders.{Runner, after_call, before_of, begun, breaks, call_all, call_task, call_within, enough_segments, on_resumed, resume_after, run_segments, runs, until_over}
use Rattle.machine_terms.specs.Segments.{segment}
use Rattle.plain_run.specs.Nexts.{needed, resumed_as}

-- what an instance keeps of the roots doesn't matter to what follows behind a call
pub called_empty : (e : Ended) (i : Instance) (c : Contents) →
    after_call e (record i { contents = c }) ≡ after_call e i
called_empty (CameBack v own contents text) i c = refl
called_empty (Broke fault text) i c = refl

within_none : (child : Runner) (f : Frame) (o : Option (List Requirement)) (i : Instance) →
    None ≡ needed o i.needs → breaks i ≡ call_within child f o i
within_none child f None i e = refl
within_none child f (Some needs) i e = go (is_within needs i.needs) e
  where
    go : (b : Bool) → None ≡ cond b (Some needs) None →
        breaks i ≡ cond b (after_call (child (begun f needs i.contents)) i) (breaks i)
    go true q = absurd cc
    go false q = refl

within_some : (child : Runner) (f : Frame) (o : Option (List Requirement)) (ns : List Requirement) (i : Instance) →
    Some ns ≡ needed o i.needs →
    after_call (child (begun f ns i.contents)) i ≡ call_within child f o i
within_some child f None ns i e = absurd cc
within_some child f (Some needs) ns i e = go (is_within needs i.needs) e
  where
    go : (b : Bool) → Some ns ≡ cond b (Some needs) None →
        after_call (child (begun f ns i.contents)) i ≡ cond b (after_call (child (begun f needs i.contents)) i) (breaks i)
    go true q = let same : ns ≡ needs = cc in
        ap (λ (rs : List Requirement). after_call (child (begun f rs i.contents)) i) same
    go false q = absurd cc

module _ (code : Code) (turns : ℕ) (child : Runner) where
  abbrev one : CallOut → Instance → Resumed
  one c i = call_task code turns child c (slice_get code.tasks c.task) i

  -- one more call
  pub call_next : (left cs : List CallOut) (c : CallOut) (i j : Instance) (over : Option Ended) (total : Resumed) → left ≡ c ∷ cs →
      resumed_as over j ≡ one c i → call_all code turns child left i ≡ total →
      on_resumed (resumed_as over j) (call_all code turns child cs) ≡ total
  call_next left cs c i j over total is made so_far =
      ap (λ (r : Resumed). on_resumed r (call_all code turns child cs)) made
      ∙ ap (λ (ds : List CallOut). call_all code turns child ds i) (sym is) ∙ so_far

  -- a call of no task
  pub no_task : (c : CallOut) (i : Instance) → None ≡ slice_get code.tasks c.task →
      breaks i ≡ one c i
  no_task c i e = ap (λ (o : Option TaskCode). call_task code turns child c o i) e

  module _ (c : CallOut) (i : Instance) (t : TaskCode) (is : Some t ≡ slice_get code.tasks c.task) where
    abbrev frame : Frame
    frame = opening turns (suc i.frame.depth) c.task t c.args

    abbrev needs : Option (List Requirement)
    needs = requirements_on code i.contents t.needs c.args

    by_slots : (b : Bool) → nat_le (length c.args) t.slots ≡ b →
        cond b (call_within child frame needs i) (breaks i) ≡ one c i
    by_slots b e = ap (λ (q : Bool). cond q (call_within child frame needs i) (breaks i)) (sym e)
        ∙ ap (λ (o : Option TaskCode). call_task code turns child c o i) is

    -- a call with more arguments than slots
    pub too_many : nat_le (length c.args) t.slots ≡ false → breaks i ≡ one c i
    too_many more = by_slots false more

    -- one that needs more than its caller
    pub needs_more : nat_le (length c.args) t.slots ≡ true → None ≡ needed needs i.needs →
        breaks i ≡ one c i
    needs_more few e = within_none child frame needs i e ∙ by_slots true few

    -- and one that begins
    pub call_begins : (f : Frame) (ns : List Requirement) (empty : Contents) →
        nat_le (length c.args) t.slots ≡ true → f ≡ frame →
        Some ns ≡ needed needs i.needs →
        after_call (child (begun f ns i.contents)) (record i { contents = empty }) ≡ one c i
    call_begins f ns empty few opens e = called_empty (child (begun f ns i.contents)) i empty
        ∙ ap (λ (g : Frame). after_call (child (begun g ns i.contents)) i) opens
        ∙ within_some child frame needs ns i e ∙ by_slots true few

  -- one more segment
  pub segment_next : (left : ℕ) (now next : Instance) (total : Ended) → 0 < left →
      GoesOn next ≡ resume_after code turns child (segment (before_of code now)) now →
      run_segments code turns child left now ≡ total →
      run_segments code turns child (left - 1) next ≡ total
  segment_next zero now next total l e h = absurd (omega (arith, l))
  segment_next (suc k) now next total l e h =
      let down : (suc k - 1) ≡ k = omega (arith) in
      ap (λ (n : ℕ). run_segments code turns child n next) down ∙
      ap (λ (r : Resumed). until_over r (run_segments code turns child k)) e ∙ h

  -- the last segment
  pub segment_last : (left : ℕ) (now : Instance) (over total : Ended) → 0 < left →
      IsOver over ≡ resume_after code turns child (segment (before_of code now)) now →
      run_segments code turns child left now ≡ total → over ≡ total
  segment_last zero now over total l e h = absurd (omega (arith, l))
  segment_last (suc k) now over total l e h =
      ap (λ (r : Resumed). until_over r (run_segments code turns child k)) e ∙ h

pub level_below : (code : Code) (turns levels count : ℕ) (i : Instance) (e : Ended) → 0 < levels →
    count ≡ enough_segments code i.frame →
    e ≡ run_segments code turns (runs code turns (levels - 1)) count i →
    e ≡ runs code turns levels i
level_below code turns zero count i e l is h = absurd (omega (arith, l))
level_below code turns (suc k) count i e l is h =
    let down : (suc k - 1) ≡ k = omega (arith) in
    h ∙ ap (λ (n : ℕ). run_segments code turns (runs code turns n) count i) down
    ∙ ap (λ (n : ℕ). run_segments code turns (runs code turns k) n i) is

-- the outcome of a job that may start
pub first_run : (job : Job) (t : TaskCode) (o : Outcome) → may_start job t ≡ true →
    o ≡ outcome (runs job.code job.turns 64 (begun (first_frame job t) [] no_contents)) →
    o ≡ run_first job (Some t)
first_run job t o may e = e ∙ sym (ap (λ (b : Bool). cond b
    (outcome (runs job.code job.turns 64 (begun (first_frame job t) [] no_contents)))
    void_outcome) may)
