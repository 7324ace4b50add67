-- The run in order is the same with any larger bounds.
use Rattle.std.proofs.Common.{◌≡◌, ℕ, zero, suc, ◌+◌, ◌*◌, ◌<◌, ◌≤◌, List, [], ◌∷◌, Bool, true, cond, Option, Some, None, refl, sym, ap, ◌∙◌, arith}
use Rattle.std.specs.Prelude.{length, nat_lt, nat_le, slice_get}
use Rattle.std.proofs.lemmas.Bool.{ltb-true}
use Rattle.std.proofs.lemmas.Option.{get_or_from_slice_get}
use Rattle.region_tree.specs.Requirements.{Requirement, is_within}
use Rattle.task_code.specs.declared.code.Code.{Code}
use Rattle.task_code.specs.declared.code.Line.{Line}
use Rattle.task_code.specs.declared.code.TaskCode.{TaskCode}
use Rattle.task_code.specs.declared.job.Job.{Job}
use Rattle.machine_terms.specs.declared.frame.Frame.{Frame}
use Rattle.machine_terms.specs.declared.order.Ended.TheVariants.{Broke}
use Rattle.machine_terms.specs.declared.order.Instance.{Instance}
use Rattle.machine_terms.specs.declared.order.Resumed.{Resumed}
use Rattle.machine_terms.specs.declared.order.Resumed.TheVariants.{GoesOn, IsOver}
use Rattle.machine_terms.specs.declared.outcome.CallOut.{CallOut}
use Rattle.machine_terms.specs.declared.outcome.Yield.{Yield}
use Rattle.machine_terms.specs.declared.outcome.Yield.TheVariants as yield
use Rattle.machine_terms.specs.Contents.{no_contents}
use Rattle.machine_terms.specs.Jobs.{outcome, may_start, void_outcome, first_frame, run_first}
use Rattle.machine_terms.specs.Machine.{Machine}
use Rattle.machine_terms.specs.Opening.{opening, requirements_on}
use Rattle.machine_terms.specs.Orders.{Runner, after_call, before_of, begun, breaks, call_all, call_task, call_within, enough_segments, give_all, no_task, on_resumed, resume_after, resume_in, run_segments, runs, until_over}
use Rattle.machine_terms.specs.Segments.{after, frame_after, opened, stop_of, stopped_in}
use Rattle.machine_terms.proofs.Fuel.{anywhere, enough_is}
use Rattle.machine_terms.proofs.Kept.{stop_fixed}
use Rattle.order_laws.specs.Bounds.{Bounds, AreLarge, CalledRunWhole, InstancesRunWhole, JobsRunWhole, run_first_within, runs_within, segments_within}
use Rattle.order_laws.proofs.Waits.{AfterStop, Within, twice, twice_is}
use Rattle.order_laws.proofs.Rounds.{ends_soon}
use Rattle.order_laws.proofs.Ends.{stop_sooner}
use Rattle.order_laws.proofs.Resuming.{Each, Next, each_map, here, left_by, resumes, task_frames, until_same}

module _ (code : Code) (turns : ℕ) where
  -- ---- with other runs of the children

  -- runs of what is called at a depth
  abbrev AreAlike : ℕ → Runner → Runner → Type 0
  AreAlike d a c = (i : Instance) → i.frame.depth ≡ suc d → a i ≡ c i

  on_same : (r : Resumed) (f g : Instance → Resumed) → Each (λ i. f i ≡ g i) r →
      on_resumed r f ≡ on_resumed r g
  on_same (GoesOn i) f g e = e
  on_same (IsOver e) f g w = refl

  when_same : (q : Bool) (r s : Resumed) (i : Instance) → r ≡ s →
      cond q r (breaks i) ≡ cond q s (breaks i)
  when_same q r s i e = ap (λ x. cond q x (breaks i)) e

  task_same : (a c : Runner) (d : ℕ) → AreAlike d a c → (o : CallOut) (t : Option TaskCode) (i : Instance) →
      i.frame.depth ≡ d → call_task code turns a o t i ≡ call_task code turns c o t i
  task_same a c d h o None i l = refl
  task_same a c d h o (Some t) i l = when_same (nat_le (length o.args) t.slots) _ _ i
      (by_needs (requirements_on code i.contents t.needs o.args))
    where
      by_needs : (n : Option (List Requirement)) →
          call_within a (opening turns (suc i.frame.depth) o.task t o.args) n i
          ≡ call_within c (opening turns (suc i.frame.depth) o.task t o.args) n i
      by_needs None = refl
      by_needs (Some needs) = when_same (is_within needs i.needs) _ _ i
          (ap (λ r. after_call r i) (h (begun (opening turns (suc i.frame.depth) o.task t o.args) needs i.contents) (ap (λ n. suc n) l)))

  calls_same : (a c : Runner) (d : ℕ) → AreAlike d a c → (cs : List CallOut) (i : Instance) →
      i.frame.depth ≡ d → call_all code turns a cs i ≡ call_all code turns c cs i
  calls_same a c d h [] i l = refl
  calls_same a c d h (o ∷ cs) i l =
      let r = call_task code turns c o (slice_get code.tasks o.task) i in
      ap (λ r. on_resumed r (call_all code turns a cs)) (task_same a c d h o (slice_get code.tasks o.task) i l)
      ∙ on_same r (call_all code turns a cs) (call_all code turns c cs)
      (each_map (λ j. j.frame ≡ i.frame) (λ j. call_all code turns a cs j ≡ call_all code turns c cs j)
      (λ j e. calls_same a c d h cs j (ap (λ (x : Frame). x.depth) e ∙ l)) r
      (task_frames code turns c o (slice_get code.tasks o.task) i))

  resume_same : (a c : Runner) (d : ℕ) → (nat_lt d 64 ≡ true → AreAlike d a c) → (body : List Line) (n : ℕ)
      (y : Yield) (m : Machine) (i : Instance) → m.frame.depth ≡ d → AfterStop (Within code body n) y m →
      resume_in code turns a (frame_after y m.frame) y i ≡ resume_in code turns c (frame_after y m.frame) y i
  resume_same a c d h body n (yield.Calls []) m i l w = refl
  resume_same a c d h body n (yield.Calls (o ∷ cs)) m i l w =
      calls_same a c d (h (ap (λ k. nat_lt k 64) (sym l) ∙ w.0)) (o ∷ cs) (give_all (record i { frame = m.frame })) l
  resume_same a c d h body n (yield.Want r g) m i l w = refl
  resume_same a c d h body n (yield.Await k) m i l w = refl
  resume_same a c d h body n (yield.Make v) m i l w = refl
  resume_same a c d h body n (yield.End v) m i l w = refl
  resume_same a c d h body n (yield.Fault f) m i l w = refl
  resume_same a c d h body n yield.MachineFault m i l w = refl

  -- ---- with two numbers of segments that are no less than the steps

  module _ (b : Bounds) (a c : Runner) (d : ℕ) (alike : nat_lt d 64 ≡ true → AreAlike d a c) where
    abbrev Same : ℕ → ℕ → Instance → Type 0
    Same k l i = segments_within code turns b a k i ≡ run_segments code turns c l i

    steps_same : (k l n : ℕ) (t : TaskCode) (i : Instance) → slice_get code.tasks i.frame.task ≡ Some t →
        i.frame.depth ≡ d → n ≤ k → n ≤ l → Within code t.body n (here i) → Same k l i
    steps_same k l zero t i e p q r w = absurd w
    steps_same zero l (suc n) t i e p q r w = absurd (omega (arith, q))
    steps_same (suc k) zero (suc n) t i e p q r w = absurd (omega (arith, r))
    steps_same (suc k) (suc l) (suc n) t i e p q r w =
        let s = stop_sooner (before_of code i) t (suc n) e w in
        let stop = stop_of (before_of code i) in
        let kept = stop_fixed (before_of code i) in
        let j = left_by stop.machine stop.text i in
        let r2 = resume_in code turns c (frame_after stop.ends stop.machine.frame) stop.ends j in
        ap (λ o. until_over o (segments_within code turns b a k))
        (resume_same a c d alike t.body s.steps stop.ends stop.machine j (kept.depth ∙ p) s.goes_on)
        ∙ until_same r2 (segments_within code turns b a k) (run_segments code turns c l)
        (each_map (Next code t.body s.steps stop.machine.frame) (λ x. Same k l x)
        (λ x g. steps_same k l s.steps t x
        (ap (slice_get code.tasks) (g.passed.task ∙ kept.task) ∙ e)
        (g.passed.depth ∙ kept.depth ∙ p) (omega (arith, q, s.fewer)) (omega (arith, r, s.fewer)) g.within)
        r2 (resumes code turns c t.body s.steps stop.ends stop.machine stop.text i s.goes_on))

    -- where the task isn't there it is over at once
    absent_same : (k l : ℕ) (i : Instance) → slice_get code.tasks i.frame.task ≡ None → 0 < k → 0 < l →
        Same k l i
    absent_same zero l i e p q = absurd (omega (arith, p))
    absent_same (suc k) zero i e p q = absurd (omega (arith, q))
    absent_same (suc k) (suc l) i e p q =
        let m = opened (before_of code i) in
        ap (λ o. until_over (resume_after code turns a (after (stopped_in o code m)) i)
        (segments_within code turns b a k)) e
        ∙ sym (ap (λ o. until_over (resume_after code turns c (after (stopped_in o code m)) i)
        (run_segments code turns c l)) e)

    -- the definition's number is no less
    bound_within : (t : TaskCode) (f : Frame) → slice_get code.tasks f.task ≡ Some t →
        twice code t.body (anywhere code t.body f.turns) ≤ enough_segments code f
    bound_within t f e =
        let body = ap (λ (u : TaskCode). 2 * (2 * (f.turns + 1) * (length u.body + 1)) + 2)
        (get_or_from_slice_get code.tasks f.task t no_task e) in
        omega (arith, twice_is code t.body (anywhere code t.body f.turns), enough_is code t.body f.turns, body)

    pub segments_same : (i : Instance) → i.frame.depth ≡ d → enough_segments code i.frame ≤ b.segments i.frame →
        Same (b.segments i.frame) (enough_segments code i.frame) i
    segments_same i p q = by_task (slice_get code.tasks i.frame.task) refl
      where
        by_task : (o : Option TaskCode) → slice_get code.tasks i.frame.task ≡ o →
            Same (b.segments i.frame) (enough_segments code i.frame) i
        by_task None e = absent_same (b.segments i.frame) (enough_segments code i.frame) i e
            (omega (arith, q)) (omega arith)
        by_task (Some t) e =
            let l = bound_within t i.frame e in
            steps_same (b.segments i.frame) (enough_segments code i.frame)
            (twice code t.body (anywhere code t.body i.frame.turns)) t i e p (omega (arith, l, q)) l
            (ends_soon code t.body i.frame.turns (here i) refl)

  -- ---- with two numbers of nested instances that are enough at a depth

  runs_same : (b : Bounds) → ((f : Frame) → enough_segments code f ≤ b.segments f) → (m l : ℕ) (i : Instance) →
      0 < m → 0 < l → 64 < i.frame.depth + m → 64 < i.frame.depth + l →
      runs_within code turns b m i ≡ runs code turns l i
  runs_same b large zero l i p q g h = absurd (omega (arith, p))
  runs_same b large (suc m) zero i p q g h = absurd (omega (arith, q))
  runs_same b large (suc m) (suc l) i p q g h =
      segments_same b (runs_within code turns b m) (runs code turns l) i.frame.depth
      (λ deep j e. let low = ltb-true i.frame.depth 64 deep in
      runs_same b large m l j (omega (arith, low, g)) (omega (arith, low, h))
      (omega (arith, e, g)) (omega (arith, e, h)))
      i refl (large i.frame)

-- the bounds of the definition
abbrev own_bounds : Code → Bounds
own_bounds code = record { segments = enough_segments code; nested = 64; spent = λ i. Broke None i.text }

pub instances_run_whole : InstancesRunWhole
instances_run_whole code turns b i large deep =
    runs_same code turns b large.segments b.nested 64 i (omega (arith, large.nested)) (omega arith)
    (omega (arith, deep, large.nested)) (omega (arith, deep))

pub called_run_whole : CalledRunWhole
called_run_whole code turns left i deep some far =
    let own = own_bounds code in
    sym (runs_same code turns own (λ f. omega arith) 64 left i (omega arith) some (omega (arith, deep)) far)
    ∙ runs_same code turns own (λ f. omega arith) 64 64 i (omega arith) (omega arith)
    (omega (arith, deep)) (omega (arith, deep))

first_runs_whole : (job : Job) (b : Bounds) → AreLarge job.code b → (o : Option TaskCode) →
    run_first_within b job o ≡ run_first job o
first_runs_whole job b large None = refl
first_runs_whole job b large (Some t) = ap (λ e. cond (may_start job t) (outcome e) void_outcome)
    (instances_run_whole job.code job.turns b (begun (first_frame job t) [] no_contents) large (omega arith))

pub jobs_run_whole : JobsRunWhole
jobs_run_whole job b large = first_runs_whole job b large (slice_get job.code.tasks job.code.start)
