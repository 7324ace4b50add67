-- What steps that end nothing as Done leave of the operations, and what is known of those that wait.
use Rattle.std.specs.Prelude.{None, Option, Some, nat_lt}
use Rattle.std.proofs.Common.{◌≡◌, ◌≢◌, ◌<◌, ◌≤◌, ◌&&◌, ◌∷◌, [], ◌∙◌, ℕ, Bool, true, false, cond, List, ⊎_elim, ap, sym, refl, subst, arith, length}
use Rattle.std.proofs.lemmas.Bool.{and_parts, cases_Bool, cases_eq, cases_lt, false≢true, lt-ltb, le-ltb, or_cases}
use Rattle.std.proofs.lemmas.List.{get_or-set_other, get_or-set_same, get_or_past, length-set}
use Rattle.region_tree.specs.declared.tree.OpNumber.{OpNumber}
use Rattle.dependence_graph.specs.Entries.{Knot}
use Rattle.dependence_graph.specs.Knots.{all_done, give_up, give_up_each, given_up, has_failed, is_done, is_idle, is_in_progress, is_ready, knot_at, no_knot, same_stage, some_failed, stage_at, with_stage}
use Rattle.dependence_graph.specs.declared.stage.Stage.{Stage}
use Rattle.dependence_graph.specs.declared.stage.Stage.TheVariants.{Begun, Done, Dropped, Failed, Parked, Stopped, Waiting}
use Rattle.plain_values.specs.Points.{points}

-- ---- stages by number

pub stage_in : (ks : List Knot) (k : ℕ) → k < length ks → stage_at ks k ≡ Some (knot_at ks k).stage
stage_in ks k l = ap (λ (b : Bool). cond b (Some (knot_at ks k).stage) None) (lt-ltb k (length ks) l)

pub stage_past : (ks : List Knot) (k : ℕ) → length ks ≤ k → stage_at ks k ≡ None
stage_past ks k l = ap (λ (b : Bool). cond b (Some (knot_at ks k).stage) None) (le-ltb k (length ks) l)

-- an operation that waits, or is in progress, was issued
pub idle_there : (ks : List Knot) (k : ℕ) → is_idle (knot_at ks k).stage ≡ true → k < length ks
idle_there ks k h = ⊎_elim (λ l. l)
    (λ g. absurd (false≢true (sym (ap (λ (x : Knot). is_idle x.stage) (get_or_past ks k no_knot g)) ∙ h)))
    (cases_lt k (length ks))

pub progress_there : (ks : List Knot) (k : ℕ) → is_in_progress (knot_at ks k).stage ≡ true → k < length ks
progress_there ks k h = ⊎_elim (λ l. l)
    (λ g. absurd (false≢true (sym (ap (λ (x : Knot). is_in_progress x.stage) (get_or_past ks k no_knot g)) ∙ h)))
    (cases_lt k (length ks))

-- ---- what is done

pub all_done_same : (ks us : List Knot) → ((k : ℕ) → is_done (stage_at us k) ≡ is_done (stage_at ks k)) →
    (ops : List OpNumber) → all_done us ops ≡ all_done ks ops
all_done_same ks us h [] = refl
all_done_same ks us h (o ∷ ops) =
    ap (λ (b : Bool). b && all_done us ops) (h o.0)
    ∙ ap (λ (b : Bool). is_done (stage_at ks o.0) && b) (all_done_same ks us h ops)

failed_not_done : (s : Option Stage) → has_failed s ≡ true → is_done s ≡ false
failed_not_done None h = refl
failed_not_done (Some Waiting) h = refl
failed_not_done (Some Begun) h = refl
failed_not_done (Some Parked) h = refl
failed_not_done (Some Stopped) h = refl
failed_not_done (Some Done) h = absurd (false≢true h)
failed_not_done (Some Failed) h = refl
failed_not_done (Some Dropped) h = refl

and_no : (a b : Bool) → b ≡ false → (a && b) ≡ false
and_no true b h = h
and_no false b h = refl

pub some_failed_open : (ks : List Knot) (ops : List OpNumber) → some_failed ks ops ≡ true →
    all_done ks ops ≡ false
some_failed_open ks [] h = absurd (false≢true h)
some_failed_open ks (o ∷ ops) h = ⊎_elim
    (λ e. ap (λ (b : Bool). b && all_done ks ops) (failed_not_done (stage_at ks o.0) e))
    (λ e. and_no (is_done (stage_at ks o.0)) (all_done ks ops) (some_failed_open ks ops e))
    (or_cases (has_failed (stage_at ks o.0)) (some_failed ks ops) h)

-- ---- what follows

-- steps that end nothing as Done and let nothing begin to wait
pub record Follows (ks us : List Knot) : Type 0 where
  pub size : length us ≡ length ks
  pub parent : (k : ℕ) → (knot_at us k).parent ≡ (knot_at ks k).parent
  pub on : (k : ℕ) → (knot_at us k).on ≡ (knot_at ks k).on
  pub done : (k : ℕ) → is_done (stage_at us k) ≡ is_done (stage_at ks k)
  pub waits : (k : ℕ) → is_idle (knot_at us k).stage ≡ true → (knot_at us k).stage ≡ (knot_at ks k).stage

pub follows_itself : (ks : List Knot) → Follows ks ks
follows_itself ks = record {
  size = refl;
  parent = λ k. refl;
  on = λ k. refl;
  done = λ k. refl;
  waits = λ k h. refl;
}

pub follows_on : (ks us ws : List Knot) → Follows ks us → Follows us ws → Follows ks ws
follows_on ks us ws f g = record {
  size = g.size ∙ f.size;
  parent = λ k. g.parent k ∙ f.parent k;
  on = λ k. g.on k ∙ f.on k;
  done = λ k. g.done k ∙ f.done k;
  waits = λ k h. let e = g.waits k h in
      e ∙ f.waits k (ap is_idle (sym e) ∙ h);
}

-- ---- one stage changes

pub stage_same : (ks : List Knot) (k : ℕ) (s : Stage) → k < length ks →
    knot_at (with_stage ks k s) k ≡ record { parent = (knot_at ks k).parent; on = (knot_at ks k).on; stage = s }
stage_same ks k s l = get_or-set_same ks k _ no_knot l

pub stage_other : (ks : List Knot) (k j : ℕ) (s : Stage) → j ≢ k → knot_at (with_stage ks k s) j ≡ knot_at ks j
stage_other ks k j s n = get_or-set_other ks k j _ no_knot n

pub done_other : (ks : List Knot) (k j : ℕ) (s : Stage) → j ≢ k → stage_at (with_stage ks k s) j ≡ stage_at ks j
done_other ks k j s n =
    ap (λ (n : ℕ). cond (nat_lt j n) (Some (knot_at (with_stage ks k s) j).stage) None) (length-set ks k _)
    ∙ ap (λ (x : Knot). cond (nat_lt j (length ks)) (Some x.stage) None) (stage_other ks k j s n)

pub done_same : (ks : List Knot) (k : ℕ) (s : Stage) → k < length ks → stage_at (with_stage ks k s) k ≡ Some s
done_same ks k s l =
    stage_in (with_stage ks k s) k (omega (arith, l, length-set ks k (record { parent = (knot_at ks k).parent; on = (knot_at ks k).on; stage = s })))
    ∙ ap (λ (x : Knot). Some x.stage) (stage_same ks k s l)

pub follows_stage : (ks : List Knot) (k : ℕ) (s : Stage) → k < length ks → is_idle s ≡ false →
    is_done (Some s) ≡ is_done (Some (knot_at ks k).stage) → Follows ks (with_stage ks k s)
follows_stage ks k s l i d = record {
  size = length-set ks k _;
  parent = λ j. ⊎_elim
      (λ e. ap (λ (n : ℕ). (knot_at (with_stage ks k s) n).parent) e ∙ ap (λ (x : Knot). x.parent) (stage_same ks k s l)
      ∙ ap (λ (n : ℕ). (knot_at ks n).parent) (sym e))
      (λ n. ap (λ (x : Knot). x.parent) (stage_other ks k j s n)) (cases_eq j k);
  on = λ j. ⊎_elim
      (λ e. ap (λ (n : ℕ). (knot_at (with_stage ks k s) n).on) e ∙ ap (λ (x : Knot). x.on) (stage_same ks k s l)
      ∙ ap (λ (n : ℕ). (knot_at ks n).on) (sym e))
      (λ n. ap (λ (x : Knot). x.on) (stage_other ks k j s n)) (cases_eq j k);
  done = λ j. ⊎_elim
      (λ e. ap (λ (n : ℕ). is_done (stage_at (with_stage ks k s) n)) e ∙ ap is_done (done_same ks k s l) ∙ d
      ∙ ap is_done (sym (stage_in ks k l)) ∙ ap (λ (n : ℕ). is_done (stage_at ks n)) (sym e))
      (λ n. ap is_done (done_other ks k j s n)) (cases_eq j k);
  waits = λ j h. ⊎_elim
      (λ e. absurd (false≢true (sym i ∙ sym (ap (λ (x : Knot). is_idle x.stage) (stage_same ks k s l))
      ∙ ap (λ (n : ℕ). is_idle (knot_at (with_stage ks k s) n).stage) (sym e) ∙ h)))
      (λ n. ap (λ (x : Knot). x.stage) (stage_other ks k j s n)) (cases_eq j k);
}

-- what is ready where a stage is the same
pub ready_same : (ks us : List Knot) (k : ℕ) → Follows ks us → (knot_at us k).stage ≡ (knot_at ks k).stage →
    is_ready us k ≡ is_ready ks k
ready_same ks us k f e =
    ap (λ (s : Stage). is_idle s && all_done us (knot_at us k).on) e
    ∙ ap (λ (b : Bool). is_idle (knot_at ks k).stage && b)
    (ap (all_done us) (f.on k) ∙ all_done_same ks us f.done (knot_at ks k).on)

not_idle : (ks : List Knot) (k : ℕ) → is_idle (knot_at ks k).stage ≡ false → is_ready ks k ≡ false
not_idle ks k h = ap (λ (b : Bool). b && all_done ks (knot_at ks k).on) h

pub not_ready : (ks : List Knot) (k : ℕ) → is_idle (knot_at ks k).stage ≡ false → is_ready ks k ≡ false
not_ready ks k h = not_idle ks k h

-- ---- giving up

waiting_stage : (s from : Stage) → same_stage s from ≡ true → (is_idle s ≡ true) × (is_done (Some s) ≡ false)
waiting_stage Waiting from h = (refl, refl)
waiting_stage Parked from h = (refl, refl)
waiting_stage Begun from h = absurd (false≢true h)
waiting_stage Stopped from h = absurd (false≢true h)
waiting_stage Done from h = absurd (false≢true h)
waiting_stage Failed from h = absurd (false≢true h)
waiting_stage Dropped from h = absurd (false≢true h)

pub record GivesUp (ks us : List Knot) : Type 0 where
  pub follows : Follows ks us
  pub ready : (k : ℕ) → is_ready us k ≡ is_ready ks k

gives_up_on : (ks us ws : List Knot) → GivesUp ks us → GivesUp us ws → GivesUp ks ws
gives_up_on ks us ws f g = record {
  follows = follows_on ks us ws f.follows g.follows;
  ready = λ k. g.ready k ∙ f.ready k;
}

given_one : (ks : List Knot) (k : ℕ) (from to : Stage) → is_idle to ≡ false → is_done (Some to) ≡ false →
    same_stage (knot_at ks k).stage from ≡ true → some_failed ks (knot_at ks k).on ≡ true →
    GivesUp ks (with_stage ks k to)
given_one ks k from to i d s f =
    let waits = waiting_stage (knot_at ks k).stage from s in
    let here = idle_there ks k waits.0 in
    let follows = follows_stage ks k to here i (d ∙ sym waits.1) in
    record {
      follows = follows;
      ready = λ j. ⊎_elim
          (λ e. ap (is_ready (with_stage ks k to)) e
          ∙ not_idle (with_stage ks k to) k (ap (λ (x : Knot). is_idle x.stage) (stage_same ks k to here) ∙ i)
          ∙ sym (and_no (is_idle (knot_at ks k).stage) (all_done ks (knot_at ks k).on) (some_failed_open ks (knot_at ks k).on f))
          ∙ ap (is_ready ks) (sym e))
          (λ n. ready_same ks (with_stage ks k to) j follows (ap (λ (x : Knot). x.stage) (stage_other ks k j to n)))
          (cases_eq j k);
    }

gives_up : (ks : List Knot) (k : ℕ) (from to : Stage) → is_idle to ≡ false → is_done (Some to) ≡ false →
    GivesUp ks (give_up from to ks k)
gives_up ks k from to i d = ⊎_elim
    (λ e. let parts = and_parts (same_stage (knot_at ks k).stage from) (some_failed ks (knot_at ks k).on) e in
    subst (GivesUp ks) (sym (ap (λ (b : Bool). cond b (with_stage ks k to) ks) e))
    (given_one ks k from to i d parts.0 parts.1))
    (λ e. subst (GivesUp ks) (sym (ap (λ (b : Bool). cond b (with_stage ks k to) ks) e))
    (record { follows = follows_itself ks; ready = λ j. refl }))
    (cases_Bool (same_stage (knot_at ks k).stage from && some_failed ks (knot_at ks k).on))

pub each_gives_up : (from to : Stage) → is_idle to ≡ false → is_done (Some to) ≡ false → (ns : List ℕ) (ks : List Knot) →
    GivesUp ks (give_up_each from to ks ns)
each_gives_up from to i d [] ks = record { follows = follows_itself ks; ready = λ j. refl }
each_gives_up from to i d (n ∷ ns) ks =
    gives_up_on ks (give_up from to ks n) _ (gives_up ks n from to i d)
    (each_gives_up from to i d ns (give_up from to ks n))

pub all_give_up : (ks : List Knot) → GivesUp ks (given_up ks)
all_give_up ks =
    gives_up_on ks (give_up_each Waiting Dropped ks (points (length ks))) _
    (each_gives_up Waiting Dropped refl refl (points (length ks)) ks)
    (each_gives_up Parked Stopped refl refl (points (length ks)) (give_up_each Waiting Dropped ks (points (length ks))))
