-- A failure reaches no others than those that wait for it.
use Rattle.std.specs.Prelude.{Some, cond}
use Rattle.std.proofs.Common.{◌≡◌, ◌<◌, ◌&&◌, ◌||◌, ◌⊎◌, ◌∷◌, [], ◌∙◌, ℕ, Bool, true, false, List, inl, inr, ⊎_elim, ap, sym, refl, subst, length}
use Rattle.std.proofs.lemmas.Bool.{and_parts, cases_Bool, cases_eq, false≢true, or_cases, or_right}
use Rattle.region_tree.specs.declared.tree.OpNumber.{OpNumber}
use Rattle.plain_values.specs.Points.{points}
use Rattle.dependence_graph.specs.Entries.{Knot}
use Rattle.dependence_graph.specs.Knots.{give_up, give_up_each, given_up, has_failed, is_idle, knot_at, same_stage, some_failed, stage_at, with_stage}
use Rattle.dependence_graph.specs.Laws.{GaveUp}
use Rattle.dependence_graph.specs.declared.stage.Stage.{Stage}
use Rattle.dependence_graph.specs.declared.stage.Stage.TheVariants.{Dropped, Parked, Stopped, Waiting}
use Rattle.dependence_graph.proofs.Following.{done_other, idle_there, stage_in, stage_other, stage_same}

-- ---- one gives up, or not

pub same_is : (s from : Stage) → same_stage s from ≡ true → s ≡ from
same_is Waiting Waiting h = refl
same_is Parked Parked h = refl
same_is _ _ h = absurd (false≢true h)

pub up_cases : (ks : List Knot) (n : ℕ) (from to : Stage) →
    ((give_up from to ks n ≡ with_stage ks n to) × (same_stage (knot_at ks n).stage from ≡ true) × (some_failed ks (knot_at ks n).on ≡ true))
    ⊎ ((give_up from to ks n ≡ ks) × ((same_stage (knot_at ks n).stage from && some_failed ks (knot_at ks n).on) ≡ false))
up_cases ks n from to = ⊎_elim
    (λ e. let parts = and_parts (same_stage (knot_at ks n).stage from) (some_failed ks (knot_at ks n).on) e in
    inl (ap (λ (b : Bool). cond b (with_stage ks n to) ks) e, parts.0, parts.1))
    (λ e. inr (ap (λ (b : Bool). cond b (with_stage ks n to) ks) e, e))
    (cases_Bool (same_stage (knot_at ks n).stage from && some_failed ks (knot_at ks n).on))

-- ---- what has failed stays so

some_failed_on : (ks us : List Knot) → ((j : ℕ) → has_failed (stage_at ks j) ≡ true → has_failed (stage_at us j) ≡ true) →
    (ops : List OpNumber) → some_failed ks ops ≡ true → some_failed us ops ≡ true
some_failed_on ks us f [] h = absurd (false≢true h)
some_failed_on ks us f (o ∷ ops) h = ⊎_elim
    (λ e. ap (λ (b : Bool). b || some_failed us ops) (f o.0 e))
    (λ e. or_right (has_failed (stage_at us o.0)) (some_failed us ops) (some_failed_on ks us f ops e))
    (or_cases (has_failed (stage_at ks o.0)) (some_failed ks ops) h)

-- ---- operations give up, and others are as they were

pub record Spreads (ks us : List Knot) : Type 0 where
  pub failed : (j : ℕ) → has_failed (stage_at ks j) ≡ true → has_failed (stage_at us j) ≡ true
  pub others : (k : ℕ) → (knot_at us k ≡ knot_at ks k) ⊎ GaveUp ks us k

-- one that gave up doesn't wait any more, and one that is to give up waits
was_idle : (ks us : List Knot) (k : ℕ) → GaveUp ks us k → is_idle (knot_at ks k).stage ≡ true
was_idle ks us k g = ⊎_elim (λ w. ap is_idle w.0) (λ p. ap is_idle p.0) g.stages

not_idle_now : (ks us : List Knot) (k : ℕ) → GaveUp ks us k → is_idle (knot_at us k).stage ≡ false
not_idle_now ks us k g = ⊎_elim (λ w. ap is_idle w.1) (λ p. ap is_idle p.1) g.stages

first_gave_up : (ks us ws : List Knot) (k : ℕ) → Spreads us ws → GaveUp ks us k → knot_at ws k ≡ knot_at us k → GaveUp ks ws k
first_gave_up ks us ws k s g e = record {
  stages = subst (λ (x : Knot). (((knot_at ks k).stage ≡ Waiting) × (x.stage ≡ Dropped)) ⊎ (((knot_at ks k).stage ≡ Parked) × (x.stage ≡ Stopped)))
      (sym e) g.stages;
  parent = ap (λ (x : Knot). x.parent) e ∙ g.parent;
  on = ap (λ (x : Knot). x.on) e ∙ g.on;
  vain = ap (λ (x : Knot). some_failed ws x.on) e ∙ some_failed_on us ws s.failed (knot_at us k).on g.vain;
}

then_gave_up : (ks us ws : List Knot) (k : ℕ) → knot_at us k ≡ knot_at ks k → GaveUp us ws k → GaveUp ks ws k
then_gave_up ks us ws k e g = record {
  stages = subst (λ (x : Knot). ((x.stage ≡ Waiting) × ((knot_at ws k).stage ≡ Dropped)) ⊎ ((x.stage ≡ Parked) × ((knot_at ws k).stage ≡ Stopped)))
      e g.stages;
  parent = g.parent ∙ ap (λ (x : Knot). x.parent) e;
  on = g.on ∙ ap (λ (x : Knot). x.on) e;
  vain = g.vain;
}

spread_on : (ks us ws : List Knot) → Spreads ks us → Spreads us ws → Spreads ks ws
spread_on ks us ws s t = record {
  failed = λ j h. t.failed j (s.failed j h);
  others = λ k. ⊎_elim
      (λ e. ⊎_elim
      (λ f. inl (e ∙ f))
      (λ g. inr (first_gave_up ks us ws k t g e))
      (s.others k))
      (λ g. ⊎_elim
      (λ f. inr (then_gave_up ks us ws k f g))
      (λ f. absurd (false≢true (sym (not_idle_now ks us k f) ∙ was_idle us ws k g)))
      (s.others k))
      (t.others k);
}

spread_itself : (ks : List Knot) → Spreads ks ks
spread_itself ks = record { failed = λ j h. h; others = λ k. inl refl }

-- from a stage of waiting to the one behind it
pub data Leaves : Stage → Stage → Type 0 where
  dropped : Leaves Waiting Dropped
  stopped : Leaves Parked Stopped

leaves_stage : (from to s now : Stage) → Leaves from to → same_stage s from ≡ true → now ≡ to →
    ((s ≡ Waiting) × (now ≡ Dropped)) ⊎ ((s ≡ Parked) × (now ≡ Stopped))
leaves_stage from to s now dropped h e = inl (same_is s Waiting h, e)
leaves_stage from to s now stopped h e = inr (same_is s Parked h, e)

not_failed : (from to s : Stage) → Leaves from to → same_stage s from ≡ true → has_failed (Some s) ≡ false
not_failed from to s dropped h = ap (λ (x : Stage). has_failed (Some x)) (same_is s Waiting h)
not_failed from to s stopped h = ap (λ (x : Stage). has_failed (Some x)) (same_is s Parked h)

waited : (from to s : Stage) → Leaves from to → same_stage s from ≡ true → is_idle s ≡ true
waited from to s dropped h = ap is_idle (same_is s Waiting h)
waited from to s stopped h = ap is_idle (same_is s Parked h)

module _ (from to : Stage) (leaves : Leaves from to) where
  gave_up : (ks : List Knot) (n : ℕ) → same_stage (knot_at ks n).stage from ≡ true → some_failed ks (knot_at ks n).on ≡ true →
      Spreads ks (with_stage ks n to)
  gave_up ks n h v = record {
    failed = more;
    others = λ k. ⊎_elim
        (λ e. inr (subst (GaveUp ks (with_stage ks n to)) (sym e) itself))
        (λ d. inl (stage_other ks n k to d))
        (cases_eq k n);
  }
    where
      here : n < length ks
      here = idle_there ks n (waited from to (knot_at ks n).stage leaves h)

      more : (j : ℕ) → has_failed (stage_at ks j) ≡ true → has_failed (stage_at (with_stage ks n to) j) ≡ true
      more j f = ⊎_elim
          (λ e. absurd (false≢true (sym (ap has_failed (stage_in ks n here) ∙ not_failed from to (knot_at ks n).stage leaves h)
          ∙ ap (λ (m : ℕ). has_failed (stage_at ks m)) (sym e) ∙ f)))
          (λ d. ap has_failed (done_other ks n j to d) ∙ f)
          (cases_eq j n)

      now : knot_at (with_stage ks n to) n ≡ record { parent = (knot_at ks n).parent; on = (knot_at ks n).on; stage = to }
      now = stage_same ks n to here

      itself : GaveUp ks (with_stage ks n to) n
      itself = record {
        stages = leaves_stage from to (knot_at ks n).stage (knot_at (with_stage ks n to) n).stage leaves h (ap (λ (x : Knot). x.stage) now);
        parent = ap (λ (x : Knot). x.parent) now;
        on = ap (λ (x : Knot). x.on) now;
        vain = ap (λ (x : Knot). some_failed (with_stage ks n to) x.on) now
            ∙ some_failed_on ks (with_stage ks n to) more (knot_at ks n).on v;
      }

  one_spreads : (ks : List Knot) (n : ℕ) → Spreads ks (give_up from to ks n)
  one_spreads ks n = ⊎_elim
      (λ g. subst (Spreads ks) (sym g.0) (gave_up ks n g.1 g.2))
      (λ g. subst (Spreads ks) (sym g.0) (spread_itself ks))
      (up_cases ks n from to)

  each_spreads : (ns : List ℕ) (ks : List Knot) → Spreads ks (give_up_each from to ks ns)
  each_spreads [] ks = spread_itself ks
  each_spreads (n ∷ ns) ks =
      spread_on ks (give_up from to ks n) _ (one_spreads ks n) (each_spreads ns (give_up from to ks n))

pub all_spread : (ks : List Knot) → Spreads ks (given_up ks)
all_spread ks =
    spread_on ks (give_up_each Waiting Dropped ks (points (length ks))) _
    (each_spreads Waiting Dropped dropped (points (length ks)) ks)
    (each_spreads Parked Stopped stopped (points (length ks)) (give_up_each Waiting Dropped ks (points (length ks))))
