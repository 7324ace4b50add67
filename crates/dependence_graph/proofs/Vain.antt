-- Behind a failure nothing waits in vain.
use Rattle.std.specs.Prelude.{Contains, Some}
use Rattle.std.proofs.Common.{◌≡◌, ◌≢◌, ◌<◌, ◌+◌, ◌&&◌, ◌||◌, ◌∷◌, [], ◌∙◌, ℕ, suc, zero, Bool, true, false, List, ⊎_elim, ap, sym, refl, subst, arith, length}
use Rattle.std.proofs.lemmas.Bool.{cases_eq, false≢true}
use Rattle.plain_values.specs.Points.{counted_from, points}
use Rattle.region_tree.specs.declared.tree.OpNumber.{OpNumber}
use Rattle.dependence_graph.specs.Entries.{Knot}
use Rattle.dependence_graph.specs.Knots.{give_up, give_up_each, given_up, has_failed, is_idle, knot_at, number, same_stage, some_failed, stage_at, with_stage}
use Rattle.dependence_graph.specs.Laws.{FailuresReachAll, NoneWaitsInVain, WaitsForEarlier}
use Rattle.dependence_graph.specs.declared.stage.Stage.{Stage}
use Rattle.dependence_graph.specs.declared.stage.Stage.TheVariants.{Dropped, Parked, Stopped, Waiting}
use Rattle.dependence_graph.proofs.Following.{all_give_up, done_other, done_same, each_gives_up, idle_there, stage_in, stage_other, stage_same}
use Rattle.dependence_graph.proofs.Linked.{idle_cases}
use Rattle.dependence_graph.proofs.Spreading.{all_spread, same_is, up_cases}

-- ---- what has failed of a list

failed_alike : (ks us : List Knot) (ops : List OpNumber) →
    ((j : ℕ) → Contains ops (number j) → has_failed (stage_at us j) ≡ has_failed (stage_at ks j)) →
    some_failed us ops ≡ some_failed ks ops
failed_alike ks us [] h = refl
failed_alike ks us (o ∷ ops) h =
    ap (λ (b : Bool). b || some_failed us ops) (h o.0 (0, omega arith, refl))
    ∙ ap (λ (b : Bool). has_failed (stage_at ks o.0) || b)
    (failed_alike ks us ops (λ j c. h j (suc c.0, omega (arith, c.1), c.2)))

-- ---- stages of waiting

same_itself : (s : Stage) → is_idle s ≡ true → same_stage s s ≡ true
same_itself Waiting h = refl
same_itself Parked h = refl
same_itself _ h = absurd (false≢true h)

there : (ks : List Knot) (k : ℕ) (s : Stage) → is_idle s ≡ true → (knot_at ks k).stage ≡ s → k < length ks
there ks k s i e = idle_there ks k (ap is_idle e ∙ i)

now : (ks : List Knot) (n : ℕ) (to : Stage) → n < length ks → (knot_at (with_stage ks n to) n).stage ≡ to
now ks n to l = ap (λ (x : Knot). x.stage) (stage_same ks n to l)

not_that : (ks : List Knot) (n k : ℕ) (to s : Stage) → n < length ks → (to ≡ s → ⊥) →
    (knot_at (with_stage ks n to) k).stage ≡ s → k ≢ n
not_that ks n k to s l d e same =
    d (sym (now ks n to l) ∙ ap (λ (m : ℕ). (knot_at (with_stage ks n to) m).stage) (sym same) ∙ e)

-- ---- a sweep, in order of issue

-- what is so of the operations, and those below a number that are in the stage don't wait in vain
pub record Swept (from : Stage) (Kept : List Knot → Type 0) (i : ℕ) (ks : List Knot) : Type 0 where
  pub kept : Kept ks
  pub vain : (k : ℕ) → k < i → (knot_at ks k).stage ≡ from → some_failed ks (knot_at ks k).on ≡ false

module _ (from to : Stage) (Kept : List Knot → Type 0) (waits : is_idle from ≡ true) (leaves : to ≡ from → ⊥)
    (keeps : (ks : List Knot) (i : ℕ) → Kept ks → (knot_at ks i).stage ≡ from → Kept (with_stage ks i to))
    (alike : (ks : List Knot) (i k : ℕ) → Kept ks → (knot_at ks i).stage ≡ from → k < i → (knot_at ks k).stage ≡ from →
    some_failed (with_stage ks i to) (knot_at ks k).on ≡ some_failed ks (knot_at ks k).on) where
  given_one : (ks : List Knot) (i : ℕ) → Swept from Kept i ks → (knot_at ks i).stage ≡ from →
      Swept from Kept (suc i) (with_stage ks i to)
  given_one ks i s w = record {
    kept = keeps ks i s.kept w;
    vain = λ k b e. let n = not_that ks i k to from (there ks i from waits w) leaves e in
        let below : k < i = omega (arith, b, n) in
        let was = sym (ap (λ (x : Knot). x.stage) (stage_other ks i k to n)) ∙ e in
        ap (λ (x : Knot). some_failed (with_stage ks i to) x.on) (stage_other ks i k to n)
        ∙ alike ks i k s.kept w below was ∙ s.vain k below was;
  }

  passed_one : (ks : List Knot) (i : ℕ) → Swept from Kept i ks →
      (same_stage (knot_at ks i).stage from && some_failed ks (knot_at ks i).on) ≡ false → Swept from Kept (suc i) ks
  passed_one ks i s f = record {
    kept = s.kept;
    vain = λ k b e. ⊎_elim
        (λ same. ap (λ (n : ℕ). some_failed ks (knot_at ks n).on) same
        ∙ sym (ap (λ (b : Bool). b && some_failed ks (knot_at ks i).on)
        (itself (knot_at ks i).stage (ap (λ (n : ℕ). (knot_at ks n).stage) (sym same) ∙ e))) ∙ f)
        (λ n. s.vain k (omega (arith, b, n)) e)
        (cases_eq k i);
  }
    where
      itself : (st : Stage) → st ≡ from → same_stage st from ≡ true
      itself st e = ap (λ (x : Stage). same_stage x from) e ∙ same_itself from waits

  swept_one : (ks : List Knot) (i : ℕ) → Swept from Kept i ks → Swept from Kept (suc i) (give_up from to ks i)
  swept_one ks i s = ⊎_elim
      (λ g. subst (Swept from Kept (suc i)) (sym g.0) (given_one ks i s (same_is (knot_at ks i).stage from g.1)))
      (λ g. subst (Swept from Kept (suc i)) (sym g.0) (passed_one ks i s g.1))
      (up_cases ks i from to)

  swept_all : (m i : ℕ) (ks : List Knot) → Swept from Kept i ks →
      Swept from Kept (i + m) (give_up_each from to ks (counted_from i m))
  swept_all zero i ks s = subst (λ (n : ℕ). Swept from Kept n ks) (let e : i ≡ i + 0 = omega arith in e) s
  swept_all (suc m) i ks s =
      subst (λ (n : ℕ). Swept from Kept n (give_up_each from to (give_up from to ks i) (counted_from (suc i) m)))
      (let e : suc i + m ≡ i + suc m = omega arith in e)
      (swept_all m (suc i) (give_up from to ks i) (swept_one ks i s))

  sweep : (ks us : List Knot) → length us ≡ length ks → Kept us →
      Swept from Kept (length ks) (give_up_each from to us (points (length ks)))
  sweep ks us e k =
      subst (λ (n : ℕ). Swept from Kept n (give_up_each from to us (points (length ks))))
      (let e : 0 + length ks ≡ length ks = omega arith in e)
      (swept_all (length ks) 0 us (record { kept = k; vain = λ k b e. absurd (omega (arith, b)) }))

-- ---- those that have not begun

order_stays : (ks : List Knot) (i : ℕ) → WaitsForEarlier ks → (knot_at ks i).stage ≡ Waiting →
    WaitsForEarlier (with_stage ks i Dropped)
order_stays ks i order w k j e c =
    let n = not_that ks i k Dropped Waiting (there ks i Waiting refl w) (λ d. absurd cc) e in
    order k j (sym (ap (λ (x : Knot). x.stage) (stage_other ks i k Dropped n)) ∙ e)
    (subst (λ (x : Knot). Contains x.on (number j)) (stage_other ks i k Dropped n) c)

dropped_alike : (ks : List Knot) (i k : ℕ) → WaitsForEarlier ks → (knot_at ks i).stage ≡ Waiting → k < i →
    (knot_at ks k).stage ≡ Waiting → some_failed (with_stage ks i Dropped) (knot_at ks k).on ≡ some_failed ks (knot_at ks k).on
dropped_alike ks i k order w b e = failed_alike ks (with_stage ks i Dropped) (knot_at ks k).on
    (λ j c. ap has_failed (done_other ks i j Dropped (omega (arith, b, order k j e c))))

-- ---- those that have begun

abbrev NoneWaiting : List Knot → Type 0
NoneWaiting ks = (k : ℕ) → (knot_at ks k).stage ≡ Waiting → some_failed ks (knot_at ks k).on ≡ false

stopped_alike : (ks : List Knot) (i : ℕ) → (knot_at ks i).stage ≡ Parked → (j : ℕ) →
    has_failed (stage_at (with_stage ks i Stopped) j) ≡ has_failed (stage_at ks j)
stopped_alike ks i p j =
    let here = there ks i Parked refl p in
    ⊎_elim
    (λ e. ap (λ (n : ℕ). has_failed (stage_at (with_stage ks i Stopped) n)) e ∙ ap has_failed (done_same ks i Stopped here)
    ∙ sym (ap has_failed (stage_in ks i here ∙ ap (λ (s : Stage). Some s) p)) ∙ ap (λ (n : ℕ). has_failed (stage_at ks n)) (sym e))
    (λ n. ap has_failed (done_other ks i j Stopped n))
    (cases_eq j i)

some_stopped_alike : (ks : List Knot) (i k : ℕ) → (knot_at ks i).stage ≡ Parked →
    some_failed (with_stage ks i Stopped) (knot_at ks k).on ≡ some_failed ks (knot_at ks k).on
some_stopped_alike ks i k p = failed_alike ks (with_stage ks i Stopped) (knot_at ks k).on (λ j c. stopped_alike ks i p j)

none_stays : (ks : List Knot) (i : ℕ) → NoneWaiting ks → (knot_at ks i).stage ≡ Parked → NoneWaiting (with_stage ks i Stopped)
none_stays ks i none p k e =
    let n = not_that ks i k Stopped Waiting (there ks i Parked refl p) (λ d. absurd cc) e in
    ap (λ (x : Knot). some_failed (with_stage ks i Stopped) x.on) (stage_other ks i k Stopped n)
    ∙ some_stopped_alike ks i k p ∙ none k (sym (ap (λ (x : Knot). x.stage) (stage_other ks i k Stopped n)) ∙ e)

-- ---- all

module _ (ks : List Knot) (order : WaitsForEarlier ks) where
  abbrev us : List Knot
  us = give_up_each Waiting Dropped ks (points (length ks))

  same_size : length us ≡ length ks
  same_size = (each_gives_up Waiting Dropped refl refl (points (length ks)) ks).follows.size

  dropped : Swept Waiting WaitsForEarlier (length ks) us
  dropped = sweep Waiting Dropped WaitsForEarlier refl (λ d. absurd cc) order_stays dropped_alike ks ks refl order

  stopped : Swept Parked NoneWaiting (length ks) (given_up ks)
  stopped = sweep Parked Stopped NoneWaiting refl (λ d. absurd cc) none_stays (λ ks i k none p b e. some_stopped_alike ks i k p)
      ks us same_size (λ k e. dropped.vain k (omega (arith, there us k Waiting refl e, same_size)) e)

  last_size : length (given_up ks) ≡ length ks
  last_size = (all_give_up ks).follows.size

  none_in_vain : NoneWaitsInVain (given_up ks)
  none_in_vain k i = ⊎_elim
      (λ w. stopped.kept k w)
      (λ p. stopped.vain k (omega (arith, idle_there (given_up ks) k i, last_size)) p)
      (idle_cases (knot_at (given_up ks) k).stage i)

pub failures_reach_all : FailuresReachAll
failures_reach_all ks order = record {
  size = (all_give_up ks).follows.size;
  reached = none_in_vain ks order;
  others = (all_spread ks).others;
}
