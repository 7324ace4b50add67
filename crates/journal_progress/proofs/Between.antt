-- A claim that is taken back after other steps: what it comes to for its operation.
use Rattle.std.proofs.Common.{◌≡◌, ◌<◌, ◌∷◌, ◌∙◌, ◌==◌, ◌&&◌, ⊎_elim, ℕ, Bool, List, None, Option, Some, [], ap, cond, false, length, refl, subst, sym, true}
use Rattle.std.specs.Prelude.{All}
use Rattle.std.proofs.lemmas.Bool.{cases_eq}
use Rattle.std.proofs.lemmas.List.{get_or-set_same, length-set}
use Rattle.std.proofs.lemmas.List.Elements.{All-head, All-tail}
use Rattle.std.proofs.lemmas.Option.{none-some, same_Some}
use Rattle.dependence_graph.specs.Entries.{Knot}
use Rattle.dependence_graph.specs.Knots.{all_done, is_idle, knot_at, no_knot, number}
use Rattle.dependence_graph.specs.declared.stage.Stage.TheVariants as knot
use Rattle.task_code.specs.declared.job.Job.{Job}
use Rattle.run_journal.specs.declared.entry.Entry.{Entry}
use Rattle.board_terms.specs.declared.operation.Activity.{Activity}
use Rattle.board_terms.specs.declared.operation.Activity.TheVariants as activity
use Rattle.board_terms.specs.declared.operation.Operation.{Operation}
use Rattle.board_terms.specs.Claims.{activity_behind, backed, claim_made, claim_on, copied_in, fill_for, moved_on, taken_back}
use Rattle.board_terms.specs.Replays.{replay_from, step_of, stepped}
use Rattle.board_terms.specs.Stages.{stage_at, stage_of}
use Rattle.board_terms.specs.States.{State, doing, no_operation, operation_at}
use Rattle.claimed_trees.proofs.Back.{IsClaimed}
use Rattle.journal_progress.specs.Claims.{IsBetween, IsWhereItWas}
use Rattle.journal_progress.proofs.Backs.{IsOf, back_by, behind_of, no_state}
use Rattle.journal_progress.proofs.Busy.{IsBusy, step_busy}

is_claimed : (seat : ℕ) (a : Activity) → IsOf seat a → IsClaimed a
is_claimed seat activity.Idle h = absurd h
is_claimed seat (activity.Filling c f) h = tt
is_claimed seat (activity.Out c b) h = tt
is_claimed seat (activity.Closing e) h = absurd h

module _ (job : Job) (s : State) (k seat : ℕ) (within : k < length s.operations) (there : k < length s.waits.knots) where
  abbrev doing_so : Activity → Operation
  doing_so a = record (operation_at s k) { activity = a }

  -- it is as it was before the claim, but that the seat has it
  abbrev pub IsTaken : State → Type 0
  IsTaken t = (a : Activity) × IsOf seat a × IsBusy k (doing_so a) t

  pub is_taken : IsTaken (claim_made s k seat)
  is_taken =
      let a : Activity = activity.Filling (claim_on s k seat) (fill_for s (operation_at s k) (operation_at s k).wait) in
      let begun : Knot = record { parent = (knot_at s.waits.knots k).parent; on = (knot_at s.waits.knots k).on; stage = knot.Begun } in (
        a,
        refl,
        (
          (subst (λ m. k < m) (sym (length-set s.operations k (doing_so a))) within, get_or-set_same s.operations k (doing_so a) no_operation within),
          (subst (λ m. k < m) (sym (length-set s.waits.knots k begun)) there, ap (λ (x : Knot). x.stage) (get_or-set_same s.waits.knots k begun no_knot there)),
        ),
      )

  -- ---- a step between

  does : (t : State) (c : IsTaken t) → (operation_at t k).activity ≡ c.0
  does t c = ap (λ (x : Operation). x.activity) c.2.0.1

  again : (t : State) (c : IsTaken t) (a : Activity) → IsOf seat a → IsTaken (doing t k a)
  again t c a o =
      let row : Operation = record (operation_at t k) { activity = a } in (
        a,
        o,
        (
          (
            subst (λ m. k < m) (sym (length-set t.operations k row)) c.2.0.0,
            get_or-set_same t.operations k row no_operation c.2.0.0 ∙ ap (λ (x : Operation). record x { activity = a }) c.2.0.1,
          ),
          c.2.1,
        ),
      )

  copy_by : (t v : State) → IsTaken t → (other : ℕ) (d : Activity) → IsOf seat d → copied_in job.code t k other d ≡ Some v → IsTaken v
  copy_by t v c other activity.Idle o q = absurd o
  copy_by t v c other (activity.Out x b) o q = absurd (none-some v q)
  copy_by t v c other (activity.Closing x) o q = absurd o
  copy_by t v c other (activity.Filling x f) o q = chosen (x.seat == other) q
    where
      chosen : (r : Bool) → cond r (Some (doing t k (activity_behind job.code t (operation_at t k) x (moved_on t f)))) None ≡ Some v → IsTaken v
      chosen true r = subst IsTaken (same_Some (doing t k (activity_behind job.code t (operation_at t k) x (moved_on t f))) v r)
          (again t c (activity_behind job.code t (operation_at t k) x (moved_on t f)) (behind_of job s k seat within t (operation_at t k) x (moved_on t f) o))
      chosen false r = absurd (none-some v r)

  one_between : (t v : State) → IsTaken t → (e : Entry) → IsBetween k e → stepped job t e ≡ Some v → IsTaken v
  one_between t v c e is q = ⊎_elim
      (λ same. copy_by t v c e.seat (operation_at t k).activity (subst (IsOf seat) (sym (does t c)) c.1)
      (sym ((λ i. step_of job t (sym same i) e.seat (is (λ j. number (sym same j)) i))) ∙ q))
      (λ other. (c.0, c.1, step_busy k (doing_so c.0) (is_claimed seat c.0 c.1) job e.op.0 other t c.2 e.seat e.kind v q)) (cases_eq k e.op.0)

  pub all_between : (es : List Entry) (t v : State) → IsTaken t → All (IsBetween k) es → replay_from job (Some t) es ≡ Some v → IsTaken v
  all_between [] t v c h q = subst IsTaken (same_Some t v q) c
  all_between (e ∷ es) t v c h q = by_step (stepped job t e) refl q
      (λ u r p. all_between es u v (one_between t u c e (All-head (IsBetween k) e es h) r) (All-tail (IsBetween k) e es h) p)
    where
      by_step : (o : Option State) → stepped job t e ≡ o → replay_from job o es ≡ Some v → ((u : State) → stepped job t e ≡ Some u → replay_from job (Some u) es ≡ Some v → IsTaken v) → IsTaken v
      by_step None r p more = absurd (none-some v (sym (no_state job es) ∙ p))
      by_step (Some u) r p more = more u r p

  -- ---- and back

  pub goes_back : (t : State) → IsTaken t → backed t k seat ≡ Some (taken_back t k)
  goes_back t c = back_by job s k seat within t (operation_at t k).activity (subst (IsOf seat) (sym (does t c)) c.1)

  module _ (idle : (operation_at s k).activity ≡ activity.Idle) (stands : stage_of knot.Parked (operation_at s k).wait (operation_at s k).activity ≡ stage_at s k) where
    pub where_it_was : (t : State) → IsTaken t → IsWhereItWas k s (taken_back t k)
    where_it_was t c =
        let u = taken_back t k in
        let idled : Operation = record (operation_at t k) { activity = activity.Idle } in
        let parked : Knot = record { parent = (knot_at t.waits.knots k).parent; on = []; stage = knot.Parked } in
        let knot_is : knot_at u.waits.knots k ≡ parked = get_or-set_same t.waits.knots k parked no_knot c.2.1.0 in
        let row : operation_at u k ≡ operation_at s k = get_or-set_same t.operations k idled no_operation c.2.0.0
        ∙ ap (λ (x : Operation). record x { activity = activity.Idle }) c.2.0.1 ∙ ap doing_so (sym idle) in
        record {
          operation = row;
          stage = (λ i. stage_of (knot_is i).stage (row i).wait (row i).activity) ∙ stands;
          ready = ap (λ (x : Knot). is_idle x.stage && all_done u.waits.knots x.on) knot_is;
        }
