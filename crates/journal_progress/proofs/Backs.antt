-- A claim, copies for it, and a back: what they make of the table.
use Rattle.std.proofs.Common.{◌≡◌, ◌<◌, ◌++◌, ◌∷◌, ◌∙◌, ◌==◌, ◌&&◌, ℕ, zero, suc, Bool, List, None, Option, Some, [], ap, cond, eq-eqb, false, length, refl, set, set-set, subst, sym, true}
use Rattle.std.proofs.lemmas.List.{get_or-set_same, set-get_or}
use Rattle.std.proofs.lemmas.Option.{none-some, same_Some}
use Rattle.logical_map.specs.Fills.{Filling, elements_of}
use Rattle.dependence_graph.specs.Entries.{Knot}
use Rattle.dependence_graph.specs.Graphs.{begun, parked_on}
use Rattle.dependence_graph.specs.Knots.{all_done, is_idle, knot_at, no_knot, number}
use Rattle.dependence_graph.specs.declared.stage.Stage.TheVariants as knot
use Rattle.task_code.specs.declared.job.Job.{Job}
use Rattle.run_journal.specs.declared.entry.Entry.{Entry}
use Rattle.run_journal.specs.declared.entry.StepKind.TheVariants.{Claim}
use Rattle.board_terms.specs.declared.claim.Claim.{Claim as SeatClaim}
use Rattle.board_terms.specs.declared.operation.Activity.{Activity}
use Rattle.board_terms.specs.declared.operation.Activity.TheVariants as activity
use Rattle.board_terms.specs.declared.operation.Operation.{Operation}
use Rattle.board_terms.specs.Claims.{activity_behind, back_in, backed, before_of, claim_made, claim_on, copied, copied_in, fill_for, moved_on, taken_back}
use Rattle.board_terms.specs.Replays.{on_state, replay_from, stepped}
use Rattle.board_terms.specs.Stages.{may_be_claimed, stage_at, stage_of}
use Rattle.board_terms.specs.States.{State, doing, no_operation, operation_at}
use Rattle.board_trees.proofs.Kept.{ChangesOne, all_done_kept, by_number}
use Rattle.claimed_trees.proofs.Back.{parked}
use Rattle.claimed_trees.proofs.Changed.{GoesOn, changes}
use Rattle.journal_progress.specs.Claims.{IsAsBefore, claimed_by, copies_by}

-- it is claimed by the seat
abbrev pub IsOf : ℕ → Activity → Type 0
IsOf seat (activity.Filling c f) = c.seat ≡ seat
IsOf seat (activity.Out c b) = c.seat ≡ seat
IsOf seat _ = ⊥

module _ (job : Job) where
  pub replay_both : (xs ys : List Entry) (o : Option State) → replay_from job o (xs ++ ys) ≡ replay_from job (replay_from job o xs) ys
  replay_both [] ys o = refl
  replay_both (x ∷ xs) ys o = replay_both xs ys (on_state o (λ s. stepped job s x))

  pub no_state : (es : List Entry) → replay_from job None es ≡ None
  no_state [] = refl
  no_state (e ∷ es) = no_state es

  -- what was claimed was ready
  pub claim_was_ready : (s : State) (k seat : ℕ) (es : List Entry) (t : State) → replay_from job (Some s) (record { kind = Claim; op = number k; seat = seat } ∷ es) ≡ Some t →
      may_be_claimed s k ≡ true
  claim_was_ready s k seat es t q = by_ready (may_be_claimed s k) q
    where
      by_ready : (r : Bool) → replay_from job (cond r (Some (claim_made s k seat)) None) es ≡ Some t → r ≡ true
      by_ready true r = refl
      by_ready false r = absurd (none-some t (sym (no_state es) ∙ r))

  module _ (s : State) (k seat : ℕ) (within : k < length s.operations) where
    -- the claim's operation does this
    abbrev with_claim : Activity → State
    with_claim a = record (doing s k a) { waits = begun s.waits k; turns = suc s.turns }

    row_is : (a : Activity) → operation_at (with_claim a) k ≡ record (operation_at s k) { activity = a }
    row_is a = get_or-set_same s.operations k (record (operation_at s k) { activity = a }) no_operation within

    -- what is done by it next takes the place of that
    rows_again : (a c : Activity) → (doing (with_claim a) k c).operations ≡ set s.operations k (record (operation_at s k) { activity = c })
    rows_again a c = ap (λ (o : Operation). set (set s.operations k (record (operation_at s k) { activity = a })) k (record o { activity = c })) (row_is a)
        ∙ set-set s.operations k (record (operation_at s k) { activity = a }) (record (operation_at s k) { activity = c })

    again : (a c : Activity) → doing (with_claim a) k c ≡ with_claim c
    again a c = ap (λ os. record (with_claim a) { operations = os }) (rows_again a c)

    abbrev pub Claimed : State → Type 0
    Claimed t = (a : Activity) × IsOf seat a × (t ≡ with_claim a)

    -- ---- copies

    pub behind_of : (t : State) (o : Operation) (c : SeatClaim) (f : Option Filling) → c.seat ≡ seat → IsOf seat (activity_behind job.code t o c f)
    behind_of t o c None e = e
    behind_of t o c (Some f) e = chosen (f.moved == elements_of f.pieces)
      where
        chosen : (q : Bool) → IsOf seat (cond q (activity.Out c (before_of job.code t o (Some f))) (activity.Filling c (Some f)))
        chosen true = e
        chosen false = e

    copy_by : (t v : State) (a d : Activity) → t ≡ with_claim a → IsOf seat d → copied_in job.code t k seat d ≡ Some v → Claimed v
    copy_by t v a (activity.Filling c f) e o q =
        let next : Activity = activity_behind job.code t (operation_at t k) c (moved_on t f) in
        let made : Some (doing t k next) ≡ Some v = sym (ap (λ x. cond x (Some (doing t k next)) None) (eq-eqb c.seat seat o)) ∙ q in
        (next, behind_of t (operation_at t k) c (moved_on t f) o, sym (same_Some (doing t k next) v made) ∙ ap (λ x. doing x k next) e ∙ again a next)
    copy_by t v a (activity.Out c x) e o q = absurd (none-some v q)
    copy_by t v a activity.Idle e o q = absurd o
    copy_by t v a (activity.Closing x) e o q = absurd o

    one_copy : (t v : State) → Claimed t → copied job.code t k seat ≡ Some v → Claimed v
    one_copy t v (a, o, e) q =
        let does : (operation_at t k).activity ≡ a = ap (λ x. (operation_at x k).activity) e ∙ ap (λ (y : Operation). y.activity) (row_is a) in
        copy_by t v a (operation_at t k).activity e (subst (IsOf seat) (sym does) o) q

    pub all_copies : (n : ℕ) (t v : State) → Claimed t → replay_from job (Some t) (copies_by k seat n) ≡ Some v → Claimed v
    all_copies zero t v c q = subst Claimed (same_Some t v q) c
    all_copies (suc n) t v c q = by_copy (copied job.code t k seat) refl q (λ u d r. all_copies n u v d r)
      where
        by_copy : (o : Option State) → copied job.code t k seat ≡ o → replay_from job o (copies_by k seat n) ≡ Some v →
            ((u : State) → Claimed u → replay_from job (Some u) (copies_by k seat n) ≡ Some v → Claimed v) → Claimed v
        by_copy None e r more = absurd (none-some v (sym (no_state (copies_by k seat n)) ∙ r))
        by_copy (Some u) e r more = more u (one_copy t u c e) r

    -- the claim, and copies
    pub is_claimed : (n : ℕ) (t : State) → may_be_claimed s k ≡ true → replay_from job (Some s) (claimed_by k seat n) ≡ Some t → Claimed t
    is_claimed n t ready q = all_copies n (claim_made s k seat) t
        (activity.Filling (claim_on s k seat) (fill_for s (operation_at s k) (operation_at s k).wait), refl, refl)
        (sym (ap (λ r. replay_from job (cond r (Some (claim_made s k seat)) None) (copies_by k seat n)) ready) ∙ q)

    -- ---- and back

    pub back_by : (t : State) (d : Activity) → IsOf seat d → back_in t k seat d ≡ Some (taken_back t k)
    back_by t (activity.Filling c f) o = ap (λ x. cond x (Some (taken_back t k)) None) (eq-eqb c.seat seat o)
    back_by t (activity.Out c x) o = ap (λ x. cond x (Some (taken_back t k)) None) (eq-eqb c.seat seat o)
    back_by t activity.Idle o = absurd o
    back_by t (activity.Closing x) o = absurd o

    pub back_goes : (t : State) → Claimed t → backed t k seat ≡ Some (taken_back t k)
    back_goes t (a, o, e) =
        let does : (operation_at t k).activity ≡ a = ap (λ x. (operation_at x k).activity) e ∙ ap (λ (y : Operation). y.activity) (row_is a) in
        back_by t (operation_at t k).activity (subst (IsOf seat) (sym does) o)

    -- ---- as before

    module _ (idle : (operation_at s k).activity ≡ activity.Idle) (on : GoesOn s k activity.Idle (parked job s k) (suc s.turns))
        (stands : stage_of knot.Parked (operation_at s k).wait (operation_at s k).activity ≡ stage_at s k) (ready : may_be_claimed s k ≡ true) where
      rows_back : set s.operations k (record (operation_at s k) { activity = activity.Idle }) ≡ s.operations
      rows_back = ap (λ a. set s.operations k (record (operation_at s k) { activity = a })) (sym idle) ∙ set-get_or s.operations k no_operation

      abbrev put : Knot
      put = parked job s k

      abbrev change : ChangesOne s (set s.operations k (record (operation_at s k) { activity = activity.Idle })) (set s.waits.knots k put) (suc s.turns) k
      change = changes s k activity.Idle put (suc s.turns) on

      abbrev begun_knot : Knot
      begun_knot = record { parent = (knot_at s.waits.knots k).parent; on = (knot_at s.waits.knots k).on; stage = knot.Begun }

      knots_back : (parked_on (begun s.waits k) k []).knots ≡ set s.waits.knots k put
      knots_back = ap (λ (x : Knot). set (set s.waits.knots k begun_knot) k (record { parent = x.parent; on = []; stage = knot.Parked }))
          (get_or-set_same s.waits.knots k begun_knot no_knot on.there)
          ∙ set-set s.waits.knots k begun_knot put

      knot_now : knot_at (set s.waits.knots k put) k ≡ put
      knot_now = get_or-set_same s.waits.knots k put no_knot on.there

      abbrev behind : State
      behind = record s { waits = record { knots = set s.waits.knots k put; listing = s.waits.listing }; turns = suc s.turns }

      ready_else : (j : ℕ) → ¬ (j ≡ k) → may_be_claimed behind j ≡ may_be_claimed s j
      ready_else j n = (λ i. is_idle (change.other_knots j n i).stage
          && all_done (set s.waits.knots k put) (change.other_knots j n i).on)
          ∙ ap (λ q. is_idle (knot_at s.waits.knots j).stage && q)
          (all_done_kept job s (set s.operations k (record (operation_at s k) { activity = activity.Idle })) (set s.waits.knots k put) (suc s.turns) k
          change (knot_at s.waits.knots j).on)

      behind_before : IsAsBefore k s behind
      behind_before = record {
        tree = refl;
        roots = refl;
        map = refl;
        operations = refl;
        listing = refl;
        stages = by_number k (λ j. stage_at behind j ≡ stage_at s j)
            (ap (λ (x : Knot). stage_of x.stage (operation_at s k).wait (operation_at s k).activity) knot_now ∙ stands)
            (λ j n. ap (λ (x : Knot). stage_of x.stage (operation_at s j).wait (operation_at s j).activity) (change.other_knots j n));
        ready = by_number k (λ j. may_be_claimed behind j ≡ may_be_claimed s j)
            (ap (λ (x : Knot). is_idle x.stage && all_done (set s.waits.knots k put) x.on) knot_now ∙ sym ready) ready_else;
        others = change.other_knots;
        turns = refl;
      }

      back_is : (a : Activity) → taken_back (with_claim a) k ≡ behind
      back_is a = λ i. record s {
        operations = (rows_again a activity.Idle ∙ rows_back) i;
        waits = record { knots = knots_back i; listing = s.waits.listing };
        turns = suc s.turns;
      }

      pub as_before : (t : State) → Claimed t → IsAsBefore k s (taken_back t k)
      as_before t (a, o, e) = subst (IsAsBefore k s) (sym (ap (λ x. taken_back x k) e ∙ back_is a)) behind_before
