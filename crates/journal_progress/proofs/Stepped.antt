-- Each step changes one operation, which was issued and whose own work hadn't ended, and a give may add others.
use Rattle.std.proofs.Common.{◌≡◌, ◌<◌, ◌∙◌, ◌==◌, ⊎_elim, ℕ, Bool, None, Some, ap, cond, false, length, refl, set, subst, sym, true}
use Rattle.std.proofs.lemmas.Bool.{false≢true}
use Rattle.std.proofs.lemmas.Option.{none-some, same_Some}
use Rattle.dependence_graph.specs.Knots.{knot_at}
use Rattle.dependence_graph.specs.declared.stage.Stage.TheVariants as knot
use Rattle.task_code.specs.declared.job.Job.{Job}
use Rattle.machine_terms.specs.declared.frame.Before.{Before}
use Rattle.machine_terms.specs.declared.frame.Frame.{Frame}
use Rattle.machine_terms.specs.Segments.{segment}
use Rattle.run_journal.specs.declared.entry.StepKind.{StepKind}
use Rattle.run_journal.specs.declared.entry.StepKind.TheVariants.{Back, Claim, Copy, Give}
use Rattle.board_rules.specs.Boards.{Operation as Node, closing, dropped, filling, idle, op, out, over}
use Rattle.board_rules.specs.Ground.{Ground}
use Rattle.board_rules.specs.NumberedBoards.{Board}
use Rattle.regent_boards.specs.RegentMachine.{regent_ground}
use Rattle.code_boards.specs.Views.{spaces_of}
use Rattle.board_terms.specs.declared.claim.Claim.{Claim as SeatClaim}
use Rattle.board_terms.specs.declared.operation.Activity.{Activity}
use Rattle.board_terms.specs.declared.operation.Activity.TheVariants as activity
use Rattle.board_terms.specs.declared.operation.Operation.{Operation}
use Rattle.board_terms.specs.declared.operation.Wait.{Wait}
use Rattle.board_terms.specs.declared.operation.Wait.TheVariants as wait
use Rattle.board_terms.specs.Claims.{activity_behind, back_in, claim_made, claim_on, copied_in, fill_for, frame_behind, moved_on, taken_back}
use Rattle.board_terms.specs.Gives.{given_after, given_in}
use Rattle.board_terms.specs.Replays.{step_of}
use Rattle.board_terms.specs.Stages.{may_be_claimed}
use Rattle.board_terms.specs.States.{State, doing, operation_at}
use Rattle.board_trees.specs.Shows.{Shows, ShowsBoard}
use Rattle.claimed_trees.proofs.Back.{IsClaimed, claimed_within, has_begun}
use Rattle.journal_progress.proofs.Frames.{Leaves, give_leaves, has_work, simply_leaves}
use Rattle.journal_progress.proofs.Kept.{is_past}
use Rattle.journal_progress.proofs.Places.{Placed, placed}
use Rattle.journal_progress.proofs.Waited.{idles, within as waited_within}

abbrev is_out : Activity → Bool
is_out (activity.Out c x) = true
is_out _ = false

abbrev handed_out : Before → Activity → Before
handed_out q (activity.Out c x) = x
handed_out q _ = q

module _ (job : Job) (s : State) (b : Board (regent_ground (spaces_of job.code))) (h : ShowsBoard job s b) (k : ℕ) where
  abbrev G : Ground
  G = regent_ground (spaces_of job.code)

  abbrev o : Operation
  o = operation_at s k

  -- ---- what was handed out has the operation's frame, but maybe for a value

  record IsFrame (f : Frame) : Type 0 where
    own : f.own ≡ o.frame.own
    needs : f.needs ≡ o.frame.needs

  behind_is : (w : Wait) → IsFrame (frame_behind s o w)
  behind_is wait.Beginning = record { own = refl; needs = refl }
  behind_is wait.Nothing = record { own = refl; needs = refl }
  behind_is (wait.Part root field) = record { own = refl; needs = refl }
  behind_is (wait.Child n) = record { own = refl; needs = refl }

  module _ (c : SeatClaim) (before : Before) (is : o.activity ≡ activity.Out c before) where
    abbrev g : Placed job s b h k
    g = placed job s b h k (claimed_within s k (subst IsClaimed (sym is) tt))

    abbrev is_claimed : IsClaimed o.activity
    is_claimed = subst IsClaimed (sym is) tt

    never : {A : Type 0} (a : Activity) → o.activity ≡ a → is_out a ≡ false → A
    never a e f = absurd (false≢true (sym f ∙ ap is_out (sym e ∙ is)))

    by_node : (n : Node G) → Shows job s h.who b.ways g.there.at k g.there.earlier g.there.above n → (knot_at s.waits.knots k).stage ≡ knot.Begun → IsFrame before.frame
    by_node (op D N i f ps (idle x) is) r t = never activity.Idle r.0.stands.1.0 refl
    by_node (op D N i f ps (filling x d l) is) r t = never _ r.0.stands.1.activity_is refl
    by_node (op D N i f ps (out x d) js) r t = subst (λ (q : Before). IsFrame q.frame) (ap (handed_out before) (sym r.0.stands.1.activity_is ∙ is)) (behind_is o.wait)
    by_node (op D N i f ps (closing e) is) r t = ⊎_elim (λ q. never _ q.1.activity_is refl) (λ q. let x : knot.Begun ≡ knot.Stopped = sym t ∙ q.0 in absurd cc) r.0.stands
    by_node (op D N i f ps (over e) is) r t = ⊎_elim (λ q. absurd (false≢true (ap is_past (sym t ∙ q.0)))) (λ q. absurd (false≢true (ap is_past (sym t ∙ q.0)))) r.0.stands
    by_node (op D N i f ps dropped is) r t = never activity.Idle r.0.stands.1.0 refl

    out_frame : IsFrame before.frame
    out_frame = by_node g.there.node g.there.shows (has_begun job s k is_claimed h.who b.ways g.there.at g.there.earlier g.there.above g.there.node g.there.shows)

  -- ---- each step

  pub record Stepped (u : State) : Type 0 where
    pub within : k < length s.operations
    pub works : has_work o.activity ≡ true
    pub leaves : Leaves job s k within u

  doing_leaves : (u : State) (a : Activity) → k < length s.operations → has_work o.activity ≡ true → u.operations ≡ set s.operations k (record o { activity = a }) → u.waits.listing ≡ s.waits.listing → Stepped u
  doing_leaves u a l works ops listing = record { within = l; works = works; leaves = simply_leaves job s k l u (record o { activity = a }) ops listing refl refl }

  claimed_works : (a : Activity) → IsClaimed a → has_work a ≡ true
  claimed_works activity.Idle c = refl
  claimed_works (activity.Filling c f) q = refl
  claimed_works (activity.Out c f) q = refl
  claimed_works (activity.Closing e) q = absurd q

  module _ (seat : ℕ) (u : State) where
    by_claim : (r : Bool) → may_be_claimed s k ≡ r → cond r (Some (claim_made s k seat)) None ≡ Some u → Stepped u
    by_claim true e q = subst Stepped (same_Some (claim_made s k seat) u q)
        (doing_leaves (claim_made s k seat) (activity.Filling (claim_on s k seat) (fill_for s o o.wait)) (waited_within job s b h k seat e) (ap has_work (idles job s b h k seat e)) refl refl)
    by_claim false e q = absurd (none-some u q)

    by_copy : (a : Activity) → o.activity ≡ a → copied_in job.code s k seat a ≡ Some u → Stepped u
    by_copy activity.Idle e q = absurd (none-some u q)
    by_copy (activity.Out c x) e q = absurd (none-some u q)
    by_copy (activity.Closing x) e q = absurd (none-some u q)
    by_copy (activity.Filling c f) e q = chosen (c.seat == seat) q
      where
        chosen : (x : Bool) → cond x (Some (doing s k (activity_behind job.code s o c (moved_on s f)))) None ≡ Some u → Stepped u
        chosen true r = subst Stepped (same_Some (doing s k (activity_behind job.code s o c (moved_on s f))) u r)
            (doing_leaves (doing s k (activity_behind job.code s o c (moved_on s f))) (activity_behind job.code s o c (moved_on s f))
            (claimed_within s k (subst IsClaimed (sym e) tt)) (ap has_work e) refl refl)
        chosen false r = absurd (none-some u r)

    back_chosen : IsClaimed o.activity → (x : Bool) → cond x (Some (taken_back s k)) None ≡ Some u → Stepped u
    back_chosen is true r = subst Stepped (same_Some (taken_back s k) u r) (doing_leaves (taken_back s k) activity.Idle (claimed_within s k is) (claimed_works o.activity is) refl refl)
    back_chosen is false r = absurd (none-some u r)

    by_back : (a : Activity) → o.activity ≡ a → back_in s k seat a ≡ Some u → Stepped u
    by_back activity.Idle e q = absurd (none-some u q)
    by_back (activity.Closing x) e q = absurd (none-some u q)
    by_back (activity.Filling c f) e q = back_chosen (subst IsClaimed (sym e) tt) (c.seat == seat) q
    by_back (activity.Out c f) e q = back_chosen (subst IsClaimed (sym e) tt) (c.seat == seat) q

    by_give : (a : Activity) → o.activity ≡ a → given_in job.code job.turns s k seat a ≡ Some u → Stepped u
    by_give activity.Idle e q = absurd (none-some u q)
    by_give (activity.Filling c f) e q = absurd (none-some u q)
    by_give (activity.Closing x) e q = absurd (none-some u q)
    by_give (activity.Out c before) e q = chosen (c.seat == seat) q
      where
        l : k < length s.operations
        l = claimed_within s k (subst IsClaimed (sym e) tt)

        chosen : (x : Bool) → cond x (Some (given_after job.code job.turns s k (segment before))) None ≡ Some u → Stepped u
        chosen true r = subst Stepped (same_Some (given_after job.code job.turns s k (segment before)) u r)
            (record { within = l; works = ap has_work e; leaves = give_leaves job s k l before (out_frame c before e).own (out_frame c before e).needs })
        chosen false r = absurd (none-some u r)

    pub step_leaves : (kind : StepKind) → step_of job s k seat kind ≡ Some u → Stepped u
    step_leaves Claim q = by_claim (may_be_claimed s k) refl q
    step_leaves Copy q = by_copy o.activity refl q
    step_leaves Give q = by_give o.activity refl q
    step_leaves Back q = by_back o.activity refl q
