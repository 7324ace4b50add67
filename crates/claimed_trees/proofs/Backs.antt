-- Of boards: a claim is taken back on both, or on neither.
use Rattle.std.proofs.Common.{◌≡◌, ◌<◌, ◌∙◌, ◌==◌, ℕ, Bool, List, None, Option, Some, [], ap, cond, false, length, refl, subst, sym, true}
use Rattle.dependence_graph.specs.Knots.{knot_at}
use Rattle.dependence_graph.specs.declared.stage.Stage.TheVariants as knot
use Rattle.task_code.specs.declared.job.Job.{Job}
use Rattle.board_rules.specs.Boards.{back}
use Rattle.board_rules.specs.Ground.{Ground}
use Rattle.board_rules.specs.NumberedBoards.{Board, Step, by_way, holds_claim, way_of, without}
use Rattle.board_rules.specs.RootNumbers.{made_in}
use Rattle.regent_boards.specs.RegentMachine.{regent_ground}
use Rattle.code_boards.specs.Laws.{machine_of}
use Rattle.code_boards.specs.Views.{spaces_of}
use Rattle.board_terms.specs.declared.operation.Activity.{Activity}
use Rattle.board_terms.specs.declared.operation.Activity.TheVariants as activity
use Rattle.board_terms.specs.declared.operation.Operation.{Operation}
use Rattle.board_terms.specs.Claims.{back_in, taken_back}
use Rattle.board_terms.specs.States.{State, operation_at}
use Rattle.board_trees.specs.Laws.{BothShow}
use Rattle.board_trees.specs.Shows.{ShowsBoard, is_claimed}
use Rattle.board_trees.proofs.Kept.{by_number}
use Rattle.claimed_trees.specs.Laws.{BacksShow}
use Rattle.claimed_trees.proofs.Back.{IsClaimed, claimed_within, goes_on, has_begun, own_back, parked}
use Rattle.claimed_trees.proofs.Changed.{GoesOn, changed, others, row_is}
use Rattle.board_trees.proofs.Claims.{claim_elsewhere, claim_gone, way_there}
use Rattle.board_trees.proofs.Found.{Found, found}
use Rattle.claimed_trees.proofs.Onward as onward

module _ (job : Job) where
  abbrev G : Ground
  G = regent_ground (spaces_of job.code)

  module _ (s : State) (b : Board G) (h : ShowsBoard job s b) (k seat : ℕ) where
    abbrev step : Step
    step = record { kind = back; number = k; seat = seat }

    module _ (claim : IsClaimed (operation_at s k).activity) where
      within : k < length s.operations
      within = claimed_within s k claim

      there : k < length s.waits.knots
      there = subst (λ x. k < x) (sym h.knots) within

      module _ (v : List ℕ) (way_is : way_of G (machine_of job) b.ways k ≡ Some v) where
        abbrev at : Found job s h.who b.ways k
        at = found job s h.who b.ways k v [] 0 [] [] b.state.tree h.shows (h.leads k v way_is)

        begun : (knot_at s.waits.knots k).stage ≡ knot.Begun
        begun = has_begun job s k claim h.who b.ways at.way at.earlier at.above at.node at.shows

        on : GoesOn s k activity.Idle (parked job s k) s.turns
        on = goes_on job s k claim within there begun

        goes : BothShow job (Some (taken_back s k)) (by_way G (machine_of job) b step (Some v))
        unfolding on
        goes = onward.goes_on job s b h k seat activity.Idle (parked job s k) s.turns on back v way_is
            (own_back job s k claim within there begun h.who b.ways v way_is (made_in G (machine_of job) b.state.tree) b.state.map)
            (λ j x. by_number k
            (λ j. holds_claim G (machine_of job) j x (without G (machine_of job) k b.claims) ≡ is_claimed job x (operation_at (changed s k activity.Idle (parked job s k) s.turns) j).activity)
            (claim_gone job k b.claims x ∙ sym (ap (λ (o : Operation). is_claimed job x o.activity) (row_is s k activity.Idle (parked job s k) s.turns on)))
            (λ j n. claim_elsewhere job j k b.claims x n ∙ h.claims j x ∙ sym (ap (λ (o : Operation). is_claimed job x o.activity) (others s k activity.Idle (parked job s k) s.turns on j n))) j)
            h.turns

      by_found : (o : Option (List ℕ)) → way_of G (machine_of job) b.ways k ≡ o → BothShow job (Some (taken_back s k)) (by_way G (machine_of job) b step o)
      by_found None e = absurd (way_there job b.ways k (subst (λ x. k < x) (sym h.ways) within) e)
      by_found (Some v) e = goes v e

    by_seat : (x : Bool) → IsClaimed (operation_at s k).activity →
        BothShow job (cond x (Some (taken_back s k)) None) (cond x (by_way G (machine_of job) b step (way_of G (machine_of job) b.ways k)) None)
    by_seat true c = by_found c (way_of G (machine_of job) b.ways k) refl
    by_seat false c = tt

    by_activity : (a : Activity) → (operation_at s k).activity ≡ a →
        BothShow job (back_in s k seat a) (cond (is_claimed job seat a) (by_way G (machine_of job) b step (way_of G (machine_of job) b.ways k)) None)
    by_activity activity.Idle e = tt
    by_activity (activity.Filling c f) e = by_seat (c.seat == seat) (subst IsClaimed (sym e) tt)
    by_activity (activity.Out c f) e = by_seat (c.seat == seat) (subst IsClaimed (sym e) tt)
    by_activity (activity.Closing x) e = tt

pub backs_show : BacksShow
backs_show job s b h k seat = subst (λ x. BothShow job (back_in s k seat (operation_at s k).activity)
    (cond x (by_way (regent_ground (spaces_of job.code)) (machine_of job) b (record { kind = back; number = k; seat = seat }) (way_of (regent_ground (spaces_of job.code)) (machine_of job) b.ways k)) None))
    (sym (h.claims k seat)) (by_activity job s b h k seat (operation_at s k).activity refl)
