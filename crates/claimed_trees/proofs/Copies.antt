-- Of boards: elements are moved on both, or on neither.
use Rattle.std.proofs.Common.{◌≡◌, ◌<◌, ◌∙◌, ◌==◌, ℕ, Bool, List, None, Option, Some, [], ap, cond, length, refl, subst, sym, true, false}
use Rattle.std.proofs.lemmas.List.{set-get_or}
use Rattle.logical_map.specs.Fills.{Filling, elements_of}
use Rattle.dependence_graph.specs.Entries.{Knot}
use Rattle.dependence_graph.specs.Knots.{knot_at, no_knot}
use Rattle.dependence_graph.specs.declared.stage.Stage.TheVariants as knot
use Rattle.task_code.specs.declared.job.Job.{Job}
use Rattle.machine_terms.specs.declared.frame.Before.{Before}
use Rattle.board_rules.specs.Boards.{closing, copy, dropped, filling, idle, op, out, over}
use Rattle.board_rules.specs.Ground.{Ground}
use Rattle.board_rules.specs.NumberedBoards.{Board, Step, by_way, holds_claim, way_of}
use Rattle.board_rules.specs.RootNumbers.{made_in}
use Rattle.regent_boards.specs.RegentMachine.{regent_ground}
use Rattle.code_boards.specs.Laws.{machine_of}
use Rattle.code_boards.specs.Views.{spaces_of}
use Rattle.board_terms.specs.declared.claim.Claim.{Claim}
use Rattle.board_terms.specs.declared.operation.Activity.{Activity}
use Rattle.board_terms.specs.declared.operation.Activity.TheVariants as activity
use Rattle.board_terms.specs.declared.operation.Operation.{Operation}
use Rattle.board_terms.specs.Claims.{activity_behind, before_of, copied_in, moved_on}
use Rattle.board_terms.specs.States.{State, doing, operation_at}
use Rattle.board_trees.specs.Laws.{BothShow}
use Rattle.board_trees.specs.Shows.{ShowsBoard, is_claimed}
use Rattle.board_trees.proofs.Claims.{way_there}
use Rattle.board_trees.proofs.Found.{Found, OwnRefuses, found}
use Rattle.board_trees.proofs.Kept.{by_number, with_rows}
use Rattle.claimed_trees.specs.Laws.{CopiesShow}
use Rattle.claimed_trees.proofs.Back.{IsClaimed, claimed_within, has_begun}
use Rattle.claimed_trees.proofs.Changed.{GoesOn, changed, others, row_is, rows}
use Rattle.claimed_trees.proofs.Copying.{copied_now, goes_on, here, own_copy}
use Rattle.claimed_trees.proofs.Onward as onward
use Rattle.claimed_trees.proofs.Onward.{neither, refuses}

module _ (job : Job) (s : State) (b : Board (regent_ground (spaces_of job.code))) (h : ShowsBoard job s b) (k seat : ℕ) where
  abbrev G : Ground
  G = regent_ground (spaces_of job.code)

  abbrev step : Step
  step = record { kind = copy; number = k; seat = seat }

  abbrev makings : ℕ
  makings = made_in G (machine_of job) b.state.tree

  -- ---- one that is being filled

  module _ (c : Claim) (fill : Option Filling) (activity_is : (operation_at s k).activity ≡ activity.Filling c fill) where
    claim : IsClaimed (operation_at s k).activity
    claim = subst IsClaimed (sym activity_is) tt

    within : k < length s.operations
    within = claimed_within s k claim

    there : k < length s.waits.knots
    there = subst (λ x. k < x) (sym h.knots) within

    abbrev act : Activity
    act = copied_now job s k c fill activity_is

    abbrev kn : Knot
    kn = here job s k c fill activity_is

    module _ (v : List ℕ) (way_is : way_of G (machine_of job) b.ways k ≡ Some v) where
      abbrev at : Found job s h.who b.ways k
      at = found job s h.who b.ways k v [] 0 [] [] b.state.tree h.shows (h.leads k v way_is)

      begun : (knot_at s.waits.knots k).stage ≡ knot.Begun
      begun = has_begun job s k claim h.who b.ways at.way at.earlier at.above at.node at.shows

      on : GoesOn s k act kn s.turns
      on = goes_on job s k c fill activity_is within there begun

      seat_kept : (x : ℕ) (o : Option Filling) → is_claimed job x (activity_behind job.code s (operation_at s k) c o) ≡ (c.seat == x)
      seat_kept x None = refl
      seat_kept x (Some f) = chosen (f.moved == elements_of f.pieces)
        where
          chosen : (b : Bool) → is_claimed job x (cond b (activity.Out c (before_of job.code s (operation_at s k) (Some f))) (activity.Filling c (Some f))) ≡ (c.seat == x)
          chosen true = refl
          chosen false = refl

      claims_then : (j x : ℕ) → holds_claim G (machine_of job) j x b.claims ≡ is_claimed job x (operation_at (changed s k act kn s.turns) j).activity
      claims_then j x = by_number k
          (λ j. holds_claim G (machine_of job) j x b.claims ≡ is_claimed job x (operation_at (changed s k act kn s.turns) j).activity)
          (h.claims k x ∙ ap (is_claimed job x) activity_is ∙ sym (seat_kept x (moved_on s fill))
          ∙ sym (ap (λ (o : Operation). is_claimed job x o.activity) (row_is s k act kn s.turns on)))
          (λ j n. h.claims j x ∙ sym (ap (λ (o : Operation). is_claimed job x o.activity) (others s k act kn s.turns on j n))) j

      goes : BothShow job (Some (doing s k act)) (by_way G (machine_of job) b step (Some v))
      unfolding on
      goes = subst (λ ks. BothShow job (Some (with_rows s (rows s k act kn s.turns) ks s.turns)) (by_way G (machine_of job) b step (Some v))) (set-get_or s.waits.knots k no_knot)
          (onward.goes_on job s b h k seat act kn s.turns on copy v way_is
          (own_copy job s k c fill activity_is within there begun h.who b.ways v way_is makings b.state.map h.made h.regions h.held h.own_made)
          claims_then h.turns)

    by_found : (o : Option (List ℕ)) → way_of G (machine_of job) b.ways k ≡ o → BothShow job (Some (doing s k act)) (by_way G (machine_of job) b step o)
    by_found None e = absurd (way_there job b.ways k (subst (λ x. k < x) (sym h.ways) within) e)
    by_found (Some v) e = goes v e

  -- ---- one that is out has nothing left to be filled

  module _ (c : Claim) (before : Before) (activity_is : (operation_at s k).activity ≡ activity.Out c before) where
    out_refuses : OwnRefuses job s h.who b.ways k copy makings b.state.map
    out_refuses w earlier above p told (op D N i f ps (filling x d l) is) g t =
        absurd (let q : activity.Out c before ≡ activity.Filling g.0.stands.1.claim g.0.stands.1.fill = sym activity_is ∙ g.0.stands.1.activity_is in cc)
    out_refuses w earlier above p told (op D N i f ps (idle x) is) g t = refl
    out_refuses w earlier above p told (op D N i f ps (out x d) is) g t = refl
    out_refuses w earlier above p told (op D N i f ps (closing x) is) g t = refl
    out_refuses w earlier above p told (op D N i f ps (over x) is) g t = refl
    out_refuses w earlier above p told (op D N i f ps dropped is) g t = refl

    by_out : (o : Option (List ℕ)) → way_of G (machine_of job) b.ways k ≡ o → BothShow job None (by_way G (machine_of job) b step o)
    by_out None e = tt
    by_out (Some v) e = neither job (by_way G (machine_of job) b step (Some v)) (refuses job s b h k seat copy v e out_refuses)

  by_seat : (x : Bool) (c : Claim) (fill : Option Filling) (e : (operation_at s k).activity ≡ activity.Filling c fill) →
      BothShow job (cond x (Some (doing s k (copied_now job s k c fill e))) None) (cond x (by_way G (machine_of job) b step (way_of G (machine_of job) b.ways k)) None)
  by_seat true c fill e = by_found c fill e (way_of G (machine_of job) b.ways k) refl
  by_seat false c fill e = tt

  by_seat_out : (x : Bool) (c : Claim) (before : Before) → (operation_at s k).activity ≡ activity.Out c before →
      BothShow job None (cond x (by_way G (machine_of job) b step (way_of G (machine_of job) b.ways k)) None)
  by_seat_out true c before e = by_out c before e (way_of G (machine_of job) b.ways k) refl
  by_seat_out false c before e = tt

  by_activity : (a : Activity) → (operation_at s k).activity ≡ a →
      BothShow job (copied_in job.code s k seat a) (cond (is_claimed job seat a) (by_way G (machine_of job) b step (way_of G (machine_of job) b.ways k)) None)
  by_activity activity.Idle e = tt
  by_activity (activity.Filling c fill) e = by_seat (c.seat == seat) c fill e
  by_activity (activity.Out c before) e = by_seat_out (c.seat == seat) c before e
  by_activity (activity.Closing x) e = tt

pub copies_show : CopiesShow
copies_show job s b h k seat = subst (λ x. BothShow job (copied_in job.code s k seat (operation_at s k).activity)
    (cond x (by_way (regent_ground (spaces_of job.code)) (machine_of job) b (record { kind = copy; number = k; seat = seat }) (way_of (regent_ground (spaces_of job.code)) (machine_of job) b.ways k)) None))
    (sym (h.claims k seat)) (by_activity job s b h k seat (operation_at s k).activity refl)
