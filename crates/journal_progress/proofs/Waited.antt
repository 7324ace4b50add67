-- An operation that is ready, of a state that shows a board of the laws: it does nothing, and stands where one that is
-- parked would.
use Rattle.std.proofs.Common.{◌≡◌, ◌<◌, ◌++◌, ◌∙◌, ⊎_elim, ℕ, suc, List, ap, false, inl, inr, length, refl, subst, sym, true}
use Rattle.std.proofs.lemmas.Bool.{and_parts, cases_lt, false≢true}
use Rattle.std.proofs.lemmas.List.{get_or_past}
use Rattle.region_tree.specs.declared.needs.Need.{Need}
use Rattle.region_tree.specs.declared.piece.Part.{Part}
use Rattle.region_tree.specs.declared.tree.OpNumber.{OpNumber}
use Rattle.region_tree.specs.declared.tree.RootId.{RootId}
use Rattle.dependence_graph.specs.Entries.{Knot}
use Rattle.dependence_graph.specs.Knots.{all_done, is_idle, knot_at, no_knot}
use Rattle.dependence_graph.specs.declared.stage.Stage.{Stage as Knotted}
use Rattle.dependence_graph.specs.declared.stage.Stage.TheVariants as knot
use Rattle.task_code.specs.declared.job.Job.{Job}
use Rattle.board_rules.specs.Boards.{Operation as Node, Wait as BoardWait, child, closing, dropped, filling, first, idle, nothing, op, out, over, part}
use Rattle.board_rules.specs.NumberedBoards.{Board}
use Rattle.regent_boards.specs.RegentMachine.{regent_ground}
use Rattle.code_boards.specs.Views.{spaces_of}
use Rattle.board_terms.specs.declared.operation.Activity.TheVariants as activity
use Rattle.board_terms.specs.declared.operation.Wait.{Wait}
use Rattle.board_terms.specs.declared.operation.Wait.TheVariants as wait
use Rattle.board_terms.specs.Claims.{value_of}
use Rattle.board_terms.specs.Stages.{by_wait, may_be_claimed, stage_at, stage_of, waiting}
use Rattle.board_terms.specs.States.{State, operation_at}
use Rattle.board_trees.specs.Shows.{Shows, ShowsBoard}
use Rattle.board_trees.specs.Stages.{HasWait, IsWait, MayIdle}
use Rattle.board_trees.proofs.Settled.{wait_open}
use Rattle.claimed_trees.proofs.Back.{parked}
use Rattle.claimed_trees.proofs.Changed.{GoesOn}
use Rattle.claimed_trees.proofs.Claim.{IsFree, idle_told}
use Rattle.journal_progress.proofs.Places.{Placed, placed}

module _ (job : Job) (s : State) (b : Board (regent_ground (spaces_of job.code))) (h : ShowsBoard job s b) (k seat : ℕ) (ready : may_be_claimed s k ≡ true) where
  pub idle_is : is_idle (knot_at s.waits.knots k).stage ≡ true
  idle_is = (and_parts (is_idle (knot_at s.waits.knots k).stage) (all_done s.waits.knots (knot_at s.waits.knots k).on) ready).0

  pub there : k < length s.waits.knots
  there = ⊎_elim (λ l. l) (λ l. absurd (false≢true (ap (λ (x : Knot). is_idle x.stage) (sym (get_or_past s.waits.knots k no_knot l)) ∙ idle_is))) (cases_lt k (length s.waits.knots))

  pub within : k < length s.operations
  within = subst (λ n. k < n) h.knots there

  abbrev at : Placed job s b h k
  at = placed job s b h k within

  free : IsFree job s k seat (knot_at s.waits.knots k).stage (operation_at s k).activity
  free = idle_told job s k seat h.who b.ways at.there.at at.there.earlier at.there.above at.there.node at.there.shows idle_is

  pub idles : (operation_at s k).activity ≡ activity.Idle
  idles = free.activity_is

  pub goes_on : GoesOn s k activity.Idle (parked job s k) (suc s.turns)
  goes_on = record {
    within = within;
    there = there;
    done = sym free.done;
    failed = sym free.failed;
    runs = free.open_is (operation_at s k).wait;
    runs_on = wait_open (operation_at s k).wait;
    value = ap value_of (sym free.activity_is);
  }

  -- ---- where it stands

  abbrev stands : Knotted → Type 0
  stands kn = stage_of knot.Parked (operation_at s k).wait (operation_at s k).activity ≡ stage_of kn (operation_at s k).wait (operation_at s k).activity

  module _ (roots : List RootId) where
    first_waits : (needs : List Need) (parts : List Part) (children : List OpNumber) (w : Wait) → IsWait job.code s.roots h.who roots needs parts children w first → by_wait w ≡ waiting
    first_waits needs parts children wait.Beginning e = refl
    first_waits needs parts children wait.Nothing e = absurd e
    first_waits needs parts children (wait.Part root field) e = absurd e
    first_waits needs parts children (wait.Child n) e = absurd e

    as_parked : (kn : Knotted) → kn ≡ knot.Parked → stands kn
    as_parked kn e = ap (λ x. stage_of x (operation_at s k).wait (operation_at s k).activity) (sym e)

    stands_idle : (x : BoardWait (regent_ground (spaces_of job.code))) (kn : Knotted) → MayIdle job.code s.roots h.who roots kn x → HasWait job.code s.roots h.who roots (operation_at s k) x → stands kn
    stands_idle first kn (inl e) w = first_waits (operation_at s k).frame.needs.items (operation_at s k).parts (operation_at s k).children (operation_at s k).wait w
        ∙ ap (λ x. stage_of x (operation_at s k).wait (operation_at s k).activity) (sym e)
    stands_idle first kn (inr e) w = as_parked kn e
    stands_idle nothing kn e w = as_parked kn e
    stands_idle (part x) kn e w = as_parked kn e
    stands_idle (child c) kn e w = as_parked kn e

  never : {A : Type 0} (x : Knotted) → (knot_at s.waits.knots k).stage ≡ x → is_idle x ≡ false → A
  never x e f = absurd (false≢true (sym (ap is_idle e ∙ f) ∙ idle_is))

  by_node : (n : Node (regent_ground (spaces_of job.code))) → Shows job s h.who b.ways at.there.at k at.there.earlier at.there.above n → stands (knot_at s.waits.knots k).stage
  by_node (op D N i f ps (idle x) is) r = stands_idle (at.there.above ++ (operation_at s k).frame.own) x (knot_at s.waits.knots k).stage r.0.stands.0 r.0.stands.1.1
  by_node (op D N i f ps (filling x d l) is) r = never knot.Begun r.0.stands.0 refl
  by_node (op D N i f ps (out x d) is) r = never knot.Begun r.0.stands.0 refl
  by_node (op D N i f ps (closing x) is) r = ⊎_elim (λ c. never knot.Begun c.0 refl) (λ c. never knot.Stopped c.0 refl) r.0.stands
  by_node (op D N i f ps (over x) is) r = ⊎_elim (λ c. never knot.Done c.0 refl) (λ c. never knot.Failed c.0 refl) r.0.stands
  by_node (op D N i f ps dropped is) r = never knot.Dropped r.0.stands.0 refl

  pub stands_parked : stage_of knot.Parked (operation_at s k).wait (operation_at s k).activity ≡ stage_at s k
  stands_parked = by_node at.there.node at.there.shows
