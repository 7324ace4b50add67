-- Of boards: an operation is claimed on both, or on neither.
use Rattle.std.proofs.Common.{◌≡◌, ◌<◌, ◌∙◌, ◌&&◌, ◌||◌, ℕ, suc, Bool, List, None, Option, Some, [], ap, cond, false, length, refl, subst, sym, true, ⊎_elim, eq-eqb}
use Rattle.std.specs.Prelude.{nat_eq}
use Rattle.std.proofs.lemmas.Bool.{and_parts, cases_lt, false≢true, ne_eqb}
use Rattle.std.proofs.lemmas.List.{get_or_past}
use Rattle.dependence_graph.specs.Entries.{Knot}
use Rattle.dependence_graph.specs.Knots.{all_done, is_idle, knot_at, no_knot}
use Rattle.task_code.specs.declared.job.Job.{Job}
use Rattle.board_rules.specs.Boards.{claim}
use Rattle.board_rules.specs.Ground.{Ground}
use Rattle.board_rules.specs.NumberedBoards.{Board, Step, by_way, claims_after, holds_claim, way_of}
use Rattle.board_rules.specs.RootNumbers.{made_in}
use Rattle.regent_boards.specs.RegentMachine.{regent_ground}
use Rattle.code_boards.specs.Laws.{machine_of}
use Rattle.code_boards.specs.Views.{spaces_of}
use Rattle.board_terms.specs.declared.operation.Operation.{Operation}
use Rattle.board_terms.specs.Claims.{claim_made}
use Rattle.board_terms.specs.Stages.{may_be_claimed}
use Rattle.board_terms.specs.States.{State, operation_at}
use Rattle.board_trees.specs.Laws.{BothShow}
use Rattle.board_trees.specs.Shows.{ShowsBoard, is_claimed}
use Rattle.board_trees.proofs.Claims.{way_there}
use Rattle.board_trees.proofs.Found.{Found, found}
use Rattle.board_trees.proofs.Kept.{by_number}
use Rattle.claimed_trees.specs.Laws.{ClaimsShow}
use Rattle.claimed_trees.proofs.Changed.{GoesOn, changed, others, row_is}
use Rattle.claimed_trees.proofs.Claim.{IsFree, begun_now, claim_refused, filling_now, goes_on, idle_told, own_claim}
use Rattle.claimed_trees.proofs.Onward as onward
use Rattle.claimed_trees.proofs.Onward.{neither, refuses}

module _ (job : Job) (s : State) (b : Board (regent_ground (spaces_of job.code))) (h : ShowsBoard job s b) (k seat : ℕ) where
  abbrev G : Ground
  G = regent_ground (spaces_of job.code)

  abbrev step : Step
  step = record { kind = claim; number = k; seat = seat }

  abbrev makings : ℕ
  makings = made_in G (machine_of job) b.state.tree

  module _ (ready : may_be_claimed s k ≡ true) where
    idle_is : is_idle (knot_at s.waits.knots k).stage ≡ true
    idle_is = (and_parts (is_idle (knot_at s.waits.knots k).stage) (all_done s.waits.knots (knot_at s.waits.knots k).on) ready).0

    done : all_done s.waits.knots (knot_at s.waits.knots k).on ≡ true
    done = (and_parts (is_idle (knot_at s.waits.knots k).stage) (all_done s.waits.knots (knot_at s.waits.knots k).on) ready).1

    there : k < length s.waits.knots
    there = ⊎_elim (λ l. l) (λ l. absurd (false≢true (ap (λ (x : Knot). is_idle x.stage) (sym (get_or_past s.waits.knots k no_knot l)) ∙ idle_is))) (cases_lt k (length s.waits.knots))

    within : k < length s.operations
    within = subst (λ n. k < n) h.knots there

    module _ (v : List ℕ) (way_is : way_of G (machine_of job) b.ways k ≡ Some v) where
      abbrev at : Found job s h.who b.ways k
      at = found job s h.who b.ways k v [] 0 [] [] b.state.tree h.shows (h.leads k v way_is)

      is_free : IsFree job s k seat (knot_at s.waits.knots k).stage (operation_at s k).activity
      is_free = idle_told job s k seat h.who b.ways at.way at.earlier at.above at.node at.shows idle_is

      on : GoesOn s k (filling_now job s k seat) (begun_now job s k seat) (suc s.turns)
      on = goes_on job s k seat h.who b.ways within there is_free

      abbrev u : State
      u = changed s k (filling_now job s k seat) (begun_now job s k seat) (suc s.turns)

      claims_then : (j x : ℕ) → holds_claim G (machine_of job) j x (claims_after G (machine_of job) step b.turns b.claims) ≡ is_claimed job x (operation_at u j).activity
      claims_then j x = by_number k
          (λ j. holds_claim G (machine_of job) j x (claims_after G (machine_of job) step b.turns b.claims) ≡ is_claimed job x (operation_at u j).activity)
          (here (nat_eq seat x)
          ∙ sym (ap (λ (o : Operation). is_claimed job x o.activity) (row_is s k (filling_now job s k seat) (begun_now job s k seat) (suc s.turns) on)))
          (λ j n. ap (λ c. c && nat_eq seat x || holds_claim G (machine_of job) j x b.claims) (ne_eqb k j (λ e. n (sym e)))
          ∙ h.claims j x ∙ sym (ap (λ (o : Operation). is_claimed job x o.activity) (others s k (filling_now job s k seat) (begun_now job s k seat) (suc s.turns) on j n))) j
        where
          or_none : (c : Bool) → (c || false) ≡ c
          or_none true = refl
          or_none false = refl

          here : (c : Bool) → (nat_eq k k && c || holds_claim G (machine_of job) k x b.claims) ≡ c
          here c = (λ i. eq-eqb k k refl i && c || (h.claims k x ∙ ap (is_claimed job x) is_free.activity_is) i) ∙ or_none c

      goes : BothShow job (Some (claim_made s k seat)) (by_way G (machine_of job) b step (Some v))
      unfolding on
      goes = onward.goes_on job s b h k seat (filling_now job s k seat) (begun_now job s k seat) (suc s.turns) on claim v way_is
          (own_claim job s k seat h.who b.ways within there is_free v way_is makings b.state.map done h.made h.regions h.held h.own_made)
          claims_then (ap suc h.turns)

    by_found : (o : Option (List ℕ)) → way_of G (machine_of job) b.ways k ≡ o → BothShow job (Some (claim_made s k seat)) (by_way G (machine_of job) b step o)
    by_found None e = absurd (way_there job b.ways k (subst (λ x. k < x) (sym h.ways) within) e)
    by_found (Some v) e = goes v e

  by_refused : may_be_claimed s k ≡ false → (o : Option (List ℕ)) → way_of G (machine_of job) b.ways k ≡ o → BothShow job None (by_way G (machine_of job) b step o)
  by_refused e None q = tt
  by_refused e (Some v) q = neither job (by_way G (machine_of job) b step (Some v)) (refuses job s b h k seat claim v q (claim_refused job s k seat h.who b.ways makings b.state.map e))

  by_ready : (r : Bool) → may_be_claimed s k ≡ r → BothShow job (cond r (Some (claim_made s k seat)) None) (by_way G (machine_of job) b step (way_of G (machine_of job) b.ways k))
  by_ready true e = by_found e (way_of G (machine_of job) b.ways k) refl
  by_ready false e = by_refused e (way_of G (machine_of job) b.ways k) refl

pub claims_show : ClaimsShow
claims_show job s b h k seat = by_ready job s b h k seat (may_be_claimed s k) refl
