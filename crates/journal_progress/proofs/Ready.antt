-- Where there is no claim and the first task isn't over, some operation is ready: of a state that shows a board of the laws.
use Rattle.std.proofs.Common.{◌≡◌, ◌<◌, ◌⊎◌, ◌∷◌, ◌∙◌, ◌&&◌, ◌||◌, ⊎_elim, ℕ, zero, suc, Bool, List, None, Option, Some, [], ap, arith, cond, eq-eqb, false, inl, inr, length, refl, subst, sym, true}
use Rattle.std.specs.Prelude.{is_some}
use Rattle.std.proofs.lemmas.Bool.{cases_lt, false≢true}
use Rattle.dependence_graph.specs.Entries.{Knot}
use Rattle.dependence_graph.specs.Issues.{IsFirstReady}
use Rattle.dependence_graph.specs.Knots.{is_ready}
use Rattle.task_code.specs.declared.job.Job.{Job}
use Rattle.board_rules.specs.Boards.{Operation as Node, claim, op}
use Rattle.board_rules.specs.Ground.{Ground}
use Rattle.board_rules.specs.NumberedBoards.{Board, Claim, after_step, holds_claim}
use Rattle.board_laws.proofs.Reaching.{by_test}
use Rattle.progress_laws.specs.Progress.{SomeIsReady}
use Rattle.regent_boards.specs.RegentMachine.{regent_ground}
use Rattle.code_boards.specs.Laws.{machine_of}
use Rattle.code_boards.specs.Views.{spaces_of}
use Rattle.board_terms.specs.declared.operation.Activity.{Activity}
use Rattle.board_terms.specs.declared.operation.Activity.TheVariants as activity
use Rattle.board_terms.specs.Claims.{claim_made, claimed}
use Rattle.board_terms.specs.Stages.{by_activity, has_finished, may_be_claimed, stage_at, stage_of}
use Rattle.board_terms.specs.States.{State, operation_at}
use Rattle.board_trees.specs.Laws.{BothShow}
use Rattle.board_trees.specs.Shows.{Shows, ShowsBoard, is_claimed}
use Rattle.claimed_trees.proofs.Back.{IsClaimed, claimed_within, has_begun}
use Rattle.claimed_trees.proofs.Claims.{claims_show}
use Rattle.shown_results.proofs.Finished.{finished_is_over}
use Rattle.journal_progress.specs.Claims.{has_claim}
use Rattle.journal_progress.proofs.Places.{placed}

-- ---- the least

first_below : (ks : List Knot) (n : ℕ) → ((j : ℕ) → j < n → is_ready ks j ≡ false) ⊎ ((k : ℕ) × IsFirstReady ks k)
first_below ks zero = inl (λ j l. absurd (omega (arith, l)))
first_below ks (suc n) = ⊎_elim
    (λ none. by_test (is_ready ks n) (λ b. is_ready ks n ≡ b → ((j : ℕ) → j < suc n → is_ready ks j ≡ false) ⊎ ((k : ℕ) × IsFirstReady ks k))
    (λ t e. inr (n, record { ready = e; least = none }))
    (λ t e. inl (λ j l. ⊎_elim (none j) (λ g. let same : n ≡ j = omega (arith, l, g) in subst (λ i. is_ready ks i ≡ false) same e) (cases_lt j n))) refl)
    inr (first_below ks n)

-- where some operation is ready there is a first one
pub first_of : (ks : List Knot) (k : ℕ) → is_ready ks k ≡ true → (j : ℕ) × IsFirstReady ks j
first_of ks k e = ⊎_elim (λ none. absurd (false≢true (sym (none k (omega arith)) ∙ e))) (λ f. f) (first_below ks (suc k))

by_claim : (a : Activity) → IsClaimed a → has_claim (by_activity a) ≡ true
by_claim activity.Idle h = absurd h
by_claim (activity.Filling c f) h = refl
by_claim (activity.Out c f) h = refl
by_claim (activity.Closing x) h = absurd h

claimed_ready : (r : Bool) (u : State) → is_some (cond r (Some u) None) ≡ true → r ≡ true
claimed_ready true u e = refl
claimed_ready false u e = absurd (false≢true e)

module _ (job : Job) (s : State) (b : Board (regent_ground (spaces_of job.code))) (h : ShowsBoard job s b) where
  abbrev G : Ground
  G = regent_ground (spaces_of job.code)

  some_operation : (n : Node G) → Shows job s h.who b.ways [] 0 [] [] n → 0 < length s.operations
  some_operation (op D N i f ps st is) shows = shows.0.within

  both_some : (o : Option State) (q : Option (Board G)) → BothShow job o q → is_some q ≡ true → is_some o ≡ true
  both_some None None g e = e
  both_some (Some u) q g e = refl
  both_some None (Some c) g e = absurd g

  module _ (none : (k : ℕ) → has_claim (stage_at s k) ≡ false) where
    claim_told : (k : ℕ) → IsClaimed (operation_at s k).activity → has_claim (stage_at s k) ≡ true
    claim_told k c =
        let p = placed job s b h k (claimed_within s k c) in
        ap (λ x. has_claim (stage_of x (operation_at s k).wait (operation_at s k).activity)) (has_begun job s k c h.who b.ways p.there.at p.there.earlier p.there.above p.there.node p.there.shows)
        ∙ by_claim (operation_at s k).activity c

    unclaimed : (k seat : ℕ) (a : Activity) → (operation_at s k).activity ≡ a → is_claimed job seat a ≡ false
    unclaimed k seat activity.Idle e = refl
    unclaimed k seat (activity.Filling c f) e = absurd (false≢true (sym (none k) ∙ claim_told k (subst IsClaimed (sym e) tt)))
    unclaimed k seat (activity.Out c f) e = absurd (false≢true (sym (none k) ∙ claim_told k (subst IsClaimed (sym e) tt)))
    unclaimed k seat (activity.Closing x) e = refl

    no_claims : (cs : List Claim) → ((k seat : ℕ) → holds_claim G (machine_of job) k seat cs ≡ false) → cs ≡ []
    no_claims [] n = refl
    no_claims (c ∷ cs) n = absurd (false≢true (sym (n c.number c.seat)
        ∙ (λ i. eq-eqb c.number c.number refl i && eq-eqb c.seat c.seat refl i || holds_claim G (machine_of job) c.number c.seat cs)))

    pub some_ready : SomeIsReady G (machine_of job) b → has_finished s ≡ false → (k : ℕ) × IsFirstReady s.waits.knots k
    some_ready ready open_still =
        let found = ready (sym (finished_is_over job s b h (some_operation b.state.tree h.shows)) ∙ open_still)
        (no_claims b.claims (λ k seat. h.claims k seat ∙ unclaimed k seat (operation_at s k).activity refl)) in
        first_of s.waits.knots found.0 (claimed_ready (may_be_claimed s found.0) (claim_made s found.0 0)
        (both_some (claimed s found.0 0) (after_step G (machine_of job) (Some b) (record { kind = claim; number = found.0; seat = 0 })) (claims_show job s b h found.0 0) (found.1 0)))
