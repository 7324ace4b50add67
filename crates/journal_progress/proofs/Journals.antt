-- A journal leads to a state that shows a board, or to that of a void job, in which all is over.
use Rattle.std.proofs.Common.{Bool, List, None, Option, Some, [], ap, arith, cond, false, inl, inr, refl, subst, suc, sym, true, zero, ℕ, ⊎_elim, ◌++◌, ◌∙◌, ◌∷◌, ◌≡◌, ◌⊎◌}
use Rattle.std.specs.Prelude.{slice_get}
use Rattle.std.specs.List.{Contains}
use Rattle.std.proofs.lemmas.Bool.{false≢true}
use Rattle.std.proofs.lemmas.Option.{none-some, same_Some}
use Rattle.logical_map.specs.Fills.{Filling}
use Rattle.region_tree.specs.declared.tree.OpNumber.{OpNumber}
use Rattle.dependence_graph.specs.Knots.{number}
use Rattle.regent_tree.specs.declared.outcome.Outcome.{Outcome}
use Rattle.task_code.specs.declared.code.TaskCode.{TaskCode}
use Rattle.task_code.specs.declared.job.Job.{Job}
use Rattle.machine_terms.specs.Jobs.{first_frame, may_start}
use Rattle.run_journal.specs.declared.entry.Entry.{Entry}
use Rattle.run_journal.specs.declared.entry.StepKind.{StepKind}
use Rattle.run_journal.specs.declared.entry.StepKind.TheVariants.{Back, Claim, Copy, Give}
use Rattle.board_rules.specs.NumberedBoards.{Board, start}
use Rattle.regent_boards.specs.RegentMachine.{regent_ground}
use Rattle.code_boards.specs.Laws.{machine_of, main_of}
use Rattle.code_boards.specs.Views.{spaces_of}
use Rattle.board_terms.specs.declared.claim.Claim.{Claim as FillClaim}
use Rattle.board_terms.specs.declared.operation.Activity.TheVariants as activity
use Rattle.board_terms.specs.Claims.{claim_made, taken_back}
use Rattle.board_terms.specs.Outcomes.{outcome, result}
use Rattle.board_terms.specs.Replays.{replay, replay_from, step_of, stepped}
use Rattle.board_terms.specs.Stages.{has_finished, is_over, may_be_claimed, stage_at}
use Rattle.board_terms.specs.States.{State, opened, opened_with, operation_at, void_state, with_main}
use Rattle.board_trees.specs.Shows.{ShowsBoard}
use Rattle.board_trees.proofs.Beginning.{new_boards_show}
use Rattle.journal_results.proofs.Journals.{Pictured, gives_show, pictured}
use Rattle.progress_boards.proofs.Jobs.{jobs_filled_from_map, jobs_held_apart, jobs_in_progress_apart, jobs_issued_needed, jobs_some_ready}
use Rattle.journal_progress.specs.Claims.{IsAsBefore, IsWhereItWas, SomeMayBeClaimed, TakenBackAsBefore, TakenBackWhereItWas, claimed_by, copies_by}
use Rattle.journal_progress.specs.Laws.{NoneInProgressInterfere, OwnRootsAreApart, UnfinishedAreListed}
use Rattle.journal_progress.specs.Parts.{MovedFromMap}
use Rattle.journal_progress.proofs.Backs.{as_before, back_goes, claim_was_ready, is_claimed, replay_both}
use Rattle.journal_progress.proofs.Between.{all_between, goes_back, is_taken, where_it_was}
use Rattle.journal_progress.proofs.Filled.{filled_from_map}
use Rattle.journal_progress.proofs.Parts.{held_apart}
use Rattle.journal_progress.proofs.Places.{is_listed}
use Rattle.journal_progress.proofs.Progress.{none_interfere, none_with_own, not_over}
use Rattle.journal_progress.proofs.Ready.{some_ready}
use Rattle.journal_progress.proofs.Steps.{AllHoldApart, OpenHoldApart, no_child, step_apart}
use Rattle.journal_progress.proofs.Waited.{goes_on, idles, stands_parked, there, within}

module _ (job : Job) where
  -- it shows a board to which steps lead, or is that of a void job
  abbrev pub IsPictured : State → Type 0
  IsPictured s = ((t : TaskCode) × Pictured gives_show job t s) ⊎ (void_state ≡ s)

  -- ---- void jobs

  pub no_replay : (es : List Entry) → replay_from job None es ≡ None
  no_replay [] = refl
  no_replay (e ∷ es) = no_replay es

  pub void_refuses : (kind : StepKind) (k seat : ℕ) → step_of job void_state k seat kind ≡ None
  void_refuses Claim zero seat = refl
  void_refuses Claim (suc k) seat = refl
  void_refuses Copy zero seat = refl
  void_refuses Copy (suc k) seat = refl
  void_refuses Give zero seat = refl
  void_refuses Give (suc k) seat = refl
  void_refuses Back zero seat = refl
  void_refuses Back (suc k) seat = refl

  void_pictured : (es : List Entry) (s : State) → replay_from job (Some void_state) es ≡ Some s → IsPictured s
  void_pictured [] s e = inr (same_Some void_state s e)
  void_pictured (x ∷ es) s e =
      absurd (none-some s (sym (no_replay es) ∙ ap (λ o. replay_from job o es) (sym (void_refuses x.kind x.op.0 x.seat)) ∙ e))

  -- ---- both

  by_may : (es : List Entry) (s : State) (t : TaskCode) → slice_get job.code.tasks job.code.start ≡ Some t → (may : Bool) → may_start job t ≡ may →
      replay_from job (Some (cond may (with_main (first_frame job t)) void_state)) es ≡ Some s → IsPictured s
  by_may es s t found true may e =
      let first = start (regent_ground (spaces_of job.code)) (machine_of job) (main_of job t) in
      inl (
        t,
        pictured gives_show job t es (with_main (first_frame job t)) s (record {
          steps = [];
          board = first;
          made = refl;
          shows = subst (λ (x : State). ShowsBoard job x first)
              (ap (opened_with job) found ∙ ap (λ b. cond b (with_main (first_frame job t)) void_state) may) (new_boards_show job t found may);
        }) e,
      )
  by_may es s t found false may e = void_pictured es s e

  by_start : (es : List Entry) (s : State) (o : Option TaskCode) → slice_get job.code.tasks job.code.start ≡ o → replay_from job (Some (opened_with job o)) es ≡ Some s → IsPictured s
  by_start es s None found e = void_pictured es s e
  by_start es s (Some t) found e = by_may es s t found (may_start job t) refl e

  pub is_pictured : (journal : List Entry) (s : State) → replay job journal ≡ Some s → IsPictured s
  is_pictured journal s e = by_start journal s (slice_get job.code.tasks job.code.start) refl e

-- ---- in the state of a void job all is over

pub void_over : (k : ℕ) → is_over (stage_at void_state k) ≡ false → ⊥
void_over zero e = false≢true (sym e)
void_over (suc k) e = false≢true (sym e)

pub void_children : (k : ℕ) (o : OpNumber) → Contains (operation_at void_state k).children o → ⊥
void_children zero o c = omega (arith, c.1)
void_children (suc k) o c = omega (arith, c.1)

pub void_ready : (k : ℕ) → may_be_claimed void_state k ≡ true → ⊥
void_ready zero e = false≢true e
void_ready (suc k) e = false≢true e

void_fills : (k : ℕ) (c : FillClaim) (f : Filling) → (operation_at void_state k).activity ≡ activity.Filling c (Some f) → ⊥
void_fills zero c f e = cc
void_fills (suc k) c f e = cc

-- ---- the laws

pub unfinished_are_listed : UnfinishedAreListed
unfinished_are_listed job journal s e k still = ⊎_elim (λ p. is_listed job s p.1.board p.1.shows k still)
    (λ q. absurd (void_over k (ap (λ x. is_over (stage_at x k)) q ∙ still))) (is_pictured job journal s e)

pub none_in_progress_interfere : NoneInProgressInterfere
none_in_progress_interfere job journal s e x y c d ex ey xy yx = ⊎_elim
    (λ p. none_interfere job s p.1.board p.1.shows (jobs_in_progress_apart job p.0 p.1.steps p.1.board p.1.made) (jobs_issued_needed job p.0 p.1.steps p.1.board p.1.made) x y c d ex ey xy yx)
    (λ q. absurd (void_over x.op.0 (ap (λ z. is_over (stage_at z x.op.0)) q ∙ not_over (stage_at s x.op.0) ex))) (is_pictured job journal s e)

pub own_roots_are_apart : OwnRootsAreApart
own_roots_are_apart job journal s e x y c d ex ey xy yx first second f g = ⊎_elim
    (λ p. none_with_own job s p.1.board p.1.shows (jobs_in_progress_apart job p.0 p.1.steps p.1.board p.1.made) (jobs_issued_needed job p.0 p.1.steps p.1.board p.1.made)
    x y c d ex ey xy yx first second f g)
    (λ q. absurd (void_over x.op.0 (ap (λ z. is_over (stage_at z x.op.0)) q ∙ not_over (stage_at s x.op.0) ex))) (is_pictured job journal s e)

unfinished : (c : Bool) (o : Outcome) → cond c (Some o) None ≡ None → c ≡ false
unfinished true o e = absurd (none-some o (sym e))
unfinished false o e = refl

pub some_may_be_claimed : SomeMayBeClaimed
some_may_be_claimed job journal s e none idle = ⊎_elim
    (λ p. some_ready job s p.1.board p.1.shows idle (jobs_some_ready job p.0 p.1.steps p.1.board p.1.made) (unfinished (has_finished s) (outcome s) none))
    (λ q. absurd (none-some (outcome void_state) (sym (ap result q ∙ none)))) (is_pictured job journal s e)

pub taken_back_as_before : TakenBackAsBefore
taken_back_as_before job journal s t k seat n e f = ⊎_elim (λ p. by_board p.1.board p.1.shows) (λ q. absurd (void_ready k (ap (λ x. may_be_claimed x k) q ∙ ready))) (is_pictured job journal s e)
  where
    back : Entry
    back = record { kind = Back; op = number k; seat = seat }

    leads : replay_from job (Some s) (claimed_by k seat n) ≡ Some t
    leads = ap (λ o. replay_from job o (claimed_by k seat n)) (sym e) ∙ sym (replay_both job journal (claimed_by k seat n) (Some (opened job))) ∙ f

    ready : may_be_claimed s k ≡ true
    ready = claim_was_ready job s k seat (copies_by k seat n) t leads

    by_board : (b : Board (regent_ground (spaces_of job.code))) → ShowsBoard job s b → (u : State) × (replay job (journal ++ claimed_by k seat n ++ back ∷ []) ≡ Some u) × IsAsBefore k s u
    by_board b h =
        let inside = within job s b h k seat ready in
        let claim = is_claimed job s k seat inside n t ready leads in (
          taken_back t k,
          replay_both job (journal ++ claimed_by k seat n) (back ∷ []) (Some (opened job))
              ∙ ap (λ o. replay_from job o (back ∷ [])) f
              ∙ back_goes job s k seat inside t claim,
          as_before job s k seat inside (idles job s b h k seat ready) (goes_on job s b h k seat ready) (stands_parked job s b h k seat ready) ready t claim,
        )

pub taken_back_where_it_was : TakenBackWhereItWas
taken_back_where_it_was job journal between s t k seat e all f = ⊎_elim (λ p. by_board p.1.board p.1.shows) (λ q. absurd (void_ready k (ap (λ x. may_be_claimed x k) q ∙ ready))) (is_pictured job journal s e)
  where
    claim : Entry
    claim = record { kind = Claim; op = number k; seat = seat }

    back : Entry
    back = record { kind = Back; op = number k; seat = seat }

    leads : replay_from job (Some s) (claim ∷ between) ≡ Some t
    leads = ap (λ o. replay_from job o (claim ∷ between)) (sym e) ∙ sym (replay_both job journal (claim ∷ between) (Some (opened job))) ∙ f

    ready : may_be_claimed s k ≡ true
    ready = claim_was_ready job s k seat between t leads

    follows : replay_from job (Some (claim_made s k seat)) between ≡ Some t
    follows = ap (λ r. replay_from job (cond r (Some (claim_made s k seat)) None) between) (sym ready) ∙ leads

    by_board : (b : Board (regent_ground (spaces_of job.code))) → ShowsBoard job s b → (u : State) × (replay job (journal ++ (claim ∷ between) ++ back ∷ []) ≡ Some u) × IsWhereItWas k s u
    by_board b h =
        let inside = within job s b h k seat ready in
        let knotted = there job s b h k seat ready in
        let taken = all_between job s k seat inside knotted between (claim_made s k seat) t (is_taken job s k seat inside knotted) all follows in (
          taken_back t k,
          replay_both job (journal ++ claim ∷ between) (back ∷ []) (Some (opened job))
              ∙ ap (λ o. replay_from job o (back ∷ [])) f
              ∙ goes_back job s k seat inside knotted t taken,
          where_it_was job s k seat inside knotted (idles job s b h k seat ready) (stands_parked job s b h k seat ready) t taken,
        )

-- ---- parts

module _ (job : Job) where
  -- what is claimed or parked holds its parts apart, by the tree
  open_apart : (journal : List Entry) (s : State) → replay job journal ≡ Some s → OpenHoldApart s
  open_apart journal s e k goes x listed child still = ⊎_elim
      (λ p. held_apart job s p.1.board p.1.shows (jobs_held_apart job p.0 p.1.steps p.1.board p.1.made) (jobs_issued_needed job p.0 p.1.steps p.1.board p.1.made)
      k goes x listed child still)
      (λ q. absurd (void_children k x.op (subst (λ z. Contains (operation_at z k).children x.op) (sym q) child))) (is_pictured job journal s e)

  pub one_more : (journal : List Entry) (s : State) → replay job journal ≡ Some s → (x : Entry) (u : State) → stepped job s x ≡ Some u → replay job (journal ++ x ∷ []) ≡ Some u
  one_more journal s e x u q = replay_both job journal (x ∷ []) (Some (opened job)) ∙ ap (λ o. replay_from job o (x ∷ [])) e ∙ q

  apart_behind : (journal : List Entry) (s : State) → replay job journal ≡ Some s → AllHoldApart s → (x : Entry) (u : State) → stepped job s x ≡ Some u → AllHoldApart u
  apart_behind journal s e all x u q = ⊎_elim
      (λ p. step_apart job s p.1.board p.1.shows x.op.0 all x.seat x.kind u q (open_apart (journal ++ x ∷ []) u (one_more journal s e x u q)))
      (λ v. absurd (none-some u (sym (ap (λ z. stepped job z x) (sym v) ∙ void_refuses job x.kind x.op.0 x.seat) ∙ q))) (is_pictured job journal s e)

  all_apart : (es journal : List Entry) (s : State) → replay job journal ≡ Some s → AllHoldApart s → (t : State) → replay_from job (Some s) es ≡ Some t → AllHoldApart t
  all_apart [] journal s e all t q = subst AllHoldApart (same_Some s t q) all
  all_apart (x ∷ es) journal s e all t q = by_step (stepped job s x) refl q
      (λ u r p. all_apart es (journal ++ x ∷ []) u (one_more journal s e x u r) (apart_behind journal s e all x u r) t p)
    where
      by_step : (o : Option State) → stepped job s x ≡ o → replay_from job o es ≡ Some t →
          ((u : State) → stepped job s x ≡ Some u → replay_from job (Some u) es ≡ Some t → AllHoldApart t) → AllHoldApart t
      by_step None r p more = absurd (none-some t (sym (no_replay job es) ∙ p))
      by_step (Some u) r p more = more u r p

  -- at the start nothing was called
  pub start_childless : (o : Option TaskCode) (k : ℕ) → (operation_at (opened_with job o) k).children ≡ []
  start_childless None zero = refl
  start_childless None (suc k) = refl
  start_childless (Some t) k = chosen (may_start job t) k
    where
      chosen : (b : Bool) (j : ℕ) → (operation_at (cond b (with_main (first_frame job t)) void_state) j).children ≡ []
      chosen true zero = refl
      chosen true (suc j) = refl
      chosen false zero = refl
      chosen false (suc j) = refl

  start_apart : AllHoldApart (opened job)
  start_apart k x listed child still = absurd (no_child x.op (subst (λ ks. Contains ks x.op) (start_childless (slice_get job.code.tasks job.code.start) k) child))

-- by the needs with which children were issued
pub held_as_issued : (job : Job) (journal : List Entry) (s : State) → replay job journal ≡ Some s → AllHoldApart s
held_as_issued job journal s e = all_apart job journal [] (opened job) refl (start_apart job) s e

pub moved_from_map : MovedFromMap
moved_from_map job journal s e k claim fill does = ⊎_elim
    (λ p. filled_from_map job s p.1.board p.1.shows (jobs_filled_from_map job p.0 p.1.steps p.1.board p.1.made) k claim fill does)
    (λ q. absurd (void_fills k claim fill (ap (λ z. (operation_at z k).activity) q ∙ does))) (is_pictured job journal s e)
