-- What a journal leads to: what operations need now.
use Rattle.std.proofs.Common.{◌≡◌, ◌++◌, ◌∷◌, ◌∙◌, ⊎_elim, ℕ, Bool, List, None, Option, Some, [], ap, cond, false, inl, inr, map, refl, subst, sym, true}
use Rattle.std.specs.Prelude.{All, slice_get}
use Rattle.std.specs.List.{Contains}
use Rattle.std.proofs.lemmas.Bool.{false≢true}
use Rattle.std.proofs.lemmas.List.{map-append}
use Rattle.std.proofs.lemmas.List.Elements.{All-map, All-nil, All-weaker}
use Rattle.std.proofs.lemmas.Option.{none-some, same_Some}
use Rattle.region_finder.specs.Listings.{Listed}
use Rattle.region_tree.specs.Needs.{requirement_of, requirements_of}
use Rattle.region_tree.specs.Requirements.{Requirement, interfere}
use Rattle.region_tree.specs.declared.needs.Need.{Need}
use Rattle.region_tree.specs.declared.tree.OpNumber.{OpNumber}
use Rattle.dependence_graph.specs.Knots.{number}
use Rattle.task_code.specs.declared.code.TaskCode.{TaskCode}
use Rattle.task_code.specs.declared.job.Job.{Job}
use Rattle.machine_terms.specs.declared.value.Value.TheVariants.{Number}
use Rattle.machine_terms.specs.Jobs.{first_frame, may_start}
use Rattle.machine_terms.specs.Opening.{needs_on}
use Rattle.run_journal.specs.declared.entry.Entry.{Entry}
use Rattle.code_boards.proofs.Beginning.{none_needed}
use Rattle.board_terms.specs.Claims.{requirements_at}
use Rattle.board_terms.specs.Replays.{replay, replay_from, stepped}
use Rattle.board_terms.specs.Stages.{Stage, closing, dropped, ended, failed, filling, is_in_progress, is_over, out, parked, stage_at, waiting}
use Rattle.board_terms.specs.States.{State, opened, opened_with, operation_at, void_state, with_main}
use Rattle.changed_trees.proofs.Contained.{none_in}
use Rattle.journal_progress.specs.Laws.{CurrentNeedsAreApart, IsAbove, IsOfOwn, NeedsAreIssued, is_working}
use Rattle.journal_progress.proofs.Grown.{AllGrown, IsGrown, beside, grown_behind, works}
use Rattle.journal_progress.proofs.Journals.{is_pictured, no_replay, one_more, own_roots_are_apart, unfinished_are_listed, void_over, void_refuses}
use Rattle.journal_progress.proofs.Places.{is_there, placed}
use Rattle.journal_progress.proofs.Progress.{main_above, not_over}
use Rattle.journal_progress.proofs.Stepped.{step_leaves}

-- ---- along a journal

module _ (job : Job) (P : State → Type 0) (next : (journal : List Entry) (s : State) → replay job journal ≡ Some s → P s → (x : Entry) (u : State) → stepped job s x ≡ Some u → P u) where
  along_from : (es journal : List Entry) (s : State) → replay job journal ≡ Some s → P s → (t : State) → replay_from job (Some s) es ≡ Some t → P t
  along_from [] journal s e holds t q = subst P (same_Some s t q) holds
  along_from (x ∷ es) journal s e holds t q = by_step (stepped job s x) refl q
      (λ u r p. along_from es (journal ++ x ∷ []) u (one_more job journal s e x u r) (next journal s e holds x u r) t p)
    where
      by_step : (o : Option State) → stepped job s x ≡ o → replay_from job o es ≡ Some t → ((u : State) → stepped job s x ≡ Some u → replay_from job (Some u) es ≡ Some t → P t) → P t
      by_step None r p more = absurd (none-some t (sym (no_replay job es) ∙ p))
      by_step (Some u) r p more = more u r p

  -- what holds at the start, and behind each step, holds of each state that a journal leads to
  pub along : P (opened job) → (journal : List Entry) (s : State) → replay job journal ≡ Some s → P s
  along first journal s e = along_from journal [] (opened job) refl first s e

module _ (job : Job) where
  -- ---- the start

  void_grown : AllGrown void_state
  void_grown k ns (inl (z, e)) = subst (λ j. IsGrown ns (operation_at void_state j)) (sym z) (subst (λ ms. IsGrown ms (operation_at void_state 0)) (sym e) (inl ([], refl, All-nil (λ (m : Need). Contains (operation_at void_state 0).frame.own m.root))))
  void_grown k ns (inr (x, c, r, q)) = absurd (none_in x c)

  main_grown : (t : TaskCode) → may_start job t ≡ true → AllGrown (with_main (first_frame job t))
  main_grown t may k ns (inl (z, e)) = subst (λ j. IsGrown ns (operation_at (with_main (first_frame job t)) j)) (sym z)
      (subst (λ ms. IsGrown ms (operation_at (with_main (first_frame job t)) 0)) (sym e) (inl ([], ap (λ ds. needs_on ds (map Number job.inputs)) (none_needed job t may), All-nil (λ (m : Need). Contains (operation_at (with_main (first_frame job t)) 0).frame.own m.root))))
  main_grown t may k ns (inr (x, c, r, q)) = absurd (none_in x c)

  start_grown : (o : Option TaskCode) → AllGrown (opened_with job o)
  start_grown None = void_grown
  start_grown (Some t) = chosen (may_start job t) refl
    where
      chosen : (c : Bool) → may_start job t ≡ c → AllGrown (cond c (with_main (first_frame job t)) void_state)
      chosen true e = main_grown t e
      chosen false e = void_grown

  step_grown : (journal : List Entry) (s : State) → replay job journal ≡ Some s → AllGrown s → (x : Entry) (u : State) → stepped job s x ≡ Some u → AllGrown u
  step_grown journal s e all x u q = ⊎_elim
      (λ p. grown_behind job s p.1.board p.1.shows x.op.0 all u (step_leaves job s p.1.board p.1.shows x.op.0 x.seat u x.kind q))
      (λ v. absurd (none-some u (sym (ap (λ z. stepped job z x) (sym v) ∙ void_refuses job x.kind x.op.0 x.seat) ∙ q))) (is_pictured job journal s e)

  pub all_grown : (journal : List Entry) (s : State) → replay job journal ≡ Some s → AllGrown s
  all_grown = along job AllGrown step_grown (start_grown (slice_get job.code.tasks job.code.start))

-- ---- the laws

pub over_still : (s : State) (k : ℕ) → is_working (stage_at s k) ≡ true → is_over (stage_at s k) ≡ false
over_still s k e = by_stage (stage_at s k) e
  where
    by_stage : (st : Stage) → is_working st ≡ true → is_over st ≡ false
    by_stage waiting q = refl
    by_stage filling q = refl
    by_stage out q = refl
    by_stage parked q = refl
    by_stage closing q = refl
    by_stage ended q = absurd (false≢true q)
    by_stage failed q = absurd (false≢true q)
    by_stage dropped q = absurd (false≢true q)

pub needs_are_issued : NeedsAreIssued
needs_are_issued job journal s e k ns was goes = ⊎_elim
    (λ p. beside s k ns (works job s p.1.board p.1.shows k (is_there job s p.1.board p.1.shows k (over_still s k goes)) goes) (all_grown job journal s e k ns was))
    (λ v. absurd (void_over k (ap (λ z. is_over (stage_at z k)) v ∙ over_still s k goes))) (is_pictured job journal s e)

-- needs beside those of the issue are of own roots
pub own_required : (s : State) (k : ℕ) (more : List Need) → All (λ (m : Need). Contains (operation_at s k).frame.own m.root) more → All (IsOfOwn s k) (requirements_of s.tree more)
own_required s k more h = All-map (IsOfOwn s k) (requirement_of s.tree) more
    (All-weaker (λ (m : Need). Contains (operation_at s k).frame.own m.root) (λ (m : Need). IsOfOwn s k (requirement_of s.tree m)) (λ m c. (m.root, c, refl)) more h)

pub no_needs : (ns : List Requirement) → interfere ns [] ≡ false
no_needs [] = refl
no_needs (r ∷ ns) = no_needs ns

module _ (job : Job) (journal : List Entry) (s : State) (e : replay job journal ≡ Some s) where
  abbrev Goal : ℕ → ℕ → Type 0
  Goal j k = interfere (requirements_at s (operation_at s j)) (requirements_at s (operation_at s k)) ≡ false

  abbrev needs_of : ℕ → List Need
  needs_of k = (operation_at s k).frame.needs.items

  by_entries : (x y : Listed) → Contains s.waits.listing x → Contains s.waits.listing y → is_in_progress (stage_at s x.op.0) ≡ true → is_in_progress (stage_at s y.op.0) ≡ true →
      ¬ IsAbove s x.op.0 y.op.0 → ¬ IsAbove s y.op.0 x.op.0 → Goal x.op.0 y.op.0
  by_entries x y c d ex ey xy yx = ⊎_elim
      (λ f. ⊎_elim
      (λ g. (λ i. interfere ((ap (requirements_of s.tree) f.1 ∙ map-append (requirement_of s.tree) x.issued f.0) i) ((ap (requirements_of s.tree) g.1 ∙ map-append (requirement_of s.tree) y.issued g.0) i))
      ∙ own_roots_are_apart job journal s e x y c d ex ey xy yx (requirements_of s.tree f.0) (requirements_of s.tree g.0) (own_required s x.op.0 f.0 f.2) (own_required s y.op.0 g.0 g.2))
      (λ g. ap (λ ns. interfere (requirements_at s (operation_at s x.op.0)) (requirements_of s.tree ns)) g.1 ∙ no_needs (requirements_at s (operation_at s x.op.0)))
      (all_grown job journal s e y.op.0 y.issued (inr (y, d, refl, refl))))
      (λ f. ap (λ ns. interfere (requirements_of s.tree ns) (requirements_at s (operation_at s y.op.0))) f.1)
      (all_grown job journal s e x.op.0 x.issued (inr (x, c, refl, refl)))

  above_all : (j k : ℕ) → j ≡ 0 → is_in_progress (stage_at s k) ≡ true → IsAbove s j k
  above_all j k z goes = ⊎_elim
      (λ p. subst (λ i. IsAbove s i k) (sym z) (main_above job s p.1.board p.1.shows k (placed job s p.1.board p.1.shows k (is_there job s p.1.board p.1.shows k (not_over (stage_at s k) goes)))))
      (λ v. absurd (void_over k (ap (λ i. is_over (stage_at i k)) v ∙ not_over (stage_at s k) goes))) (is_pictured job journal s e)

  current_apart : (j k : ℕ) → is_in_progress (stage_at s j) ≡ true → is_in_progress (stage_at s k) ≡ true → ¬ IsAbove s j k → ¬ IsAbove s k j → Goal j k
  current_apart j k ej ek jk kj = ⊎_elim (λ z. absurd (jk (above_all j k z ek)))
      (λ f. ⊎_elim (λ z. absurd (kj (above_all k j z ej)))
      (λ g. at_both f.0 g.0 f.1 g.1 f.2 g.2) (unfinished_are_listed job journal s e k (not_over (stage_at s k) ek))) (unfinished_are_listed job journal s e j (not_over (stage_at s j) ej))
    where
      at_both : (x y : Listed) → Contains s.waits.listing x → Contains s.waits.listing y → x.op ≡ number j → y.op ≡ number k → Goal j k
      at_both x y c d p q =
          let a : x.op.0 ≡ j = ap (λ (o : OpNumber). o.0) p in
          let b : y.op.0 ≡ k = ap (λ (o : OpNumber). o.0) q in
          (λ i. interfere (requirements_at s (operation_at s (sym a i))) (requirements_at s (operation_at s (sym b i))))
          ∙ by_entries x y c d (ap (λ i. is_in_progress (stage_at s i)) a ∙ ej) (ap (λ i. is_in_progress (stage_at s i)) b ∙ ek)
          (λ u. jk (subst (λ i. IsAbove s j i) b (subst (λ i. IsAbove s i y.op.0) a u)))
          (λ u. kj (subst (λ i. IsAbove s k i) a (subst (λ i. IsAbove s i x.op.0) b u)))

pub current_needs_are_apart : CurrentNeedsAreApart
current_needs_are_apart job journal s e j k ej ek jk kj = current_apart job journal s e j k ej ek jk kj
