-- A journal leads to a state that shows a board, or to the state of a void job.
use Rattle.std.proofs.Common.{◌≡◌, ◌++◌, ◌∷◌, ◌∙◌, ℕ, zero, suc, Bool, List, None, Option, Some, [], ap, cond, false, refl, subst, sym, true}
use Rattle.std.specs.Prelude.{slice_get}
use Rattle.std.proofs.lemmas.Option.{none-some, same_Some}
use Rattle.task_code.specs.declared.code.TaskCode.{TaskCode}
use Rattle.task_code.specs.declared.job.Job.{Job}
use Rattle.machine_terms.specs.Contents.{no_contents}
use Rattle.machine_terms.specs.Jobs.{first_frame, may_start, order_run, outcome as run_outcome, run_first, void_outcome}
use Rattle.machine_terms.specs.Orders.{begun, runs}
use Rattle.run_journal.specs.declared.entry.Entry.{Entry}
use Rattle.run_journal.specs.declared.entry.StepKind.{StepKind}
use Rattle.run_journal.specs.declared.entry.StepKind.TheVariants.{Back, Claim, Copy, Give}
use Rattle.board_rules.specs.Boards.{back, claim, copy, give, is_over, stage_of}
use Rattle.board_rules.specs.Ground.{Ground}
use Rattle.board_rules.specs.NumberedBoards.{Board, Step, after_step, after_steps, board_of, start}
use Rattle.board_rules.specs.Running.{Machine}
use Rattle.regent_boards.specs.RegentMachine.{regent_ground}
use Rattle.code_boards.specs.Laws.{machine_of, main_of}
use Rattle.code_boards.specs.Views.{spaces_of}
use Rattle.board_terms.specs.Outcomes.{outcome, result}
use Rattle.board_terms.specs.Replays.{replay, replay_from, step_of, stepped}
use Rattle.board_terms.specs.Stages.{has_finished}
use Rattle.board_terms.specs.States.{State, opened_with, void_state, with_main}
use Rattle.board_trees.specs.Laws.{BothShow}
use Rattle.board_trees.specs.Shows.{ShowsBoard}
use Rattle.board_trees.proofs.Beginning.{new_boards_show}
use Rattle.claimed_trees.proofs.Backs.{backs_show}
use Rattle.claimed_trees.proofs.Claims.{claims_show}
use Rattle.claimed_trees.proofs.Copies.{copies_show}
use Rattle.shown_results.proofs.Results.{results_are_ordered as shown_are_ordered}
use Rattle.journal_results.specs.Gives.{GivesShow}
use Rattle.journal_results.specs.Laws.{ResultsAreOrdered}
use Rattle.closed_trees.proofs.Followed.{closings_show}
use Rattle.journal_results.proofs.Gives.{gives_show_by}
use Rattle.journal_results.proofs.Yields.{yields_open}

replay_none : (job : Job) (es : List Entry) → replay_from job None es ≡ None
replay_none job [] = refl
replay_none job (e ∷ es) = replay_none job es

module _ (gives : GivesShow) (job : Job) where
  abbrev G : Ground
  G = regent_ground (spaces_of job.code)

  abbrev M : ℕ → Machine G
  M = machine_of job

  -- ---- one step

  abbrev step_like : StepKind → ℕ → ℕ → Step
  step_like Claim k seat = record { kind = claim; number = k; seat = seat }
  step_like Copy k seat = record { kind = copy; number = k; seat = seat }
  step_like Give k seat = record { kind = give; number = k; seat = seat }
  step_like Back k seat = record { kind = back; number = k; seat = seat }

  steps_show : (kind : StepKind) (s : State) (b : Board G) (k seat : ℕ) → ShowsBoard job s b →
      BothShow job (step_of job s k seat kind) (after_step G M (Some b) (step_like kind k seat))
  steps_show Claim s b k seat h = claims_show job s b h k seat
  steps_show Copy s b k seat h = copies_show job s b h k seat
  steps_show Give s b k seat h = gives job s b h k seat
  steps_show Back s b k seat h = backs_show job s b h k seat

  after_more : (o : Option (Board G)) (xs : List Step) (x : Step) → after_steps G M o (xs ++ x ∷ []) ≡ after_step G M (after_steps G M o xs) x
  after_more o [] x = refl
  after_more o (y ∷ xs) x = after_more (after_step G M o y) xs x

  -- ---- a journal

  module _ (t : TaskCode) where
    -- a board of the laws to which some steps led
    pub record Pictured (s : State) : Type 0 where
      pub steps : List Step
      pub board : Board G
      pub made : board_of G M (main_of job t) steps ≡ Some board
      pub shows : ShowsBoard job s board

    one_more : (s : State) → Pictured s → (e : Entry) (u : State) → stepped job s e ≡ Some u → Pictured u
    one_more s h e u there = by_both (stepped job s e) (after_step G M (Some h.board) (step_like e.kind e.op.0 e.seat)) refl there
        (steps_show e.kind s h.board e.op.0 e.seat h.shows)
      where
        by_both : (o : Option State) (q : Option (Board G)) → after_step G M (Some h.board) (step_like e.kind e.op.0 e.seat) ≡ q → o ≡ Some u → BothShow job o q → Pictured u
        by_both None q d there g = absurd (none-some u there)
        by_both (Some v) None d there g = absurd g
        by_both (Some v) (Some c) d there g = record {
          steps = h.steps ++ step_like e.kind e.op.0 e.seat ∷ [];
          board = c;
          made = after_more (Some (start G M (main_of job t))) h.steps (step_like e.kind e.op.0 e.seat) ∙ ap (λ o. after_step G M o (step_like e.kind e.op.0 e.seat)) h.made ∙ d;
          shows = subst (λ x. ShowsBoard job x c) (same_Some v u there) g;
        }

    pub pictured : (es : List Entry) (s u : State) → Pictured s → replay_from job (Some s) es ≡ Some u → Pictured u
    pictured [] s u h e = subst Pictured (same_Some s u e) h
    pictured (x ∷ es) s u h e = by_step (stepped job s x) refl e (λ v g k. pictured es v u g k)
      where
        by_step : (o : Option State) → stepped job s x ≡ o → replay_from job o es ≡ Some u → ((v : State) → Pictured v → replay_from job (Some v) es ≡ Some u → Pictured u) → Pictured u
        by_step None d k more = absurd (none-some u (sym (replay_none job es) ∙ k))
        by_step (Some v) d k more = more v (one_more s h x v d) k

    pub by_tree : (found : slice_get job.code.tasks job.code.start ≡ Some t) (may : may_start job t ≡ true) (s : State) → Pictured s → has_finished s ≡ true → result s ≡ Some (order_run job)
    by_tree found may s h e =
        let ordered = shown_are_ordered job t h.steps h.board s found may h.made h.shows in
        by_over (is_over G (stage_of G h.board.state.tree)) ordered
      where
        by_over : (c : Bool) → result s ≡ cond c (Some (order_run job)) None → result s ≡ Some (order_run job)
        by_over true q = q
        by_over false q = absurd (none-some (outcome s) (sym q ∙ ap (λ c. cond c (Some (outcome s)) None) e))

  -- ---- void jobs

  no_step : (kind : StepKind) (k seat : ℕ) → step_of job void_state k seat kind ≡ None
  no_step Claim zero seat = refl
  no_step Claim (suc k) seat = refl
  no_step Copy zero seat = refl
  no_step Copy (suc k) seat = refl
  no_step Give zero seat = refl
  no_step Give (suc k) seat = refl
  no_step Back zero seat = refl
  no_step Back (suc k) seat = refl

  pub void_stays : (es : List Entry) (s : State) → replay_from job (Some void_state) es ≡ Some s → void_state ≡ s
  void_stays [] s e = same_Some void_state s e
  void_stays (x ∷ es) s e = absurd (none-some s (sym (replay_none job es) ∙ ap (λ o. replay_from job o es) (sym (no_step x.kind x.op.0 x.seat)) ∙ e))

  void_result : (es : List Entry) (s : State) → replay_from job (Some void_state) es ≡ Some s → void_outcome ≡ order_run job → result s ≡ Some (order_run job)
  void_result es s e q = ap result (sym (void_stays es s e)) ∙ ap (λ o. Some o) q

  -- ---- both

  by_may : (es : List Entry) (s : State) (t : TaskCode) → slice_get job.code.tasks job.code.start ≡ Some t → (may : Bool) → may_start job t ≡ may →
      replay_from job (Some (cond may (with_main (first_frame job t)) void_state)) es ≡ Some s → has_finished s ≡ true → result s ≡ Some (order_run job)
  by_may es s t found true may e done = by_tree t found may s (pictured t es (with_main (first_frame job t)) s (record {
    steps = [];
    board = start G M (main_of job t);
    made = refl;
    shows = subst (λ (x : State). ShowsBoard job x (start G M (main_of job t))) (ap (opened_with job) found ∙ ap (λ b. cond b (with_main (first_frame job t)) void_state) may)
        (new_boards_show job t found may);
  }) e) done
  by_may es s t found false may e done = void_result es s e
      (sym (ap (run_first job) found ∙ ap (λ b. cond b (run_outcome (runs job.code job.turns 64 (begun (first_frame job t) [] no_contents))) void_outcome) may))

  by_start : (es : List Entry) (s : State) (o : Option TaskCode) → slice_get job.code.tasks job.code.start ≡ o → replay_from job (Some (opened_with job o)) es ≡ Some s →
      has_finished s ≡ true → result s ≡ Some (order_run job)
  by_start es s None found e done = void_result es s e (sym (ap (run_first job) found))
  by_start es s (Some t) found e done = by_may es s t found (may_start job t) refl e done

  finished_as_ordered : (journal : List Entry) (s : State) → replay job journal ≡ Some s → has_finished s ≡ true → result s ≡ Some (order_run job)
  finished_as_ordered journal s e done = by_start journal s (slice_get job.code.tasks job.code.start) refl e done

  pub ordered_by : (journal : List Entry) (s : State) → replay job journal ≡ Some s → result s ≡ cond (has_finished s) (Some (order_run job)) None
  ordered_by journal s e = by_finished (has_finished s) refl
    where
      by_finished : (c : Bool) → has_finished s ≡ c → result s ≡ cond c (Some (order_run job)) None
      by_finished true done = finished_as_ordered journal s e done
      by_finished false e = ap (λ c. cond c (Some (outcome s)) None) e

pub gives_show : GivesShow
gives_show = gives_show_by yields_open closings_show

pub results_are_ordered : ResultsAreOrdered
results_are_ordered job journal s e = ordered_by gives_show job journal s e
