-- Along a journal each state fits, so what is handed out does.
use Rattle.std.proofs.Common.{◌≡◌, ℕ, zero, suc, List, [], ◌∷◌, ◌++◌, Bool, true, false, cond, Some, None, Option, refl, sym, ap, ◌∙◌, subst, append-nil, append_assoc}
use Rattle.std.proofs.lemmas.Option.{none-some, same_Some}
use Rattle.task_code.specs.declared.code.TaskCode.{TaskCode}
use Rattle.task_code.specs.declared.job.Job.{Job}
use Rattle.machine_terms.specs.declared.outcome.CallOut.{CallOut}
use Rattle.machine_terms.specs.Jobs.{first_frame, may_start}
use Rattle.run_journal.specs.declared.entry.Entry.{Entry}
use Rattle.run_journal.specs.declared.entry.StepKind.{StepKind}
use Rattle.run_journal.specs.declared.entry.StepKind.TheVariants.{Back, Claim, Copy, Give}
use Rattle.board_rules.specs.NumberedBoards.{start}
use Rattle.regent_boards.specs.RegentMachine.{regent_ground}
use Rattle.code_boards.specs.Laws.{machine_of, main_of}
use Rattle.code_boards.specs.Views.{spaces_of}
use Rattle.board_terms.specs.Replays.{replay, replay_from, step_of, stepped}
use Rattle.board_terms.specs.States.{operation_at, State, opened_with, void_state, with_main}
use Rattle.board_trees.specs.Shows.{ShowsBoard}
use Rattle.board_trees.proofs.Beginning.{new_boards_show}
use Rattle.journal_results.proofs.Journals.{Pictured, gives_show, pictured}
use Rattle.fit_laws.proofs.Passing.{children_pass}
use Rattle.fit_laws.proofs.Segments.{children_are_within, no_segment_breaks, partitions_are_sound, segments_keep_fitting, touches_are_covered}
use Rattle.fit_rules.specs.Fits.{Program}
use Rattle.fit_boards.specs.Boards.{calls_of, issued_from, on_step, BoardsFit, BoardsKeepDeclared, NoBoardBreaks, NoneIsBroken}
use Rattle.fit_boards.specs.Fitting.{StateFits}
use Rattle.fit_boards.specs.Steps.{first_call, FirstFits, IsSoundJob, issued_by}
use Rattle.fit_boards.proofs.Known.{shown_is_known}
use Rattle.fit_boards.proofs.Unbroken.{AreWhole, IsWhole}
use Rattle.fit_boards.proofs.Whole.{step_whole}
use Rattle.fit_boards.proofs.Steps.{new_boards_fit, outs_fit, steps_keep_fitting, void_fits}

module _ (g : Program) (job : Job) (t : TaskCode) (is : IsSoundJob g job) (first : FirstFits g job t) where
  no_replay : (es : List Entry) → replay_from job None es ≡ None
  no_replay [] = refl
  no_replay (e ∷ es) = no_replay es

  -- ---- a job that isn't void

  -- what each step keeps of a state that shows a board is so along a journal
  along : (Q : List CallOut → State → Type 0) →
      ((log : List CallOut) (s u : State) → Pictured gives_show job t s → Q log s → (x : Entry) → stepped job s x ≡ Some u → Q (log ++ issued_by s x.op.0 u) u) →
      (es : List Entry) (log : List CallOut) (s u : State) → Pictured gives_show job t s → Q log s → replay_from job (Some s) es ≡ Some u → Q (log ++ issued_from job s es) u
  along Q keeps [] log s u p fits e = subst (λ l. Q l u) (sym (append-nil log)) (subst (Q log) (same_Some s u e) fits)
  along Q keeps (x ∷ es) log s u p fits e = by_step (stepped job s x) refl e (λ l v q f k. along Q keeps es l v u q f k)
    where
      by_step : (o : Option State) → stepped job s x ≡ o → replay_from job o es ≡ Some u →
          ((l : List CallOut) (v : State) → Pictured gives_show job t v → Q l v → replay_from job (Some v) es ≡ Some u → Q (l ++ issued_from job v es) u) →
          Q (log ++ on_step o (λ v. issued_by s x.op.0 v ++ issued_from job v es)) u
      by_step None d k more = absurd (none-some u (sym (no_replay es) ∙ k))
      by_step (Some v) d k more = subst (λ l. Q l u) (append_assoc log (issued_by s x.op.0 v) (issued_from job v es))
          (more (log ++ issued_by s x.op.0 v) v (pictured gives_show job t (x ∷ []) s v p d) (keeps log s v p fits x d) k)

  one_fits : (log : List CallOut) (s u : State) → Pictured gives_show job t s → StateFits g log s → (x : Entry) → stepped job s x ≡ Some u → StateFits g (log ++ issued_by s x.op.0 u) u
  one_fits log s u p fits x e = steps_keep_fitting g job is log s (shown_is_known job s p.board p.shows) fits x.kind x.op.0 x.seat u e

  -- it fits, and no operation is broken
  abbrev IsWell : List CallOut → State → Type 0
  IsWell log s = StateFits g log s × AreWhole s.operations

  one_well : (log : List CallOut) (s u : State) → Pictured gives_show job t s → IsWell log s → (x : Entry) → stepped job s x ≡ Some u → IsWell (log ++ issued_by s x.op.0 u) u
  one_well log s u p (fits, whole) x e = (one_fits log s u p fits x e, step_whole g job is log s p.board p.shows fits whole x.op.0 x.kind x.seat u e)

  -- ---- a void one

  void_refuses : (kind : StepKind) (k seat : ℕ) → step_of job void_state k seat kind ≡ None
  void_refuses Claim zero seat = refl
  void_refuses Claim (suc k) seat = refl
  void_refuses Copy zero seat = refl
  void_refuses Copy (suc k) seat = refl
  void_refuses Give zero seat = refl
  void_refuses Give (suc k) seat = refl
  void_refuses Back zero seat = refl
  void_refuses Back (suc k) seat = refl

  abbrev log : List CallOut
  log = first_call job ∷ []

  along_void : (es : List Entry) (u : State) → replay_from job (Some void_state) es ≡ Some u → StateFits g (log ++ issued_from job void_state es) u
  along_void [] u e = subst (StateFits g log) (same_Some void_state u e) (void_fits g (first_call job))
  along_void (x ∷ es) u e = absurd (none-some u (sym (no_replay es) ∙ ap (λ o. replay_from job o es) (sym (void_refuses x.kind x.op.0 x.seat)) ∙ e))

  -- ---- both

  main_pictured : may_start job t ≡ true → Pictured gives_show job t (with_main (first_frame job t))
  main_pictured may =
      let begun = start (regent_ground (spaces_of job.code)) (machine_of job) (main_of job t) in record {
        steps = [];
        board = begun;
        made = refl;
        shows = subst (λ (x : State). ShowsBoard job x begun)
            (ap (opened_with job) first.there ∙ ap (λ b. cond b (with_main (first_frame job t)) void_state) may) (new_boards_show job t first.there may);
      }

  by_may : (may : Bool) → may_start job t ≡ may → StateFits g log (cond may (with_main (first_frame job t)) void_state) → (es : List Entry) (u : State) →
      replay_from job (Some (cond may (with_main (first_frame job t)) void_state)) es ≡ Some u →
      StateFits g (log ++ issued_from job (cond may (with_main (first_frame job t)) void_state) es) u
  by_may true may fits es u e = along (StateFits g) one_fits es log (with_main (first_frame job t)) u (main_pictured may) fits e
  by_may false may fits es u e = along_void es u e

  pub reached_fits : (journal : List Entry) (u : State) → replay job journal ≡ Some u → StateFits g (calls_of job journal) u
  reached_fits journal u e = subst (λ o. StateFits g (log ++ issued_from job (opened_with job o) journal) u) (sym first.there)
      (by_may (may_start job t) refl (subst (λ o. StateFits g log (opened_with job o)) first.there (new_boards_fit g job t is first)) journal u
      (ap (λ o. replay_from job (Some (opened_with job o)) journal) (sym first.there) ∙ e))

  pub reached_well : may_start job t ≡ true → (journal : List Entry) (u : State) → replay job journal ≡ Some u →
      IsWell (log ++ issued_from job (with_main (first_frame job t)) journal) u
  reached_well may journal u e = along IsWell one_well journal log (with_main (first_frame job t)) u (main_pictured may)
      (subst (StateFits g log) opens (subst (λ o. StateFits g log (opened_with job o)) first.there (new_boards_fit g job t is first)), main_whole)
      (ap (λ z. replay_from job (Some z) journal) (sym opens) ∙ ap (λ o. replay_from job (Some (opened_with job o)) journal) (sym first.there) ∙ e)
    where
      opens : cond (may_start job t) (with_main (first_frame job t)) void_state ≡ with_main (first_frame job t)
      opens = ap (λ b. cond b (with_main (first_frame job t)) void_state) may

      main_whole : AreWhole (with_main (first_frame job t)).operations
      main_whole zero = tt
      main_whole (suc j) = tt

pub boards_fit : BoardsFit
boards_fit g job t is first journal s e k c b act = outs_fit g (calls_of job journal) s (reached_fits g job t is first journal s e) k c b act

pub no_board_breaks : NoBoardBreaks
no_board_breaks g job t is first journal s e k c b act =
    let r = boards_fit g job t is first journal s e k c b act in
    no_segment_breaks g r.world r.task (operation_at s k).frame.task b (is.sound.tasks (operation_at s k).frame.task r.task r.there) r.fits

pub boards_keep_declared : BoardsKeepDeclared
boards_keep_declared g job t is first journal s e k c b act =
    let r = boards_fit g job t is first journal s e k c b act in
    let sound = is.sound.tasks (operation_at s k).frame.task r.task r.there in record {
      run = r;
      after = segments_keep_fitting g r.world r.task (operation_at s k).frame.task b sound r.fits;
      unbroken = no_segment_breaks g r.world r.task (operation_at s k).frame.task b sound r.fits;
      touches = touches_are_covered g r.world r.task (operation_at s k).frame.task b sound r.fits;
      children = λ cs d. (children_are_within g r.world r.task (operation_at s k).frame.task b sound r.fits cs d, children_pass g r.world r.task (operation_at s k).frame.task b sound r.fits cs d);
      partitions = λ q sets flag d. partitions_are_sound g r.world r.task (operation_at s k).frame.task b sound r.fits q sets flag d;
    }

pub none_is_broken : NoneIsBroken
none_is_broken g job t is first may journal s e k broken = subst IsWhole broken ((reached_well g job t is first may journal s e).1 k)
