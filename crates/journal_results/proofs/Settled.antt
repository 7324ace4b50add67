-- A board on which a fault comes before all that isn't over tells the outcome of its job's run in order.
use Rattle.std.proofs.Common.{◌≡◌, ◌∷◌, ◌∙◌, Bool, List, None, Option, Some, [], ap, cond, false, refl, subst, sym, true}
use Rattle.std.specs.Prelude.{slice_get}
use Rattle.std.proofs.lemmas.Option.{same_Some}
use Rattle.regent_tree.specs.declared.outcome.Outcome.{Outcome}
use Rattle.task_code.specs.declared.code.TaskCode.{TaskCode}
use Rattle.task_code.specs.declared.job.Job.{Job}
use Rattle.machine_terms.specs.Contents.{no_contents}
use Rattle.machine_terms.specs.Jobs.{first_frame, may_start, order_run, outcome as run_outcome, run_first, void_outcome}
use Rattle.machine_terms.specs.Orders.{begun, runs}
use Rattle.run_journal.specs.declared.entry.Entry.{Entry}
use Rattle.board_rules.specs.NumberedBoards.{start}
use Rattle.regent_boards.specs.RegentMachine.{regent_ground}
use Rattle.code_boards.specs.Laws.{machine_of, main_of}
use Rattle.code_boards.specs.Views.{spaces_of}
use Rattle.board_terms.specs.Replays.{replay, replay_from}
use Rattle.board_terms.specs.Settled.{settled}
use Rattle.board_terms.specs.States.{State, opened_with, void_state, with_main}
use Rattle.board_trees.specs.Shows.{ShowsBoard}
use Rattle.board_trees.proofs.Beginning.{new_boards_show}
use Rattle.shown_results.proofs.Settled.{settled_is_ordered as shown_is_ordered}
use Rattle.journal_results.specs.Settled.{SettledIsOrdered}
use Rattle.journal_results.proofs.Journals.{Pictured, gives_show, pictured, void_stays}

module _ (job : Job) where
  void_settled : (es : List Entry) (s : State) (o : Outcome) → replay_from job (Some void_state) es ≡ Some s → settled s ≡ Some o → void_outcome ≡ order_run job → order_run job ≡ o
  void_settled es s o e k q = sym q ∙ same_Some void_outcome o (ap settled (void_stays gives_show job es s e) ∙ k)

  by_may : (es : List Entry) (s : State) (o : Outcome) (t : TaskCode) → slice_get job.code.tasks job.code.start ≡ Some t → (may : Bool) → may_start job t ≡ may →
      replay_from job (Some (cond may (with_main (first_frame job t)) void_state)) es ≡ Some s → settled s ≡ Some o → order_run job ≡ o
  by_may es s o t found true may e k =
      let h = pictured gives_show job t es (with_main (first_frame job t)) s (record {
        steps = [];
        board = start (regent_ground (spaces_of job.code)) (machine_of job) (main_of job t);
        made = refl;
        shows = subst (λ (x : State). ShowsBoard job x (start (regent_ground (spaces_of job.code)) (machine_of job) (main_of job t)))
            (ap (opened_with job) found ∙ ap (λ b. cond b (with_main (first_frame job t)) void_state) may)
            (new_boards_show job t found may);
      }) e in
      shown_is_ordered job t h.steps h.board s o found may h.made h.shows k
  by_may es s o t found false may e k = void_settled es s o e k
      (sym (ap (run_first job) found ∙ ap (λ b. cond b (run_outcome (runs job.code job.turns 64 (begun (first_frame job t) [] no_contents))) void_outcome) may))

  by_start : (es : List Entry) (s : State) (o : Outcome) (t : Option TaskCode) → slice_get job.code.tasks job.code.start ≡ t → replay_from job (Some (opened_with job t)) es ≡ Some s →
      settled s ≡ Some o → order_run job ≡ o
  by_start es s o None found e k = void_settled es s o e k (sym (ap (run_first job) found))
  by_start es s o (Some t) found e k = by_may es s o t found (may_start job t) refl e k

pub settled_is_ordered : SettledIsOrdered
settled_is_ordered job journal s o e k = by_start job journal s o (slice_get job.code.tasks job.code.start) refl e k
