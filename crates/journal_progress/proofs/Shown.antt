-- A journal leads on the table to what shows the board of the laws to which the same steps lead.
use Rattle.std.proofs.Common.{ℕ, List, None, Option, Some, [], ap, cond, inl, inr, ◌≡◌, ◌∙◌, ◌∷◌}
use Rattle.task_code.specs.declared.job.Job.{Job}
use Rattle.machine_terms.specs.Jobs.{first_frame}
use Rattle.run_journal.specs.declared.entry.Entry.{Entry}
use Rattle.run_journal.specs.declared.entry.StepKind.{StepKind}
use Rattle.run_journal.specs.declared.entry.StepKind.TheVariants.{Back, Claim, Copy, Give}
use Rattle.board_rules.specs.Ground.{Ground}
use Rattle.board_rules.specs.NumberedBoards.{Board, after_step, after_steps, start}
use Rattle.regent_boards.specs.RegentMachine.{regent_ground}
use Rattle.code_boards.specs.Laws.{machine_of, main_of}
use Rattle.code_boards.specs.Views.{spaces_of}
use Rattle.board_terms.specs.Replays as table
use Rattle.board_terms.specs.Replays.{replay_from, stepped}
use Rattle.board_terms.specs.States.{State, opened, opened_with, void_state, with_main}
use Rattle.board_trees.specs.Laws.{BothShow}
use Rattle.board_trees.specs.Shows.{ShowsBoard}
use Rattle.board_trees.proofs.Beginning.{new_boards_show}
use Rattle.claimed_trees.proofs.Backs.{backs_show}
use Rattle.claimed_trees.proofs.Claims.{claims_show}
use Rattle.claimed_trees.proofs.Copies.{copies_show}
use Rattle.journal_results.proofs.Journals.{gives_show}
use Rattle.journal_progress.proofs.Journals.{no_replay, void_refuses}
use Rattle.journal_progress.specs.Steps.{IsVoid, JournalsShow, VoidJobsStay, kind_of, step_of, steps_of}

module _ (job : Job) where
  abbrev G : Ground
  G = regent_ground (spaces_of job.code)

  one_shows : (s : State) (b : Board G) → ShowsBoard job s b → (kind : StepKind) (k seat : ℕ) →
      BothShow job (table.step_of job s k seat kind) (after_step G (machine_of job) (Some b) (record { kind = kind_of kind; number = k; seat = seat }))
  one_shows s b h Claim k seat = claims_show job s b h k seat
  one_shows s b h Copy k seat = copies_show job s b h k seat
  one_shows s b h Give k seat = gives_show job s b h k seat
  one_shows s b h Back k seat = backs_show job s b h k seat

  all_show : (es : List Entry) (o : Option State) (q : Option (Board G)) → BothShow job o q →
      BothShow job (replay_from job o es) (after_steps G (machine_of job) q (steps_of es))
  all_show [] o q h = h
  all_show (e ∷ es) None None h = all_show es None None tt
  all_show (e ∷ es) None (Some b) h = absurd h
  all_show (e ∷ es) (Some s) None h = absurd h
  all_show (e ∷ es) (Some s) (Some b) h = all_show es (stepped job s e) (after_step G (machine_of job) (Some b) (step_of e)) (one_shows s b h e.kind e.op.0 e.seat)

pub journals_show : JournalsShow
journals_show job t found may journal =
    all_show job journal (Some (opened job)) (Some (start (regent_ground (spaces_of job.code)) (machine_of job) (main_of job t))) (new_boards_show job t found may)

-- ---- void jobs

void_from : (job : Job) → IsVoid job → opened job ≡ void_state
void_from job (inl e) = ap (opened_with job) e
void_from job (inr (t, e, f)) = ap (opened_with job) e ∙ ap (λ c. cond c (with_main (first_frame job t)) void_state) f

pub void_jobs_stay : VoidJobsStay
void_jobs_stay job void e journal =
    ap (λ s. replay_from job (stepped job s e) journal) (void_from job void)
    ∙ ap (λ o. replay_from job o journal) (void_refuses job e.kind e.op.0 e.seat)
    ∙ no_replay job journal
