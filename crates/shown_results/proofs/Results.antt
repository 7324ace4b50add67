-- The result of a table is the outcome of the run in order.
use Rattle.std.proofs.Common.{◌≡◌, ◌<◌, ◌∷◌, ◌∙◌, ℕ, Bool, List, None, Option, Some, [], ap, arith, cond, false, length, map, refl, sym, true}
use Rattle.std.specs.Prelude.{All}
use Rattle.std.proofs.lemmas.List.Elements.{All-head, All-tail}
use Rattle.region_tree.specs.declared.tree.RootId.{RootId}
use Rattle.regent_tree.specs.declared.outcome.Ending.{Ending as RunEnding}
use Rattle.regent_tree.specs.declared.outcome.Ending.TheVariants.{Finished}
use Rattle.regent_tree.specs.declared.outcome.Outcome.{Outcome}
use Rattle.logical_map.specs.Maps.{is_live}
use Rattle.task_code.specs.declared.code.TaskCode.{TaskCode}
use Rattle.task_code.specs.declared.job.Job.{Job}
use Rattle.machine_terms.specs.Jobs.{order_run}
use Rattle.board_rules.specs.Boards.{Operation as Node, is_over, op, stage_of}
use Rattle.board_rules.specs.Ground.{Ground}
use Rattle.board_rules.specs.Journals.{told as told_by_tree}
use Rattle.board_rules.specs.NumberedBoards.{Board, Step}
use Rattle.board_rules.specs.Running.{Machine}
use Rattle.regent_boards.specs.Frames.{Stop, broken, faults_at}
use Rattle.regent_boards.specs.RegentMachine.{regent_ground}
use Rattle.code_boards.specs.Laws.{machine_of, main_of}
use Rattle.code_boards.specs.Views.{spaces_of}
use Rattle.order_boards.specs.Finished.{HasEnding, HasOutcome, own_roots_of}
use Rattle.order_boards.specs.Outcomes.{image_on}
use Rattle.order_boards.proofs.Finished.{finished_boards_agree}
use Rattle.board_terms.specs.Outcomes.{ending_by, image_of, outcome, told}
use Rattle.board_terms.specs.States.{State, operation_at}
use Rattle.failure_laws.proofs.Failures.{failures_are_told}
use Rattle.board_trees.specs.Names.{name_of}
use Rattle.board_trees.specs.Shows.{Shows, ShowsBoard}
use Rattle.board_trees.proofs.Named.{is_naming, named_all}
use Rattle.shown_results.specs.Results.{ResultsAreOrdered}
use Rattle.shown_results.proofs.Finished.{finished_is_over}
use Rattle.shown_results.proofs.Images.{image_read}
use Rattle.shown_results.proofs.Told.{operation_told, stop_to, tell_to}

module _ (job : Job) (t : TaskCode) (steps : List Step) (b : Board (regent_ground (spaces_of job.code))) (s : State) (h : ShowsBoard job s b) where
  abbrev G : Ground
  G = regent_ground (spaces_of job.code)

  abbrev M : Machine G
  M = machine_of job 0

  -- ---- images

  images_read : (own : List RootId) → All (λ (r : RootId). is_live s.map r.0 ≡ true) own → (name : ℕ → ℕ) → All (λ (r : RootId). name r.0 ≡ name_of s.roots h.who r.0) own →
      map (image_of s) own ≡ map (image_on (spaces_of job.code) b.state.map) (map (λ (r : RootId). name r.0) own)
  images_read [] live name known = refl
  images_read (r ∷ own) live name known =
      let P = λ (r : RootId). is_live s.map r.0 ≡ true in
      let Q = λ (r : RootId). name r.0 ≡ name_of s.roots h.who r.0 in
      λ i. (image_read job s h.who b.state.map r.0 (h.held r.0 (All-head P r own live))
      ∙ ap (image_on (spaces_of job.code) b.state.map) (sym (All-head Q r own known))) i
      ∷ images_read own (All-tail P r own live) name (All-tail Q r own known) i

  first_own : (n : Node G) → Shows job s h.who b.ways [] 0 [] [] n → map (image_of s) (operation_at s 0).frame.own ≡ map (image_on (spaces_of job.code) b.state.map) (own_roots_of (spaces_of job.code) n)
  first_own (op D N i f ps st is) shows =
      let own = (operation_at s 0).frame.own in
      let naming = is_naming s.roots h.who _ h.made 0 own (h.own_made 0) in
      images_read own h.first (named_all s.roots h.who _ h.made 0) naming.known
      ∙ ap (map (image_on (spaces_of job.code) b.state.map)) (sym (shows.0.own (named_all s.roots h.who _ h.made 0) naming))

  -- ---- the outcome

  ending_read : (x : Option Stop) (e : RunEnding) → HasEnding job t steps b x e → ending_by s (stop_to job x) ≡ e
  ending_read None e k = ap (λ is. Finished is) (first_own b.state.tree h.shows) ∙ sym k
  ending_read (Some (faults_at x)) e k = sym k
  ending_read (Some broken) e k = sym k

  outcome_read : (o : Outcome) → HasOutcome job t steps b o → told s ≡ tell_to job (told_by_tree G M b.state.tree) → outcome s ≡ o
  outcome_read o k e = λ i. record {
    text = (ap (λ (x : Rattle.board_terms.specs.Outcomes.Told). x.text) e ∙ sym k.text) i;
    ending = (ap (λ (x : Rattle.board_terms.specs.Outcomes.Told). ending_by s x.stop) e ∙ ending_read (told_by_tree G M b.state.tree).fault o.ending k.ending) i;
  }

  some_operation : (n : Node G) → Shows job s h.who b.ways [] 0 [] [] n → 0 < length s.operations
  some_operation (op D N i f ps st is) shows = shows.0.within

pub results_are_ordered : ResultsAreOrdered
results_are_ordered job t steps b s found may made h =
    ap (λ c. cond c (Some (outcome s)) None) (finished_is_over job s b h (some_operation job t steps b s h b.state.tree h.shows))
    ∙ by_over (is_over (regent_ground (spaces_of job.code)) (stage_of (regent_ground (spaces_of job.code)) b.state.tree)) refl
  where
    by_over : (c : Bool) → is_over (regent_ground (spaces_of job.code)) (stage_of (regent_ground (spaces_of job.code)) b.state.tree) ≡ c →
        cond c (Some (outcome s)) None ≡ cond c (Some (order_run job)) None
    by_over true e =
        let failures = failures_are_told (regent_ground (spaces_of job.code)) (machine_of job) (main_of job t) steps b made in
        ap (λ o. Some o) (outcome_read job t steps b s h (order_run job) (finished_boards_agree job t steps b found may made e)
        (operation_told job s h.who b.ways (length s.operations) [] 0 [] [] b.state.tree (omega arith) h.shows failures.0 e failures.1))
    by_over false e = refl
