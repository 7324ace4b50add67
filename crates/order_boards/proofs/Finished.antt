-- A finished board has the outcome of the run in order of its job.
use Rattle.std.proofs.Common.{◌≡◌, ℕ, zero, suc, List, [], ◌∷◌, Bool, true, false, cond, Option, Some, None, refl, sym, ap, ◌∙◌, subst, map, drop, get_or, arith}
use Rattle.std.specs.Prelude.{length, slice_get, unwrap_or}
use Rattle.std.proofs.lemmas.Option.{none-some}
use Rattle.plain_values.specs.Points.{points}
use Rattle.regent_tree.specs.declared.outcome.Ending.TheVariants.{Finished}
use Rattle.regent_tree.specs.declared.outcome.Outcome.{Outcome}
use Rattle.task_code.specs.declared.code.TaskCode.{TaskCode}
use Rattle.task_code.specs.declared.job.Job.{Job}
use Rattle.machine_terms.specs.Contents.{no_contents}
use Rattle.machine_terms.specs.Jobs.{first_frame, may_start, order_run, outcome, run_first, void_outcome}
use Rattle.machine_terms.specs.Orders.{begun, runs}
use Rattle.board_rules.specs.Boards.{Operation, Stage, at_fault, by, closing, dropped, filling, given_by, idle, op, out, over, stopped}
use Rattle.board_rules.specs.ByNumber.{Agrees, board_maker, board_making, in_order, made_in_order, on_board}
use Rattle.board_rules.specs.Ground.{Ground}
use Rattle.board_rules.specs.Journals.{Entry, Outcome as BoardOutcome, Told, answered, faulted, finished, joined, opened, own_fault, told, told_items, unfinished}
use Rattle.board_rules.specs.NumberedBoards.{Board, Step, entries, start}
use Rattle.board_rules.specs.NumberedRuns.{Making}
use Rattle.board_rules.specs.Processes.{Map}
use Rattle.board_rules.specs.Renaming.{Renames, Roots, node_to, stage_to}
use Rattle.board_rules.specs.RootNames.{pick, total}
use Rattle.board_rules.specs.Running.{Machine as BoardMachine}
use Rattle.number_laws.proofs.ByNumber.{steps_reach}
use Rattle.number_laws.proofs.Naming.{reached_by_name}
use Rattle.regent_boards.specs.Frames.{Location, OwnRoot, Stop}
use Rattle.regent_boards.specs.Frames as board
use Rattle.regent_boards.specs.Laws.{by_maker, to_makers}
use Rattle.regent_boards.specs.RegentMachine.{base, fields_of, name_of, own_roots, regent_ground, regent_roots, root_of, size_of, space_of, who_of}
use Rattle.regent_boards.proofs.ByNumber.{can_rename}
use Rattle.code_boards.specs.Laws.{machine_of, main_of, ordered, room}
use Rattle.code_boards.specs.Views.{board_segment, spaces_of}
use Rattle.code_boards.proofs.Ends.{jobs_finish_in_order, main_names_no_root}
use Rattle.code_boards.proofs.Views.{board_keeps, board_runs_renamed}
use Rattle.order_boards.specs.Finished.{FinishedBoardsAgree, HasEnding, HasOutcome, own_roots_of}
use Rattle.order_boards.specs.Jobs.{BoardsAgree, IsResult, IsResultOf}
use Rattle.order_boards.specs.Laws.{AreOfFirstTask}
use Rattle.order_boards.specs.Outcomes.{AreMadeBy, IsMadeBy, IsOutcome, image_on}
use Rattle.order_boards.proofs.FirstTask.{AreNamed, IsFirst, Told as FirstTold, journal_first}
use Rattle.order_boards.proofs.Jobs.{order_runs_agree}
use Rattle.order_boards.proofs.Stands.{at, root_size, root_space}

-- what is picked is what was made
picked : (b : ℕ) (p : List ℕ) (i : ℕ) (xs : List Making) (k : ℕ) → IsMadeBy p i xs k → ((pick b xs k).maker ≡ p) × ((pick b xs k).making ≡ i)
picked b p i [] k h = absurd h
picked b p i (x ∷ xs) zero h = h
picked b p i (x ∷ xs) (suc k) h = picked b p i xs k h

module _ (job : Job) (t : TaskCode) (steps : List Step) (b : Board (regent_ground (spaces_of job.code))) where
  abbrev G : Ground
  G = regent_ground (spaces_of job.code)

  abbrev R : Roots base
  R = regent_roots (spaces_of job.code)

  abbrev M : ℕ → BoardMachine G
  M = machine_of job

  abbrev K : BoardMachine G
  K = by_maker (spaces_of job.code) (board_segment job.code job.turns)

  abbrev to : (ℕ → List ℕ) → (ℕ → ℕ) → Renames base R R
  to = to_makers (spaces_of job.code) (board_segment job.code job.turns)

  abbrev journal : List Entry
  journal = entries G M (Some (start G M (main_of job t))) steps

  -- the name of a place on the board, by its root's maker and making
  abbrev board_name : Location → Location
  board_name = on_board base R R M K to (main_of job t) journal b.state

  -- the name of a place in the run in order
  abbrev order_name : Location → Location
  order_name = in_order base R R M K to (room job) (main_of job t)

  abbrev named_on_board : ℕ → ℕ
  named_on_board r = (board_name (at r 0 0)).root

  abbrev named_in_order : ℕ → ℕ
  named_in_order r = (order_name (at r 0 0)).root

  -- a root of the board and one of the run in order have one maker and one making
  abbrev AreTwins : ℕ → ℕ → Type 0
  AreTwins ours theirs = named_on_board ours ≡ named_in_order theirs

  space_named : (r : ℕ) → space_of (named_on_board r) ≡ space_of r
  space_named r = root_space (space_of r) (size_of r) _

  size_named : (r : ℕ) → size_of (named_on_board r) ≡ size_of r
  size_named r = root_size (space_of r) (size_of r) _

  -- twins are of one field space and one size
  twin_space : (ours theirs : ℕ) → AreTwins ours theirs → space_of ours ≡ space_of theirs
  twin_space ours theirs e = sym (space_named ours) ∙ ap space_of e ∙ root_space (space_of theirs) (size_of theirs) _

  twin_size : (ours theirs : ℕ) → AreTwins ours theirs → size_of ours ≡ size_of theirs
  twin_size ours theirs e = sym (size_named ours) ∙ ap size_of e ∙ root_size (space_of theirs) (size_of theirs) _

  module _ (m n : Map G) (same : (l o : _) → board_name l ≡ order_name o → m l ≡ n o) where
    twin_image : (ours theirs : ℕ) → AreTwins ours theirs → image_on (spaces_of job.code) m ours ≡ image_on (spaces_of job.code) n theirs
    twin_image ours theirs e =
        let space = twin_space ours theirs e in
        let size = twin_size ours theirs e in λ i. record {
          space = space i;
          count = size i;
          fields = map (λ f. map (λ p. same (at ours f p) (at theirs f p) (λ j. at (e j) f p) i) (points (size i))) (fields_of (spaces_of job.code) (space i));
        }

    -- roots of which one thing is told are twins, one by one
    twin_images : (ours theirs makings order_makings : List ℕ) → AreNamed [] (map named_on_board ours) makings →
        AreMadeBy [] (made_in_order base R R M K to (room job) (main_of job t)) theirs order_makings →
        own_roots (map named_on_board ours) makings ≡ own_roots theirs order_makings →
        map (image_on (spaces_of job.code) m) ours ≡ map (image_on (spaces_of job.code) n) theirs
    twin_images [] [] [] is named made e = refl
    twin_images [] [] (k ∷ ks) is named made e = absurd named
    twin_images [] (q ∷ theirs) [] [] named made e = absurd made
    twin_images [] (q ∷ theirs) [] (i ∷ is) named made e = absurd (omega (arith, ap length e))
    twin_images [] (q ∷ theirs) (k ∷ ks) is named made e = absurd named
    twin_images (r ∷ ours) theirs [] is named made e = absurd named
    twin_images (r ∷ ours) [] (k ∷ ks) [] named made e = absurd (omega (arith, ap length e))
    twin_images (r ∷ ours) [] (k ∷ ks) (i ∷ is) named made e = absurd made
    twin_images (r ∷ ours) (q ∷ theirs) (k ∷ ks) [] named made e = absurd made
    twin_images (r ∷ ours) (q ∷ theirs) (k ∷ ks) (i ∷ is) named made e =
        let told = ap (λ (xs : List OwnRoot). get_or xs 0 (record { making = k; space = space_of (named_on_board r); size = size_of (named_on_board r) })) e in
        let there = picked (suc (total (made_in_order base R R M K to (room job) (main_of job t)))) [] i (made_in_order base R R M K to (room job) (main_of job t)) (who_of q) made.0 in
        let twins : AreTwins r q = named.0
        ∙ (λ l. root_of (told l).space (told l).size (name_of [] (told l).making))
        ∙ (λ l. root_of (space_of q) (size_of q) (name_of (sym there.0 l) (sym there.1 l))) in
        λ l. twin_image r q twins l ∷ twin_images ours theirs ks is named.1 made.1 (ap (λ (xs : List OwnRoot). drop 1 xs) e) l

  -- ---- the first task

  -- one that is over without a fault answers
  own_ended : (x : Option Stop) (text : List ℕ) (u : Told G) → (joined G (M 0) x text u).fault ≡ None → u.fault ≡ None
  own_ended None text u e = e
  own_ended (Some y) text u e = absurd (none-some y (sym e))

  -- by names: the roots, and what is told of them
  by_stage : (st : Stage G) → own_fault G (M 0) st ≡ None → (a : board.Answer) → unwrap_or (given_by G (M 0) st) (M 0).no_answer ≡ a → (f : board.Frame) →
      FirstTold job.code job.turns (stage_to base R R (to (board_maker base R R M K to (main_of job t) journal b.state) (board_making base R R M K to (main_of job t) journal b.state)) st) f →
      a.roots ≡ own_roots f.own f.makings
  by_stage (over (by v)) e a d f h = ap (λ (x : board.Answer). x.roots) (sym d) ∙ h
  by_stage (over (at_fault x)) e a d f h = absurd (none-some x (sym e))
  by_stage (over stopped) e a d f h = absurd (none-some board.broken (sym e))
  by_stage (idle w) e a d f h = absurd (none-some board.broken (sym e))
  by_stage (filling w d l) e a k f h = absurd (none-some board.broken (sym e))
  by_stage (out w d) e a k f h = absurd (none-some board.broken (sym e))
  by_stage (closing x) e a d f h = absurd (none-some board.broken (sym e))
  by_stage dropped e a d f h = absurd (none-some board.broken (sym e))

  module _ (n : Map G) (theirs order_makings : List ℕ) (made : AreMadeBy [] (made_in_order base R R M K to (room job) (main_of job t)) theirs order_makings)
      (a : board.Answer) (tells : a.roots ≡ own_roots theirs order_makings) (same : (l o : _) → board_name l ≡ order_name o → b.state.map l ≡ n o) where
    by_tree : (x : Operation G) → (told G (M 0) x).fault ≡ None → answered G (M 0) x ≡ a →
        IsFirst job.code job.turns (node_to base R R (to (board_maker base R R M K to (main_of job t) journal b.state) (board_making base R R M K to (main_of job t) journal b.state)) x) →
        map (image_on (spaces_of job.code) n) theirs ≡ map (image_on (spaces_of job.code) b.state.map) (own_roots_of (spaces_of job.code) x)
    by_tree (op D N i f ps st is) e d h = sym (twin_images b.state.map n same f.own theirs f.makings order_makings h.0 made
        (sym (by_stage st (own_ended (told_items G (M 0) is).fault (told_items G (M 0) is).text (record { text = []; fault = own_fault G (M 0) st }) e) a d _ h.1) ∙ tells))

  by_outcome : (q : BoardOutcome G) (roots makings : List ℕ) (o : Outcome) →
      Agrees base R R M K to (told G (M 0) b.state.tree).fault (told G (M 0) b.state.tree).text (answered G (M 0) b.state.tree) b.state.map board_name order_name q →
      IsFirst job.code job.turns (node_to base R R (to (board_maker base R R M K to (main_of job t) journal b.state) (board_making base R R M K to (main_of job t) journal b.state)) b.state.tree) →
      AreOfFirstTask job t roots makings → IsOutcome (spaces_of job.code) roots makings q o → HasOutcome job t steps b o
  by_outcome (finished s v n) roots makings o a is first e = record {
    text = ap (λ (o : Outcome). o.text) e.0 ∙ sym a.1;
    ending = subst (λ x. HasEnding job t steps b x o.ending) (sym a.0)
        (ap (λ (o : Outcome). o.ending) e.0 ∙ ap (λ is. Finished is) (by_tree n roots makings first.1 v e.1 a.3 b.state.tree a.0 a.2 is));
  }
  by_outcome (faulted s y) roots makings o a is first e = record {
    text = ap (λ (o : Outcome). o.text) e ∙ sym a.1;
    ending = subst (λ x. HasEnding job t steps b x o.ending) (sym a.0) (ap (λ (o : Outcome). o.ending) e);
  }
  by_outcome unfinished roots makings o a is first e = absurd e

pub finished_boards_agree : FinishedBoardsAgree
finished_boards_agree job t steps b found may made finish =
    let order = order_runs_agree job t found may in
    by_outcome job t steps b (ordered (room job) job t) order.0 order.1 _ (jobs_finish_in_order job t steps b found made finish) named order.2 order.3
  where
    named : IsFirst job.code job.turns (node_to base (regent_roots (spaces_of job.code)) (regent_roots (spaces_of job.code)) (to job t steps b (board_maker base (regent_roots (spaces_of job.code)) (regent_roots (spaces_of job.code)) (machine_of job) (K job t steps b) (to job t steps b) (main_of job t) (journal job t steps b) b.state)
        (board_making base (regent_roots (spaces_of job.code)) (regent_roots (spaces_of job.code)) (machine_of job) (K job t steps b) (to job t steps b) (main_of job t) (journal job t steps b) b.state)) b.state.tree)
    named =
        let twin = can_rename (spaces_of job.code) (board_segment job.code job.turns) (board_keeps job.code job.turns) (board_runs_renamed job.code job.turns) (main_of job t)
        (record { frame = main_names_no_root job t; needs = refl; map = λ l. refl }) in
        let reached = reached_by_name base (regent_roots (spaces_of job.code)) (regent_roots (spaces_of job.code)) (machine_of job) (K job t steps b) (to job t steps b) (main_of job t) twin.0
        (journal job t steps b) b.state
        (steps_reach (regent_ground (spaces_of job.code)) (machine_of job) steps (start (regent_ground (spaces_of job.code)) (machine_of job) (main_of job t)) b made) twin.1 in
        journal_first job.code job.turns (journal job t steps b) (opened (regent_ground (spaces_of job.code)) (K job t steps b) twin.0) _
        (subst (λ (f : board.Frame). AreNamed [] f.own f.makings) (sym (twin.1.frame (λ n. []) (λ n. 0))) tt, tt) reached.2

-- ---- void jobs

by_may_start : (job : Job) (steps : List Step) (t : TaskCode) → slice_get job.code.tasks job.code.start ≡ Some t → (may : Bool) → may_start job t ≡ may →
    IsResultOf job steps t may (order_run job)
by_may_start job steps t found true may = λ b made over. finished_boards_agree job t steps b found may made over
by_may_start job steps t found false may = ap (run_first job) found ∙ ap (λ b. cond b
    (outcome (runs job.code job.turns 64 (begun (first_frame job t) [] no_contents))) void_outcome) may

by_start : (job : Job) (steps : List Step) (o : Option TaskCode) → slice_get job.code.tasks job.code.start ≡ o → IsResult job steps o (order_run job)
by_start job steps (Some t) found = by_may_start job steps t found (may_start job t) refl
by_start job steps None found = ap (run_first job) found

pub boards_agree : BoardsAgree
boards_agree job steps = by_start job steps (slice_get job.code.tasks job.code.start) refl
