-- The answer of a child is waited for: the operation waits for the child, if it is there.
use Rattle.std.proofs.Common.{◌≡◌, ◌<◌, ◌++◌, ◌∷◌, ◌∙◌, ℕ, suc, zero, List, Option, Some, [], ap, inl, length, refl, set, sym}
use Rattle.std.specs.Prelude.{All, slice_get}
use Rattle.std.proofs.lemmas.List.{get_or-set_same, set-set}
use Rattle.region_tree.specs.Requirements.{Requirement}
use Rattle.region_tree.specs.declared.tree.OpNumber.{OpNumber}
use Rattle.region_tree.specs.declared.tree.RootId.{RootId}
use Rattle.dependence_graph.specs.Graphs.{waited}
use Rattle.dependence_graph.specs.Knots.{has_failed, some_failed, stage_at}
use Rattle.task_code.specs.declared.job.Job.{Job}
use Rattle.machine_terms.specs.Segments.{frame_after, segment, stop_of}
use Rattle.machine_terms.specs.declared.frame.Before.{Before}
use Rattle.machine_terms.specs.declared.frame.Frame.{Frame}
use Rattle.machine_terms.specs.declared.outcome.Yield.TheVariants as yield
use Rattle.board_rules.specs.Boards.{Items, Wait as BoardWait, child, child_op, first, no_item, op, out, said}
use Rattle.board_rules.specs.Boards as tree
use Rattle.board_rules.specs.Ground.{Ground}
use Rattle.board_rules.specs.NumberedBoards.{Board}
use Rattle.board_rules.specs.Running.{Element, Machine}
use Rattle.regent_boards.specs.Frames as board
use Rattle.regent_boards.specs.RegentMachine.{regent_ground}
use Rattle.code_boards.specs.Laws.{machine_of}
use Rattle.code_boards.specs.Views.{spaces_of}
use Rattle.board_terms.specs.declared.claim.Claim.{Claim}
use Rattle.board_terms.specs.declared.operation.Activity.TheVariants as activity
use Rattle.board_terms.specs.declared.operation.Operation.{Operation}
use Rattle.board_terms.specs.declared.operation.Wait.TheVariants as wait
use Rattle.board_terms.specs.Gives.{behind_segment, parked_for, waits_for, yielded}
use Rattle.board_terms.specs.States.{State, no_operation, operation_at, with_operation}
use Rattle.board_trees.specs.Shows.{Shows, ShowsBoard, ShowsChildren, needs_issued, siblings}
use Rattle.board_trees.specs.Waits.{Sibling, WaitsForChild}
use Rattle.board_trees.proofs.Settled.{node_told}
use Rattle.board_trees.proofs.Told.{or_off}
use Rattle.changed_trees.specs.Changes.{IsAt}
use Rattle.changed_trees.specs.Given.{Opens, makings_before, yielded_by}
use Rattle.changed_trees.proofs.Kept.{Matches, shown_match}
use Rattle.yielded_trees.proofs.Out.{given_is, has_begun}
use Rattle.yielded_trees.proofs.Paused.{Pauses, pauses_open, u}
use Rattle.yielded_trees.specs.Laws.{AwaitsOpen}

module _ (job : Job) (s : State) (who : ℕ → ℕ) (ways : List (List ℕ)) (makings : ℕ) where
  abbrev G : Ground
  G = regent_ground (spaces_of job.code)

  abbrev M : Machine G
  M = machine_of job makings

  -- what is waited for in the graph
  abbrev waited_on : ℕ → Option OpNumber → List OpNumber
  waited_on k o = waited s.tree s.waits.listing k (waits_for o)

  waits_for_it : (k c : ℕ) (ks : List OpNumber) (is : Items G) → Matches job ks is → WaitsForChild s.waits.knots c (siblings job ks is) (waited_on k (slice_get ks c))
  waits_for_it k c ks no_item h = ap (λ ks. waited_on k (slice_get ks c)) h
  waits_for_it k c ks (said t is) h = waits_for_it k c ks is h
  waits_for_it k c [] (child_op n is) h = absurd h
  waits_for_it k zero (x ∷ xs) (child_op n is) h = inl refl
  waits_for_it k (suc c) (x ∷ xs) (child_op n is) h = waits_for_it k c xs is h

  fails_alike : (k c : ℕ) (way : List ℕ) (j d : ℕ) (earlier : List Sibling) (roots : List RootId) (ks : List OpNumber) (is : Items G) → ShowsChildren job s who ways way j d earlier roots ks is →
      tree.failed_at G M is c ≡ some_failed s.waits.knots (waited_on k (slice_get ks c))
  fails_alike k c way j d earlier roots ks no_item h = ap (λ ks. some_failed s.waits.knots (waited_on k (slice_get ks c))) (sym h)
  fails_alike k c way j d earlier roots ks (said t is) h = fails_alike k c way j d earlier roots ks is h
  fails_alike k c way j d earlier roots [] (child_op n is) h = absurd h
  fails_alike k zero way j d earlier roots (x ∷ xs) (child_op n is) h =
      sym (node_told job s who ways (way ++ d ∷ []) x.0 earlier roots n h.1).failed ∙ sym (or_off (has_failed (stage_at s.waits.knots x.0)))
  fails_alike k (suc c) way j d earlier roots (x ∷ xs) (child_op n is) h =
      fails_alike k c way j (suc d) (earlier ++ record { op = x.0; needs = needs_issued job n } ∷ []) roots xs is h.2

module _ (job : Job) (s : State) (b : Board (regent_ground (spaces_of job.code))) (h : ShowsBoard job s b) (k : ℕ) (v : List ℕ) (at : IsAt job b.ways k v)
    (claim : Claim) (before : Before) (act : (operation_at s k).activity ≡ activity.Out claim before) (n : ℕ) (awaits : (segment before).ends ≡ yield.Await n) where
  abbrev C : Ground
  C = regent_ground (spaces_of job.code)

  abbrev K : Machine C
  K = machine_of job (makings_before job b k v)

  abbrev g : Frame
  g = (stop_of before).machine.frame

  goes : (segment before).frame ≡ Some g
  goes = ap (λ y. frame_after y g) awaits

  abbrev awaited_child : BoardWait C
  awaited_child = child n

  no_beginning : awaited_child ≡ first → ⊥
  no_beginning e = absurd cc

  abbrev on : List OpNumber
  on = waited_on job s h.who b.ways (makings_before job b k v) k (slice_get (operation_at s k).children n)

  module _ (before_it : List Sibling) (above : List RootId) (D N : List Requirement) (i : ℕ) (f : board.Frame) (ps : List (Element C)) (w : BoardWait C) (d : List (Element C)) (is : Items C)
      (below : All (λ (r : RootId). r.0 < length s.roots) above) (x : Shows job s h.who b.ways v k before_it above (op D N i f ps (out w d) is)) where
    abbrev roots : List RootId
    roots = above ++ (operation_at s k).frame.own

    abbrev met : board.Frame
    met = tree.met_by C K w f (tree.awaited C K w is)

    pauses : Pauses job s b h k v at claim before act g goes (wait.Child n) awaited_child on no_beginning refl before_it above D N i f ps w d is
    pauses = record {
      given = given_is job s b h k v at claim before act before_it above D N i f ps w d is below x (yield.Await n) awaits;
      waits = refl;
      awaits = waits_for_it job s h.who b.ways (makings_before job b k v) k n (operation_at s k).children is
          (shown_match job s h.who b.ways v k 0 [] roots (operation_at s k).children is x.1);
      fails = fails_alike job s h.who b.ways (makings_before job b k v) k n v k 0 [] roots (operation_at s k).children is x.1;
    }

  abbrev then : State
  then = u job s b h k v at claim before act g goes (wait.Child n) awaited_child on no_beginning refl pauses

  yields : yielded_by job s k before ≡ then
  yields =
      let o = behind_segment (operation_at s k) (segment before) in
      let row : operation_at (with_operation s k o) k ≡ o = get_or-set_same s.operations k o no_operation
      (has_begun job s b h k v at claim before act).within in
      ap (yielded job.code job.turns (with_operation s k o) k) awaits
      ∙ (λ j. parked_for (with_operation s k o) k (wait.Child n) (waits_for (slice_get (row j).children n)))
      ∙ (λ j. record then {
        operations = (ap (λ (q : Operation). set (set s.operations k o) k (record q { wait = wait.Child n })) row
            ∙ set-set s.operations k o (record o { wait = wait.Child n })) j;
      })

  awaits_here : Opens job b k v s before
  awaits_here = pauses_open job s b h k v at claim before act g goes (wait.Child n) awaited_child on no_beginning refl pauses yields

pub awaits_open : AwaitsOpen
awaits_open job s b h k v at claim before act is = awaits_here job s b h k v at claim before act is.0 is.1
