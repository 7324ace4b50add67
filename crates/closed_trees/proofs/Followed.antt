-- What follows on the table, and settling on the way up in the tree: operation by operation, until one isn't over.
use Rattle.std.proofs.Common.{◌≡◌, ◌<◌, ◌++◌, ◌∙◌, ℕ, zero, suc, List, [], ap, arith, cond, false, length, subst, sym, true, ⊎_elim}
use Rattle.std.proofs.lemmas.Bool.{cases_Bool}
use Rattle.region_tree.specs.declared.tree.OpNumber.{OpNumber}
use Rattle.region_tree.specs.declared.tree.RootId.{RootId}
use Rattle.dependence_graph.specs.Knots.{knot_at, number}
use Rattle.task_code.specs.declared.job.Job.{Job}
use Rattle.board_rules.specs.Boards.{Operation as Node, op}
use Rattle.board_rules.specs.Ground.{Ground}
use Rattle.board_rules.specs.NumberedBoards.{Board}
use Rattle.board_rules.specs.Running.{Machine}
use Rattle.regent_boards.specs.RegentMachine.{regent_ground}
use Rattle.code_boards.specs.Laws.{machine_of}
use Rattle.code_boards.specs.Views.{spaces_of}
use Rattle.board_terms.specs.Closings.{closed_up, may_close, over, up_from}
use Rattle.board_terms.specs.States.{State, operation_at}
use Rattle.board_trees.specs.Shows.{Shows, ShowsBoard}
use Rattle.board_trees.specs.Waits.{Sibling}
use Rattle.changed_trees.specs.Edits.{edited, up}
use Rattle.changed_trees.specs.Open.{ClosingsShow, HasAt, OpenBoard}
use Rattle.changed_trees.proofs.Edited.{all_shows, up_settled}
use Rattle.closed_trees.proofs.Found.{ended_at, way_ends}
use Rattle.closed_trees.proofs.Over.{open_children}
use Rattle.closed_trees.proofs.Step.{caller, caller_before, caller_is, caller_open, main_over}
use Rattle.closed_trees.proofs.Swept.{IsIt}
use Rattle.closed_trees.proofs.Trees.{opened_up, up_step}

module _ (job : Job) (makings : ℕ) where
  abbrev G : Ground
  G = regent_ground (spaces_of job.code)

  abbrev M : Machine G
  M = machine_of job makings

  abbrev treed : Board G → Node G → Board G
  treed b n = record b { state = record { tree = n; map = b.state.map } }

  -- one that isn't over shows
  still_open : (s : State) (b : Board G) (k : ℕ) (v : List ℕ) → OpenBoard job s b k v → may_close s k ≡ false → ShowsBoard job s (treed b (up G M v b.state.tree))
  still_open s b k v o stays = subst (λ n. ShowsBoard job s (treed b n)) (sym (up_settled job s o.who b.ways makings v [] 0 [] [] b.state.tree shown)) (record {
    who = o.who;
    extents = o.extents;
    made = o.made;
    regions = o.regions;
    held = o.held;
    rising = o.rising;
    first = o.first;
    own_made = o.own_made;
    own_apart = o.own_apart;
    shows = shown;
    leads = o.leads;
    ways = o.ways;
    knots = o.knots;
    listed = o.listed;
    claims = o.claims;
    turns = o.turns;
  })
    where
      own : (w : List ℕ) (i : ℕ) (earlier : List Sibling) (above : List RootId) (n : Node G) → IsIt job s o.who b.ways k w i earlier above n → Shows job s o.who b.ways w i earlier above n
      own w i earlier above (op D N y f ps st is) h =
          let r = h.1.0 in (
            record {
              within = r.within;
              knot = r.knot;
              way_is = r.way_is;
              own = r.own;
              seen = r.seen;
              said_is = r.said_is;
              stands = r.stands;
              free = r.free;
              waits = r.waits;
              begun = r.begun;
              listed = r.listed;
              children_are = open_children job s s.roots o.who (above ++ (operation_at s i).frame.own) (knot_at s.waits.knots i).stage (operation_at s i) N (operation_at s i).children st r.stands r.going
                  (ap (may_close s) h.0 ∙ stays);
            },
            h.1.1,
          )

      shown : Shows job s o.who b.ways [] 0 [] [] b.state.tree
      shown = all_shows job s o.who b.ways (IsIt job s o.who b.ways k) own v [] 0 [] [] b.state.tree o.shows

  -- what is done with the caller
  up_at : (close : State → ℕ → State) (s : State) (k j : ℕ) → j < k → (operation_at s k).parent ≡ number j → up_from k close s ≡ close s j
  up_at close s zero j l e = absurd (omega (arith, l))
  up_at close s (suc k) j l e = ap (λ (x : OpNumber). close s x.0) e

  within : (s : State) (b : Board G) (k : ℕ) (v : List ℕ) → OpenBoard job s b k v → k < length s.operations
  within s b k v o =
      let e = ended_at job s o.who b.ways (IsIt job s o.who b.ways k) v [] 0 [] [] b.state.tree o.shows in
      at_node e.number_is e.earlier e.above e.node e.so
    where
      at_node : (i : ℕ) (earlier : List Sibling) (above : List RootId) (n : Node G) → IsIt job s o.who b.ways k v i earlier above n → k < length s.operations
      at_node i earlier above (op D N y f ps st is) h = subst (λ i. i < length s.operations) h.0 h.1.0.within

  up_main : (s : State) (b : Board G) (k : ℕ) (v : List ℕ) (n : ℕ) (o : OpenBoard job s b k v) (closes : may_close s k ≡ true) → v ≡ [] → k ≡ 0 →
      ShowsBoard job (up_from k (closed_up n) (over s k)) (treed b (up G M v b.state.tree))
  up_main s b k v n o closes main zero_is =
      subst (λ s. ShowsBoard job s (treed b (up G M v b.state.tree))) (ap (λ x. up_from x (closed_up n) (over s k)) (sym zero_is))
      (subst (λ z. ShowsBoard job (over s k) (treed b (up G M z b.state.tree))) (sym main) (main_over job s b k v o closes makings main))

  closed_shows : (n : ℕ) (s : State) (b : Board G) (k : ℕ) (v : List ℕ) → OpenBoard job s b k v → k < n → ShowsBoard job (closed_up n s k) (treed b (up G M v b.state.tree))
  closed_shows zero s b k v o l = absurd (omega (arith, l))
  closed_shows (suc n) s b k v o l = ⊎_elim
      (λ e. subst (λ c. ShowsBoard job (cond c (up_from k (closed_up n) (over s k)) s) (treed b (up G M v b.state.tree))) (sym e) (⊎_elim
      (λ main. up_main s b k v n o e main (sym (main_number main)))
      (λ ends.
      let w = ends.0 in
      let c = ends.1 in
      let next = caller job s b k v o e makings w c ends.2 in
      let before = caller_before job s b k v o e makings w c ends.2 in
      let rest = closed_shows n (over s k) (treed b (edited G w (opened_up G M c) b.state.tree)) next w (caller_open job s b k v o e makings w c ends.2) (omega (arith, l, before)) in
      subst (λ t. ShowsBoard job (up_from k (closed_up n) (over s k)) (treed b t)) (sym (ap (λ z. up G M z b.state.tree) ends.2 ∙ up_step G M c w b.state.tree))
      (subst (λ s. ShowsBoard job s (treed b (up G M w (edited G w (opened_up G M c) b.state.tree))))
      (sym (up_at (closed_up n) (over s k) k next before (caller_is job s b k v o e makings w c ends.2))) rest))
      (way_ends v)))
      (λ e. subst (λ c. ShowsBoard job (cond c (up_from k (closed_up n) (over s k)) s) (treed b (up G M v b.state.tree))) (sym e) (still_open s b k v o e))
      (cases_Bool (may_close s k))
    where
      main_number : v ≡ [] → 0 ≡ k
      main_number e = (subst (λ z. HasAt job s o.who b.ways (IsIt job s o.who b.ways k) z [] 0 [] [] b.state.tree) e o.shows).0

pub closings_show : ClosingsShow
closings_show job s b k v o makings = closed_shows job makings (length s.operations) s b k v o (within job makings s b k v o)
