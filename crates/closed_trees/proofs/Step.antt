-- One operation is over: on the board that is left its caller may be over, or all shows.
use Rattle.std.proofs.Common.{◌≡◌, ◌<◌, ◌-◌, ◌++◌, ◌∷◌, ◌∙◌, ℕ, zero, suc, List, [], arith, filter, length, map, not, refl, subst, sym, true, append_assoc}
use Rattle.std.specs.Prelude.{All}
use Rattle.std.proofs.lemmas.Bool.{and_parts}
use Rattle.std.proofs.lemmas.List.Elements.{All-nil, All-weaker}
use Rattle.plain_values.specs.Points.{counted_from}
use Rattle.region_finder.specs.Listings.{listed_ops}
use Rattle.region_tree.specs.declared.tree.RootId.{RootId}
use Rattle.logical_map.specs.Maps.{is_live}
use Rattle.dependence_graph.specs.Knots.{knot_at, number}
use Rattle.task_code.specs.declared.job.Job.{Job}
use Rattle.board_rules.specs.Boards.{Operation as Node, closing, op}
use Rattle.board_rules.specs.Boards as tree
use Rattle.board_rules.specs.Ground.{Ground}
use Rattle.board_rules.specs.NumberedBoards.{Board}
use Rattle.board_rules.specs.RootNumbers.{made_in}
use Rattle.board_rules.specs.Running.{Machine}
use Rattle.regent_boards.specs.RegentMachine.{regent_ground}
use Rattle.code_boards.specs.Laws.{machine_of}
use Rattle.code_boards.specs.Views.{spaces_of}
use Rattle.board_terms.specs.Closings.{all_over, closed_all, how_closed, map_behind, may_close}
use Rattle.board_terms.specs.Closings as closings
use Rattle.board_terms.specs.Stages.{is_closing}
use Rattle.board_terms.specs.Stages as table
use Rattle.board_terms.specs.States.{State, operation_at}
use Rattle.board_trees.specs.Names.{AreMade}
use Rattle.board_trees.specs.Shows.{HoldsMap, Shows, ShowsBoard, needs_issued}
use Rattle.board_trees.specs.Stages.{Stands}
use Rattle.board_trees.specs.Waits.{Sibling, has_ended}
use Rattle.board_trees.proofs.Along.{not_above}
use Rattle.changed_trees.specs.Changes.{Change, IsAt, IsWider}
use Rattle.changed_trees.specs.Edits.{edited}
use Rattle.changed_trees.specs.Open.{HasAt, IsOpen, OpenBoard}
use Rattle.changed_trees.proofs.Edited.{has_edited}
use Rattle.changed_trees.proofs.Kept.{wider_itself}
use Rattle.closed_trees.proofs.Caller.{open_caller}
use Rattle.closed_trees.proofs.Found.{Calls, Ended, IsCaller, at_caller, called_by, ended_at, leads_still}
use Rattle.closed_trees.proofs.Graph.{Ends, ended_as, listed_stays}
use Rattle.closed_trees.proofs.Known.{has_known, open_known}
use Rattle.closed_trees.proofs.Mapped.{has_still, holds_still, open_still}
use Rattle.closed_trees.proofs.Over.{busy_at, closes_at, over_shows}
use Rattle.closed_trees.proofs.Places.{Alone, At, alone_at, alone_changes, family_changes, one_number, only}
use Rattle.closed_trees.proofs.Reached.{Leaving, Standing, ended_now, ends_so, not_ended}
use Rattle.closed_trees.proofs.Reached as reached
use Rattle.closed_trees.proofs.Roots.{IsFree, all_live, live_free, live_was}
use Rattle.closed_trees.proofs.Swept.{IsIt}
use Rattle.closed_trees.proofs.Trees.{opened_up, step_made, up_made}

-- the roots that are closed with an operation
abbrev pub gone_with : State → ℕ → List RootId
gone_with s zero = []
gone_with s (suc k) = (operation_at s (suc k)).frame.own

map_same : (s : State) (k : ℕ) → closed_all (gone_with s k) s.map ≡ map_behind s k
map_same s zero = refl
map_same s (suc k) = refl

module _ (job : Job) (s : State) (b : Board (regent_ground (spaces_of job.code))) (k : ℕ) (v : List ℕ) (o : OpenBoard job s b k v) (closes : may_close s k ≡ true) (makings : ℕ) where
  abbrev G : Ground
  G = regent_ground (spaces_of job.code)

  abbrev M : Machine G
  M = machine_of job makings

  abbrev T : Node G
  T = b.state.tree

  abbrev gone : List RootId
  gone = gone_with s k

  -- the roots are closed first
  abbrev m : State
  m = record s { map = closed_all gone s.map }

  closing_k : is_closing (table.stage_at s k) ≡ true
  closing_k = (and_parts (is_closing (table.stage_at s k)) (all_over s (operation_at s k).children) closes).0

  over_k : all_over s (operation_at s k).children ≡ true
  over_k = (and_parts (is_closing (table.stage_at s k)) (all_over s (operation_at s k).children) closes).1

  -- ---- where it stands

  ended_k : Ended job s o.who b.ways (IsIt job s o.who b.ways k) v
  ended_k = ended_at job s o.who b.ways (IsIt job s o.who b.ways k) v [] 0 [] [] T o.shows

  leaving : Leaving job m b.ways k v
  leaving = by_node ended_k.number_is ended_k.earlier ended_k.above ended_k.node ended_k.so
    where
      by_node : (i : ℕ) (earlier : List Sibling) (above : List RootId) (n : Node G) → IsIt job s o.who b.ways k v i earlier above n → Leaving job m b.ways k v
      by_node i earlier above (op D N y f ps st is) h =
          let h1 = subst (λ i. IsOpen job s o.who b.ways v i earlier above (op D N y f ps st is)) h.0 h.1 in
          let e = closes_at job s s.roots o.who (above ++ (operation_at s k).frame.own) (knot_at s.waits.knots k).stage (operation_at s k) N st h1.0.stands h1.0.going closing_k in
          record {
            at = h1.0.way_is;
            there = h1.0.knot;
            busy = busy_at job s s.roots o.who (above ++ (operation_at s k).frame.own) (knot_at s.waits.knots k).stage (operation_at s k) N e.0
                (subst (λ st. Stands job.code s.roots o.who (above ++ (operation_at s k).frame.own) s (knot_at s.waits.knots k).stage (operation_at s k) N st) e.1 h1.0.stands);
          }

  apart : (j : ℕ) → ¬ (j ≡ k) → All (IsFree gone) (operation_at s j).frame.own
  apart j n = by_number k refl
    where
      by_number : (x : ℕ) → k ≡ x → All (IsFree (gone_with s x)) (operation_at s j).frame.own
      by_number zero e = All-weaker (λ (r : RootId). r.0 < length s.roots) (IsFree []) (λ r l. All-nil (λ (q : RootId). ¬ (r ≡ q))) (operation_at s j).frame.own (o.own_made j)
      by_number (suc x) e = o.own_apart j (suc x) (λ q. n (q ∙ sym e))

  -- ---- the roots are closed

  shows_m : HasAt job m o.who b.ways (IsIt job m o.who b.ways k) v [] 0 [] [] T
  shows_m = has_still job s o.who b.ways gone (made_in G (machine_of job) T) o.made o.own_made k v leaving.at apart
      (IsIt job s o.who b.ways k) (IsIt job m o.who b.ways k) own v [] 0 [] [] T refl (All-nil (IsFree gone)) (All-nil (λ (r : RootId). r.0 < length s.roots)) o.shows
    where
      own : (w : List ℕ) (j : ℕ) (earlier : List Sibling) (above : List RootId) (n : Node G) → IsIt job s o.who b.ways k w j earlier above n → IsIt job m o.who b.ways k w j earlier above n
      own w j earlier above (op D N i f ps st is) h =
          let h1 = subst (λ j. IsOpen job s o.who b.ways w j earlier above (op D N i f ps st is)) h.0 h.1 in
          let e = closes_at job s s.roots o.who (above ++ (operation_at s k).frame.own) (knot_at s.waits.knots k).stage (operation_at s k) N st h1.0.stands h1.0.going closing_k in (
            h.0,
            subst (λ j. IsOpen job m o.who b.ways w j earlier above (op D N i f ps st is)) (sym h.0)
                (subst (λ st. IsOpen job m o.who b.ways w k earlier above (op D N i f ps st is)) (sym e.1)
                (open_still job s o.who b.ways gone w k earlier above D N i f ps e.0 is over_k (subst (λ st. IsOpen job s o.who b.ways w k earlier above (op D N i f ps st is)) e.1 h1))),
          )

  stand : Standing job m o.who b.ways T
  stand = record {
    rising = o.rising;
    leads = λ j way a. leads_still job s m.map s.waits way 0 j (o.leads j way a);
    sized = o.ways;
    knots = o.knots;
    makings = made_in G (machine_of job) T;
    made = o.made;
    own_made = o.own_made;
    known = has_known job m o.who b.ways (IsIt job m o.who b.ways k) (λ w i earlier above n h. open_known job m o.who b.ways w i earlier above n h.1) v [] 0 [] [] T shows_m;
  }

  -- ---- and then it is over

  abbrev u : State
  u = reached.u job m o.who b.ways T stand k v leaving (how_closed m k)

  same_state : u ≡ closings.over s k
  same_state = λ i. record u { map = map_same s k i }

  facts : Ends m.waits.knots u.waits.knots k (ended_as (how_closed m k))
  facts = ends_so job m o.who b.ways T stand k v leaving (how_closed m k)

  held : (root : ℕ) → is_live u.map root ≡ true → HoldsMap job u.map u.roots o.who b.state.map root
  held root e =
      let r : RootId = record { 0 = root } in
      holds_still job gone s.map s.roots o.who b.state.map r (live_free gone s.map r e) (o.held root (live_was gone s.map root e))

  free_first : All (IsFree gone) (operation_at s 0).frame.own
  free_first = by_number k
    where
      by_number : (x : ℕ) → All (IsFree (gone_with s x)) (operation_at s 0).frame.own
      by_number zero = All-weaker (λ (r : RootId). r.0 < length s.roots) (IsFree []) (λ r l. All-nil (λ (q : RootId). ¬ (r ≡ q))) (operation_at s 0).frame.own (o.own_made 0)
      by_number (suc x) = o.own_apart 0 (suc x) (λ q. absurd (omega (arith, q)))

  first : All (λ (r : RootId). is_live u.map r.0 ≡ true) (operation_at u 0).frame.own
  first = all_live gone s.map (operation_at s 0).frame.own free_first o.first

  listed : listed_ops u.waits.listing ≡ map number (filter (λ j. not (has_ended u.waits.knots j)) (counted_from 1 (length u.operations - 1)))
  listed = listed_stays m.waits k (how_closed m k) (counted_from 1 (length s.operations - 1)) facts.done
      (not_ended job m o.who b.ways T stand k v leaving (how_closed m k)) (ended_now job m o.who b.ways T stand k v leaving (how_closed m k)) o.listed

  knots : length u.waits.knots ≡ length u.operations
  knots = facts.size ∙ o.knots

  abbrev IsK : List ℕ → ℕ → List Sibling → List RootId → Node G → Type 0
  IsK = IsIt job m o.who b.ways k

  -- ---- main itself is over

  module _ (main : v ≡ []) where
    nobody : ¬ (0 < k)
    nobody l = absurd (omega (arith, l, (subst (λ z. HasAt job m o.who b.ways IsK z [] 0 [] [] T) main shows_m).0))

    main_change : Change job m u o.who o.who b.ways b.ways (Alone job m o.who b.ways T stand k v leaving (how_closed m k))
    main_change = alone_changes job m o.who b.ways T stand k v leaving (how_closed m k) nobody

    shows_main : Shows job u o.who b.ways [] 0 [] [] (tree.settle G M T)
    shows_main =
        let h = subst (λ z. HasAt job m o.who b.ways IsK z [] 0 [] [] T) main shows_m in
        let shown = over_shows job m o.who b.ways T stand k v leaving (Alone job m o.who b.ways T stand k v leaving (how_closed m k)) main_change
        (λ d z a. below d z (alone_at job m o.who b.ways T stand k v leaving (how_closed m k) nobody ((v ++ d ∷ []) ++ z) a)) makings [] [] [] (wider_itself u []) (All-nil (λ (r : RootId). r.0 < length s.roots)) T
        (subst (λ z. IsOpen job m o.who b.ways z k [] [] T) (sym main) (subst (λ y. IsOpen job m o.who b.ways [] y [] [] T) h.0 h.1)) closing_k over_k in
        subst (λ z. Shows job u o.who b.ways z 0 [] [] (tree.settle G M T)) main (subst (λ y. Shows job u o.who b.ways v y [] [] (tree.settle G M T)) (sym h.0) shown.0)
      where
        below : (d : ℕ) (z : List ℕ) → (v ++ d ∷ []) ++ z ≡ v → ⊥
        below d z e = not_above v d z (sym e ∙ append_assoc v (d ∷ []) z)

    pub main_over : ShowsBoard job (closings.over s k) (record b { state = record { tree = tree.settle G M T; map = b.state.map } })
    main_over = subst (λ u. ShowsBoard job u (record b { state = record { tree = tree.settle G M T; map = b.state.map } })) same_state (record {
      who = o.who;
      extents = o.extents;
      made = subst (AreMade (length s.roots) o.who) (sym (up_made G M (machine_of job) [] T)) o.made;
      regions = o.regions;
      held = held;
      rising = o.rising;
      first = first;
      own_made = o.own_made;
      own_apart = o.own_apart;
      shows = shows_main;
      leads = λ j way a. leads_still job s u.map u.waits way 0 j (o.leads j way a);
      ways = o.ways;
      knots = knots;
      listed = listed;
      claims = o.claims;
      turns = o.turns;
    })

  -- ---- its caller may be over

  module _ (w : List ℕ) (c : ℕ) (v_is : v ≡ w ++ c ∷ []) where
    calls : HasAt job m o.who b.ways (Calls job m o.who b.ways IsK o.own_made c) w [] 0 [] [] T
    calls = at_caller job m o.who b.ways IsK o.own_made c w [] 0 [] [] T (All-nil (λ (r : RootId). r.0 < length s.roots)) (subst (λ z. HasAt job m o.who b.ways IsK z [] 0 [] [] T) v_is shows_m)

    abbrev j : ℕ
    j = (ended_at job m o.who b.ways (Calls job m o.who b.ways IsK o.own_made c) w [] 0 [] [] T calls).number_is

    called : IsCaller job m o.who b.ways IsK o.own_made c k j w
    called =
        let e = ended_at job m o.who b.ways (Calls job m o.who b.ways IsK o.own_made c) w [] 0 [] [] T calls in
        called_by job m o.who b.ways IsK o.own_made c k (λ z i earlier above n h. h.0) w e.number_is e.earlier e.above e.node e.so

    abbrev g : Node G → Node G
    g = opened_up G M c

    same_needs : (n : Node G) → needs_issued job (g n) ≡ needs_issued job n
    same_needs (op D N i f ps st is) = refl

    abbrev Here : List ℕ → Type 0
    Here = At job m o.who b.ways T stand k v leaving (how_closed m k) j w c v_is called.at called.parent

    change : Change job m u o.who o.who b.ways b.ways Here
    change = family_changes job m o.who b.ways T stand k v leaving (how_closed m k) j w c v_is called.at called.parent

    within : (z : List ℕ) (i : ℕ) (earlier : List Sibling) (above : List RootId) (n : Node G) → Calls job m o.who b.ways IsK o.own_made c z i earlier above n → i < length m.operations
    within z i earlier above n h = (called_by job m o.who b.ways IsK o.own_made c k (λ z i earlier above n h. h.0) z i earlier above n h).within

    own : (z : List ℕ) (i : ℕ) (earlier : List Sibling) (above more : List RootId) (n : Node G) → w ≡ z → IsWider u above more → Calls job m o.who b.ways IsK o.own_made c z i earlier above n →
        IsIt job u o.who b.ways j z i earlier more (g n)
    own z i earlier above more n e wider h =
        let at = (called_by job m o.who b.ways IsK o.own_made c k (λ z i earlier above n h. h.0) z i earlier above n h).at in
        let same : i ≡ j = one_number job m o.who b.ways T stand k v leaving (how_closed m k) i j w (subst (λ z. IsAt job b.ways i z) (sym e) at) called.at in
        let later = called.later in
        let opened = open_caller job makings m o.who b.ways T stand k v leaving closing_k over_k j w c v_is called.at called.parent (λ q. absurd (omega (arith, q, later))) earlier above more wider h.0 n
        (subst (λ z. HasAt job m o.who b.ways IsK (c ∷ []) z j earlier above n) (sym e) (subst (λ i. HasAt job m o.who b.ways IsK (c ∷ []) z i earlier above n) same h.1)) in
        (same, subst (λ z. IsOpen job u o.who b.ways z i earlier more (g n)) e (subst (λ i. IsOpen job u o.who b.ways w i earlier more (g n)) (sym same) opened))

    shows_u : HasAt job u o.who b.ways (IsIt job u o.who b.ways j) w [] 0 [] [] (edited G w g T)
    shows_u = has_edited job g same_needs m u o.who o.who b.ways b.ways Here change (made_in G (machine_of job) T) o.made o.own_made w
        (only job m o.who b.ways T stand k v leaving (how_closed m k) j w c v_is called.at called.parent)
        (Calls job m o.who b.ways IsK o.own_made c) (IsIt job u o.who b.ways j) within own w [] 0 [] [] [] T refl (wider_itself u []) (All-nil (λ (r : RootId). r.0 < length s.roots)) calls

    pub caller : ℕ
    caller = j

    pub caller_is : (operation_at s k).parent ≡ number caller
    unfolding caller
    caller_is = called.parent

    pub caller_before : caller < k
    unfolding caller
    caller_before = called.later

    pub caller_open : OpenBoard job (closings.over s k) (record b { state = record { tree = edited G w (opened_up G M c) T; map = b.state.map } }) caller w
    unfolding caller
    caller_open = subst (λ u. OpenBoard job u (record b { state = record { tree = edited G w (opened_up G M c) T; map = b.state.map } }) j w) same_state (record {
      who = o.who;
      extents = o.extents;
      made = subst (AreMade (length s.roots) o.who) (sym (step_made G M (machine_of job) c w T)) o.made;
      regions = o.regions;
      held = held;
      rising = o.rising;
      first = first;
      own_made = o.own_made;
      own_apart = o.own_apart;
      shows = shows_u;
      leads = λ i way a. leads_still job s u.map u.waits way 0 i (o.leads i way a);
      ways = o.ways;
      knots = knots;
      listed = listed;
      claims = o.claims;
      turns = o.turns;
    })
