-- An open board, where one row changed and no child came.
use Rattle.std.proofs.Common.{◌≡◌, ◌<◌, ◌+◌, ◌-◌, ◌++◌, ◌∷◌, ◌∙◌, ℕ, zero, suc, List, [], ap, append-nil, arith, false, length, map, not, refl, subst, sym, true}
use Rattle.std.specs.Prelude.{All, filter, slice_get}
use Rattle.std.proofs.lemmas.List.{length-set}
use Rattle.std.proofs.lemmas.List.Elements.{All-nil}
use Rattle.plain_values.specs.Points.{counted_from}
use Rattle.region_finder.specs.Listings.{AreRising, listed_ops}
use Rattle.region_tree.specs.Trees.{RegionTree, node_at}
use Rattle.region_tree.specs.declared.tree.OpNumber.{OpNumber}
use Rattle.region_tree.specs.declared.tree.RootId.{RootId}
use Rattle.logical_map.specs.Maps.{LogicalMap, columns_of, is_live}
use Rattle.dependence_graph.specs.Entries.{Knot}
use Rattle.dependence_graph.specs.Knots.{number}
use Rattle.task_code.specs.declared.job.Job.{Job}
use Rattle.board_rules.specs.Boards.{Items, Operation as Node, child_op, no_item, op, said}
use Rattle.board_rules.specs.Ground.{Ground}
use Rattle.board_rules.specs.NumberedBoards.{Board, children_at, holds_claim, more_ways, without}
use Rattle.board_rules.specs.Processes.{Map}
use Rattle.board_rules.specs.RootNumbers.{made_in}
use Rattle.board_rules.specs.Running.{Machine}
use Rattle.regent_boards.specs.RegentMachine.{regent_ground}
use Rattle.code_boards.specs.Laws.{machine_of}
use Rattle.code_boards.specs.Views.{spaces_of}
use Rattle.board_terms.specs.declared.extent.Extent.{Extent}
use Rattle.board_terms.specs.declared.operation.Operation.{Operation}
use Rattle.board_terms.specs.States.{State, operation_at}
use Rattle.board_trees.specs.Names.{AreMade, name_of}
use Rattle.board_trees.specs.Shows.{HoldsMap, IsWithinRoot, Leads, Shows, ShowsBoard, is_claimed, needs_issued}
use Rattle.board_trees.specs.Waits.{Sibling, has_ended}
use Rattle.board_trees.proofs.Claims.{claim_elsewhere, claim_gone}
use Rattle.board_trees.proofs.Kept.{by_number}
use Rattle.changed_trees.specs.Changes.{Change, IsAt, IsWider}
use Rattle.changed_trees.specs.Edits.{edited}
use Rattle.changed_trees.specs.Given.{given_board, makings_before}
use Rattle.changed_trees.specs.Open.{Asked, HasAmong, HasAt, IsOpen, OpenBoard}
use Rattle.changed_trees.proofs.Below.{node_within}
use Rattle.changed_trees.proofs.Edited.{IsShown, all_shows, has_edited, shown_at}
use Rattle.changed_trees.proofs.Kept.{wider_itself}
use Rattle.changed_trees.proofs.One.{IsOngoing, one_change, one_changed, others, row_is, same_ended}
use Rattle.changed_trees.proofs.Walks.{OfAll, children_edited, made_edited}

-- what is known of the operation at a way tells something else of it
module _ (job : Job) (s : State) (who : ℕ → ℕ) (ways : List (List ℕ)) (B C : Asked job)
    (tells : (w : List ℕ) (j : ℕ) (earlier : List Sibling) (above : List RootId) (n : Node (regent_ground (spaces_of job.code))) → B w j earlier above n → C w j earlier above n) where
  mutual
    pub at_weaker : (way w : List ℕ) (j : ℕ) (earlier : List Sibling) (above : List RootId) (n : Node (regent_ground (spaces_of job.code))) →
        HasAt job s who ways B way w j earlier above n → HasAt job s who ways C way w j earlier above n
    at_weaker [] w j earlier above n h = tells w j earlier above n h
    at_weaker (c ∷ way) w j earlier above (op D N i f ps st is) h =
        (h.0, among_weaker c way w j 0 [] (above ++ (operation_at s j).frame.own) (operation_at s j).children is h.1)

    among_weaker : (c : ℕ) (way w : List ℕ) (j d : ℕ) (earlier : List Sibling) (roots : List RootId) (ks : List OpNumber) (is : Items (regent_ground (spaces_of job.code))) →
        HasAmong job s who ways B c way w j d earlier roots ks is → HasAmong job s who ways C c way w j d earlier roots ks is
    among_weaker c way w j d earlier roots ks no_item h = absurd h
    among_weaker c way w j d earlier roots ks (said t is) h = among_weaker c way w j d earlier roots ks is h
    among_weaker c way w j d earlier roots [] (child_op n is) h = absurd h
    among_weaker zero way w j d earlier roots (k ∷ ks) (child_op n is) h = (h.0, at_weaker way (w ++ d ∷ []) k.0 earlier roots n h.1, h.2)
    among_weaker (suc c) way w j d earlier roots (k ∷ ks) (child_op n is) h =
        (h.0, h.1, among_weaker c way w j (suc d) (earlier ++ record { op = k.0; needs = needs_issued job n } ∷ []) roots ks is h.2)

module _ (job : Job) (s : State) (b : Board (regent_ground (spaces_of job.code))) (h : ShowsBoard job s b) (k : ℕ) (v : List ℕ) (at : IsAt job b.ways k v)
    (tree : RegionTree) (roots : List Extent) (live : LogicalMap) (o : Operation) (x : Knot) (within : k < length s.operations) (there : k < length s.waits.knots)
    (ongoing : IsOngoing s tree roots live k o x within there) (parent : o.parent ≡ (operation_at s k).parent) (now : ℕ → ℕ)
    (nodes : (n : ℕ) → n < length s.tree.nodes → (n < length tree.nodes) × (node_at tree n ≡ node_at s.tree n))
    (names : (r : ℕ) → r < length s.roots → name_of roots now r ≡ name_of s.roots h.who r)
    (stay : (r : ℕ) → is_live s.map r ≡ true → is_live live r ≡ true)
    (fields : (r field : ℕ) → field < length (columns_of s.map r) → field < length (columns_of live r)) where
  abbrev G : Ground
  G = regent_ground (spaces_of job.code)

  abbrev K : ℕ → Machine G
  K = machine_of job

  abbrev pub u : State
  u = one_changed s tree roots live k o x

  pub change : Change job s u h.who now b.ways b.ways (λ w. v ≡ w)
  change = one_change s tree roots live k o x within there ongoing job h.who now b.ways v at parent nodes names stay fields

  abbrev Here : Asked job
  Here = IsShown job s h.who b.ways h.own_made k v

  abbrev pub OpenHere : Asked job
  OpenHere w j earlier above n = (j ≡ k) × IsOpen job u now b.ways w j earlier above n

  -- ---- what one row is to others

  pub at_row : (P : Operation → Type 0) → P o → ((j : ℕ) → P (operation_at s j)) → (j : ℕ) → P (operation_at u j)
  at_row P here all = by_number k (λ j. P (operation_at u j)) (subst P (sym (row_is s tree roots live k o x within there)) here)
      (λ j n. subst P (sym (others s tree roots live k o x j n)) (all j))

  module _ (children : o.children ≡ (operation_at s k).children) where
    children_same : (j : ℕ) → (operation_at u j).children ≡ (operation_at s j).children
    children_same = by_number k (λ j. (operation_at u j).children ≡ (operation_at s j).children)
        (ap (λ (y : Operation). y.children) (row_is s tree roots live k o x within there) ∙ children) (λ j n. ap (λ (y : Operation). y.children) (others s tree roots live k o x j n))

    leads_kept : (way : List ℕ) (j z : ℕ) → Leads job s j way z → Leads job u j way z
    leads_kept [] j z l = l
    leads_kept (c ∷ way) j z l = (l.0, ap (λ ks. slice_get ks c) (children_same j) ∙ l.1, leads_kept way l.0 z l.2)

    pub rising : (j : ℕ) → AreRising (operation_at u j).children
    rising = at_row (λ (y : Operation). AreRising y.children) (subst AreRising (sym children) (h.rising k)) (λ j. h.rising j)

    pub leads : (j : ℕ) (way : List ℕ) → IsAt job b.ways j way → Leads job u 0 way j
    leads j way e = leads_kept way 0 j (h.leads j way e)

    pub as_many : length b.ways ≡ length u.operations
    as_many = h.ways ∙ sym (length-set s.operations k o)

    pub knots : length u.waits.knots ≡ length u.operations
    knots = length-set s.waits.knots k x ∙ h.knots ∙ sym (length-set s.operations k o)

    pub listed : listed_ops u.waits.listing ≡ map number (filter (λ j. not (has_ended u.waits.knots j)) (counted_from 1 (length u.operations - 1)))
    listed = h.listed ∙ (λ i. map number (filter (λ j. not (sym (same_ended s tree roots live k o x within there ongoing j) i)) (counted_from 1 (sym (length-set s.operations k o) i - 1))))

    module _ (unclaimed : (seat : ℕ) → is_claimed job seat o.activity ≡ false) where
      pub claims : (j seat : ℕ) → holds_claim G K j seat (without G K k b.claims) ≡ is_claimed job seat (operation_at u j).activity
      claims j seat = by_number k (λ j. holds_claim G K j seat (without G K k b.claims) ≡ is_claimed job seat (operation_at u j).activity)
          (claim_gone job k b.claims seat ∙ sym (unclaimed seat) ∙ sym (ap (λ (y : Operation). is_claimed job seat y.activity) (row_is s tree roots live k o x within there)))
          (λ j n. claim_elsewhere job j k b.claims seat n ∙ h.claims j seat ∙ sym (ap (λ (y : Operation). is_claimed job seat y.activity) (others s tree roots live k o x j n))) j

    -- where something is known of the operation, and something else behind the change
    module _ (B C : Asked job) (known : HasAt job s h.who b.ways B v [] 0 [] [] b.state.tree)
        (shown : (w : List ℕ) (j : ℕ) (earlier : List Sibling) (above : List RootId) (n : Node G) → B w j earlier above n → Shows job s h.who b.ways w j earlier above n)
        (g : Node G → Node G) (needs : (n : Node G) → needs_issued job (g n) ≡ needs_issued job n) (d : ℕ)
        (makes : OfAll job s h.who b.ways B (λ n. made_in G K (g n) ≡ made_in G K n + d))
        (own : (w : List ℕ) (j : ℕ) (earlier : List Sibling) (above more : List RootId) (n : Node G) → v ≡ w → IsWider u above more → B w j earlier above n → C w j earlier more (g n)) where
      abbrev pub left : Node G
      left = edited G v g b.state.tree

      pub known_left : HasAt job u now b.ways C v [] 0 [] [] left
      known_left = has_edited job g needs s u h.who now b.ways b.ways (λ w. v ≡ w) change (makings_before job b k v) h.made h.own_made v
          (λ w e. ([], sym e ∙ sym (append-nil v))) B C
          (λ w j earlier above n y. node_within job s u h.who now b.ways b.ways (λ w. v ≡ w) change (makings_before job b k v) h.made h.own_made w j earlier above n (shown w j earlier above n y))
          own v [] 0 [] [] [] b.state.tree refl (wider_itself u []) (All-nil (λ (r : RootId). r.0 < length s.roots)) known

      module _ (made : AreMade (length roots) now (made_in G K b.state.tree + d)) where
        pub made_left : AreMade (length roots) now (made_in G K left)
        made_left = subst (λ n. AreMade (length roots) now n) (sym (made_edited job s h.who b.ways B g d makes v [] 0 [] [] b.state.tree known)) made

        module _ (m : Map G) (unclaimed : (seat : ℕ) → is_claimed job seat o.activity ≡ false) (extents : length roots ≡ tree.roots)
            (regions : (node : ℕ) → node < length tree.nodes → IsWithinRoot job tree roots node)
            (held : (root : ℕ) → is_live live root ≡ true → HoldsMap job live roots now m root)
            (first : All (λ (r : RootId). is_live live r.0 ≡ true) (operation_at u 0).frame.own)
            (own_made : (j : ℕ) → All (λ (r : RootId). r.0 < length roots) (operation_at u j).frame.own)
            (own_apart : (i j : ℕ) → ¬ (i ≡ j) → All (λ (r : RootId). All (λ (q : RootId). ¬ (r ≡ q)) (operation_at u j).frame.own) (operation_at u i).frame.own) where
          -- the board then, with any map that holds what the roots do
          abbrev pub then : Board G
          then = record { state = record { tree = left; map = m }; ways = b.ways; claims = without G K k b.claims; turns = b.turns }

          pub opens_with : ((w : List ℕ) (j : ℕ) (earlier : List Sibling) (above : List RootId) (n : Node G) → C w j earlier above n → OpenHere w j earlier above n) → OpenBoard job u then k v
          opens_with is_open = record {
            who = now;
            extents = extents;
            made = made_left;
            regions = regions;
            held = held;
            rising = rising;
            first = first;
            own_made = own_made;
            own_apart = own_apart;
            shows = at_weaker job u now b.ways C OpenHere is_open v [] 0 [] [] left known_left;
            leads = leads;
            ways = as_many;
            knots = knots;
            listed = listed;
            claims = claims unclaimed;
            turns = h.turns;
          }

          abbrev pub shows_with : ((w : List ℕ) (j : ℕ) (earlier : List Sibling) (above : List RootId) (n : Node G) → C w j earlier above n → Shows job u now b.ways w j earlier above n) → ShowsBoard job u then
          shows_with is_shown = record {
            who = now;
            extents = extents;
            made = made_left;
            regions = regions;
            held = held;
            rising = rising;
            first = first;
            own_made = own_made;
            own_apart = own_apart;
            shows = all_shows job u now b.ways C is_shown v [] 0 [] [] left known_left;
            leads = leads;
            ways = as_many;
            knots = knots;
            listed = listed;
            claims = claims unclaimed;
            turns = h.turns;
          }

    -- of what a segment makes of it
    module _ (g : Node G → Node G) (needs : (n : Node G) → needs_issued job (g n) ≡ needs_issued job n) (d : ℕ)
        (counts : OfAll job s h.who b.ways Here (λ n. children_at G K [] (g n) ≡ children_at G K [] n + 0))
        (makes : OfAll job s h.who b.ways Here (λ n. made_in G K (g n) ≡ made_in G K n + d))
        (own : (w : List ℕ) (j : ℕ) (earlier : List Sibling) (above more : List RootId) (n : Node G) → v ≡ w → IsWider u above more → Here w j earlier above n → OpenHere w j earlier more (g n)) where
      abbrev given : Board G
      given = given_board job b k v (edited G v g b.state.tree)

      here_at : HasAt job s h.who b.ways Here v [] 0 [] [] b.state.tree
      here_at = shown_at job s h.who b.ways h.own_made k v v [] 0 [] [] b.state.tree refl (All-nil (λ (r : RootId). r.0 < length s.roots)) (h.leads k v at) h.shows

      ways_same : given.ways ≡ b.ways
      ways_same =
          let none : children_at G K v given.state.tree - children_at G K v b.state.tree ≡ 0 =
          omega (arith, children_edited job s h.who b.ways Here g 0 counts v [] 0 [] [] b.state.tree here_at) in
          ap (λ y. b.ways ++ more_ways G K v (children_at G K v b.state.tree) y) none ∙ append-nil b.ways

      module _ (unclaimed : (seat : ℕ) → is_claimed job seat o.activity ≡ false) (extents : length roots ≡ tree.roots) (made : AreMade (length roots) now (made_in G K b.state.tree + d))
          (regions : (node : ℕ) → node < length tree.nodes → IsWithinRoot job tree roots node)
          (held : (root : ℕ) → is_live live root ≡ true → HoldsMap job live roots now given.state.map root)
          (first : All (λ (r : RootId). is_live live r.0 ≡ true) (operation_at u 0).frame.own)
          (own_made : (j : ℕ) → All (λ (r : RootId). r.0 < length roots) (operation_at u j).frame.own)
          (own_apart : (i j : ℕ) → ¬ (i ≡ j) → All (λ (r : RootId). All (λ (q : RootId). ¬ (r ≡ q)) (operation_at u j).frame.own) (operation_at u i).frame.own) where
        pub opens : OpenBoard job u given k v
        opens = subst (λ ways. OpenBoard job u (record given { ways = ways }) k v) (sym ways_same)
            (opens_with Here OpenHere here_at (λ w j earlier above n y. y.3) g needs d makes own made given.state.map unclaimed extents regions held first own_made own_apart (λ w j earlier above n y. y))

  -- ---- where the operation's own roots stay

  module _ (own : o.frame.own ≡ (operation_at s k).frame.own) where
    pub own_same : (j : ℕ) → (operation_at u j).frame.own ≡ (operation_at s j).frame.own
    own_same = by_number k (λ j. (operation_at u j).frame.own ≡ (operation_at s j).frame.own)
        (ap (λ (y : Operation). y.frame.own) (row_is s tree roots live k o x within there) ∙ own) (λ j n. ap (λ (y : Operation). y.frame.own) (others s tree roots live k o x j n))

    pub own_made_same : (j : ℕ) → All (λ (r : RootId). r.0 < length s.roots) (operation_at u j).frame.own
    own_made_same j = subst (λ rs. All (λ (r : RootId). r.0 < length s.roots) rs) (sym (own_same j)) (h.own_made j)

    pub own_apart_same : (i j : ℕ) → ¬ (i ≡ j) → All (λ (r : RootId). All (λ (q : RootId). ¬ (r ≡ q)) (operation_at u j).frame.own) (operation_at u i).frame.own
    own_apart_same i j n = subst (λ rs. All (λ (r : RootId). All (λ (q : RootId). ¬ (r ≡ q)) (operation_at u j).frame.own) rs) (sym (own_same i))
        (subst (λ rs. All (λ (r : RootId). All (λ (q : RootId). ¬ (r ≡ q)) rs) (operation_at s i).frame.own) (sym (own_same j)) (h.own_apart i j n))
