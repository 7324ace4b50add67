-- A partition is made of a region: the operation has its parts, which are regions of the tree.
use Rattle.std.proofs.Common.{◌≡◌, ◌<◌, ◌≤◌, ◌-◌, ◌++◌, ◌∷◌, ◌∙◌, ◌&&◌, ◌||◌, ⊎_elim, ℕ, suc, Bool, List, Some, [], ap, append-nil, append_assoc, arith, cond, false, length, map, not, refl, set, subst, sym, true}
use Rattle.std.specs.Prelude.{All, get_or}
use Rattle.std.specs.List.{list_all}
use Rattle.std.proofs.lemmas.Bool.{and_from, and_parts, cases_Bool, cases_lt}
use Rattle.std.proofs.lemmas.List.{get_or-append_right, get_or-set_same, get_or_append_left, length-append, length-set, set-set}
use Rattle.std.proofs.lemmas.List.Elements.{All-cons, All-get_or, All-nil}
use Rattle.plain_values.specs.Points.{has}
use Rattle.region_tree.specs.Entries.{TreeNode}
use Rattle.region_tree.specs.Paths.{child_number}
use Rattle.region_tree.specs.Requirements.{Requirement}
use Rattle.region_tree.specs.Trees.{RegionTree, children, no_node, node_at, partition_nodes, partition_of, points_of_content, set_at, with_partition}
use Rattle.region_tree.specs.declared.tree.RootId.{RootId}
use Rattle.logical_map.specs.Maps.{is_live}
use Rattle.dependence_graph.specs.declared.stage.Waiting.TheVariants as graph
use Rattle.task_code.specs.declared.job.Job.{Job}
use Rattle.machine_terms.specs.Makes.{are_apart, is_sound, pushed, region_with}
use Rattle.machine_terms.specs.Segments.{frame_after, segment, stop_of}
use Rattle.machine_terms.specs.declared.frame.Before.{Before}
use Rattle.machine_terms.specs.declared.frame.Frame.{Frame}
use Rattle.machine_terms.specs.declared.outcome.Made.TheVariants as made
use Rattle.machine_terms.specs.declared.outcome.Yield.{Yield}
use Rattle.machine_terms.specs.declared.outcome.Yield.TheVariants as yield
use Rattle.machine_terms.specs.declared.value.PartitionValue.{PartitionValue}
use Rattle.machine_terms.specs.declared.value.RegionValue.{RegionValue}
use Rattle.machine_terms.specs.declared.value.Value.TheVariants as value
use Rattle.board_rules.specs.Boards.{Items, Operation as Node, Wait as BoardWait, at_fault, closing, idle, nothing, op, out}
use Rattle.board_rules.specs.Boards as tree
use Rattle.board_rules.specs.Ground.{Ground}
use Rattle.board_rules.specs.NumberedBoards.{Board}
use Rattle.board_rules.specs.Running.{After as BoardAfter, Element, Machine}
use Rattle.regent_boards.specs.Frames as board
use Rattle.regent_boards.specs.RegentMachine.{pushed_on, regent_ground}
use Rattle.segment_renaming.specs.Renaming.{frame_to, region_to, value_to, yield_to}
use Rattle.segment_renaming.specs.Resuming.{with_partition as segment_partition}
use Rattle.segment_renaming.proofs.Openings.{partitions_renamed}
use Rattle.segment_regions.specs.Values.{YieldHas}
use Rattle.code_boards.specs.Laws.{machine_of}
use Rattle.code_boards.specs.Views.{region_out, spaces_of}
use Rattle.order_boards.proofs.Frames.{partition_seen}
use Rattle.order_boards.proofs.Resumed.{sound_same}
use Rattle.board_terms.specs.declared.claim.Claim.{Claim}
use Rattle.board_terms.specs.declared.operation.Activity.TheVariants as activity
use Rattle.board_terms.specs.declared.operation.Ending.TheVariants as ending
use Rattle.board_terms.specs.declared.operation.Operation.{Operation}
use Rattle.board_terms.specs.declared.operation.Wait.TheVariants as wait
use Rattle.board_terms.specs.Gives.{behind_segment, ended_by, frame_left, parked_for, yielded}
use Rattle.board_terms.specs.Makes.{children_from, is_here, partition_made}
use Rattle.board_terms.specs.States.{State, no_extent, no_operation, operation_at, with_operation}
use Rattle.board_trees.specs.Frames.{HasPlaces, IsPlaced}
use Rattle.board_trees.specs.Names.{IsNaming, named}
use Rattle.board_trees.specs.Shows.{IsWithinRoot, Shows, ShowsBoard}
use Rattle.board_trees.specs.Waits.{Sibling}
use Rattle.board_trees.proofs.Named.{named_all}
use Rattle.board_trees.proofs.Places.{placed_is_here}
use Rattle.given_trees.specs.Segments.{AreLeft}
use Rattle.changed_trees.specs.Changes.{IsAt, IsWider}
use Rattle.changed_trees.specs.Given.{Opens, makings_before, yielded_by}
use Rattle.yielded_trees.proofs.Found.{known_out}
use Rattle.yielded_trees.proofs.Out.{given_is, has_begun, leaves_places, names_below, own_stays}
use Rattle.yielded_trees.proofs.Trees.{with_text}
use Rattle.ended_trees.proofs.Ending.{EndsSo, ended_opens}
use Rattle.ended_trees.proofs.Ends.{changed_again}
use Rattle.made_trees.specs.Laws.{PartitionsOpen}
use Rattle.made_trees.proofs.Higher.{StandsWell, stands_with_partition}
use Rattle.made_trees.proofs.Parts.{IsWithinExtents, children_placed, children_within}
use Rattle.made_trees.proofs.Going.{Goes, goes_open, left_alike, named_before, seen_left, u}

-- ---- on the table and in the tree

module _ (job : Job) (s : State) (b : Board (regent_ground (spaces_of job.code))) (h : ShowsBoard job s b) (k : ℕ) (v : List ℕ) (at : IsAt job b.ways k v)
    (claim : Claim) (before : Before) (act : (operation_at s k).activity ≡ activity.Out claim before) (r : RegionValue) (sets : List (List ℕ)) (disjoint : Bool)
    (makes : (segment before).ends ≡ yield.Make (made.Partition r sets disjoint)) where
  abbrev G : Ground
  G = regent_ground (spaces_of job.code)

  abbrev makings : ℕ
  makings = makings_before job b k v

  abbrev M : Machine G
  M = machine_of job makings

  abbrev g : Frame
  g = (stop_of before).machine.frame

  goes : (segment before).frame ≡ Some g
  goes = ap (λ y. frame_after y g) makes

  abbrev p : ℕ
  p = length s.tree.nodes

  abbrev divided : TreeNode
  divided = node_at s.tree r.node.0

  abbrev new_nodes : List TreeNode
  new_nodes = partition_nodes divided r.node.0 p sets disjoint

  abbrev regions : RegionTree
  regions = with_partition s.tree r.node.0 sets disjoint

  abbrev new_value : PartitionValue
  new_value = record { root = r.root; disjoint = disjoint; children = children_from r.root p 0 sets }

  abbrev q : Frame
  q = pushed (value.Partition new_value) g

  abbrev none : List RootId
  none = []

  abbrev own_is_kept : g.own ≡ (operation_at s k).frame.own
  own_is_kept = own_stays job s b h k v at claim before act g goes

  own_is : q.own ≡ (operation_at s k).frame.own ++ none
  own_is = own_is_kept ∙ sym (append-nil (operation_at s k).frame.own)

  nodes : (n : ℕ) → n < length s.tree.nodes → (n < length regions.nodes) × (node_at regions n ≡ node_at s.tree n)
  nodes n l = (omega (arith, l, length-append s.tree.nodes new_nodes), get_or_append_left s.tree.nodes new_nodes no_node n l)

  there_none : All (λ (y : RootId). is_live s.map y.0 ≡ true) none
  there_none = All-nil (λ (y : RootId). is_live s.map y.0 ≡ true)

  abbrev name : ℕ → ℕ
  name = named_all s.roots h.who makings h.made 0

  abbrev named_region : board.Region
  named_region = region_out (region_to (named name) r)

  abbrev pushed_there : ℕ → board.Frame → board.Frame
  pushed_there i f = pushed_on (spaces_of job.code) makings i (board.new_partition named_region sets disjoint) f

  abbrev region_of : Yield → RegionValue
  region_of (yield.Make (made.Partition y zs d)) = y
  region_of _ = r

  -- ---- the region is one of the tree

  placed : IsPlaced s.tree r
  placed = known_out job s b h k v at claim before act
      (λ earlier above D N i f ps w d is below x. subst (λ y. YieldHas (HasPlaces s.tree) y) makes (leaves_places job s b h k v at claim before act earlier above D N i f ps w d is below x).yields)

  points_are : set_at s.tree r.node.0 ≡ r.points
  points_are = (placed_is_here s.tree r placed).1

  divided_made : IsWithinRoot job s.tree s.roots r.node.0
  divided_made = h.regions r.node.0 placed.there

  -- ---- a frame's nodes aren't named

  children_away : (other : ℕ → ℕ) (c : ℕ) (zs : List (List ℕ)) → map (region_to (named other)) (map (region_with r.root.0) zs) ≡ map (region_to (named other)) (children_from r.root p c zs)
  children_away other c [] = refl
  children_away other c (xs ∷ zs) = ap (λ ys. region_to (named other) (region_with r.root.0 xs) ∷ ys) (children_away other (suc c) zs)

  frame_away : (other : ℕ → ℕ) → frame_to (named other) (segment_partition r sets disjoint g) ≡ frame_to (named other) q
  frame_away other = λ i. record (frame_to (named other) q) {
    stack = value.Partition (record { root = record { 0 = other r.root.0 }; disjoint = disjoint; children = children_away other 0 sets i }) ∷ map (value_to (named other)) g.stack;
  }

  module _ (sound : is_sound (set_at s.tree r.node.0) sets disjoint ≡ true) where
    abbrev then : State
    then = u job s b h k v at claim before act g goes regions s.roots s.map h.who q none own_is nodes (λ n l. refl) (λ n l. l) (λ n f l. l) there_none

    sound_there : M.sound (board.new_partition named_region sets disjoint) ≡ true
    sound_there = sound_same (spaces_of job.code) (region_to (named name) r) sets disjoint ∙ ap (λ ys. is_sound ys sets disjoint) (sym points_are) ∙ sound

    module _ (earlier : List Sibling) (above more : List RootId) (D N : List Requirement) (i : ℕ) (f : board.Frame) (ps : List (Element G)) (w : BoardWait G) (d : List (Element G)) (is : Items G)
        (below : All (λ (r : RootId). r.0 < length s.roots) above) (wider : IsWider then above more)
        (x : Shows job s h.who b.ways v k earlier above (op D N i f ps (out w d) is)) where
      abbrev met : board.Frame
      met = tree.met_by G M w f (tree.awaited G M w is)

      abbrev a : BoardAfter G
      a = M.segment met (ps ++ d)

      abbrev roots_here : List RootId
      roots_here = above ++ (operation_at s k).frame.own

      naming_here : IsNaming s.roots h.who roots_here name
      naming_here = names_below job s b h k v at claim before act above below

      left : AreLeft job s h.who roots_here (operation_at s k) N met (segment before) a
      left = left_alike job s b h k v at claim before act g goes regions s.roots s.map h.who q none own_is nodes (λ n l. refl) (λ n l. l) (λ n f l. l) there_none earlier above D N i f ps w d is below x

      old_name : (other : ℕ → ℕ) → IsNaming s.roots h.who (more ++ q.own) other → IsNaming s.roots h.who roots_here other
      old_name = named_before job s b h k v at claim before act g goes regions s.roots s.map h.who q none own_is nodes (λ n l. refl) (λ n l. l) (λ n f l. l) there_none above more below wider

      same_region : (other : ℕ → ℕ) → IsNaming s.roots h.who (more ++ q.own) other → region_to (named name) r ≡ region_to (named other) r
      same_region other n = ap (λ y. region_of (yield_to (named name) y)) (sym makes) ∙ ap region_of (left.alike name other naming_here (old_name other n))
          ∙ ap (λ y. region_of (yield_to (named other) y)) makes

      partition_goes : Goes job s b h k v at claim before act g goes regions s.roots s.map h.who q none own_is nodes (λ n l. refl) (λ n l. l) (λ n f l. l) there_none [] (λ N. N) pushed_there
          earlier above more D N i f ps w d is
      partition_goes =
          let seen = seen_left job s b h k v at claim before act g goes regions s.roots s.map h.who q none own_is nodes (λ n l. refl) (λ n l. l) (λ n f l. l) there_none earlier above D N i f ps w d is below x more wider in
          record {
            given = given_is job s b h k v at claim before act earlier above D N i f ps w d is below x (yield.Make (made.Partition r sets disjoint)) makes
                ∙ ap (λ c. cond {A = tree.Stepped G (Node G)} c (record { left = op D N (suc i) (pushed_there i a.frame) a.parts (idle nothing) (with_text job is a.text); effects = [] })
                (record { left = op D N i a.frame [] (closing (at_fault G.broken)) (with_text job is a.text); effects = [] })) sound_there;
            own = λ other n. left.own other (old_name other n) ∙ ap (map (λ (r : RootId). other r.0)) (sym own_is_kept);
            seen = record {
              frame = λ other n. partition_seen job.code makings i named_region sets disjoint a.frame
                  ∙ (λ j. segment_partition (same_region other n j) sets disjoint (seen.frame other n j))
                  ∙ partitions_renamed (named other) refl r sets disjoint g
                  ∙ frame_away other;
              needs = seen.needs;
              required = seen.required;
              parts = seen.parts;
              held = seen.held;
              fitting = seen.fitting;
              once = seen.once;
              placed = record {
                slots = seen.placed.slots;
                stack = All-cons (HasPlaces regions) (value.Partition new_value) g.stack parts_placed seen.placed.stack;
                needs = seen.placed.needs;
              };
              there = seen.there;
              fields = seen.fields;
            };
          }
        where
          first_parts : length (s.tree.nodes ++ partition_of divided r.node.0 disjoint (length sets) ∷ []) ≡ child_number p 0
          first_parts = omega (arith, length-append s.tree.nodes (partition_of divided r.node.0 disjoint (length sets) ∷ []))

          parts_placed : All (IsPlaced regions) (children_from r.root p 0 sets)
          parts_placed = subst (λ ns. All (IsPlaced (record { roots = s.tree.roots; nodes = ns })) (children_from r.root p 0 sets))
              (append_assoc s.tree.nodes (partition_of divided r.node.0 disjoint (length sets) ∷ []) (children divided p 0 sets))
              (children_placed r.root divided p placed.root s.tree.roots (s.tree.nodes ++ partition_of divided r.node.0 disjoint (length sets) ∷ []) 0 sets first_parts)

    -- ---- the board

    new_within : All (IsWithinExtents s.roots) new_nodes
    new_within = All-cons (IsWithinExtents s.roots) (partition_of divided r.node.0 disjoint (length sets)) (children divided p 0 sets)
        (record { made = divided_made.made; below = All-nil (λ q. q < (get_or s.roots divided.root no_extent).count) })
        (children_within r.root divided p placed.root s.roots divided_made.made (set_at s.tree r.node.0) divided_made.below 0 sets
        (and_parts (list_all (λ xs. list_all (has (set_at s.tree r.node.0)) xs) sets) (not disjoint || are_apart sets) sound).0)

    higher : (n : ℕ) → n < length regions.nodes → StandsWell regions n
    higher = stands_with_partition s.tree r.node.0 sets disjoint (λ n l. (h.regions n l).higher) placed.there r.points placed.points
        (and_parts (list_all (λ xs. list_all (has (set_at s.tree r.node.0)) xs) sets) (not disjoint || are_apart sets) sound).0

    within_roots : (n : ℕ) → n < length regions.nodes → IsWithinRoot job regions s.roots n
    within_roots n l = ⊎_elim old new (cases_lt n p)
      where
        old : n < p → IsWithinRoot job regions s.roots n
        old e =
            let was = h.regions n e in
            let same = (nodes n e).1 in
            record {
              made = subst (λ (x : TreeNode). x.root < length s.roots) (sym same) was.made;
              below = subst (λ (x : TreeNode). All (λ p. p < (get_or s.roots x.root no_extent).count) (points_of_content x.content)) (sym same) was.below;
              higher = higher n l;
            }

        new : p ≤ n → IsWithinRoot job regions s.roots n
        new e =
            let found : node_at regions n ≡ get_or new_nodes (n - p) no_node = get_or-append_right s.tree.nodes new_nodes p n no_node refl e in
            let here = All-get_or (IsWithinExtents s.roots) new_nodes (n - p) no_node (omega (arith, l, length-append s.tree.nodes new_nodes, e)) new_within in
            record {
              made = subst (λ (x : TreeNode). x.root < length s.roots) (sym found) here.made;
              below = subst (λ (x : TreeNode). All (λ p. p < (get_or s.roots x.root no_extent).count) (points_of_content x.content)) (sym found) here.below;
              higher = higher n l;
            }

    table_sound : (is_here s.tree r && is_sound (set_at s.tree r.node.0) sets disjoint) ≡ true
    table_sound = and_from (is_here s.tree r) (is_sound (set_at s.tree r.node.0) sets disjoint) (placed_is_here s.tree r placed).0 sound

    yields : yielded_by job s k before ≡ then
    yields =
        let o = behind_segment (operation_at s k) (segment before) in
        let with_it = λ (x : Operation). record x { frame = pushed (value.Partition new_value) x.frame } in
        let there = (has_begun job s b h k v at claim before act).within in
        let build = λ (os : List Operation). record s { tree = regions; operations = os } in
        let row : operation_at (with_operation s k o) k ≡ o = get_or-set_same s.operations k o no_operation there in
        let again : operation_at (build (set (set s.operations k o) k (with_it o))) k ≡ with_it o =
        get_or-set_same (set s.operations k o) k (with_it o) no_operation (subst (λ n. k < n) (sym (length-set s.operations k o)) there) in
        ap (yielded job.code job.turns (with_operation s k o) k) makes
        ∙ ap (λ c. cond c (parked_for (partition_made r sets disjoint (with_operation s k o) k) k wait.Nothing graph.Nothing) (ended_by (with_operation s k o) k ending.Broken)) table_sound
        ∙ (λ j. parked_for (build (set (set s.operations k o) k (with_it (row j)))) k wait.Nothing graph.Nothing)
        ∙ (λ j. record (parked_for (build (set (set s.operations k o) k (with_it o))) k wait.Nothing graph.Nothing) {
          operations = set (set (set s.operations k o) k (with_it o)) k (record (again j) { wait = wait.Nothing });
        })
        ∙ (λ j. record (parked_for (build (set (set s.operations k o) k (with_it o))) k wait.Nothing graph.Nothing) {
          operations = (set-set (set s.operations k o) k (with_it o) (record (with_it o) { wait = wait.Nothing })
              ∙ set-set s.operations k o (record (with_it o) { wait = wait.Nothing })) j;
        })
        ∙ (λ j. record then {
          operations = set s.operations k (record o { frame = pushed (value.Partition new_value) (frame_left (operation_at s k).frame (goes j)); wait = wait.Nothing });
        })

    partition_opens : Opens job b k v s before
    partition_opens = goes_open job s b h k v at claim before act g goes regions s.roots s.map h.who q none own_is nodes (λ n l. refl) (λ n l. l) (λ n f l. l) there_none [] (λ N. N) pushed_there partition_goes
        h.extents (record { below = λ r l. omega (arith, h.made.below r l); rising = h.made.rising }) within_roots h.held
        (All-nil (λ (r : RootId). r.0 < length s.roots)) (λ r l. l) (All-nil (λ (r : RootId). (c : ℕ) → c < length s.roots → ¬ (r.0 ≡ c))) yields

  -- ---- sets that leave the region, or break the flag

  module _ (unsound : is_sound (set_at s.tree r.node.0) sets disjoint ≡ false) where
    abbrev broken_row : Operation
    broken_row = record (behind_segment (operation_at s k) (segment before)) { parts = []; activity = activity.Closing ending.Broken }

    unsound_there : M.sound (board.new_partition named_region sets disjoint) ≡ false
    unsound_there = sound_same (spaces_of job.code) (region_to (named name) r) sets disjoint ∙ ap (λ ys. is_sound ys sets disjoint) (sym points_are) ∙ unsound

    table_unsound : (is_here s.tree r && is_sound (set_at s.tree r.node.0) sets disjoint) ≡ false
    table_unsound = ap (λ b. is_here s.tree r && b) unsound ∙ never (is_here s.tree r)
      where
        never : (b : Bool) → (b && false) ≡ false
        never true = refl
        never false = refl

    breaks : (earlier : List Sibling) (above : List RootId) (D N : List Requirement) (i : ℕ) (f : board.Frame) (ps : List (Element G)) (w : BoardWait G) (d : List (Element G)) (is : Items G) →
        All (λ (r : RootId). r.0 < length s.roots) above → Shows job s h.who b.ways v k earlier above (op D N i f ps (out w d) is) →
        EndsSo job s b h k v at claim before act ending.Broken s.map broken_row D N i f ps w d is
    breaks earlier above D N i f ps w d is below x =
        let met = tree.met_by G M w f (tree.awaited G M w is) in
        let a = M.segment met (ps ++ d) in
        record {
          ending = at_fault board.broken;
          effects = [];
          behind_is = given_is job s b h k v at claim before act earlier above D N i f ps w d is below x (yield.Make (made.Partition r sets disjoint)) makes
              ∙ ap (λ c. cond {A = tree.Stepped G (Node G)} c (record { left = op D N (suc i) (pushed_there i a.frame) a.parts (idle nothing) (with_text job is a.text); effects = [] })
              (record { left = op D N i a.frame [] (closing (at_fault G.broken)) (with_text job is a.text); effects = [] })) unsound_there;
          ends = tt;
          held = h.held;
        }

    breaks_open : Opens job b k v s before
    breaks_open = ended_opens job s b h k v at claim before act ending.Broken s.map broken_row
        (record {
          activity_is = refl;
          own = ap (λ x. (frame_left (operation_at s k).frame x).own) goes ∙ own_is_kept;
          said_is = refl;
          children = refl;
          parent = refl;
        })
        (record { live_stays = λ r l. l; fields_stay = λ r field l. l }) breaks
        (ap (yielded job.code job.turns (with_operation s k (behind_segment (operation_at s k) (segment before))) k) makes
        ∙ ap (λ c. cond c (parked_for (partition_made r sets disjoint (with_operation s k (behind_segment (operation_at s k) (segment before))) k) k wait.Nothing graph.Nothing)
        (ended_by (with_operation s k (behind_segment (operation_at s k) (segment before))) k ending.Broken)) table_unsound
        ∙ changed_again s s.map k (behind_segment (operation_at s k) (segment before)) ending.Broken (has_begun job s b h k v at claim before act).within)

  partition_yields : Opens job b k v s before
  partition_yields = ⊎_elim partition_opens breaks_open (cases_Bool (is_sound (set_at s.tree r.node.0) sets disjoint))

pub partitions_open : PartitionsOpen
partitions_open job s b h k v at claim before act is = partition_yields job s b h k v at claim before act is.0 is.1 is.2 is.3
