-- A root is made: the operation has its region and needs it, and its zeros are on the map.
use Rattle.std.proofs.Common.{◌≡◌, ◌<◌, ◌≤◌, ◌==◌, ◌+◌, ◌++◌, ◌∷◌, ◌∙◌, ⊎_elim, ℕ, suc, zero, Bool, List, Some, [], ap, arith, cond, false, length, map, refl, set, subst, sym, true}
use Rattle.std.specs.Prelude.{All, get_or}
use Rattle.std.specs.List.{Contains}
use Rattle.std.proofs.lemmas.Bool.{cases_lt}
use Rattle.std.proofs.lemmas.List.{get_or-set_same, get_or_append_left, length-append, length-set, map-append, set-set}
use Rattle.std.proofs.lemmas.List.Elements.{All-append, All-contains, All-contains_itself, All-cons, All-head, All-nil, All-weaker, Contains-append_right}
use Rattle.std.proofs.Math.Seq.{get_or-append_seam}
use Rattle.plain_values.specs.Points.{counted_from, points}
use Rattle.lane_kernels.specs.declared.numbers.Mode.TheVariants.{Write}
use Rattle.region_tree.specs.Entries.{TreeNode}
use Rattle.region_tree.specs.Needs.{IsNeed, requirement_of, requirements_of}
use Rattle.region_tree.specs.Requirements.{Requirement}
use Rattle.region_tree.specs.Trees.{RegionTree, is_region, no_node, node_at, points_of_content, root_at, set_at, with_root as tree_with_root}
use Rattle.region_tree.specs.declared.content.Content.TheVariants as content
use Rattle.region_tree.specs.declared.needs.Need.{Need}
use Rattle.region_tree.specs.declared.tree.RootId.{RootId}
use Rattle.logical_map.specs.Maps.{LogicalMap, columns_of, is_live, opened}
use Rattle.dependence_graph.specs.declared.stage.Waiting.TheVariants as graph
use Rattle.task_code.specs.declared.job.Job.{Job}
use Rattle.machine_terms.specs.Contents.{kinds_of}
use Rattle.machine_terms.specs.Makes.{fields_needed, root_needs, root_requirements}
use Rattle.machine_terms.specs.Opening.{with_points}
use Rattle.machine_terms.specs.Segments.{frame_after, segment, stop_of}
use Rattle.machine_terms.specs.declared.frame.Before.{Before}
use Rattle.machine_terms.specs.declared.frame.Frame.{Frame}
use Rattle.machine_terms.specs.declared.outcome.Made.TheVariants as made
use Rattle.machine_terms.specs.declared.outcome.Yield.TheVariants as yield
use Rattle.machine_terms.specs.declared.value.Value.TheVariants as value
use Rattle.board_rules.specs.Boards.{Items, Wait as BoardWait, op, out}
use Rattle.board_rules.specs.Boards as tree
use Rattle.board_rules.specs.Ground.{Ground}
use Rattle.board_rules.specs.NumberedBoards.{Board}
use Rattle.board_rules.specs.Processes.{Effect}
use Rattle.board_rules.specs.Running.{Element, Machine}
use Rattle.regent_boards.specs.Frames as board
use Rattle.regent_boards.specs.RegentMachine.{fields_of, needs_of_root as board_needs, pushed_on, regent_ground, root_of, zeros_of}
use Rattle.segment_renaming.specs.Renaming.{frame_to, need_to}
use Rattle.segment_renaming.specs.Resuming.{with_root}
use Rattle.segment_renaming.proofs.Openings.{roots_renamed}
use Rattle.code_boards.specs.Laws.{machine_of}
use Rattle.code_boards.specs.Views.{spaces_of}
use Rattle.order_boards.proofs.Frames.{requirements_made, root_seen}
use Rattle.order_boards.proofs.Needs as order
use Rattle.board_terms.specs.declared.claim.Claim.{Claim}
use Rattle.board_terms.specs.declared.extent.Extent.{Extent}
use Rattle.board_terms.specs.declared.operation.Activity.TheVariants as activity
use Rattle.board_terms.specs.declared.operation.Operation.{Operation}
use Rattle.board_terms.specs.declared.operation.Wait.TheVariants as wait
use Rattle.board_terms.specs.Gives.{behind_segment, frame_left, parked_for, yielded}
use Rattle.board_terms.specs.Makes.{frame_with_root, needs_of_root, region_at}
use Rattle.board_terms.specs.States.{State, no_extent, no_operation, operation_at, with_operation}
use Rattle.board_trees.specs.Frames.{HasPlaces}
use Rattle.board_trees.specs.Names.{IsNaming, name_of, named, pointed, requirement_named}
use Rattle.board_trees.specs.Shows.{IsWithinRoot, Shows, ShowsBoard}
use Rattle.board_trees.specs.Waits.{Sibling}
use Rattle.board_trees.proofs.Named.{named_all}
use Rattle.changed_trees.specs.Changes.{IsAt, IsWider}
use Rattle.changed_trees.specs.Given.{Opens, makings_before, yielded_by}
use Rattle.yielded_trees.proofs.Out.{given_is, has_begun, own_stays}
use Rattle.made_trees.proofs.Going.{Goes, goes_open, left_alike, named_before, seen_left, u}
use Rattle.made_trees.proofs.Higher.{StandsWell, stands_with_root}
use Rattle.made_trees.proofs.Roots as roots
use Rattle.made_trees.specs.Laws.{RootsOpen}

-- ---- what is needed of no points isn't

pointed_same : (N : List Requirement) → pointed N ≡ order.pointed N
pointed_same [] = refl
pointed_same (r ∷ rs) = ap (with_points r.points r) (pointed_same rs)

pointed_append : (a b : List Requirement) → pointed (a ++ b) ≡ pointed a ++ pointed b
pointed_append a b = pointed_same (a ++ b) ∙ order.pointed_append a b ∙ (λ i. sym (pointed_same a) i ++ sym (pointed_same b) i)

-- ---- points of a new root

counted_below : (first n : ℕ) → All (λ p. p < first + n) (counted_from first n)
counted_below first zero = All-nil (λ p. p < first + 0)
counted_below first (suc n) = All-cons (λ p. p < first + suc n) first (counted_from (suc first) n) (omega arith)
    (All-weaker (λ p. p < suc first + n) (λ p. p < first + suc n) (λ p l. omega (arith, l)) (counted_from (suc first) n) (counted_below (suc first) n))

module _ (job : Job) (s : State) (b : Board (regent_ground (spaces_of job.code))) (h : ShowsBoard job s b) (k : ℕ) (v : List ℕ) (at : IsAt job b.ways k v)
    (claim : Claim) (before : Before) (act : (operation_at s k).activity ≡ activity.Out claim before) (size space : ℕ) (makes : (segment before).ends ≡ yield.Make (made.Root size space)) where
  abbrev G : Ground
  G = regent_ground (spaces_of job.code)

  abbrev makings : ℕ
  makings = makings_before job b k v

  abbrev M : Machine G
  M = machine_of job makings

  abbrev g : Frame
  g = (stop_of before).machine.frame

  goes : (segment before).frame ≡ Some g
  goes = ap (λ y. frame_after y g) makes

  abbrev R : ℕ
  R = length s.roots

  abbrev Rid : RootId
  Rid = record { 0 = R }

  abbrev node : ℕ
  node = length s.tree.nodes

  abbrev fields : ℕ
  fields = fields_needed job.code size space

  abbrev regions : RegionTree
  regions = tree_with_root s.tree (points size)

  abbrev extents : List Extent
  extents = roots.more s.roots h.who makings h.made space size

  abbrev now : ℕ → ℕ
  now = roots.now s.roots h.who makings h.made space size

  abbrev q : Frame
  q = frame_with_root job.code Rid node size space g

  abbrev own_is_kept : g.own ≡ (operation_at s k).frame.own
  own_is_kept = own_stays job s b h k v at claim before act g goes

  own_is : q.own ≡ (operation_at s k).frame.own ++ Rid ∷ []
  own_is = ap (λ own. own ++ Rid ∷ []) own_is_kept

  nodes : (n : ℕ) → n < length s.tree.nodes → (n < length regions.nodes) × (node_at regions n ≡ node_at s.tree n)
  nodes n l = (omega (arith, l, length-append s.tree.nodes (record { root = s.tree.roots; path = []; content = content.Region (points size) } ∷ [])), get_or_append_left s.tree.nodes _ no_node n l)

  node_new : node_at regions node ≡ record { root = s.tree.roots; path = []; content = content.Region (points size) }
  node_new = get_or-append_seam s.tree.nodes (record { root = s.tree.roots; path = []; content = content.Region (points size) }) [] no_node

  node_there : node < length regions.nodes
  node_there = omega (arith, length-append s.tree.nodes (record { root = s.tree.roots; path = []; content = content.Region (points size) } ∷ []))

  abbrev live : LogicalMap
  live = roots.behind s.roots h.who makings h.made space size job s.map b.state.map h.held

  there_extra : All (λ (r : RootId). is_live live r.0 ≡ true) (Rid ∷ [])
  there_extra = All-cons (λ (r : RootId). is_live live r.0 ≡ true) Rid [] (roots.live_new s.roots h.who makings h.made space size job s.map b.state.map h.held) (All-nil (λ (r : RootId). is_live live r.0 ≡ true))

  abbrev names : (r : ℕ) → r < length s.roots → name_of extents now r ≡ name_of s.roots h.who r
  names = roots.names_old s.roots h.who makings h.made space size

  abbrev stay : (r : ℕ) → is_live s.map r ≡ true → is_live live r ≡ true
  stay = roots.live_stays s.roots h.who makings h.made space size job s.map b.state.map h.held

  abbrev fields_stay : (r field : ℕ) → field < length (columns_of s.map r) → field < length (columns_of live r)
  fields_stay = roots.fields_stay s.roots h.who makings h.made space size job s.map b.state.map h.held

  abbrev name : ℕ → ℕ
  name = named_all s.roots h.who makings h.made 0

  abbrev board_root : ℕ
  board_root = root_of space size makings

  abbrev es : List (Effect G)
  es = zeros_of (spaces_of job.code) board_root size (fields_of (spaces_of job.code) space)

  abbrev needed : List Requirement
  needed = board_needs (spaces_of job.code) board_root size (fields_of (spaces_of job.code) space)

  abbrev grown : List Requirement → List Requirement
  grown N = N ++ needed

  abbrev pushed : ℕ → board.Frame → board.Frame
  pushed i f = pushed_on (spaces_of job.code) makings i (board.new_root space size) f

  -- ---- the new needs

  abbrev new_needs : ℕ → List Need
  new_needs n = needs_of_root Rid node n

  needs_away : (other : ℕ → ℕ) (n : ℕ) → map (need_to (named other)) (new_needs n) ≡ map (need_to (named other)) (root_needs R n)
  needs_away other zero = refl
  needs_away other (suc n) = map-append (need_to (named other)) (new_needs n) _ ∙ ap (λ ns. ns ++ need_to (named other) (record { root = Rid; node = record { 0 = 0 }; field = n; mode = Write }) ∷ []) (needs_away other n)
      ∙ sym (map-append (need_to (named other)) (root_needs R n) _)

  frame_away : (other : ℕ → ℕ) → frame_to (named other) (with_root R (points size) fields g) ≡ frame_to (named other) q
  frame_away other = λ i. record (frame_to (named other) q) {
    needs = record {
      items = (map-append (need_to (named other)) g.needs.items (root_needs R fields)
          ∙ ap (λ ns. map (need_to (named other)) g.needs.items ++ ns) (sym (needs_away other fields))
          ∙ sym (map-append (need_to (named other)) g.needs.items (new_needs fields))) i;
    };
  }

  new_are_needs : (n : ℕ) → All (IsNeed regions) (new_needs n)
  new_are_needs zero = All-nil (IsNeed regions)
  new_are_needs (suc n) = All-append (IsNeed regions) (new_needs n) _ (new_are_needs n) (All-cons (IsNeed regions) (record { root = Rid; node = record { 0 = node }; field = n; mode = Write }) [] (record {
    region = record { there = node_there; kind = ap (λ (x : TreeNode). is_region x.content) node_new };
    root = h.extents ∙ ap (λ (x : TreeNode). x.root) (sym node_new);
  }) (All-nil (IsNeed regions)))

  abbrev HasField : Need → Type 0
  HasField n = n.field < length (columns_of live n.root.0)

  fields_there : (n : ℕ) → n ≤ length (kinds_of job.code space) → All HasField (new_needs n)
  fields_there zero l = All-nil HasField
  fields_there (suc n) l = All-append HasField (new_needs n) _ (fields_there n (omega (arith, l))) (All-cons HasField (record { root = Rid; node = record { 0 = node }; field = n; mode = Write }) []
      (omega (arith, l, roots.fields_new s.roots h.who makings h.made space size job s.map b.state.map h.held)) (All-nil HasField))

  few : fields ≤ length (kinds_of job.code space)
  few = by_size (size == 0)
    where
      by_size : (q : Bool) → cond q 0 (length (kinds_of job.code space)) ≤ length (kinds_of job.code space)
      by_size true = omega arith
      by_size false = omega arith

  requirements_new : (other : ℕ → ℕ) (n : ℕ) → root_requirements (other R) (points size) n ≡ map (requirement_named other) (requirements_of regions (new_needs n))
  requirements_new other zero = refl
  requirements_new other (suc n) =
      let set_new : set_at regions node ≡ points size = ap (λ (x : TreeNode). points_of_content x.content) node_new in
      let one : Need = record { root = Rid; node = record { 0 = node }; field = n; mode = Write } in
      (λ i. requirements_new other n i ++ record { root = other R; points = sym set_new i; field = n; mode = Write } ∷ [])
      ∙ sym (map-append (requirement_named other) (requirements_of regions (new_needs n)) (requirement_of regions one ∷ []))
      ∙ ap (map (requirement_named other)) (sym (map-append (requirement_of regions) (new_needs n) (one ∷ [])))

  -- ---- the operation

  module _ (earlier : List Sibling) (above more : List RootId) (D N : List Requirement) (i : ℕ) (f : board.Frame) (ps : List (Element G)) (w : BoardWait G) (d : List (Element G)) (is : Items G)
      (below : All (λ (r : RootId). r.0 < length s.roots) above)
      (wider : IsWider (u job s b h k v at claim before act g goes regions extents live now q (Rid ∷ []) own_is nodes names stay fields_stay there_extra) above more)
      (x : Shows job s h.who b.ways v k earlier above (op D N i f ps (out w d) is)) where
    abbrev wide : List RootId
    wide = more ++ q.own

    root_named : (other : ℕ → ℕ) → IsNaming extents now wide other → other R ≡ board_root
    root_named other n = All-contains (λ (r : RootId). other r.0 ≡ name_of extents now r.0) wide Rid n.known
        (Contains-append_right more q.own Rid (Contains-append_right g.own (Rid ∷ []) Rid (All-head (Contains (Rid ∷ [])) Rid [] (All-contains_itself (Rid ∷ [])))))
        ∙ roots.name_new s.roots h.who makings h.made space size

    root_goes : Goes job s b h k v at claim before act g goes regions extents live now q (Rid ∷ []) own_is nodes names stay fields_stay there_extra es grown pushed earlier above more D N i f ps w d is
    root_goes =
        let left = left_alike job s b h k v at claim before act g goes regions extents live now q (Rid ∷ []) own_is nodes names stay fields_stay there_extra earlier above D N i f ps w d is below x in
        let seen = seen_left job s b h k v at claim before act g goes regions extents live now q (Rid ∷ []) own_is nodes names stay fields_stay there_extra earlier above D N i f ps w d is below x more wider in
        let a = M.segment (tree.met_by G M w f (tree.awaited G M w is)) (ps ++ d) in
        record {
          given = given_is job s b h k v at claim before act earlier above D N i f ps w d is below x (yield.Make (made.Root size space)) makes;
          own = λ other n.
              let old = named_before job s b h k v at claim before act g goes regions extents live now q (Rid ∷ []) own_is nodes names stay fields_stay there_extra above more below wider other n in
              (λ j. (left.own other old ∙ ap (map (λ (r : RootId). other r.0)) (sym own_is_kept)) j ++ sym (root_named other n) j ∷ [])
              ∙ sym (map-append (λ (r : RootId). other r.0) g.own (Rid ∷ []));
          seen = record {
            frame = λ other n. root_seen job.code makings i space size a.frame
                ∙ (λ j. with_root (sym (root_named other n) j) (points size) fields (seen.frame other n j))
                ∙ roots_renamed (named other) refl R (points size) fields g
                ∙ frame_away other;
            needs = ap (λ ns. ns ++ needed) seen.needs;
            required = λ other n. pointed_append N needed
                ∙ (λ j. seen.required other n j ++ (pointed_same needed ∙ requirements_made job.code board_root size space
                ∙ ap (λ r. root_requirements r (points size) fields) (sym (root_named other n)) ∙ requirements_new other fields) j)
                ∙ sym (map-append (requirement_named other) (requirements_of regions g.needs.items) (requirements_of regions (new_needs fields)))
                ∙ ap (map (requirement_named other)) (sym (map-append (requirement_of regions) g.needs.items (new_needs fields)));
            parts = seen.parts;
            held = seen.held;
            fitting = seen.fitting;
            once = seen.once;
            placed = record {
              slots = seen.placed.slots;
              stack = All-cons (HasPlaces regions) (value.Region (region_at Rid node (points size))) g.stack (record {
                there = node_there;
                points = ap (λ (y : TreeNode). y.content) node_new;
                root = ap (λ (y : TreeNode). y.root) node_new ∙ sym h.extents;
              }) seen.placed.stack;
              needs = All-append (IsNeed regions) g.needs.items (new_needs fields) seen.placed.needs (new_are_needs fields);
            };
            there = seen.there;
            fields = All-append HasField g.needs.items (new_needs fields) seen.fields (fields_there fields few);
          };
        }

  -- ---- the board

  abbrev then : State
  then = u job s b h k v at claim before act g goes regions extents live now q (Rid ∷ []) own_is nodes names stay fields_stay there_extra

  higher : (n : ℕ) → n < length regions.nodes → StandsWell regions n
  higher = stands_with_root s.tree (points size) (λ n l. (h.regions n l).higher)

  within : (n : ℕ) → n < length regions.nodes → IsWithinRoot job regions extents n
  within n l = ⊎_elim old new (cases_lt n node)
    where
      old : n < node → IsWithinRoot job regions extents n
      old e =
          let was = h.regions n e in
          let same = (nodes n e).1 in
          record {
            made = subst (λ (x : TreeNode). x.root < length extents) (sym same) (omega (arith, was.made, roots.length_more s.roots h.who makings h.made space size));
            below = subst (λ (x : TreeNode). All (λ p. p < (get_or extents x.root no_extent).count) (points_of_content x.content)) (sym same)
                (subst (λ (y : Extent). All (λ p. p < y.count) (set_at s.tree n)) (sym (roots.extent_old s.roots h.who makings h.made space size (root_at s.tree n) was.made)) was.below);
            higher = higher n l;
          }

      new : node ≤ n → IsWithinRoot job regions extents n
      new e =
          let here : n ≡ node = omega (arith, e, l, length-append s.tree.nodes (record { root = s.tree.roots; path = []; content = content.Region (points size) } ∷ [])) in
          subst (λ m. IsWithinRoot job regions extents m) (sym here) (record {
            made = subst (λ (x : TreeNode). x.root < length extents) (sym node_new) (omega (arith, h.extents, roots.length_more s.roots h.who makings h.made space size));
            below = subst (λ (x : TreeNode). All (λ p. p < (get_or extents x.root no_extent).count) (points_of_content x.content)) (sym node_new)
                (subst (λ r. All (λ p. p < (get_or extents r no_extent).count) (points size)) h.extents
                (subst (λ (y : Extent). All (λ p. p < y.count) (points size)) (sym (roots.extent_new s.roots h.who makings h.made space size))
                (All-weaker (λ p. p < 0 + size) (λ p. p < size) (λ p l. omega (arith, l)) (points size) (counted_below 0 size))));
            higher = subst (StandsWell regions) here (higher n l);
          })

  yields : yielded_by job s k before ≡ then
  yields =
      let o = behind_segment (operation_at s k) (segment before) in
      let with_it = λ (r : RootId) (x : Operation). record x { frame = frame_with_root job.code r node size space x.frame } in
      let next : RootId = record { 0 = s.tree.roots } in
      let there = (has_begun job s b h k v at claim before act).within in
      let build = λ (os : List Operation). record s { tree = regions; roots = extents; map = opened s.tree.roots (points size) (kinds_of job.code space) s.map; operations = os } in
      let row : operation_at (with_operation s k o) k ≡ o = get_or-set_same s.operations k o no_operation there in
      let again : operation_at (build (set (set s.operations k o) k (with_it next o))) k ≡ with_it next o =
      get_or-set_same (set s.operations k o) k (with_it next o) no_operation (subst (λ n. k < n) (sym (length-set s.operations k o)) there) in
      ap (yielded job.code job.turns (with_operation s k o) k) makes
      ∙ (λ j. parked_for (build (set (set s.operations k o) k (with_it next (row j)))) k wait.Nothing graph.Nothing)
      ∙ (λ j. record (parked_for (build (set (set s.operations k o) k (with_it next o))) k wait.Nothing graph.Nothing) {
        operations = set (set (set s.operations k o) k (with_it next o)) k (record (again j) { wait = wait.Nothing });
      })
      ∙ (λ j. record (parked_for (build (set (set s.operations k o) k (with_it next o))) k wait.Nothing graph.Nothing) {
        operations = (set-set (set s.operations k o) k (with_it next o) (record (with_it next o) { wait = wait.Nothing })
            ∙ set-set s.operations k o (record (with_it next o) { wait = wait.Nothing })) j;
      })
      ∙ (λ j. record then {
        map = opened (sym h.extents j) (points size) (kinds_of job.code space) s.map;
        operations = set s.operations k (record o { frame = frame_with_root job.code (record { 0 = sym h.extents j }) node size space (frame_left (operation_at s k).frame (goes j)); wait = wait.Nothing });
      })

  root_opens : Opens job b k v s before
  root_opens = goes_open job s b h k v at claim before act g goes regions extents live now q (Rid ∷ []) own_is nodes names stay fields_stay there_extra es grown pushed root_goes
      (omega (arith, h.extents, roots.length_more s.roots h.who makings h.made space size)) (roots.made_more s.roots h.who makings h.made space size) within
      (roots.holds_more s.roots h.who makings h.made space size job s.map b.state.map h.held)
      (All-cons (λ (r : RootId). r.0 < length extents) Rid [] (omega (arith, roots.length_more s.roots h.who makings h.made space size)) (All-nil (λ (r : RootId). r.0 < length extents)))
      (λ r l. omega (arith, l, roots.length_more s.roots h.who makings h.made space size))
      (All-cons (λ (r : RootId). (c : ℕ) → c < length s.roots → ¬ (r.0 ≡ c)) Rid [] (λ c l e. omega (arith, l, e)) (All-nil (λ (r : RootId). (c : ℕ) → c < length s.roots → ¬ (r.0 ≡ c))))
      yields

pub roots_open : RootsOpen
roots_open job s b h k v at claim before act is = root_opens job s b h k v at claim before act is.0 is.1 is.2
