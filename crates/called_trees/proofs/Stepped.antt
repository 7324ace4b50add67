-- The board behind one call more: it shows, and when all is settled it comes to what it would have come to.
use Rattle.std.proofs.Common.{◌≡◌, ◌<◌, ◌+◌, ◌-◌, ◌++◌, ◌∷◌, ◌∙◌, ℕ, suc, Bool, List, [], ap, append-nil, arith, false, length, map, not, refl, subst, sym, true}
use Rattle.std.specs.Prelude.{All, filter}
use Rattle.std.proofs.lemmas.List.{length-append}
use Rattle.std.proofs.lemmas.List.Elements.{All-nil}
use Rattle.plain_values.specs.Points.{counted_from}
use Rattle.region_finder.specs.Listings.{listed_ops}
use Rattle.region_tree.specs.declared.tree.RootId.{RootId}
use Rattle.logical_map.specs.Maps.{is_live}
use Rattle.dependence_graph.specs.Knots.{number, some_failed}
use Rattle.task_code.specs.declared.job.Job.{Job}
use Rattle.board_rules.specs.Boards.{◌+++◌, Items, Operation as Node, Stage as BoardStage, child_op, no_item, op, settle}
use Rattle.board_rules.specs.Boards as tree
use Rattle.board_rules.specs.Ground.{Ground}
use Rattle.board_rules.specs.NumberedBoards.{Board}
use Rattle.board_rules.specs.RootNumbers.{made_in}
use Rattle.board_rules.specs.Running.{Machine}
use Rattle.regent_boards.specs.RegentMachine.{regent_ground}
use Rattle.code_boards.specs.Laws.{machine_of}
use Rattle.code_boards.specs.Views.{spaces_of}
use Rattle.board_terms.specs.States.{State, operation_at}
use Rattle.board_trees.specs.Frames.{HasPlaces}
use Rattle.board_trees.specs.Names.{AreMade, IsNaming}
use Rattle.board_trees.specs.Shows.{ShowsBoard, needs_issued}
use Rattle.board_trees.specs.Waits.{Sibling, has_ended}
use Rattle.changed_trees.specs.Changes.{IsAt, IsWider}
use Rattle.changed_trees.specs.Edits.{edited, up}
use Rattle.changed_trees.specs.Open.{Asked, HasAt}
use Rattle.changed_trees.proofs.Below.{node_within}
use Rattle.changed_trees.proofs.Edited.{all_shows, has_edited}
use Rattle.changed_trees.proofs.Kept.{wider_itself}
use Rattle.changed_trees.proofs.Walks.{OfAll, made_edited, up_alike}
use Rattle.called_trees.proofs.Changes.{size_more, starts, there}
use Rattle.called_trees.proofs.Edits.{edited_twice, in_row, made_behind}
use Rattle.called_trees.proofs.Issued.{length_more, listed_more}
use Rattle.called_trees.proofs.Opens.{all_declared}
use Rattle.called_trees.proofs.Calling.{NewCall, NewChild, Calling, by_calling, child_knot, child_more, child_on, entry, frame_of, node_of, calling_shows, with_child}
use Rattle.called_trees.proofs.Rows.{claims, leads, own_apart, own_made, own_same, rising}
use Rattle.called_trees.proofs.Step as step
use Rattle.called_trees.proofs.Swept.{child_swept}

-- ---- what is left to be issued, in the tree

module _ (job : Job) (name : ℕ → ℕ) (depth : ℕ) where
  abbrev pub kids : List NewCall → Items (regent_ground (spaces_of job.code))
  kids [] = no_item
  kids (c ∷ cs) = child_op (node_of job name depth false c) (kids cs)

  -- all of it is issued, and the caller goes on or ends
  abbrev pub kids_more : BoardStage (regent_ground (spaces_of job.code)) → List NewCall → Node (regent_ground (spaces_of job.code)) → Node (regent_ground (spaces_of job.code))
  kids_more last cs (op D N i f ps st is) = op D N i f ps last (◌+++◌ (regent_ground (spaces_of job.code)) is (kids cs))

module _ (job : Job) (s : State) (b : Board (regent_ground (spaces_of job.code))) (h : ShowsBoard job s b) (k : ℕ) (v : List ℕ) (at : IsAt job b.ways k v)
    (name : ℕ → ℕ) (naming : (roots : List RootId) → All (λ (r : RootId). r.0 < length s.roots) roots → IsNaming s.roots h.who roots name) (depth : ℕ) (c : NewCall)
    (placed : All (HasPlaces s.tree) c.out.args) (declared : all_declared s.tree s.map c.task.needs c.out.args ≡ true) (rest : List NewCall) (done : List NewChild)
    (here : HasAt job s h.who b.ways (Calling job s h.who b.ways k v name depth (c ∷ rest) done) v [] 0 [] [] b.state.tree) where
  abbrev G : Ground
  G = regent_ground (spaces_of job.code)

  abbrev K : ℕ → Machine G
  K = machine_of job

  abbrev u : State
  u = with_child s k (frame_of job depth c)

  abbrev ways : List (List ℕ)
  ways = b.ways ++ (v ++ length (operation_at s k).children ∷ []) ∷ []

  abbrev fails : Bool
  fails = some_failed s.waits.knots (child_on s k (frame_of job depth c))

  abbrev pub x : Node G
  x = node_of job name depth fails c

  abbrev pub g : Node G → Node G
  g = child_more job x

  abbrev left : Node G
  left = edited G v g b.state.tree

  abbrev pub then : Board G
  then = record { state = record { tree = left; map = b.state.map }; ways = ways; claims = b.claims; turns = b.turns }

  abbrev Before : Asked job
  Before = Calling job s h.who b.ways k v name depth (c ∷ rest) done

  abbrev child : NewChild
  child = record { number = length s.operations; call = c }

  abbrev Behind : Asked job
  Behind = Calling job u h.who ways k v name depth rest (done ++ child ∷ [])

  needs_stay : (n : Node G) → needs_issued job (g n) ≡ needs_issued job n
  needs_stay (op D N i f ps st is) = refl

  abbrev makings : ℕ
  makings = made_in G K b.state.tree

  own : (w : List ℕ) (j : ℕ) (earlier : List Sibling) (above more : List RootId) (n : Node G) → v ≡ w → IsWider u above more → Before w j earlier above n → Behind w j earlier more (g n)
  own w j earlier above more n e wider y = by_calling job s h.who b.ways k v name depth (c ∷ rest) done (λ w j earlier above n. (more : List RootId) → IsWider u above more → Behind w j earlier more (g n))
      (λ earlier above D N i f ps is r more wider. (refl, refl, step.calling job s b h k v at name naming depth c placed declared rest done earlier above more D N i f ps is wider r))
      w j earlier above n y more wider

  pub behind : HasAt job u h.who ways Behind v [] 0 [] [] left
  behind = has_edited job g needs_stay s u h.who h.who b.ways ways (λ w. w ≡ v) (step.changes job s b h k v at name naming depth c placed declared rest done) makings h.made h.own_made v
      (λ w e. ([], e ∙ sym (append-nil v))) Before Behind
      (λ w j earlier above n y. node_within job s u h.who h.who b.ways ways (λ w. w ≡ v) (step.changes job s b h k v at name naming depth c placed declared rest done) makings h.made h.own_made w j earlier above n
      (calling_shows job s h.who b.ways k v name depth (c ∷ rest) done w j earlier above n y))
      own v [] 0 [] [] [] b.state.tree refl (wider_itself u []) (All-nil (λ (r : RootId). r.0 < length s.roots)) here

  makes : OfAll job s h.who b.ways Before (λ n. made_in G K (g n) ≡ made_in G K n + 0)
  makes w j earlier above (op D N i f ps st is) y = ap (λ z. i + z) (made_behind G K x refl is) ∙ omega arith

  pub made_are : AreMade (length s.roots) h.who (made_in G K left)
  made_are =
      let e = made_edited job s h.who b.ways Before g 0 makes v [] 0 [] [] b.state.tree here in
      let same : made_in G K b.state.tree ≡ made_in G K left = omega (arith, e) in
      subst (AreMade (length s.roots) h.who) same h.made

  pub long : length u.operations ≡ suc (length s.operations)
  long = size_more job s b h k v at (frame_of job depth c)

  knots_there : k < length s.waits.knots
  knots_there = there job s b h k v at (frame_of job depth c)

  pub listed : listed_ops u.waits.listing ≡ map number (filter (λ j. not (has_ended u.waits.knots j)) (counted_from 1 (length u.operations - 1)))
  listed =
      let size : suc (length s.waits.knots) ≡ length u.operations = ap (λ x. suc x) h.knots ∙ sym long in
      listed_more s.waits.knots (child_knot s k (frame_of job depth c)) (starts job s b h k v at (frame_of job depth c)) (entry s k (frame_of job depth c)) s.waits.listing (omega (arith, knots_there)) refl
      (subst (λ x. listed_ops s.waits.listing ≡ map number (filter (λ j. not (has_ended s.waits.knots j)) (counted_from 1 (x - 1)))) (sym h.knots) h.listed)
      ∙ ap (λ x. map number (filter (λ j. not (has_ended u.waits.knots j)) (counted_from 1 (x - 1)))) size

  abbrev pub shows : ShowsBoard job u then
  shows = record {
    who = h.who;
    extents = h.extents;
    made = made_are;
    regions = h.regions;
    held = h.held;
    rising = rising job s b h k v at (frame_of job depth c);
    first = subst (λ rs. All (λ (r : RootId). is_live s.map r.0 ≡ true) rs) (sym (own_same job s b h k v at (frame_of job depth c) refl 0)) h.first;
    own_made = own_made job s b h k v at (frame_of job depth c) refl;
    own_apart = own_apart job s b h k v at (frame_of job depth c) refl;
    shows = all_shows job u h.who ways Behind (calling_shows job u h.who ways k v name depth rest (done ++ child ∷ [])) v [] 0 [] [] left behind;
    leads = leads job s b h k v at (frame_of job depth c);
    ways = length-append b.ways ((v ++ length (operation_at s k).children ∷ []) ∷ []) ∙ (let l = h.ways in omega (arith, l, long));
    knots = length_more s.waits.knots (child_knot s k (frame_of job depth c)) ∙ ap (λ x. suc x) h.knots ∙ sym long;
    listed = listed;
    claims = claims job s b h k v at (frame_of job depth c);
    turns = h.turns;
  }

  -- ---- what is left to be issued comes to the same

  module _ (last : BoardStage G) (makings : ℕ) where
    same_settled : OfAll job s h.who b.ways Before (λ n. settle G (K makings) (kids_more job name depth last rest (g n)) ≡ settle G (K makings) (kids_more job name depth last (c ∷ rest) n))
    same_settled = by_calling job s h.who b.ways k v name depth (c ∷ rest) done
        (λ w j earlier above n. settle G (K makings) (kids_more job name depth last rest (g n)) ≡ settle G (K makings) (kids_more job name depth last (c ∷ rest) n))
        (λ earlier above D N i f ps is r.
        ap (λ js. settle G (K makings) (op D N i f ps last js)) (in_row G is (child_op x no_item) (kids job name depth rest))
        ∙ ap (tree.settled G (K makings) D N i f ps last)
        (sym (child_swept job s h.who b.ways makings name depth c v k (above ++ (operation_at s k).frame.own) (operation_at s k).children is r.shown.1 fails
        (step.fails_bad job s b h k v at name naming depth c placed declared rest done earlier above above D N i f ps is (wider_itself u above) r) (kids job name depth rest))))

    pub same : up G (K makings) v (edited G v (kids_more job name depth last rest) left) ≡ up G (K makings) v (edited G v (kids_more job name depth last (c ∷ rest)) b.state.tree)
    same = ap (up G (K makings) v) (edited_twice G g (kids_more job name depth last rest) v b.state.tree)
        ∙ up_alike job s h.who b.ways Before (λ n. kids_more job name depth last rest (g n)) (kids_more job name depth last (c ∷ rest)) makings same_settled v [] 0 [] [] b.state.tree here
