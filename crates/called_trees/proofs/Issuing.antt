-- Calls are issued one after the other.
use Rattle.std.proofs.Common.{◌≡◌, ◌<◌, ◌+◌, ◌++◌, ◌∷◌, ◌∙◌, ℕ, suc, List, [], ap, append-nil, append_assoc, arith, length, refl, subst, sym, true}
use Rattle.std.specs.Prelude.{All}
use Rattle.std.proofs.lemmas.List.{length-append}
use Rattle.std.proofs.lemmas.List.Elements.{All-head, All-tail}
use Rattle.region_tree.specs.Trees.{RegionTree}
use Rattle.region_tree.specs.declared.tree.RootId.{RootId}
use Rattle.logical_map.specs.Maps.{LogicalMap}
use Rattle.dependence_graph.specs.Knots.{number}
use Rattle.task_code.specs.declared.job.Job.{Job}
use Rattle.board_rules.specs.Boards.{Operation as Node, Stage as BoardStage, child_op, no_item, op}
use Rattle.board_rules.specs.Ground.{Ground}
use Rattle.board_rules.specs.NumberedBoards.{Board, children_at, more_ways}
use Rattle.board_rules.specs.Running.{Machine}
use Rattle.regent_boards.specs.RegentMachine.{regent_ground}
use Rattle.code_boards.specs.Laws.{machine_of}
use Rattle.code_boards.specs.Views.{spaces_of}
use Rattle.board_terms.specs.declared.operation.Operation.{Operation}
use Rattle.board_terms.specs.States.{State, operation_at}
use Rattle.board_trees.specs.Frames.{HasPlaces}
use Rattle.board_trees.specs.Names.{IsNaming}
use Rattle.board_trees.specs.Shows.{ShowsBoard}
use Rattle.changed_trees.specs.Changes.{IsAt}
use Rattle.changed_trees.specs.Edits.{edited, up}
use Rattle.changed_trees.specs.Open.{HasAt}
use Rattle.called_trees.proofs.Changes.{row_here, size_more, way_still}
use Rattle.called_trees.proofs.Edits.{edited_same, edited_twice}
use Rattle.called_trees.proofs.Grown.{count_more}
use Rattle.called_trees.proofs.Opens.{all_declared}
use Rattle.called_trees.proofs.Calling.{NewCall, NewChild, Calling, frame_of, with_child}
use Rattle.called_trees.proofs.Stepped.{kids_more}
use Rattle.called_trees.proofs.Stepped as stepped

-- its arguments are regions of the tree, and the needs that its task declares are there
abbrev pub MayBegin : RegionTree → LogicalMap → NewCall → Type 0
MayBegin t live c = All (HasPlaces t) c.out.args × (all_declared t live c.task.needs c.out.args ≡ true)

abbrev pub children_from : ℕ → List NewCall → List NewChild
children_from n [] = []
children_from n (c ∷ cs) = record { number = n; call = c } ∷ children_from (suc n) cs

module _ (job : Job) (k : ℕ) (v : List ℕ) (name : ℕ → ℕ) (depth : ℕ) where
  abbrev G : Ground
  G = regent_ground (spaces_of job.code)

  abbrev K : ℕ → Machine G
  K = machine_of job

  abbrev pub all_issued : State → List NewCall → State
  all_issued s [] = s
  all_issued s (c ∷ cs) = all_issued (with_child s k (frame_of job depth c)) cs

  -- a board that shows, on which the operation has called some and goes on to call others
  pub record IsGoing (s : State) (b : Board G) (calls : List NewCall) (done : List NewChild) : Type 0 where
    pub shows : ShowsBoard job s b
    pub at : IsAt job b.ways k v
    pub naming : (roots : List RootId) → All (λ (r : RootId). r.0 < length s.roots) roots → IsNaming s.roots shows.who roots name
    pub here : HasAt job s shows.who b.ways (Calling job s shows.who b.ways k v name depth calls done) v [] 0 [] [] b.state.tree

  -- ---- one call

  module _ (c : NewCall) (cs : List NewCall) (s : State) (b : Board G) (done : List NewChild) (g : IsGoing s b (c ∷ cs) done) (may : MayBegin s.tree s.map c) where
    abbrev u : State
    u = with_child s k (frame_of job depth c)

    abbrev child : NewChild
    child = record { number = length s.operations; call = c }

    abbrev then : Board G
    then = stepped.then job s b g.shows k v g.at name g.naming depth c may.0 may.1 cs done g.here

    goes_on : IsGoing u then cs (done ++ child ∷ [])
    goes_on = record {
      shows = stepped.shows job s b g.shows k v g.at name g.naming depth c may.0 may.1 cs done g.here;
      at = way_still job b.ways ((v ++ length (operation_at s k).children ∷ []) ∷ []) k v g.at;
      naming = g.naming;
      here = stepped.behind job s b g.shows k v g.at name g.naming depth c may.0 may.1 cs done g.here;
    }

    long : length u.operations ≡ suc (length s.operations)
    long = size_more job s b g.shows k v g.at (frame_of job depth c)

    -- the ways to the child and to those that follow
    ways_then : then.ways ++ more_ways G K v (length (operation_at u k).children) (length cs) ≡ b.ways ++ more_ways G K v (length (operation_at s k).children) (suc (length cs))
    ways_then =
        let first = length (operation_at s k).children in
        let many : length (operation_at u k).children ≡ suc first = ap (λ (o : Operation). length o.children) (row_here job s b g.shows k v g.at (frame_of job depth c))
        ∙ length-append (operation_at s k).children (number (length s.operations) ∷ []) ∙ omega arith in
        ap (λ m. then.ways ++ more_ways G K v m (length cs)) many ∙ append_assoc b.ways ((v ++ first ∷ []) ∷ []) (more_ways G K v (suc first) (length cs))

    child_counted : (n : Node G) → children_at G K [] (stepped.g job s b g.shows k v g.at name g.naming depth c may.0 may.1 cs done g.here n) ≡ children_at G K [] n + 1
    child_counted (op D N i f ps st is) = count_more job is (child_op (stepped.x job s b g.shows k v g.at name g.naming depth c may.0 may.1 cs done g.here) no_item)

    children_then : (done ++ child ∷ []) ++ children_from (length u.operations) cs ≡ done ++ children_from (length s.operations) (c ∷ cs)
    children_then = ap (λ m. (done ++ child ∷ []) ++ children_from m cs) long ∙ append_assoc done (child ∷ []) (children_from (suc (length s.operations)) cs)

  -- ---- all calls

  module _ (last : BoardStage G) (makings : ℕ) where
    -- The board behind them shows. What is left to be done of the tree comes to the same when all is settled.
    pub record Issues (s : State) (b : Board G) (calls : List NewCall) (done : List NewChild) : Type 0 where
      pub board : Board G
      pub going : IsGoing (all_issued s calls) board [] (done ++ children_from (length s.operations) calls)
      pub change : Node G → Node G
      pub tree_is : board.state.tree ≡ edited G v change b.state.tree
      pub map_is : board.state.map ≡ b.state.map
      pub ways_are : board.ways ≡ b.ways ++ more_ways G K v (length (operation_at s k).children) (length calls)
      pub claims_are : board.claims ≡ b.claims
      pub turns_are : board.turns ≡ b.turns
      pub counts : (n : Node G) → children_at G K [] (change n) ≡ children_at G K [] n + length calls
      pub same : up G (K makings) v (edited G v (kids_more job name depth last []) board.state.tree) ≡ up G (K makings) v (edited G v (kids_more job name depth last calls) b.state.tree)

    one_more : (c : NewCall) (cs : List NewCall) (s : State) (b : Board G) (done : List NewChild) (g : IsGoing s b (c ∷ cs) done) (may : MayBegin s.tree s.map c) →
        Issues (u c cs s b done g may) (then c cs s b done g may) cs (done ++ record { number = length s.operations; call = c } ∷ []) → Issues s b (c ∷ cs) done
    one_more c cs s b done g may r = record {
      board = r.board;
      going = subst (IsGoing (all_issued s (c ∷ cs)) r.board []) (children_then c cs s b done g may) r.going;
      change = λ n. r.change (stepped.g job s b g.shows k v g.at name g.naming depth c may.0 may.1 cs done g.here n);
      tree_is = r.tree_is ∙ edited_twice G (stepped.g job s b g.shows k v g.at name g.naming depth c may.0 may.1 cs done g.here) r.change v b.state.tree;
      map_is = r.map_is;
      ways_are = r.ways_are ∙ ways_then c cs s b done g may;
      claims_are = r.claims_are;
      turns_are = r.turns_are;
      counts = λ n.
          let one = child_counted c cs s b done g may n in
          let more = r.counts (stepped.g job s b g.shows k v g.at name g.naming depth c may.0 may.1 cs done g.here n) in omega (arith, one, more);
      same = r.same ∙ stepped.same job s b g.shows k v g.at name g.naming depth c may.0 may.1 cs done g.here last makings;
    }

    pub issues : (calls : List NewCall) (s : State) (b : Board G) (done : List NewChild) → IsGoing s b calls done → All (MayBegin s.tree s.map) calls → Issues s b calls done
    issues [] s b done g may = record {
      board = b;
      going = subst (IsGoing s b []) (sym (append-nil done)) g;
      change = λ n. n;
      tree_is = sym (edited_same G v b.state.tree);
      map_is = refl;
      ways_are = sym (append-nil b.ways);
      claims_are = refl;
      turns_are = refl;
      counts = λ n. omega arith;
      same = refl;
    }
    issues (c ∷ cs) s b done g may =
        let first = All-head (MayBegin s.tree s.map) c cs may in
        one_more c cs s b done g first (issues cs (u c cs s b done g first) (then c cs s b done g first) (done ++ record { number = length s.operations; call = c } ∷ [])
        (goes_on c cs s b done g first) (All-tail (MayBegin s.tree s.map) c cs may))
