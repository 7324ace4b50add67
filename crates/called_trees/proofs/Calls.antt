-- What a yield of calls leaves: those up to the first that can't be made are issued in order, and the caller goes on, or is
-- broken where there is such a one.
use Rattle.std.proofs.Common.{◌≡◌, ◌<◌, ◌+◌, ◌-◌, ◌++◌, ◌∷◌, ◌∙◌, ◌==◌, ℕ, Bool, List, Some, [], ap, arith, cond, false, length, refl, subst, sym, true}
use Rattle.std.specs.Prelude.{All, nat_eq}
use Rattle.std.proofs.lemmas.List.Elements.{All-contains_itself}
use Rattle.region_tree.specs.Requirements.{Requirement}
use Rattle.region_tree.specs.declared.tree.RootId.{RootId}
use Rattle.logical_map.specs.Maps.{LogicalMap}
use Rattle.dependence_graph.specs.Entries.{Knot}
use Rattle.dependence_graph.specs.Knots.{has_failed, knot_at}
use Rattle.task_code.specs.declared.job.Job.{Job}
use Rattle.machine_terms.specs.declared.frame.Before.{Before}
use Rattle.machine_terms.specs.declared.outcome.CallOut.{CallOut}
use Rattle.machine_terms.specs.declared.outcome.Yield.TheVariants as yield
use Rattle.machine_terms.specs.Segments.{segment, stop_of}
use Rattle.board_rules.specs.Boards.{Items, Operation as Node, Stage as BoardStage, Stepped, Wait as BoardWait, child_count, closing, dropped, filling, idle, op, out, over, settle}
use Rattle.board_rules.specs.Ground.{Ground}
use Rattle.board_rules.specs.NumberedBoards.{Board, Claim as BoardClaim, children_at, more_ways, without}
use Rattle.board_rules.specs.Running.{Element, Machine, puts}
use Rattle.regent_boards.specs.Frames as board
use Rattle.regent_boards.specs.RegentMachine.{regent_ground}
use Rattle.code_boards.specs.Laws.{machine_of}
use Rattle.code_boards.specs.Views.{spaces_of}
use Rattle.board_terms.specs.declared.claim.Claim.{Claim}
use Rattle.board_terms.specs.declared.operation.Activity.TheVariants as activity
use Rattle.board_terms.specs.declared.operation.Operation.{Operation}
use Rattle.board_terms.specs.States.{State, operation_at}
use Rattle.board_trees.specs.Shows.{Shows, ShowsBoard}
use Rattle.board_trees.specs.Waits.{Sibling}
use Rattle.changed_trees.specs.Changes.{IsAt}
use Rattle.changed_trees.specs.Edits.{edited, up}
use Rattle.changed_trees.specs.Given.{Opens, effects_of, given_board, left_of, makings_before, yielded_by}
use Rattle.changed_trees.specs.Open.{Asked, OpenBoard}
use Rattle.changed_trees.proofs.Kept.{shown_match}
use Rattle.changed_trees.proofs.One.{one_changed, row_is}
use Rattle.changed_trees.proofs.Walks.{OfAll, children_are, children_edited, up_alike}
use Rattle.yielded_trees.proofs.Found.{Here, by_out, here_at, known_out}
use Rattle.yielded_trees.proofs.Out.{Begun, has_begun}
use Rattle.yielded_trees.proofs.Trees.{many_children, text_count}
use Rattle.called_trees.specs.Laws.{CallsOpen}
use Rattle.called_trees.proofs.Base as base
use Rattle.called_trees.proofs.Covering.{covers}
use Rattle.called_trees.proofs.Edits.{edited_twice, none_behind}
use Rattle.called_trees.proofs.Finished as finished
use Rattle.called_trees.proofs.Issuing.{IsGoing, Issues, MayBegin, all_issued, children_from, issues}
use Rattle.called_trees.proofs.Last.{knot_last, last_opens, row_last, stage_last}
use Rattle.called_trees.proofs.Node as node
use Rattle.called_trees.proofs.Calling.{IsAlike, NewCall, NewChild}
use Rattle.called_trees.proofs.Stepped.{kids_more}
use Rattle.called_trees.proofs.Table as table

module _ (job : Job) (s : State) (b : Board (regent_ground (spaces_of job.code))) (h : ShowsBoard job s b) (k : ℕ) (v : List ℕ) (at : IsAt job b.ways k v)
    (claim : Claim) (before : Before) (act : (operation_at s k).activity ≡ activity.Out claim before) (cs : List CallOut) (calls : (segment before).ends ≡ yield.Calls cs) where
  abbrev G : Ground
  G = regent_ground (spaces_of job.code)

  abbrev K : ℕ → Machine G
  K = machine_of job

  abbrev makings : ℕ
  makings = makings_before job b k v

  abbrev o : Operation
  o = operation_at s k

  begun : Begun s k
  begun = has_begun job s b h k v at claim before act

  abbrev depth : ℕ
  depth = (stop_of before).machine.frame.depth

  goes : (segment before).frame ≡ Some (stop_of before).machine.frame
  goes = node.goes job s b h k v at begun.within claim before act cs calls

  abbrev name : ℕ → ℕ
  name = base.name job s b h k v at claim before act (stop_of before).machine.frame goes

  abbrev news : List NewCall
  news = table.new_calls job s k begun.within before cs

  abbrev q : Bool
  q = length news == length cs

  abbrev live : LogicalMap
  live = base.live job s b h k v at claim before act (stop_of before).machine.frame goes

  may : All (MayBegin s.tree live) news
  may = known_out job s b h k v at claim before act
      (λ earlier above D N i f ps w d is below shown. (node.all_told job s b h k v at begun.within claim before act cs calls earlier above D N i f ps w d is below shown).may)

  alike : (earlier : List Sibling) (above : List RootId) (D N : List Requirement) (i : ℕ) (f : board.Frame) (ps : List (Element G)) (w : BoardWait G) (d : List (Element G)) (is : Items G) →
      All (λ (r : RootId). r.0 < length s.roots) above → Shows job s h.who b.ways v k earlier above (op D N i f ps (out w d) is) → All (IsAlike job s h.who b.ways k v name depth (above ++ o.frame.own)) news
  alike earlier above D N i f ps w d is below shown = (node.all_told job s b h k v at begun.within claim before act cs calls earlier above D N i f ps w d is below shown).alike

  told : (earlier : List Sibling) (above : List RootId) (D N : List Requirement) (i : ℕ) (f : board.Frame) (ps : List (Element G)) (w : BoardWait G) (d : List (Element G)) (is : Items G) →
      All (λ (r : RootId). r.0 < length s.roots) above → Shows job s h.who b.ways v k earlier above (op D N i f ps (out w d) is) →
      effects_of job makings (op D N i f ps (out w d) is) ≡ puts G (K makings) (base.run job s b h k v at claim before act (stop_of before).machine.frame goes f ps w d is).parts
  told earlier above D N i f ps w d is below shown =
      ap (λ (x : Stepped G (Node G)). x.effects) (node.behind_is job s b h k v at begun.within claim before act cs calls earlier above D N i f ps w d is below shown)

  -- ---- from the segment on

  abbrev first : Board G
  first = base.base job s b h k v at claim before act (stop_of before).machine.frame goes depth news alike told

  abbrev at_first : State
  at_first = base.u job s b h k v at claim before act (stop_of before).machine.frame goes

  going : IsGoing job k v name depth at_first first news []
  going = base.base_goes job s b h k v at claim before act (stop_of before).machine.frame goes depth news alike told

  abbrev last : BoardStage G
  last = stage_last job q

  issue : Issues job k v name depth last makings at_first first news []
  issue = issues job k v name depth last makings news at_first first [] going may

  abbrev done : List NewChild
  done = children_from (length at_first.operations) news

  unfailed : has_failed (Some (knot_at s.waits.knots k).stage) ≡ false
  unfailed = ap (λ x. has_failed (Some x)) begun.stage

  abbrev behind : State
  behind = finished.behind job s k v name depth begun.within begun.there h.knots unfailed before cs calls

  covered : IsGoing job k v name depth behind issue.board [] done
  covered = covers job k v name depth done (all_issued job k v name depth at_first news) issue.board [] done (All-contains_itself done) issue.going

  abbrev was : Knot
  was = knot_at s.waits.knots k

  -- the table behind all
  abbrev table_last : State
  table_last = one_changed behind behind.tree behind.roots behind.map k (row_last behind k q) (knot_last behind k was q)

  table_is : yielded_by job s k before ≡ table_last
  table_is = finished.finished job s k v name depth begun.within begun.there h.knots unfailed before cs calls
      (known_out job s b h k v at claim before act
      (λ earlier above D N i f ps w d is below shown. (node.all_told job s b h k v at begun.within claim before act cs calls earlier above D N i f ps w d is below shown).frames))

  -- ---- the tree

  -- what the segment makes of the operation, and then the calls
  abbrev segment_left : Node G → Node G
  segment_left = base.behind job s b h k v at claim before act (stop_of before).machine.frame goes

  abbrev goes_or_breaks : Node G → Node G
  goes_or_breaks = kids_more job name depth last []

  abbrev change : Node G → Node G
  change n = goes_or_breaks (issue.change (segment_left n))

  abbrev There : Asked job
  There = Here job s b h k v at claim before act

  tree_is : edited G v goes_or_breaks issue.board.state.tree ≡ edited G v change b.state.tree
  tree_is =
      ap (edited G v goes_or_breaks) (issue.tree_is ∙ edited_twice G segment_left issue.change v b.state.tree)
      ∙ edited_twice G (λ n. issue.change (segment_left n)) goes_or_breaks v b.state.tree

  -- so many children more
  segment_counted : (n : Node G) → children_at G K [] (segment_left n) ≡ children_at G K [] n
  segment_counted (op D N i f ps (out w d) is) = text_count job is (base.run job s b h k v at claim before act (stop_of before).machine.frame goes f ps w d is).text
  segment_counted (op D N i f ps (idle w) is) = refl
  segment_counted (op D N i f ps (filling w d l) is) = refl
  segment_counted (op D N i f ps (closing e) is) = refl
  segment_counted (op D N i f ps (over e) is) = refl
  segment_counted (op D N i f ps dropped is) = refl

  last_counted : (n : Node G) → children_at G K [] (goes_or_breaks n) ≡ children_at G K [] n
  last_counted (op D N i f ps st is) = ap (child_count G) (none_behind G is)

  counts : OfAll job s h.who b.ways There (λ n. children_at G K [] (change n) ≡ children_at G K [] n + length news)
  counts w j earlier above n y = omega (arith, segment_counted n, issue.counts (segment_left n), last_counted (issue.change (segment_left n)))

  more : children_at G K v (edited G v change b.state.tree) - children_at G K v b.state.tree ≡ length news
  more = omega (arith, children_edited job s h.who b.ways There change (length news) counts v [] 0 [] [] b.state.tree (here_at job s b h k v at claim before act))

  many : children_at G K v b.state.tree ≡ length o.children
  many = children_are job s h.who b.ways There (length o.children)
      (by_out job s b h k v at claim before act (λ w j earlier above n. children_at G K [] n ≡ length o.children)
      (λ earlier above D N i f ps w d is below shown. many_children job o.children is (shown_match job s h.who b.ways v k 0 [] (above ++ o.frame.own) o.children is shown.1)))
      v [] 0 [] [] b.state.tree (here_at job s b h k v at claim before act)

  -- ---- the board

  without_twice : (cs : List BoardClaim) → without G K k (without G K k cs) ≡ without G K k cs
  without_twice [] = refl
  without_twice (c ∷ cs) = by_test (nat_eq c.number k) refl (without_twice cs)
    where
      by_test : (x : Bool) → nat_eq c.number k ≡ x → without G K k (without G K k cs) ≡ without G K k cs →
          without G K k (cond x (without G K k cs) (c ∷ without G K k cs)) ≡ cond x (without G K k cs) (c ∷ without G K k cs)
      by_test true e rest = rest
      by_test false e rest = ap (λ z. cond z (without G K k (without G K k cs)) (c ∷ without G K k (without G K k cs))) e ∙ ap (λ ds. c ∷ ds) rest

  row_children : (operation_at at_first k).children ≡ o.children
  row_children = ap (λ (x : Operation). x.children) (row_is s s.tree s.roots live k (base.row job s b h k v at claim before act (stop_of before).machine.frame goes)
      (base.knotted job s b h k v at claim before act (stop_of before).machine.frame goes) begun.within begun.there)

  abbrev board_last : Board G
  board_last = record {
    state = record { tree = edited G v goes_or_breaks issue.board.state.tree; map = issue.board.state.map };
    ways = issue.board.ways;
    claims = without G K k issue.board.claims;
    turns = issue.board.turns;
  }

  ways_are : issue.board.ways ≡ (given_board job b k v (edited G v change b.state.tree)).ways
  ways_are = issue.ways_are
      ∙ (λ i. b.ways ++ more_ways G K v (length (row_children i)) (length news))
      ∙ (λ i. b.ways ++ more_ways G K v (sym many i) (sym more i))

  board_is : board_last ≡ given_board job b k v (edited G v change b.state.tree)
  board_is = λ i. record {
    state = record { tree = tree_is i; map = issue.map_is i };
    ways = ways_are i;
    claims = (ap (without G K k) issue.claims_are ∙ without_twice b.claims) i;
    turns = issue.turns_are i;
  }

  opens_last : OpenBoard job table_last board_last k v
  opens_last = last_opens job behind issue.board covered.shows k v covered.at name depth done covered.here q was begun.stage

  same_settled : OfAll job s h.who b.ways There (λ n. settle G (K makings) (kids_more job name depth last news (segment_left n)) ≡ settle G (K makings) (left_of job makings n))
  same_settled = by_out job s b h k v at claim before act (λ w j earlier above n. settle G (K makings) (kids_more job name depth last news (segment_left n)) ≡ settle G (K makings) (left_of job makings n))
      (λ earlier above D N i f ps w d is below shown.
      ap (λ (x : Stepped G (Node G)). settle G (K makings) x.left) (sym (node.behind_is job s b h k v at begun.within claim before act cs calls earlier above D N i f ps w d is below shown)))

  pub calls_here : Opens job b k v s before
  calls_here = record {
    change = change;
    leaves = subst (λ z. OpenBoard job z (given_board job b k v (edited G v change b.state.tree)) k v) (sym table_is) (subst (λ z. OpenBoard job table_last z k v) board_is opens_last);
    same = ap (up G (K makings) v) (sym tree_is) ∙ issue.same
        ∙ ap (up G (K makings) v) (edited_twice G segment_left (kids_more job name depth last news) v b.state.tree)
        ∙ up_alike job s h.who b.ways There (λ n. kids_more job name depth last news (segment_left n)) (left_of job makings) makings same_settled v [] 0 [] [] b.state.tree (here_at job s b h k v at claim before act);
  }

pub calls_open : CallsOpen
calls_open job s b h k v at claim before act is = calls_here job s b h k v at claim before act is.0 is.1
