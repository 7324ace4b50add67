-- An operation whose own work ends behind its segment: nothing else changes but the map.
use Rattle.std.proofs.Common.{◌≡◌, ◌<◌, ◌+◌, ◌++◌, ◌∷◌, ◌∙◌, inl, ℕ, List, Some, [], append_assoc, ap, arith, length, map, refl, subst, sym, true}
use Rattle.std.specs.Prelude.{All}
use Rattle.std.proofs.lemmas.List.Elements.{All-append, All-weaker}
use Rattle.region_tree.specs.Requirements.{Requirement}
use Rattle.region_tree.specs.declared.tree.RootId.{RootId}
use Rattle.logical_map.specs.Maps.{LogicalMap, columns_of, is_live}
use Rattle.dependence_graph.specs.Entries.{Knot}
use Rattle.dependence_graph.specs.Knots.{has_failed, is_done, knot_at}
use Rattle.dependence_graph.specs.declared.stage.Stage.TheVariants as knot
use Rattle.task_code.specs.declared.job.Job.{Job}
use Rattle.machine_terms.specs.declared.frame.Before.{Before}
use Rattle.machine_terms.specs.declared.outcome.After.{After}
use Rattle.machine_terms.specs.Segments.{segment}
use Rattle.board_rules.specs.Boards.{Ending as BoardEnding, Items, Operation as Node, Stepped, Wait as BoardWait, awaited, child_count, closing, met_by, op, out}
use Rattle.board_rules.specs.Ground.{Ground}
use Rattle.board_rules.specs.NumberedBoards.{Board, children_at}
use Rattle.board_rules.specs.Processes.{Effect, run_all}
use Rattle.board_rules.specs.RootNumbers.{made_in}
use Rattle.board_rules.specs.Running.{After as BoardAfter, Element, Machine}
use Rattle.regent_boards.specs.Frames as board
use Rattle.regent_boards.specs.RegentMachine.{regent_ground}
use Rattle.code_boards.specs.Laws.{machine_of}
use Rattle.code_boards.specs.Views.{spaces_of}
use Rattle.board_terms.specs.declared.claim.Claim.{Claim}
use Rattle.board_terms.specs.declared.operation.Activity.TheVariants as activity
use Rattle.board_terms.specs.declared.operation.Operation.{Operation}
use Rattle.board_terms.specs.Gives.{also_said}
use Rattle.board_terms.specs.Stages.{is_over, stage_of}
use Rattle.board_terms.specs.States.{State, operation_at}
use Rattle.board_trees.specs.Names.{AreMade}
use Rattle.board_trees.specs.Shows.{AreListed, Shows, ShowsBoard, ShowsChildren, is_claimed, needs_issued, siblings}
use Rattle.board_trees.specs.Waits.{Sibling}
use Rattle.given_trees.specs.Parts.{MapShows}
use Rattle.changed_trees.specs.Changes.{Change, IsAt, IsWider}
use Rattle.changed_trees.specs.Edits.{edited, told_at}
use Rattle.changed_trees.specs.Given.{Opens, effects_of, given_board, given_of, left_of, makings_before, yielded_by}
use Rattle.changed_trees.specs.Open.{Asked, HasAt, IsOpen, OpenBoard, OpenRow}
use Rattle.changed_trees.proofs.Below.{children_kept}
use Rattle.changed_trees.proofs.Kept.{back, clear_kept, listed_kept, shown_match, wider_on}
use Rattle.changed_trees.proofs.One.{IsOngoing, knot_is, one_changed, row_is}
use Rattle.changed_trees.proofs.Walks.{OfAll, told_holds}
use Rattle.yielded_trees.proofs.Builder.{OpenHere, change, opens, own_apart_same, own_made_same, own_same}
use Rattle.yielded_trees.proofs.Found.{Here, by_out, here_at}
use Rattle.yielded_trees.proofs.Out.{Begun, has_begun}
use Rattle.yielded_trees.proofs.Trees.{many_children, paused_needs, restop, text_count, text_made, text_said, text_shows, text_siblings, with_text}
use Rattle.board_trees.proofs.Along.{not_above}
use Rattle.board_terms.specs.declared.operation.Ending.{Ending}
use Rattle.board_trees.specs.Stages.{IsEnding, was_begun}
use Rattle.given_trees.specs.Segments.{AreLeft}
use Rattle.given_trees.proofs.Segments.{segments_show}

restop_needs : (job : Job) (makings : ℕ) (n : Node (regent_ground (spaces_of job.code))) → needs_issued job n ≡ needs_issued job (restop job makings n)
restop_needs job makings (op D N i f ps st is) = refl

module _ (job : Job) (s : State) (b : Board (regent_ground (spaces_of job.code))) (h : ShowsBoard job s b) (k : ℕ) (v : List ℕ) (at : IsAt job b.ways k v)
    (claim : Claim) (before : Before) (act : (operation_at s k).activity ≡ activity.Out claim before) (e : Ending) (live : LogicalMap) (row : Operation) where
  abbrev G : Ground
  G = regent_ground (spaces_of job.code)

  abbrev K : ℕ → Machine G
  K = machine_of job

  abbrev pub makings : ℕ
  makings = makings_before job b k v

  abbrev pub M : Machine G
  M = K makings

  abbrev o : Operation
  o = operation_at s k

  abbrev a : After
  a = segment before

  abbrev pub run : (f : board.Frame) (ps : List (Element G)) (w : BoardWait G) (d : List (Element G)) (is : Items G) → BoardAfter G
  run f ps w d is = M.segment (met_by G M w f (awaited G M w is)) (ps ++ d)

  -- the row behind the segment
  pub record IsEnded : Type 0 where
    pub activity_is : row.activity ≡ activity.Closing e
    pub own : row.frame.own ≡ o.frame.own
    pub said_is : row.said ≡ also_said (length o.children) a.text o.said
    pub children : row.children ≡ o.children
    pub parent : row.parent ≡ o.parent

  -- the roots and fields that were there stay
  pub record Keeps : Type 0 where
    pub live_stays : (r : ℕ) → is_live s.map r ≡ true → is_live live r ≡ true
    pub fields_stay : (r field : ℕ) → field < length (columns_of s.map r) → field < length (columns_of live r)

  -- in the tree: how its work ends, and what is told
  pub record EndsSo (D N : List Requirement) (i : ℕ) (f : board.Frame) (ps : List (Element G)) (w : BoardWait G) (d : List (Element G)) (is : Items G) : Type 0 where
    pub ending : BoardEnding G
    pub effects : List (Effect G)
    pub behind_is : given_of job makings (op D N i f ps (out w d) is) ≡ record { left = op D N i (run f ps w d is).frame [] (closing ending) (with_text job is (run f ps w d is).text); effects = effects }
    pub ends : IsEnding job.code e ending
    pub held : MapShows job live s.roots h.who (run_all G effects b.state.map)

  module _ (ended : IsEnded) (keeps : Keeps)
      (so : (earlier : List Sibling) (above : List RootId) (D N : List Requirement) (i : ℕ) (f : board.Frame) (ps : List (Element G)) (w : BoardWait G) (d : List (Element G)) (is : Items G) →
      All (λ (r : RootId). r.0 < length s.roots) above → Shows job s h.who b.ways v k earlier above (op D N i f ps (out w d) is) → EndsSo D N i f ps w d is) where
    abbrev knotted : Knot
    knotted = knot_at s.waits.knots k

    -- ---- the row that is there

    abbrev begun : Begun s k
    begun = has_begun job s b h k v at claim before act

    ongoing : IsOngoing s s.tree s.roots live k row knotted begun.within begun.there
    ongoing = record {
      before = ap is_done begun.was;
      unfailed = ap has_failed begun.was;
      runs = ap (λ x. is_over (stage_of x o.wait o.activity)) begun.stage ∙ ap (λ x. is_over (stage_of knot.Begun o.wait x)) act;
      now = ap (λ x. is_done (Some x)) begun.stage;
      fails = ap (λ x. has_failed (Some x)) begun.stage;
      open_now = ap (λ x. is_over (stage_of x row.wait row.activity)) begun.stage ∙ ap (λ x. is_over (stage_of knot.Begun row.wait x)) ended.activity_is;
    }

    abbrev pub u : State
    u = one_changed s s.tree s.roots live k row knotted

    changes : Change job s u h.who h.who b.ways b.ways (λ w. v ≡ w)
    changes = change job s b h k v at s.tree s.roots live row knotted begun.within begun.there ongoing ended.parent h.who (λ x l. (l, refl)) (λ r l. refl) keeps.live_stays keeps.fields_stay

    abbrev IsHere : Asked job
    IsHere = Here job s b h k v at claim before act

    at_here : HasAt job s h.who b.ways IsHere v [] 0 [] [] b.state.tree
    at_here = here_at job s b h k v at claim before act

    abbrev pub g : Node G → Node G
    g n = left_of job makings n

    row_here : operation_at u k ≡ row
    row_here = row_is s s.tree s.roots live k row knotted begun.within begun.there

    own_here : (operation_at u k).frame.own ≡ o.frame.own
    own_here = ap (λ (x : Operation). x.frame.own) row_here ∙ ended.own

    same_knot : knot_at u.waits.knots k ≡ knotted
    same_knot = knot_is s s.tree s.roots live k row knotted begun.within begun.there

    not_begun : knot.Begun ≡ knot.Parked → ⊥
    not_begun x = cc

    -- ---- the operation

    module _ (earlier : List Sibling) (above more : List RootId) (D N : List Requirement) (i : ℕ) (f : board.Frame) (ps : List (Element G)) (w : BoardWait G) (d : List (Element G)) (is : Items G)
        (below : All (λ (r : RootId). r.0 < length s.roots) above) (wider : IsWider u above more) (shown : Shows job s h.who b.ways v k earlier above (op D N i f ps (out w d) is)) where
      abbrev roots : List RootId
      roots = above ++ o.frame.own

      abbrev wide : List RootId
      wide = more ++ o.frame.own

      abbrev y : BoardAfter G
      y = run f ps w d is

      abbrev js : Items G
      js = with_text job is y.text

      left : AreLeft job s h.who roots o N (met_by G M w f (awaited G M w is)) a y
      left = segments_show job s b h v k earlier above D N i f ps d w is shown below claim before act makings

      x : EndsSo D N i f ps w d is
      x = so earlier above D N i f ps w d is below shown

      under : All (λ (r : RootId). r.0 < length s.roots) roots
      under = All-append (λ (r : RootId). r.0 < length s.roots) above o.frame.own below (h.own_made k)

      wide_roots : IsWider u roots wide
      wide_roots = wider_on u above more o.frame.own wider

      from_none : 0 + child_count G is ≡ length o.children
      from_none = let z = many_children job o.children is (shown_match job s h.who b.ways v k 0 [] roots o.children is shown.1) in omega (arith, z)

      row_shows : OpenRow job u h.who b.ways v k earlier wide D N y.frame [] (closing x.ending) js
      row_shows = record {
        within = changes.size k begun.within;
        knot = changes.knots k begun.there;
        way_is = at;
        going = refl;
        own = λ name z. left.own name (back job s u h.who h.who b.ways b.ways (λ w. v ≡ w) changes roots wide wide_roots under name z) ∙ ap (map (λ (r : RootId). name r.0)) (sym own_here);
        seen = tt;
        said_is = text_said job 0 is y.text ∙ (λ z. also_said (from_none z) (left.text z) (shown.0.said_is z)) ∙ sym ended.said_is ∙ ap (λ (x : Operation). x.said) (sym row_here);
        stands = inl (ap (λ (x : Knot). x.stage) same_knot ∙ begun.stage, record { own = e; activity_is = ap (λ (x : Operation). x.activity) row_here ∙ ended.activity_is; ends = x.ends });
        free = λ p z. absurd (not_begun (sym begun.stage ∙ sym (ap (λ (x : Knot). x.stage) same_knot) ∙ p));
        waits = tt;
        begun = λ c. clear_kept job s u h.who h.who b.ways b.ways (λ w. v ≡ w) changes D earlier (shown.0.begun (ap was_begun begun.stage));
        listed = subst (λ ks. AreListed job u h.who wide k (siblings job ks js)) (sym (ap (λ (x : Operation). x.children) row_here ∙ ended.children))
            (subst (AreListed job u h.who wide k) (sym (text_siblings job o.children is y.text))
            (listed_kept job s u h.who h.who b.ways b.ways (λ w. v ≡ w) changes roots wide wide_roots under k (λ x z n c. c) (siblings job o.children is) shown.0.listed));
      }

      kids : ShowsChildren job u h.who b.ways v k 0 [] wide o.children js
      kids = text_shows job u h.who b.ways v k 0 [] wide o.children is y.text
          (children_kept job s u h.who h.who b.ways b.ways (λ w. v ≡ w) changes makings h.made h.own_made v k 0 [] roots wide o.children is wide_roots under
          (λ c l z q. not_above v c z (q ∙ append_assoc v (c ∷ []) z)) shown.1)

      left_is : g (op D N i f ps (out w d) is) ≡ op D N i y.frame [] (closing x.ending) js
      left_is = ap (λ (z : Stepped G (Node G)). z.left) x.behind_is

      opens_ended : IsOpen job u h.who b.ways v k earlier more (g (op D N i f ps (out w d) is))
      opens_ended = subst (IsOpen job u h.who b.ways v k earlier more) (sym left_is)
          (subst (λ rs. OpenRow job u h.who b.ways v k earlier rs D N y.frame [] (closing x.ending) js × ShowsChildren job u h.who b.ways v k 0 [] rs (operation_at u k).children js)
          (sym (ap (λ rs. more ++ rs) own_here))
          (row_shows, subst (λ ks. ShowsChildren job u h.who b.ways v k 0 [] wide ks js) (sym (ap (λ (x : Operation). x.children) row_here ∙ ended.children)) kids))

    -- ---- the board

    opens_here : (w : List ℕ) (j : ℕ) (earlier : List Sibling) (above more : List RootId) (n : Node G) → v ≡ w → IsWider u above more → IsHere w j earlier above n → OpenHere job s b h k v at s.tree s.roots live row knotted begun.within begun.there ongoing ended.parent h.who (λ x l. (l, refl)) (λ r l. refl) keeps.live_stays keeps.fields_stay w j earlier more (g n)
    opens_here w j earlier above more n q wider y = by_out job s b h k v at claim before act (λ w j earlier above n. (more : List RootId) → IsWider u above more → OpenHere job s b h k v at s.tree s.roots live row knotted begun.within begun.there ongoing ended.parent h.who (λ x l. (l, refl)) (λ r l. refl) keeps.live_stays keeps.fields_stay w j earlier more (g n))
        (λ earlier above D N i f ps w d is below shown more wider. (refl, opens_ended earlier above more D N i f ps w d is below wider shown))
        w j earlier above n y more wider

    counts : OfAll job s h.who b.ways IsHere (λ n. children_at G K [] (g n) ≡ children_at G K [] n + 0)
    counts = by_out job s b h k v at claim before act (λ w j earlier above n. children_at G K [] (g n) ≡ children_at G K [] n + 0)
        (λ earlier above D N i f ps w d is below shown.
        ap (children_at G K []) (ap (λ (z : Stepped G (Node G)). z.left) (so earlier above D N i f ps w d is below shown).behind_is)
        ∙ text_count job is (run f ps w d is).text ∙ omega arith)

    makes : OfAll job s h.who b.ways IsHere (λ n. made_in G K (g n) ≡ made_in G K n + 0)
    makes = by_out job s b h k v at claim before act (λ w j earlier above n. made_in G K (g n) ≡ made_in G K n + 0)
        (λ earlier above D N i f ps w d is below shown.
        ap (made_in G K) (ap (λ (z : Stepped G (Node G)). z.left) (so earlier above D N i f ps w d is below shown).behind_is)
        ∙ ap (λ z. i + z) (text_made job K is (run f ps w d is).text) ∙ omega arith)

    holds : MapShows job live s.roots h.who (run_all G (told_at G v (effects_of job makings) b.state.tree) b.state.map)
    holds = told_holds job s h.who b.ways IsHere (effects_of job makings) (λ es. MapShows job live s.roots h.who (run_all G es b.state.map))
        (by_out job s b h k v at claim before act (λ w j earlier above n. MapShows job live s.roots h.who (run_all G (effects_of job makings n) b.state.map))
        (λ earlier above D N i f ps w d is below shown.
        let z = so earlier above D N i f ps w d is below shown in
        subst (λ es. MapShows job live s.roots h.who (run_all G es b.state.map)) (sym (ap (λ (x : Stepped G (Node G)). x.effects) z.behind_is)) z.held))
        v [] 0 [] [] b.state.tree at_here

    first : All (λ (r : RootId). is_live live r.0 ≡ true) (operation_at u 0).frame.own
    first = subst (λ rs. All (λ (r : RootId). is_live live r.0 ≡ true) rs) (sym (own_same job s b h k v at s.tree s.roots live row knotted begun.within begun.there ongoing ended.parent h.who (λ x l. (l, refl)) (λ r l. refl) keeps.live_stays keeps.fields_stay ended.own 0))
        (All-weaker (λ (r : RootId). is_live s.map r.0 ≡ true) (λ (r : RootId). is_live live r.0 ≡ true) (λ r l. keeps.live_stays r.0 l) (operation_at s 0).frame.own h.first)

    none_made : made_in G K b.state.tree ≡ made_in G K b.state.tree + 0
    none_made = omega arith

    board_opens : OpenBoard job u (given_board job b k v (edited G v g b.state.tree)) k v
    board_opens = opens job s b h k v at s.tree s.roots live row knotted begun.within begun.there ongoing ended.parent h.who (λ x l. (l, refl)) (λ r l. refl) keeps.live_stays keeps.fields_stay ended.children g (λ n. restop_needs job makings (left_of job makings n) ∙ paused_needs job makings n) 0 counts makes opens_here
        (λ seat. ap (is_claimed job seat) ended.activity_is) h.extents (subst (AreMade (length s.roots) h.who) none_made h.made) h.regions holds first (own_made_same job s b h k v at s.tree s.roots live row knotted begun.within begun.there ongoing ended.parent h.who (λ x l. (l, refl)) (λ r l. refl) keeps.live_stays keeps.fields_stay ended.own) (own_apart_same job s b h k v at s.tree s.roots live row knotted begun.within begun.there ongoing ended.parent h.who (λ x l. (l, refl)) (λ r l. refl) keeps.live_stays keeps.fields_stay ended.own)

    pub ended_opens : yielded_by job s k before ≡ u → Opens job b k v s before
    ended_opens yields = record {
      change = g;
      leaves = subst (λ z. OpenBoard job z (given_board job b k v (edited G v g b.state.tree)) k v) (sym yields) board_opens;
      same = refl;
    }
