-- Behind a segment that yields calls, and before the first of them is issued: the caller waits for nothing, and all shows.
use Rattle.std.proofs.Common.{◌≡◌, ◌<◌, ◌+◌, ◌++◌, ◌∷◌, ◌∙◌, ⊎_elim, ℕ, List, Some, [], ap, append_assoc, arith, false, length, map, refl, subst, sym, true}
use Rattle.std.specs.Prelude.{All}
use Rattle.std.proofs.lemmas.List.Elements.{All-append, All-contains, All-nil, All-weaker}
use Rattle.region_tree.specs.Requirements.{Requirement}
use Rattle.region_tree.specs.declared.tree.RootId.{RootId}
use Rattle.logical_map.specs.Maps.{LogicalMap, columns_of, is_live}
use Rattle.dependence_graph.specs.Entries.{Knot}
use Rattle.dependence_graph.specs.Graphs.{knot_on}
use Rattle.dependence_graph.specs.Knots.{has_failed, is_done, knot_at}
use Rattle.dependence_graph.specs.declared.stage.Stage.TheVariants as knot
use Rattle.task_code.specs.declared.job.Job.{Job}
use Rattle.machine_terms.specs.declared.frame.Before.{Before}
use Rattle.machine_terms.specs.declared.frame.Frame.{Frame}
use Rattle.machine_terms.specs.declared.outcome.After.{After}
use Rattle.machine_terms.specs.Segments.{segment}
use Rattle.board_rules.specs.Boards.{Items, Operation as Node, Wait as BoardWait, awaited, child_count, closing, dropped, filling, idle, met_by, nothing, op, out, over}
use Rattle.board_rules.specs.Ground.{Ground}
use Rattle.board_rules.specs.NumberedBoards.{Board, without}
use Rattle.board_rules.specs.Processes.{Map, run_all}
use Rattle.board_rules.specs.RootNumbers.{made_in}
use Rattle.board_rules.specs.Running.{After as BoardAfter, Element, Machine, puts}
use Rattle.regent_boards.specs.Frames as board
use Rattle.regent_boards.specs.RegentMachine.{regent_ground}
use Rattle.code_boards.specs.Laws.{machine_of}
use Rattle.code_boards.specs.Views.{spaces_of}
use Rattle.board_terms.specs.declared.claim.Claim.{Claim}
use Rattle.board_terms.specs.declared.operation.Activity.TheVariants as activity
use Rattle.board_terms.specs.declared.operation.Operation.{Operation}
use Rattle.board_terms.specs.declared.operation.Wait.TheVariants as wait
use Rattle.board_terms.specs.Gives.{also_said, behind_segment, frame_left, with_parts}
use Rattle.board_terms.specs.Stages.{is_over, stage_of}
use Rattle.board_terms.specs.States.{State, operation_at}
use Rattle.board_trees.specs.Frames.{IsSeen}
use Rattle.board_trees.specs.Names.{AreMade, IsNaming}
use Rattle.board_trees.specs.Places.{LeavesPlaces}
use Rattle.board_trees.specs.Shows.{AreListed, Row, Shows, ShowsBoard, ShowsChildren, is_claimed, needs_issued, siblings}
use Rattle.board_trees.specs.Stages.{Stands, WaitsWell, was_begun}
use Rattle.board_trees.specs.Waits.{Sibling}
use Rattle.board_trees.proofs.Along.{not_above}
use Rattle.board_trees.proofs.Kept.{seen_as}
use Rattle.board_trees.proofs.Named.{is_naming, named_all}
use Rattle.given_trees.specs.Parts.{MapShows}
use Rattle.given_trees.specs.Segments.{AreLeft}
use Rattle.given_trees.proofs.Left.{left_seen, none_held}
use Rattle.given_trees.proofs.Maps.{fields_same, parts_live, parts_shapes}
use Rattle.given_trees.proofs.Parts.{parts_show}
use Rattle.given_trees.proofs.Segments.{segments_show}
use Rattle.changed_trees.specs.Changes.{Change, IsAt, IsWider}
use Rattle.changed_trees.specs.Edits.{edited, told_at}
use Rattle.changed_trees.specs.Given.{effects_of, makings_before}
use Rattle.changed_trees.specs.Open.{Asked}
use Rattle.changed_trees.proofs.Below.{children_kept}
use Rattle.changed_trees.proofs.Kept.{back, clear_kept, listed_kept, seen_kept, shown_match, wider_itself, wider_on}
use Rattle.changed_trees.proofs.One.{IsOngoing, knot_is, one_changed, row_is}
use Rattle.changed_trees.proofs.Walks.{OfAll, told_holds}
use Rattle.yielded_trees.proofs.Builder.{change, known_left, own_apart_same, own_made_same, own_same, shows_with}
use Rattle.yielded_trees.proofs.Found.{Here, by_out, here_at}
use Rattle.yielded_trees.proofs.Out.{Begun, has_begun, leaves_places, own_stays}
use Rattle.yielded_trees.proofs.Trees.{many_children, text_made, text_said, text_shows, text_siblings, with_text}
use Rattle.called_trees.proofs.Issuing.{IsGoing}
use Rattle.called_trees.proofs.Calling.{IsAlike, IsAmong, IsCalling, NewCall, Calling, calling_shows}

module _ (job : Job) (s : State) (b : Board (regent_ground (spaces_of job.code))) (h : ShowsBoard job s b) (k : ℕ) (v : List ℕ) (at : IsAt job b.ways k v)
    (claim : Claim) (before : Before) (act : (operation_at s k).activity ≡ activity.Out claim before) (g : Frame) (goes : (segment before).frame ≡ Some g) where
  abbrev pub G : Ground
  G = regent_ground (spaces_of job.code)

  abbrev pub makings : ℕ
  makings = makings_before job b k v

  abbrev pub M : Machine G
  M = machine_of job makings

  abbrev o : Operation
  o = operation_at s k

  abbrev a : After
  a = segment before

  abbrev pub run : (f : board.Frame) (ps : List (Element G)) (w : BoardWait G) (d : List (Element G)) (is : Items G) → BoardAfter G
  run f ps w d is = M.segment (met_by G M w f (awaited G M w is)) (ps ++ d)

  -- names for all roots that were made
  abbrev pub name : ℕ → ℕ
  name = named_all s.roots h.who makings h.made 0

  pub naming : (roots : List RootId) → All (λ (r : RootId). r.0 < length s.roots) roots → IsNaming s.roots h.who roots name
  naming roots below = is_naming s.roots h.who makings h.made 0 roots below

  -- ---- the table

  abbrev pub live : LogicalMap
  live = with_parts a.parts s.map

  abbrev pub row : Operation
  row = record (behind_segment o a) { parts = []; wait = wait.Nothing }

  abbrev pub knotted : Knot
  knotted = knot_on s.waits.knots (knot_at s.waits.knots k).parent [] knot.Parked knot.Stopped

  pub begun : Begun s k
  begun = has_begun job s b h k v at claim before act

  pub ongoing : IsOngoing s s.tree s.roots live k row knotted begun.within begun.there
  ongoing = record {
    before = ap is_done begun.was;
    unfailed = ap has_failed begun.was;
    runs = ap (λ x. is_over (stage_of x o.wait o.activity)) begun.stage ∙ ap (λ x. is_over (stage_of knot.Begun o.wait x)) act;
    now = refl;
    fails = refl;
    open_now = refl;
  }

  pub stays_live : (r : ℕ) → is_live s.map r ≡ true → is_live live r ≡ true
  stays_live r l = parts_live a.parts s.map r ∙ l

  pub stays_field : (r field : ℕ) → field < length (columns_of s.map r) → field < length (columns_of live r)
  stays_field r field l = subst (λ x. field < x) (sym (fields_same live s.map r (parts_shapes a.parts s.map r))) l

  abbrev pub u : State
  u = one_changed s s.tree s.roots live k row knotted

  changes : Change job s u h.who h.who b.ways b.ways (λ w. v ≡ w)
  changes = change job s b h k v at s.tree s.roots live row knotted begun.within begun.there ongoing refl h.who (λ n l. (l, refl)) (λ r l. refl) stays_live stays_field

  row_here : operation_at u k ≡ row
  row_here = row_is s s.tree s.roots live k row knotted begun.within begun.there

  knot_here : knot_at u.waits.knots k ≡ knotted
  knot_here = knot_is s s.tree s.roots live k row knotted begun.within begun.there

  pub own_kept : row.frame.own ≡ o.frame.own
  own_kept = ap (λ x. (frame_left o.frame x).own) goes ∙ own_stays job s b h k v at claim before act g goes

  frame_is : row.frame ≡ g
  frame_is = ap (frame_left o.frame) goes

  -- ---- the tree

  -- the operation behind its segment, before its calls
  abbrev pub behind : Node G → Node G
  behind (op D N i f ps (out w d) is) = op D N i (run f ps w d is).frame [] (idle nothing) (with_text job is (run f ps w d is).text)
  behind n = n

  needs_stay : (n : Node G) → needs_issued job (behind n) ≡ needs_issued job n
  needs_stay (op D N i f ps (out w d) is) = refl
  needs_stay (op D N i f ps (idle w) is) = refl
  needs_stay (op D N i f ps (filling w d l) is) = refl
  needs_stay (op D N i f ps (closing e) is) = refl
  needs_stay (op D N i f ps (over e) is) = refl
  needs_stay (op D N i f ps dropped is) = refl

  module _ (earlier : List Sibling) (above more : List RootId) (D N : List Requirement) (i : ℕ) (f : board.Frame) (ps : List (Element G)) (w : BoardWait G) (d : List (Element G)) (is : Items G)
      (below : All (λ (r : RootId). r.0 < length s.roots) above) (wider : IsWider u above more) (shown : Shows job s h.who b.ways v k earlier above (op D N i f ps (out w d) is)) where
    abbrev roots : List RootId
    roots = above ++ o.frame.own

    abbrev wide : List RootId
    wide = more ++ o.frame.own

    abbrev y : BoardAfter G
    y = run f ps w d is

    abbrev js : Items G
    js = with_text job is y.text

    left : AreLeft job s h.who roots o N (met_by G M w f (awaited G M w is)) a y
    left = segments_show job s b h v k earlier above D N i f ps d w is shown below claim before act makings

    places : LeavesPlaces s.tree a
    places = leaves_places job s b h k v at claim before act earlier above D N i f ps w d is below shown

    under : All (λ (r : RootId). r.0 < length s.roots) roots
    under = All-append (λ (r : RootId). r.0 < length s.roots) above o.frame.own below (h.own_made k)

    wide_roots : IsWider u roots wide
    wide_roots = wider_on u above more o.frame.own wider

    back_name : (one : ℕ → ℕ) → IsNaming s.roots h.who wide one → IsNaming s.roots h.who roots one
    back_name = back job s u h.who h.who b.ways b.ways (λ w. v ≡ w) changes roots wide wide_roots under

    pub held : MapShows job live s.roots h.who (run_all G (puts G M y.parts) b.state.map)
    held = parts_show job s.roots h.who makings s.map b.state.map roots y.parts a.parts h.made under h.held left.parts left.held left.fitting left.once

    from_none : 0 + child_count G is ≡ length o.children
    from_none = let z = many_children job o.children is (shown_match job s h.who b.ways v k 0 [] roots o.children is shown.1) in omega (arith, z)

    caller_seen : IsSeen job.code s.tree s.map s.roots h.who roots row N y.frame []
    caller_seen = subst (λ (e : Frame). IsSeen job.code s.tree s.map s.roots h.who roots (record row { frame = e }) N y.frame []) (sym frame_is)
        (seen_as job s h.who roots (record (behind_segment o a) { frame = g; parts = [] }) row N y.frame []
        (left_seen job s h.who roots o N f (met_by G M w f (awaited G M w is)) ps shown.0.seen a y left places g goes [] []
        (none_held job s h.who roots o N f (met_by G M w f (awaited G M w is)) ps shown.0.seen a y left places g goes) s.map (λ r l. l) (λ r field l. l)))

    row_shows : Row job u h.who b.ways v k earlier wide D N y.frame [] (idle nothing) js
    row_shows = record {
      within = changes.size k begun.within;
      knot = changes.knots k begun.there;
      way_is = at;
      own = λ one z. left.own one (back_name one z) ∙ ap (map (λ (r : RootId). one r.0)) (sym (ap (λ (x : Operation). x.frame.own) row_here ∙ own_kept));
      seen = subst (λ (x : Operation). IsSeen job.code u.tree u.map u.roots h.who wide x N y.frame []) (sym row_here)
          (seen_kept job s u h.who h.who b.ways b.ways (λ w. v ≡ w) changes roots wide wide_roots under row N y.frame [] caller_seen);
      said_is = text_said job 0 is y.text ∙ (λ z. also_said (from_none z) (left.text z) (shown.0.said_is z)) ∙ ap (λ (x : Operation). x.said) (sym row_here);
      stands = subst (λ (x : Knot). Stands job.code u.roots h.who wide u x.stage (operation_at u k) N (idle nothing)) (sym knot_here)
          (subst (λ (x : Operation). Stands job.code u.roots h.who wide u knotted.stage x N (idle nothing)) (sym row_here) (refl, (refl, tt)));
      free = λ p e. absurd cc;
      waits = subst (λ (x : Knot). WaitsWell job.code u.waits.knots D N earlier (siblings job (operation_at u k).children js) x.on (idle nothing)) (sym knot_here) (refl, refl);
      begun = λ z. clear_kept job s u h.who h.who b.ways b.ways (λ w. v ≡ w) changes D earlier (shown.0.begun (ap was_begun begun.stage));
      listed = subst (λ (x : Operation). AreListed job u h.who wide k (siblings job x.children js)) (sym row_here)
          (subst (AreListed job u h.who wide k) (sym (text_siblings job o.children is y.text))
          (listed_kept job s u h.who h.who b.ways b.ways (λ w. v ≡ w) changes roots wide wide_roots under k (λ x z n c. c) (siblings job o.children is) shown.0.listed));
      children_are = tt;
    }

    kids : ShowsChildren job u h.who b.ways v k 0 [] wide o.children js
    kids = text_shows job u h.who b.ways v k 0 [] wide o.children is y.text
        (children_kept job s u h.who h.who b.ways b.ways (λ w. v ≡ w) changes makings h.made h.own_made v k 0 [] roots wide o.children is wide_roots under
        (λ c l z q. not_above v c z (q ∙ append_assoc v (c ∷ []) z)) shown.1)

    shows_behind : Shows job u h.who b.ways v k earlier more (op D N i y.frame [] (idle nothing) js)
    shows_behind = subst (λ rs. Row job u h.who b.ways v k earlier rs D N y.frame [] (idle nothing) js × ShowsChildren job u h.who b.ways v k 0 [] rs (operation_at u k).children js)
        (ap (λ rs. more ++ rs) (sym own_kept ∙ ap (λ (x : Operation). x.frame.own) (sym row_here)))
        (row_shows, subst (λ (x : Operation). ShowsChildren job u h.who b.ways v k 0 [] wide x.children js) (sym row_here) kids)

    -- what calls speak of, with roots more
    module _ (depth : ℕ) (calls : List NewCall) (alike : All (IsAlike job s h.who b.ways k v name depth roots) calls) where
      calling : IsCalling job u h.who b.ways k v name depth calls [] earlier more D N i y.frame [] (idle nothing) js
      calling = record {
        below = λ z e l. ⊎_elim (λ y. All-contains (λ (r : RootId). r.0 < length s.roots) above _ below y) (λ y. (held _ y).made) (wider.added z e l);
        stage_is = refl;
        shown = shows_behind;
        alike = subst (λ rs. All (IsAlike job u h.who b.ways k v name depth (more ++ rs)) calls) (sym own_kept ∙ ap (λ (x : Operation). x.frame.own) (sym row_here))
            (All-weaker (IsAlike job s h.who b.ways k v name depth roots) (IsAlike job u h.who b.ways k v name depth wide)
            (λ c a one other z y. a one other (back_name one z) (back_name other y)) calls alike);
        among = All-nil (IsAmong job u h.who b.ways k v name depth (more ++ (operation_at u k).frame.own) (siblings job (operation_at u k).children js));
      }

  -- ---- the board

  module _ (depth : ℕ) (calls : List NewCall)
      (alike : (earlier : List Sibling) (above : List RootId) (D N : List Requirement) (i : ℕ) (f : board.Frame) (ps : List (Element G)) (w : BoardWait G) (d : List (Element G)) (is : Items G) →
      All (λ (r : RootId). r.0 < length s.roots) above → Shows job s h.who b.ways v k earlier above (op D N i f ps (out w d) is) → All (IsAlike job s h.who b.ways k v name depth (above ++ o.frame.own)) calls)
      (told : (earlier : List Sibling) (above : List RootId) (D N : List Requirement) (i : ℕ) (f : board.Frame) (ps : List (Element G)) (w : BoardWait G) (d : List (Element G)) (is : Items G) →
      All (λ (r : RootId). r.0 < length s.roots) above → Shows job s h.who b.ways v k earlier above (op D N i f ps (out w d) is) → effects_of job makings (op D N i f ps (out w d) is) ≡ puts G M (run f ps w d is).parts) where
    abbrev There : Asked job
    There = Here job s b h k v at claim before act

    abbrev Behind : Asked job
    Behind = Calling job u h.who b.ways k v name depth calls []

    own : (w : List ℕ) (j : ℕ) (earlier : List Sibling) (above more : List RootId) (n : Node G) → v ≡ w → IsWider u above more → There w j earlier above n → Behind w j earlier more (behind n)
    own w j earlier above more n e wider y = by_out job s b h k v at claim before act (λ w j earlier above n. (more : List RootId) → IsWider u above more → Behind w j earlier more (behind n))
        (λ earlier above D N i f ps w d is below shown more wider. (refl, refl, calling earlier above more D N i f ps w d is below wider shown depth calls (alike earlier above D N i f ps w d is below shown)))
        w j earlier above n y more wider

    makes : OfAll job s h.who b.ways There (λ n. made_in G (machine_of job) (behind n) ≡ made_in G (machine_of job) n + 0)
    makes = by_out job s b h k v at claim before act (λ w j earlier above n. made_in G (machine_of job) (behind n) ≡ made_in G (machine_of job) n + 0)
        (λ earlier above D N i f ps w d is below shown. ap (λ z. i + z) (text_made job (machine_of job) is (run f ps w d is).text) ∙ omega arith)

    abbrev pub now : Map G
    now = run_all G (told_at G v (effects_of job makings) b.state.tree) b.state.map

    holds : MapShows job live s.roots h.who now
    holds = told_holds job s h.who b.ways There (effects_of job makings) (λ es. MapShows job live s.roots h.who (run_all G es b.state.map))
        (by_out job s b h k v at claim before act (λ w j earlier above n. MapShows job live s.roots h.who (run_all G (effects_of job makings n) b.state.map))
        (λ earlier above D N i f ps w d is below shown.
        subst (λ es. MapShows job live s.roots h.who (run_all G es b.state.map)) (sym (told earlier above D N i f ps w d is below shown))
        (held earlier above above D N i f ps w d is below (wider_itself u above) shown)))
        v [] 0 [] [] b.state.tree (here_at job s b h k v at claim before act)

    none_made : made_in G (machine_of job) b.state.tree ≡ made_in G (machine_of job) b.state.tree + 0
    none_made = omega arith

    first : All (λ (r : RootId). is_live live r.0 ≡ true) (operation_at u 0).frame.own
    first = subst (λ rs. All (λ (r : RootId). is_live live r.0 ≡ true) rs)
        (sym (own_same job s b h k v at s.tree s.roots live row knotted begun.within begun.there ongoing refl h.who (λ n l. (l, refl)) (λ r l. refl) stays_live stays_field own_kept 0))
        (All-weaker (λ (r : RootId). is_live s.map r.0 ≡ true) (λ (r : RootId). is_live live r.0 ≡ true) (λ r l. stays_live r.0 l) (operation_at s 0).frame.own h.first)

    made_now : AreMade (length s.roots) h.who (made_in G (machine_of job) b.state.tree + 0)
    made_now = subst (λ n. AreMade (length s.roots) h.who n) none_made h.made

    unclaimed : (seat : ℕ) → is_claimed job seat row.activity ≡ false
    unclaimed seat = refl

    own_made_now : (j : ℕ) → All (λ (r : RootId). r.0 < length s.roots) (operation_at u j).frame.own
    own_made_now = own_made_same job s b h k v at s.tree s.roots live row knotted begun.within begun.there ongoing refl h.who (λ n l. (l, refl)) (λ r l. refl) stays_live stays_field own_kept

    own_apart_now : (i j : ℕ) → ¬ (i ≡ j) → All (λ (r : RootId). All (λ (q : RootId). ¬ (r ≡ q)) (operation_at u j).frame.own) (operation_at u i).frame.own
    own_apart_now = own_apart_same job s b h k v at s.tree s.roots live row knotted begun.within begun.there ongoing refl h.who (λ n l. (l, refl)) (λ r l. refl) stays_live stays_field own_kept

    abbrev pub base : Board G
    base = record { state = record { tree = edited G v behind b.state.tree; map = now }; ways = b.ways; claims = without G (machine_of job) k b.claims; turns = b.turns }

    pub base_goes : IsGoing job k v name depth u base calls []
    base_goes = record {
      shows = shows_with job s b h k v at s.tree s.roots live row knotted begun.within begun.there ongoing refl h.who (λ n l. (l, refl)) (λ r l. refl) stays_live stays_field refl
          There Behind (here_at job s b h k v at claim before act) (λ w j earlier above n y. y.3) behind needs_stay 0 makes own made_now now unclaimed h.extents h.regions holds first own_made_now own_apart_now
          (calling_shows job u h.who b.ways k v name depth calls []);
      at = at;
      naming = naming;
      here = known_left job s b h k v at s.tree s.roots live row knotted begun.within begun.there ongoing refl h.who (λ n l. (l, refl)) (λ r l. refl) stays_live stays_field refl
          There Behind (here_at job s b h k v at claim before act) (λ w j earlier above n y. y.3) behind needs_stay 0 makes own;
    }
