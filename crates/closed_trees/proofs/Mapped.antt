-- Roots of an operation whose work has ended, and all of whose children are over, are closed: all goes on to show.
use Rattle.std.proofs.Common.{◌≡◌, ◌<◌, ◌≤◌, ◌+◌, ◌++◌, ◌∷◌, ◌∙◌, ℕ, zero, suc, List, None, Option, Some, [], ap, arith, length, map, refl, subst, sym, true, append-nil, append_assoc}
use Rattle.std.specs.Prelude.{All, get_or, slice_get}
use Rattle.std.proofs.lemmas.Bool.{and_parts, false≢true}
use Rattle.std.proofs.lemmas.List.Elements.{All-append}
use Rattle.lane_kernels.specs.Numbers.{FitsWidth, width_of}
use Rattle.plain_values.specs.Points.{points}
use Rattle.region_tree.specs.Requirements.{Requirement}
use Rattle.region_tree.specs.declared.tree.OpNumber.{OpNumber}
use Rattle.region_tree.specs.declared.tree.RootId.{RootId}
use Rattle.logical_map.specs.Laws.{IsWhole}
use Rattle.logical_map.specs.Maps.{Column, LogicalMap, no_column, number_in_column}
use Rattle.dependence_graph.specs.Knots.{knot_at}
use Rattle.dependence_graph.specs.declared.stage.Stage.{Stage as Knotted}
use Rattle.task_code.specs.declared.job.Job.{Job}
use Rattle.machine_terms.specs.Orders.{settled}
use Rattle.board_rules.specs.Boards.{Ending as BoardEnding, Items, Operation as Node, Stage as BoardStage, child, child_op, closing, dropped, filling, first, idle, no_item, nothing, op, out, over, part, said}
use Rattle.board_rules.specs.Boards as tree
use Rattle.board_rules.specs.Ground.{Ground}
use Rattle.board_rules.specs.Processes.{Map}
use Rattle.board_rules.specs.Running.{Element}
use Rattle.regent_boards.specs.Frames as board
use Rattle.regent_boards.specs.RegentMachine.{regent_ground}
use Rattle.code_boards.specs.Views.{spaces_of}
use Rattle.board_terms.specs.declared.extent.Extent.{Extent}
use Rattle.board_terms.specs.declared.operation.Activity.TheVariants as activity
use Rattle.board_terms.specs.declared.operation.Operation.{Operation}
use Rattle.board_terms.specs.declared.operation.Wait.{Wait}
use Rattle.board_terms.specs.declared.operation.Wait.TheVariants as wait
use Rattle.board_terms.specs.Claims.{before_of, frame_behind, value_at}
use Rattle.board_terms.specs.Closings.{all_over, closed_all}
use Rattle.board_terms.specs.Stages.{is_over}
use Rattle.board_terms.specs.Stages as table
use Rattle.board_terms.specs.States.{State, no_extent, operation_at}
use Rattle.board_trees.specs.Frames.{IsSeen}
use Rattle.board_trees.specs.Names.{AreMade, pointed}
use Rattle.board_trees.specs.Shows.{AreListed, HoldsMap, IfRuns, IsChild, Row, Shows, ShowsChildren, needs_issued, siblings}
use Rattle.board_trees.specs.Stages.{ChildrenAre, Stands}
use Rattle.board_trees.specs.Waits.{Sibling}
use Rattle.board_trees.proofs.Along.{not_above, places_same}
use Rattle.board_trees.proofs.Settled.{node_told}
use Rattle.changed_trees.specs.Changes.{IsAt}
use Rattle.changed_trees.specs.Open.{Asked, HasAmong, HasAt, IsOpen}
use Rattle.closed_trees.proofs.Reached.{one_way}
use Rattle.closed_trees.proofs.Roots.{IsFree, all_live, columns_still, fields_still}

module _ (job : Job) where
  abbrev G : Ground
  G = regent_ground (spaces_of job.code)

  -- ---- the map

  pub holds_still : (gone : List RootId) (m : LogicalMap) (extents : List Extent) (who : ℕ → ℕ) (M : Map G) (r : RootId) → IsFree gone r →
      HoldsMap job m extents who M r.0 → HoldsMap job (closed_all gone m) extents who M r.0
  holds_still gone m extents who M r free h =
      let same = sym (columns_still gone m r free) in
      record {
        made = h.made;
        kinds = ap (map (λ (c : Column). c.kind)) (sym same) ∙ h.kinds;
        points_are = subst (All (λ (c : Column). c.points ≡ points (get_or extents r.0 no_extent).count)) same h.points_are;
        whole = subst (All IsWhole) same h.whole;
        numbers = λ field point l b. ap (λ cs. number_in_column (get_or cs field no_column) point) (sym same) ∙ h.numbers field point (subst (λ cs. field < length cs) (sym same) l) b;
        fit = λ field point. subst (λ cs. FitsWidth (width_of (get_or cs field no_column).kind) (number_in_column (get_or cs field no_column) point)) same (h.fit field point);
      }

  module _ (s : State) (who : ℕ → ℕ) (ways : List (List ℕ)) (gone : List RootId) where
    abbrev pub u : State
    u = record s { map = closed_all gone s.map }

    -- ---- rows

    value_still : (o : Option OpNumber) → value_at u o ≡ value_at s o
    value_still None = refl
    value_still (Some k) = refl

    frame_still : (o : Operation) (w : Wait) → frame_behind u o w ≡ frame_behind s o w
    frame_still o wait.Beginning = refl
    frame_still o wait.Nothing = refl
    frame_still o (wait.Part root field) = refl
    frame_still o (wait.Child n) = ap (λ z. record o.frame { slots = map (settled n z) o.frame.slots }) (value_still (slice_get o.children n))

    stands_still : (roots : List RootId) (kn : Knotted) (o : Operation) (N : List Requirement) (st : BoardStage G) →
        Stands job.code s.roots who roots s kn o N st → Stands job.code s.roots who roots u kn o N st
    stands_still roots kn o N (idle w) h = h
    stands_still roots kn o N (filling w d l) h = h
    stands_still roots kn o N (out w d) h = (
      h.0,
      record {
        waits = h.1.waits;
        claim = h.1.claim;
        fill = h.1.fill;
        activity_is = h.1.activity_is ∙ (λ i. activity.Out h.1.claim (record (before_of job.code s o h.1.fill) { frame = sym (frame_still o o.wait) i }));
        fills = h.1.fills;
      },
    )
    stands_still roots kn o N (closing e) h = h
    stands_still roots kn o N (over e) h = h
    stands_still roots kn o N dropped h = h

    children_still : (ks : List OpNumber) (st : BoardStage G) → ChildrenAre job.code s ks st → ChildrenAre job.code u ks st
    children_still ks (idle w) h = h
    children_still ks (filling w d l) h = h
    children_still ks (out w d) h = h
    children_still ks (closing e) h = h
    children_still ks (over e) h = h
    children_still ks dropped h = h

    listed_still : (roots : List RootId) (j : ℕ) (xs : List Sibling) → AreListed job s who roots j xs → AreListed job u who roots j xs
    listed_still roots j [] h = tt
    listed_still roots j (x ∷ xs) h = (
      λ e. let l = h.0 e in record { entry = l.entry; there = l.there; op_is = l.op_is; context = l.context; issued = l.issued; placed = l.placed; upward = l.upward; alike = l.alike; own = l.own; others = l.others },
      listed_still roots j xs h.1,
    )

    row_still : (way : List ℕ) (j : ℕ) (earlier : List Sibling) (roots : List RootId) (D N : List Requirement) (f : board.Frame) (ps : List (Element G)) (st : BoardStage G) (is : Items G) →
        IfRuns job st (IsSeen job.code u.tree u.map u.roots who roots (operation_at u j) N f ps) → Row job s who ways way j earlier roots D N f ps st is →
        Row job u who ways way j earlier roots D N f ps st is
    row_still way j earlier roots D N f ps st is seen h = record {
      within = h.within;
      knot = h.knot;
      way_is = h.way_is;
      own = h.own;
      seen = seen;
      said_is = h.said_is;
      stands = stands_still roots (knot_at s.waits.knots j).stage (operation_at s j) N st h.stands;
      free = h.free;
      waits = h.waits;
      begun = h.begun;
      listed = listed_still roots j (siblings job (operation_at s j).children is) h.listed;
      children_are = children_still (operation_at s j).children st h.children_are;
    }

    child_still : (j k : ℕ) → IsChild job s who ways j k → IsChild job u who ways j k
    child_still j k h = record { parent = h.parent; later = h.later }

    -- ---- below what is over

    quiet : (st : BoardStage G) (P : Type 0) → tree.is_over G st ≡ true → IfRuns job st P
    quiet (idle w) P e = absurd (false≢true e)
    quiet (filling w d l) P e = absurd (false≢true e)
    quiet (out w d) P e = absurd (false≢true e)
    quiet (closing x) P e = tt
    quiet (over x) P e = tt
    quiet dropped P e = tt

    over_below : (ks : List OpNumber) (st : BoardStage G) → tree.is_over G st ≡ true → ChildrenAre job.code s ks st → all_over s ks ≡ true
    over_below ks (idle w) e h = absurd (false≢true e)
    over_below ks (filling w d l) e h = absurd (false≢true e)
    over_below ks (out w d) e h = absurd (false≢true e)
    over_below ks (closing x) e h = absurd (false≢true e)
    over_below ks (over x) e h = h
    over_below ks dropped e h = ap (all_over s) h

    mutual
      over_still : (w : List ℕ) (k : ℕ) (earlier : List Sibling) (above : List RootId) (n : Node G) → Shows job s who ways w k earlier above n → tree.is_over G (tree.stage_of G n) ≡ true →
          Shows job u who ways w k earlier above n
      over_still w k earlier above (op D N i f ps st is) h e = (
        row_still w k earlier (above ++ (operation_at s k).frame.own) D N f ps st is (quiet st _ e) h.0,
        all_still w k 0 [] (above ++ (operation_at s k).frame.own) (operation_at s k).children is h.1 (over_below (operation_at s k).children st e h.0.children_are),
      )

      all_still : (w : List ℕ) (j c : ℕ) (earlier : List Sibling) (roots : List RootId) (ks : List OpNumber) (is : Items G) → ShowsChildren job s who ways w j c earlier roots ks is →
          all_over s ks ≡ true → ShowsChildren job u who ways w j c earlier roots ks is
      all_still w j c earlier roots ks no_item h e = h
      all_still w j c earlier roots ks (said t is) h e = all_still w j c earlier roots ks is h e
      all_still w j c earlier roots [] (child_op n is) h e = absurd h
      all_still w j c earlier roots (k ∷ ks) (child_op n is) h e =
          let both = and_parts (is_over (table.stage_at s k.0)) (all_over s ks) e in (
            child_still j k.0 h.0,
            over_still (w ++ c ∷ []) k.0 earlier roots n h.1 (sym (node_told job s who ways (w ++ c ∷ []) k.0 earlier roots n h.1).is_over ∙ both.0),
            all_still w j (suc c) (earlier ++ record { op = k.0; needs = needs_issued job n } ∷ []) roots ks is h.2 both.1,
          )

    -- one that is closing, and all of whose children are over
    pub open_still : (w : List ℕ) (k : ℕ) (earlier : List Sibling) (above : List RootId) (D N : List Requirement) (i : ℕ) (f : board.Frame) (ps : List (Element G)) (e : BoardEnding G) (is : Items G) →
        all_over s (operation_at s k).children ≡ true → IsOpen job s who ways w k earlier above (op D N i f ps (closing e) is) → IsOpen job u who ways w k earlier above (op D N i f ps (closing e) is)
    open_still w k earlier above D N i f ps e is all h = (
      record {
        within = h.0.within;
        knot = h.0.knot;
        way_is = h.0.way_is;
        going = h.0.going;
        own = h.0.own;
        seen = tt;
        said_is = h.0.said_is;
        stands = h.0.stands;
        free = h.0.free;
        waits = tt;
        begun = h.0.begun;
        listed = listed_still (above ++ (operation_at s k).frame.own) k (siblings job (operation_at s k).children is) h.0.listed;
      },
      all_still w k 0 [] (above ++ (operation_at s k).frame.own) (operation_at s k).children is h.1 all,
    )

    -- ---- beside it

    module _ (makings : ℕ) (made : AreMade (length s.roots) who makings) (own_made : (j : ℕ) → All (λ (r : RootId). r.0 < length s.roots) (operation_at s j).frame.own)
        (k : ℕ) (v : List ℕ) (at : IsAt job ways k v) (own_apart : (j : ℕ) → ¬ (j ≡ k) → All (IsFree gone) (operation_at s j).frame.own) where
      abbrev Free : List RootId → Type 0
      Free roots = All (IsFree gone) roots

      abbrev Below : List RootId → Type 0
      Below roots = All (λ (r : RootId). r.0 < length s.roots) roots

      seen_still : (roots : List RootId) (o : Operation) (N : List Requirement) (f : board.Frame) (ps : List (Element G)) → Free roots → Below roots →
          IsSeen job.code s.tree s.map s.roots who roots o N f ps → IsSeen job.code u.tree u.map u.roots who roots o N f ps
      seen_still roots o N f ps free below h = record {
        frame = h.frame;
        needs = h.needs;
        required = h.required;
        parts = h.parts;
        held = h.held;
        fitting = h.fitting;
        once = h.once;
        placed = h.placed;
        there = all_live gone s.map roots free h.there;
        fields = fields_still s.roots who makings made s.tree roots below gone free s.map (pointed N) o.frame.needs.items h.required h.placed.needs h.fields;
      }

      if_runs : {A B : Type 0} (st : BoardStage G) → (A → B) → IfRuns job st A → IfRuns job st B
      if_runs (idle w) f h = f h
      if_runs (filling w d l) f h = f h
      if_runs (out w d) f h = f h
      if_runs (closing e) f h = tt
      if_runs (over e) f h = tt
      if_runs dropped f h = tt

      other : (w : List ℕ) (j : ℕ) → IsAt job ways j w → ¬ (v ≡ w) → ¬ (j ≡ k)
      other w j a n e = n (one_way job ways k v w at (subst (λ x. IsAt job ways x w) e a))

      roots_free : (above : List RootId) (w : List ℕ) (j : ℕ) → IsAt job ways j w → ¬ (v ≡ w) → Free above → Free (above ++ (operation_at s j).frame.own)
      roots_free above w j a n free = All-append (IsFree gone) above (operation_at s j).frame.own free (own_apart j (other w j a n))

      roots_below : (above : List RootId) (j : ℕ) → Below above → Below (above ++ (operation_at s j).frame.own)
      roots_below above j below = All-append (λ (r : RootId). r.0 < length s.roots) above (operation_at s j).frame.own below (own_made j)

      mutual
        beside : (w : List ℕ) (j : ℕ) (earlier : List Sibling) (above : List RootId) (n : Node G) → Free above → Below above → ((z : List ℕ) → ¬ (v ≡ w ++ z)) →
            Shows job s who ways w j earlier above n → Shows job u who ways w j earlier above n
        beside w j earlier above (op D N i f ps st is) free below apart h =
            let here : ¬ (v ≡ w) = λ e. apart [] (e ∙ sym (append-nil w)) in
            let roots = above ++ (operation_at s j).frame.own in
            let free = roots_free above w j h.0.way_is here free in
            let below = roots_below above j below in (
              row_still w j earlier roots D N f ps st is (if_runs st (seen_still roots (operation_at s j) N f ps free below) h.0.seen) h.0,
              children_beside w j 0 [] roots (operation_at s j).children is free below (λ d b z e. apart (d ∷ z) (e ∙ append_assoc w (d ∷ []) z)) h.1,
            )

        children_beside : (w : List ℕ) (j c : ℕ) (earlier : List Sibling) (roots : List RootId) (ks : List OpNumber) (is : Items G) → Free roots → Below roots →
            ((d : ℕ) → c ≤ d → (z : List ℕ) → ¬ (v ≡ (w ++ d ∷ []) ++ z)) → ShowsChildren job s who ways w j c earlier roots ks is → ShowsChildren job u who ways w j c earlier roots ks is
        children_beside w j c earlier roots ks no_item free below apart h = h
        children_beside w j c earlier roots ks (said t is) free below apart h = children_beside w j c earlier roots ks is free below apart h
        children_beside w j c earlier roots [] (child_op n is) free below apart h = absurd h
        children_beside w j c earlier roots (x ∷ xs) (child_op n is) free below apart h = (
          child_still j x.0 h.0,
          beside (w ++ c ∷ []) x.0 earlier roots n free below (apart c (omega arith)) h.1,
          children_beside w j (suc c) (earlier ++ record { op = x.0; needs = needs_issued job n } ∷ []) roots xs is free below (λ d b. apart d (omega (arith, b))) h.2,
        )

      -- ---- and along the way to it

      module _ (B C : Asked job) (own : (w : List ℕ) (j : ℕ) (earlier : List Sibling) (above : List RootId) (n : Node G) → B w j earlier above n → C w j earlier above n) where
        mutual
          pub has_still : (way w : List ℕ) (j : ℕ) (earlier : List Sibling) (above : List RootId) (n : Node G) → v ≡ w ++ way → Free above → Below above →
              HasAt job s who ways B way w j earlier above n → HasAt job u who ways C way w j earlier above n
          has_still [] w j earlier above n e free below h = own w j earlier above n h
          has_still (c ∷ way) w j earlier above (op D N i f ps st is) e free below h =
              let here : ¬ (v ≡ w) = λ q. not_above w c way (sym q ∙ e) in
              let roots = above ++ (operation_at s j).frame.own in
              let free = roots_free above w j h.0.way_is here free in
              let below = roots_below above j below in
              let from : c ≡ 0 + c = omega arith in (
                row_still w j earlier roots D N f ps st is (if_runs st (seen_still roots (operation_at s j) N f ps free below) h.0.seen) h.0,
                among_still c way w j 0 [] roots (operation_at s j).children is (e ∙ sym (append_assoc w (c ∷ []) way) ∙ ap (λ z. (w ++ z ∷ []) ++ way) from) free below h.1,
              )

          among_still : (c : ℕ) (way w : List ℕ) (j d : ℕ) (earlier : List Sibling) (roots : List RootId) (ks : List OpNumber) (is : Items G) → v ≡ (w ++ (d + c) ∷ []) ++ way → Free roots → Below roots →
              HasAmong job s who ways B c way w j d earlier roots ks is → HasAmong job u who ways C c way w j d earlier roots ks is
          among_still c way w j d earlier roots ks no_item e free below h = absurd h
          among_still c way w j d earlier roots ks (said t is) e free below h = among_still c way w j d earlier roots ks is e free below h
          among_still c way w j d earlier roots [] (child_op n is) e free below h = absurd h
          among_still zero way w j d earlier roots (x ∷ xs) (child_op n is) e free below h =
              let here : d + 0 ≡ d = omega arith in
              let at : v ≡ (w ++ d ∷ []) ++ way = e ∙ ap (λ z. (w ++ z ∷ []) ++ way) here in (
                child_still j x.0 h.0,
                has_still way (w ++ d ∷ []) x.0 earlier roots n at free below h.1,
                children_beside w j (suc d) (earlier ++ record { op = x.0; needs = needs_issued job n } ∷ []) roots xs is free below
                    (λ y b z q. absurd (omega (arith, b, places_same w d y way z (sym at ∙ q)))) h.2,
              )
          among_still (suc c) way w j d earlier roots (x ∷ xs) (child_op n is) e free below h =
              let there : d + suc c ≡ suc d + c = omega arith in
              let at : v ≡ (w ++ (suc d + c) ∷ []) ++ way = e ∙ ap (λ z. (w ++ z ∷ []) ++ way) there in (
                child_still j x.0 h.0,
                beside (w ++ d ∷ []) x.0 earlier roots n free below (λ z q. let y = places_same w (suc d + c) d way z (sym at ∙ q) in absurd (omega (arith, y))) h.1,
                among_still c way w j (suc d) (earlier ++ record { op = x.0; needs = needs_issued job n } ∷ []) roots xs is at free below h.2,
              )
