-- An operation that goes on waiting, behind its segment: for a part, for a child, or for nothing.
use Rattle.std.proofs.Common.{◌≡◌, ◌<◌, ◌+◌, ◌++◌, ◌∷◌, ◌∙◌, ℕ, Bool, List, Some, [], ap, append_assoc, arith, cond, false, inr, length, map, refl, subst, sym, true}
use Rattle.std.specs.Prelude.{All}
use Rattle.std.proofs.lemmas.List.Elements.{All-append}
use Rattle.region_tree.specs.Requirements.{Requirement}
use Rattle.region_tree.specs.declared.tree.OpNumber.{OpNumber}
use Rattle.region_tree.specs.declared.tree.RootId.{RootId}
use Rattle.logical_map.specs.Maps.{is_live}
use Rattle.dependence_graph.specs.Entries.{Knot}
use Rattle.dependence_graph.specs.Graphs.{knot_on}
use Rattle.dependence_graph.specs.Knots.{has_failed, is_done, knot_at, some_failed}
use Rattle.dependence_graph.specs.declared.stage.Stage.TheVariants as knot
use Rattle.task_code.specs.declared.job.Job.{Job}
use Rattle.machine_terms.specs.declared.frame.Before.{Before}
use Rattle.machine_terms.specs.declared.frame.Frame.{Frame}
use Rattle.machine_terms.specs.declared.outcome.After.{After}
use Rattle.machine_terms.specs.Segments.{segment}
use Rattle.board_rules.specs.Boards.{Items, Operation as Node, Stage as BoardStage, Wait as BoardWait, closing, first, idle, op, out, stopped}
use Rattle.board_rules.specs.Boards as tree
use Rattle.board_rules.specs.Ground.{Ground}
use Rattle.board_rules.specs.NumberedBoards.{Board, children_at}
use Rattle.board_rules.specs.Processes.{run_all}
use Rattle.board_rules.specs.RootNumbers.{made_in}
use Rattle.board_rules.specs.Running.{After as BoardAfter, Element, Machine}
use Rattle.regent_boards.specs.Frames as board
use Rattle.regent_boards.specs.RegentMachine.{regent_ground}
use Rattle.code_boards.specs.Laws.{machine_of}
use Rattle.code_boards.specs.Views.{spaces_of}
use Rattle.board_terms.specs.declared.claim.Claim.{Claim}
use Rattle.board_terms.specs.declared.operation.Activity.TheVariants as activity
use Rattle.board_terms.specs.declared.operation.Operation.{Operation}
use Rattle.board_terms.specs.declared.operation.Wait.{Wait}
use Rattle.board_terms.specs.Gives.{also_said, behind_segment, frame_left}
use Rattle.board_terms.specs.Stages.{is_over, stage_of}
use Rattle.board_terms.specs.States.{State, operation_at}
use Rattle.board_trees.specs.Frames.{IsSeen}
use Rattle.board_trees.specs.Names.{AreMade, IsNaming}
use Rattle.board_trees.specs.Places.{LeavesPlaces}
use Rattle.board_trees.specs.Shows.{AreListed, HoldsMap, IfRuns, Shows, ShowsBoard, ShowsChildren, siblings}
use Rattle.board_trees.specs.Stages.{AwaitsOn, HasWait, IsWait, MayIdle, Stands, WaitsWell, was_begun}
use Rattle.board_trees.specs.Waits.{Sibling}
use Rattle.board_trees.proofs.Along.{not_above}
use Rattle.board_trees.proofs.Kept.{seen_as}
use Rattle.board_trees.proofs.Settled.{activity_open, wait_open}
use Rattle.given_trees.specs.Segments.{AreLeft}
use Rattle.given_trees.proofs.Left.{left_held, left_seen}
use Rattle.given_trees.proofs.Segments.{segments_show}
use Rattle.changed_trees.specs.Changes.{Change, IsAt, IsWider}
use Rattle.changed_trees.specs.Edits.{edited, told_at}
use Rattle.changed_trees.specs.Given.{Opens, effects_of, given_board, left_of, makings_before, yielded_by}
use Rattle.changed_trees.specs.Open.{Asked, IsOpen, OpenBoard, OpenRow}
use Rattle.changed_trees.proofs.Below.{children_kept}
use Rattle.changed_trees.proofs.Kept.{awaits_kept, back, clear_kept, has_wait_kept, listed_kept, seen_kept, shown_match, wider_itself, wider_on}
use Rattle.changed_trees.proofs.One.{IsOngoing, knot_is, knot_within, one_changed, row_is, some_failed_same}
use Rattle.changed_trees.proofs.Walks.{OfAll, told_holds, up_alike}
use Rattle.yielded_trees.proofs.Builder.{change, opens, own_apart_same, own_made_same, own_same}
use Rattle.yielded_trees.proofs.Found.{Here, by_out, here_at}
use Rattle.yielded_trees.proofs.Out.{Begun, has_begun, leaves_places, own_stays}
use Rattle.yielded_trees.proofs.Trees.{many_children, paused_needs, paused_of, restop, settle_restop, shown_swept, text_count, text_made, text_said, text_shows, text_siblings, text_swept, text_waits, with_text}

module _ (job : Job) (s : State) (b : Board (regent_ground (spaces_of job.code))) (h : ShowsBoard job s b) (k : ℕ) (v : List ℕ) (at : IsAt job b.ways k v)
    (claim : Claim) (before : Before) (act : (operation_at s k).activity ≡ activity.Out claim before) (g : Frame) (goes : (segment before).frame ≡ Some g)
    (W : Wait) (y : BoardWait (regent_ground (spaces_of job.code))) (on : List OpNumber) (not_first : y ≡ first → ⊥)
    (parks : MayIdle job.code s.roots h.who [] knot.Parked y) where
  abbrev pub G : Ground
  G = regent_ground (spaces_of job.code)

  abbrev pub makings : ℕ
  makings = makings_before job b k v

  abbrev pub M : Machine G
  M = machine_of job makings

  abbrev pub z : After
  z = segment before

  abbrev pub o : Operation
  o = operation_at s k

  abbrev pub pausing : Operation
  pausing = record (behind_segment o z) { wait = W }

  abbrev pub knotted : Knot
  knotted = knot_on s.waits.knots (knot_at s.waits.knots k).parent on knot.Parked knot.Stopped

  abbrev pub from : (f : board.Frame) (w : BoardWait G) (is : Items G) → board.Frame
  from f w is = tree.met_by G M w f (tree.awaited G M w is)

  abbrev pub run : (f : board.Frame) (ps : List (Element G)) (w : BoardWait G) (d : List (Element G)) (is : Items G) → BoardAfter G
  run f ps w d is = M.segment (from f w is) (ps ++ d)

  -- what the yield makes of the operation, on the table and in the tree
  pub record Pauses (earlier : List Sibling) (above : List RootId) (D N : List Requirement) (i : ℕ) (f : board.Frame) (ps : List (Element G)) (w : BoardWait G) (d : List (Element G)) (is : Items G) : Type 0 where
    pub given : tree.given G M [] D N i is (run f ps w d is).text (run f ps w d is).frame (run f ps w d is).parts (run f ps w d is).yields
        ≡ record { left = op D N i (run f ps w d is).frame (run f ps w d is).parts (idle y) (with_text job is (run f ps w d is).text); effects = [] }
    pub waits : IsWait job.code s.roots h.who (above ++ o.frame.own) g.needs.items z.parts o.children W y
    pub awaits : AwaitsOn job.code s.waits.knots D N earlier (siblings job o.children is) y on
    pub fails : tree.waits_for_failed G M N y is ≡ some_failed s.waits.knots on

  module _ (pauses : (earlier : List Sibling) (above : List RootId) (D N : List Requirement) (i : ℕ) (f : board.Frame) (ps : List (Element G)) (w : BoardWait G) (d : List (Element G)) (is : Items G) →
      All (λ (r : RootId). r.0 < length s.roots) above → Shows job s h.who b.ways v k earlier above (op D N i f ps (out w d) is) → Pauses earlier above D N i f ps w d is) where
    -- ---- the row that is there

    abbrev begun : Begun s k
    begun = has_begun job s b h k v at claim before act

    ongoing : IsOngoing s s.tree s.roots s.map k pausing knotted begun.within begun.there
    ongoing = record {
      before = ap is_done begun.was;
      unfailed = ap has_failed begun.was;
      runs = ap (λ x. is_over (stage_of x o.wait o.activity)) begun.stage ∙ activity_open o.activity;
      now = neither (some_failed s.waits.knots on);
      fails = nor (some_failed s.waits.knots on);
      open_now = not_over (some_failed s.waits.knots on);
    }
      where
        neither : (b : Bool) → is_done (Some (cond b knot.Stopped knot.Parked)) ≡ false
        neither true = refl
        neither false = refl

        nor : (b : Bool) → has_failed (Some (cond b knot.Stopped knot.Parked)) ≡ false
        nor true = refl
        nor false = refl

        not_over : (b : Bool) → is_over (stage_of (cond b knot.Stopped knot.Parked) W activity.Idle) ≡ false
        not_over true = refl
        not_over false = wait_open W

    abbrev pub u : State
    u = one_changed s s.tree s.roots s.map k pausing knotted

    changes : Change job s u h.who h.who b.ways b.ways (λ w. v ≡ w)
    changes = change job s b h k v at s.tree s.roots s.map pausing knotted begun.within begun.there ongoing refl h.who (λ n l. (l, refl)) (λ r l. refl) (λ r l. l) (λ r f l. l)

    own_kept : pausing.frame.own ≡ o.frame.own
    own_kept = ap (λ x. (frame_left o.frame x).own) goes ∙ own_stays job s b h k v at claim before act g goes

    -- ---- the operation

    module _ (earlier : List Sibling) (above more : List RootId) (D N : List Requirement) (i : ℕ) (f : board.Frame) (ps : List (Element G)) (w : BoardWait G) (d : List (Element G)) (is : Items G)
        (below : All (λ (r : RootId). r.0 < length s.roots) above) (wider : IsWider u above more) (x : Shows job s h.who b.ways v k earlier above (op D N i f ps (out w d) is)) where
      abbrev a : BoardAfter G
      a = run f ps w d is

      abbrev roots : List RootId
      roots = above ++ o.frame.own

      abbrev wide : List RootId
      wide = more ++ o.frame.own

      abbrev js : Items G
      js = with_text job is a.text

      left_alike : AreLeft job s h.who roots o N (from f w is) z a
      left_alike = segments_show job s b h v k earlier above D N i f ps d w is x below claim before act makings

      p : Pauses earlier above D N i f ps w d is
      p = pauses earlier above D N i f ps w d is below x

      under : All (λ (r : RootId). r.0 < length s.roots) roots
      under = All-append (λ (r : RootId). r.0 < length s.roots) above o.frame.own below (h.own_made k)

      wide_roots : IsWider u roots wide
      wide_roots = wider_on u above more o.frame.own wider

      -- frame and parts are those that were left
      frame_is : pausing.frame ≡ g
      frame_is = ap (frame_left o.frame) goes

      places : LeavesPlaces s.tree z
      places = leaves_places job s b h k v at claim before act earlier above D N i f ps w d is below x

      seen_now : IsSeen job.code s.tree s.map s.roots h.who roots pausing N a.frame a.parts
      seen_now = subst (λ (e : Frame). IsSeen job.code s.tree s.map s.roots h.who roots (record pausing { frame = e }) N a.frame a.parts) (sym frame_is)
          (seen_as job s h.who roots (record (behind_segment o z) { frame = g; parts = z.parts }) pausing N a.frame a.parts
          (left_seen job s h.who roots o N f (from f w is) ps x.0.seen z a left_alike places g goes a.parts z.parts
          (left_held job s h.who roots o N f (from f w is) ps x.0.seen z a left_alike places g goes) s.map (λ r l. l) (λ r field l. l)))

      waits_now : HasWait job.code s.roots h.who roots pausing y
      waits_now = subst (λ (e : Frame). IsWait job.code s.roots h.who roots e.needs.items z.parts o.children W y) (sym frame_is) p.waits

      -- it waits well, or is stopped
      abbrev stage_by : Bool → BoardStage G
      stage_by q = cond q (closing stopped) (idle y)

      row_by : (q : Bool) → some_failed s.waits.knots on ≡ q → OpenRow job u h.who b.ways v k earlier wide D N a.frame a.parts (stage_by q) js
      row_by q e = record {
        within = changes.size k begun.within;
        knot = knot_within s s.tree s.roots s.map k pausing knotted begun.within begun.there;
        way_is = at;
        going = not_over q;
        own = subst (λ (r : Operation). (name : ℕ → ℕ) → IsNaming s.roots h.who wide name → a.frame.own ≡ map (λ (r : RootId). name r.0) r.frame.own) (sym row)
            (λ name n. left_alike.own name (back_name name n) ∙ ap (map (λ (r : RootId). name r.0)) (sym own_kept));
        seen = subst (λ (r : Operation). IfRuns job (stage_by q) (IsSeen job.code s.tree s.map s.roots h.who wide r N a.frame a.parts)) (sym row)
            (if_running q (seen_kept job s u h.who h.who b.ways b.ways (λ w. v ≡ w) changes roots wide wide_roots under pausing N a.frame a.parts seen_now));
        said_is = text_said job 0 is a.text
            ∙ (λ t. also_said ((zero_plus (tree.child_count G is) ∙ many_children job o.children is (shown_match job s h.who b.ways v k 0 [] roots o.children is x.1)) t) (left_alike.text t) (x.0.said_is t))
            ∙ ap (λ (r : Operation). r.said) (sym row);
        stands = subst (λ (c : Knot). Stands job.code s.roots h.who wide u c.stage (operation_at u k) N (stage_by q)) (sym knotted_is)
            (subst (λ (r : Operation). Stands job.code s.roots h.who wide u knotted.stage r N (stage_by q)) (sym row) (standing q e));
        free = λ c r. absurd (never_first q r);
        waits = subst (λ (c : Knot). WaitsWell job.code u.waits.knots D N earlier (siblings job (operation_at u k).children js) c.on (stage_by q)) (sym knotted_is)
            (subst (λ (r : Operation). WaitsWell job.code u.waits.knots D N earlier (siblings job r.children js) on (stage_by q)) (sym row) (waiting q e));
        begun = λ c. clear_kept job s u h.who h.who b.ways b.ways (λ w. v ≡ w) changes D earlier (x.0.begun (ap was_begun begun.stage));
        listed = subst (λ (r : Operation). AreListed job u h.who wide k (siblings job r.children js)) (sym row)
            (subst (AreListed job u h.who wide k) (sym (text_siblings job o.children is a.text))
            (listed_kept job s u h.who h.who b.ways b.ways (λ w. v ≡ w) changes roots wide wide_roots under k (λ e z n c. c) (siblings job o.children is) x.0.listed));
      }
        where
          row : operation_at u k ≡ pausing
          row = row_is s s.tree s.roots s.map k pausing knotted begun.within begun.there

          knotted_is : knot_at u.waits.knots k ≡ knotted
          knotted_is = knot_is s s.tree s.roots s.map k pausing knotted begun.within begun.there

          zero_plus : (n : ℕ) → 0 + n ≡ n
          zero_plus n = omega arith

          back_name : (name : ℕ → ℕ) → IsNaming s.roots h.who wide name → IsNaming s.roots h.who roots name
          back_name = back job s u h.who h.who b.ways b.ways (λ w. v ≡ w) changes roots wide wide_roots under

          if_running : (q : Bool) → {A : Type 0} → A → IfRuns job (stage_by q) A
          if_running true t = tt
          if_running false t = t

          not_over : (q : Bool) → tree.is_over G (stage_by q) ≡ false
          not_over true = refl
          not_over false = refl

          never_first : (q : Bool) → stage_by q ≡ idle first → ⊥
          never_first true e = absurd cc
          never_first false e = not_first cc

          standing : (q : Bool) → some_failed s.waits.knots on ≡ q → Stands job.code s.roots h.who wide u knotted.stage pausing N (stage_by q)
          standing true e = inr (ap (λ b. cond b knot.Stopped knot.Parked) e, refl)
          standing false e = (
            subst (λ c. MayIdle job.code s.roots h.who wide c y) (sym (ap (λ b. cond b knot.Stopped knot.Parked) e)) (parked y parks),
            (refl, has_wait_kept job s u h.who h.who b.ways b.ways (λ w. v ≡ w) changes roots wide wide_roots under pausing y waits_now),
          )
            where
              parked : (y : BoardWait G) → MayIdle job.code s.roots h.who [] knot.Parked y → MayIdle job.code s.roots h.who wide knot.Parked y
              parked first m = m
              parked tree.nothing m = m
              parked (tree.part c) m = m
              parked (tree.child c) m = m

          waiting : (q : Bool) → some_failed s.waits.knots on ≡ q → WaitsWell job.code u.waits.knots D N earlier (siblings job o.children js) on (stage_by q)
          waiting true e = tt
          waiting false e = (
            subst (λ xs. AwaitsOn job.code u.waits.knots D N earlier xs y on) (sym (text_siblings job o.children is a.text))
                (awaits_kept job s u h.who h.who b.ways b.ways (λ w. v ≡ w) changes D N earlier (siblings job o.children is) y on p.awaits),
            some_failed_same s s.tree s.roots s.map k pausing knotted begun.within begun.there ongoing on ∙ e,
          )

      -- what the yield makes of it, stopped where it waits for one that failed
      paused_is : paused_of job makings (op D N i f ps (out w d) is) ≡ op D N i a.frame a.parts (stage_by (some_failed s.waits.knots on)) js
      paused_is = ap (λ (c : tree.Stepped G (Node G)). restop job makings c.left) p.given
          ∙ ap (λ q. op D N i a.frame a.parts (stage_by q) js) (text_waits job makings N y is a.text ∙ p.fails)

      open_here : IsOpen job u h.who b.ways v k earlier more (paused_of job makings (op D N i f ps (out w d) is))
      open_here = subst (IsOpen job u h.who b.ways v k earlier more) (sym paused_is)
          (subst (λ (own : List RootId). OpenRow job u h.who b.ways v k earlier (more ++ own) D N a.frame a.parts (stage_by (some_failed s.waits.knots on)) js
          × ShowsChildren job u h.who b.ways v k 0 [] (more ++ own) (operation_at u k).children js)
          (sym (own_same job s b h k v at s.tree s.roots s.map pausing knotted begun.within begun.there ongoing refl h.who (λ n l. (l, refl)) (λ r l. refl) (λ r l. l) (λ r f l. l) own_kept k))
          (row_by (some_failed s.waits.knots on) refl, children_now))
        where
          children_now : ShowsChildren job u h.who b.ways v k 0 [] wide (operation_at u k).children js
          children_now = subst (λ (r : Operation). ShowsChildren job u h.who b.ways v k 0 [] wide r.children js) (sym (row_is s s.tree s.roots s.map k pausing knotted begun.within begun.there))
              (text_shows job u h.who b.ways v k 0 [] wide o.children is a.text
              (children_kept job s u h.who h.who b.ways b.ways (λ w. v ≡ w) changes makings h.made h.own_made v k 0 [] roots wide o.children is wide_roots under
              (λ c l t e. not_above v c t (e ∙ append_assoc v (c ∷ []) t)) x.1))

      same_settled : tree.settle G M (paused_of job makings (op D N i f ps (out w d) is)) ≡ tree.settle G M (left_of job makings (op D N i f ps (out w d) is))
      same_settled = ap (λ (c : tree.Stepped G (Node G)). tree.settle G M (restop job makings c.left)) p.given
          ∙ settle_restop job makings D N i a.frame a.parts (idle y) js
          (text_swept job makings [] is a.text ∙ ap (λ xs. with_text job xs a.text) (shown_swept job makings s h.who b.ways v k earlier above D N i f ps (out w d) is x))
          ∙ ap (λ (c : tree.Stepped G (Node G)). tree.settle G M c.left) (sym p.given)

    -- ---- the board

    abbrev There : Asked job
    There = Here job s b h k v at claim before act

    pub pauses_open : yielded_by job s k before ≡ u → Opens job b k v s before
    pauses_open yields = record {
      change = paused_of job makings;
      leaves = subst (λ t. OpenBoard job t (given_board job b k v (edited G v (paused_of job makings) b.state.tree)) k v) (sym yields)
          (opens job s b h k v at s.tree s.roots s.map pausing knotted begun.within begun.there ongoing refl h.who (λ n l. (l, refl)) (λ r l. refl) (λ r l. l) (λ r f l. l)
          refl (paused_of job makings) (paused_needs job makings) 0 counts makes own (λ seat. refl) h.extents (subst (λ n. AreMade (length s.roots) h.who n) none_more h.made) h.regions held first
          (own_made_same job s b h k v at s.tree s.roots s.map pausing knotted begun.within begun.there ongoing refl h.who (λ n l. (l, refl)) (λ r l. refl) (λ r l. l) (λ r f l. l) own_kept)
          (own_apart_same job s b h k v at s.tree s.roots s.map pausing knotted begun.within begun.there ongoing refl h.who (λ n l. (l, refl)) (λ r l. refl) (λ r l. l) (λ r f l. l) own_kept));
      same = up_alike job s h.who b.ways There (paused_of job makings) (left_of job makings) makings
          (by_out job s b h k v at claim before act (λ w j earlier above n. tree.settle G M (paused_of job makings n) ≡ tree.settle G M (left_of job makings n))
          (λ earlier above D N i f ps w d is below x. same_settled earlier above above D N i f ps w d is below (wider_itself u above) x)) v [] 0 [] [] b.state.tree
          (here_at job s b h k v at claim before act);
    }
      where
        none_more : made_in G (machine_of job) b.state.tree ≡ made_in G (machine_of job) b.state.tree + 0
        none_more = omega arith

        counts : OfAll job s h.who b.ways There (λ n. children_at G (machine_of job) [] (paused_of job makings n) ≡ children_at G (machine_of job) [] n + 0)
        counts = by_out job s b h k v at claim before act (λ w j earlier above n. children_at G (machine_of job) [] (paused_of job makings n) ≡ children_at G (machine_of job) [] n + 0)
            (λ earlier above D N i f ps w d is below x.
            let e = ap (children_at G (machine_of job) []) (paused_is earlier above above D N i f ps w d is below (wider_itself u above) x) in
            let c = text_count job is (run f ps w d is).text in omega (arith, e, c))

        makes : OfAll job s h.who b.ways There (λ n. made_in G (machine_of job) (paused_of job makings n) ≡ made_in G (machine_of job) n + 0)
        makes = by_out job s b h k v at claim before act (λ w j earlier above n. made_in G (machine_of job) (paused_of job makings n) ≡ made_in G (machine_of job) n + 0)
            (λ earlier above D N i f ps w d is below x.
            let e = ap (made_in G (machine_of job)) (paused_is earlier above above D N i f ps w d is below (wider_itself u above) x) in
            let c = text_made job (machine_of job) is (run f ps w d is).text in omega (arith, e, c))

        own : (w : List ℕ) (j : ℕ) (earlier : List Sibling) (above more : List RootId) (n : Node G) → v ≡ w → IsWider u above more → There w j earlier above n →
            (j ≡ k) × IsOpen job u h.who b.ways w j earlier more (paused_of job makings n)
        own w j earlier above more n e wider y = by_out job s b h k v at claim before act
            (λ w j earlier above n. (more : List RootId) → IsWider u above more → (j ≡ k) × IsOpen job u h.who b.ways w j earlier more (paused_of job makings n))
            (λ earlier above D N i f ps w d is below x more wider. (refl, open_here earlier above more D N i f ps w d is below wider x)) w j earlier above n y more wider

        no_effects : told_at G v (effects_of job makings) b.state.tree ≡ []
        no_effects = told_holds job s h.who b.ways There (effects_of job makings) (λ es. es ≡ [])
            (by_out job s b h k v at claim before act (λ w j earlier above n. effects_of job makings n ≡ [])
            (λ earlier above D N i f ps w d is below x. ap (λ (c : tree.Stepped G (Node G)). c.effects) (pauses earlier above D N i f ps w d is below x).given)) v [] 0 [] [] b.state.tree
            (here_at job s b h k v at claim before act)

        held : (root : ℕ) → is_live s.map root ≡ true → HoldsMap job s.map s.roots h.who (given_board job b k v (edited G v (paused_of job makings) b.state.tree)).state.map root
        held root l = subst (λ es. HoldsMap job s.map s.roots h.who (run_all G es b.state.map) root) (sym no_effects) (h.held root l)

        first : All (λ (r : RootId). is_live s.map r.0 ≡ true) (operation_at u 0).frame.own
        first = subst (λ rs. All (λ (r : RootId). is_live s.map r.0 ≡ true) rs)
            (sym (own_same job s b h k v at s.tree s.roots s.map pausing knotted begun.within begun.there ongoing refl h.who (λ n l. (l, refl)) (λ r l. refl) (λ r l. l) (λ r f l. l) own_kept 0)) h.first
