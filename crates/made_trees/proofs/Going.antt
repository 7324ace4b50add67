-- An operation that goes on at once behind its segment, with what it made.
use Rattle.std.proofs.Common.{◌≡◌, ◌<◌, ◌+◌, ◌++◌, ◌∷◌, ◌∙◌, ◌⊎◌, inr, ℕ, suc, List, Some, [], ap, append_assoc, arith, length, map, refl, subst, sym, true}
use Rattle.std.specs.Prelude.{All, get_or}
use Rattle.std.specs.List.{Contains}
use Rattle.std.proofs.lemmas.List.Elements.{All-append, All-cons, All-head, All-nil, All-tail, All-weaker, Contains-append_left}
use Rattle.region_tree.specs.Requirements.{Requirement}
use Rattle.region_tree.specs.Trees.{RegionTree, node_at}
use Rattle.region_tree.specs.declared.tree.RootId.{RootId}
use Rattle.logical_map.specs.Maps.{LogicalMap, columns_of, is_live}
use Rattle.dependence_graph.specs.Entries.{Knot}
use Rattle.dependence_graph.specs.Graphs.{knot_on}
use Rattle.dependence_graph.specs.Knots.{has_failed, is_done, knot_at}
use Rattle.dependence_graph.specs.declared.stage.Stage.TheVariants as knot
use Rattle.task_code.specs.declared.job.Job.{Job}
use Rattle.machine_terms.specs.declared.frame.Before.{Before}
use Rattle.machine_terms.specs.declared.frame.Frame.{Frame}
use Rattle.machine_terms.specs.declared.outcome.After.{After}
use Rattle.machine_terms.specs.Segments.{segment}
use Rattle.board_rules.specs.Boards.{Items, Operation as Node, Stage as BoardStage, Wait as BoardWait, first, idle, nothing, op, out}
use Rattle.board_rules.specs.Boards as tree
use Rattle.board_rules.specs.Ground.{Ground}
use Rattle.board_rules.specs.NumberedBoards.{Board, children_at}
use Rattle.board_rules.specs.Processes.{Effect, run_all}
use Rattle.board_rules.specs.RootNumbers.{made_in}
use Rattle.board_rules.specs.Running.{After as BoardAfter, Element, Machine}
use Rattle.regent_boards.specs.Frames as board
use Rattle.regent_boards.specs.RegentMachine.{regent_ground}
use Rattle.code_boards.specs.Laws.{machine_of}
use Rattle.code_boards.specs.Views.{spaces_of}
use Rattle.board_terms.specs.declared.claim.Claim.{Claim}
use Rattle.board_terms.specs.declared.extent.Extent.{Extent}
use Rattle.board_terms.specs.declared.operation.Activity.TheVariants as activity
use Rattle.board_terms.specs.declared.operation.Operation.{Operation}
use Rattle.board_terms.specs.declared.operation.Wait.TheVariants as wait
use Rattle.board_terms.specs.Gives.{also_said, behind_segment}
use Rattle.board_terms.specs.Stages.{is_over, stage_of}
use Rattle.board_terms.specs.States.{State, operation_at}
use Rattle.board_trees.specs.Frames.{IsSeen}
use Rattle.board_trees.specs.Names.{AreMade, IsNaming, name_of}
use Rattle.board_trees.specs.Shows.{AreListed, HoldsMap, IsWithinRoot, Shows, ShowsBoard, ShowsChildren, siblings}
use Rattle.board_trees.specs.Stages.{Stands, WaitsWell, was_begun}
use Rattle.board_trees.specs.Waits.{Sibling}
use Rattle.board_trees.proofs.Along.{not_above}
use Rattle.board_trees.proofs.Kept.{by_number}
use Rattle.board_trees.proofs.Settled.{activity_open}
use Rattle.given_trees.specs.Segments.{AreLeft}
use Rattle.given_trees.proofs.Left.{left_held, left_seen}
use Rattle.given_trees.proofs.Segments.{segments_show}
use Rattle.changed_trees.specs.Changes.{Change, IsAt, IsWider}
use Rattle.changed_trees.specs.Edits.{edited, told_at}
use Rattle.changed_trees.specs.Given.{Opens, effects_of, given_board, left_of, makings_before, yielded_by}
use Rattle.changed_trees.specs.Open.{Asked, IsOpen, OpenBoard, OpenRow}
use Rattle.changed_trees.proofs.Below.{children_kept}
use Rattle.changed_trees.proofs.Kept.{back, clear_kept, listed_kept, seen_kept, shown_match, wider_itself, wider_on}
use Rattle.changed_trees.proofs.One.{IsOngoing, knot_is, knot_within, one_changed, others, row_is}
use Rattle.changed_trees.proofs.Walks.{OfAll, told_holds, up_alike}
use Rattle.yielded_trees.proofs.Builder.{change, opens}
use Rattle.yielded_trees.proofs.Found.{Here, by_out, here_at}
use Rattle.yielded_trees.proofs.Out.{Begun, has_begun, leaves_places}
use Rattle.yielded_trees.proofs.Trees.{many_children, paused_needs, paused_of, restop, text_count, text_made, text_said, text_shows, text_siblings, with_text}

module _ (job : Job) (s : State) (b : Board (regent_ground (spaces_of job.code))) (h : ShowsBoard job s b) (k : ℕ) (v : List ℕ) (at : IsAt job b.ways k v)
    (claim : Claim) (before : Before) (act : (operation_at s k).activity ≡ activity.Out claim before) (g : Frame) (goes : (segment before).frame ≡ Some g)
    (regions : RegionTree) (extents : List Extent) (live : LogicalMap) (now : ℕ → ℕ) (q : Frame) (extra : List RootId) (own_is : q.own ≡ (operation_at s k).frame.own ++ extra)
    (nodes : (n : ℕ) → n < length s.tree.nodes → (n < length regions.nodes) × (node_at regions n ≡ node_at s.tree n))
    (names : (r : ℕ) → r < length s.roots → name_of extents now r ≡ name_of s.roots h.who r)
    (stay : (r : ℕ) → is_live s.map r ≡ true → is_live live r ≡ true)
    (fields : (r field : ℕ) → field < length (columns_of s.map r) → field < length (columns_of live r))
    (there_extra : All (λ (r : RootId). is_live live r.0 ≡ true) extra) where
  abbrev pub G : Ground
  G = regent_ground (spaces_of job.code)

  abbrev pub makings : ℕ
  makings = makings_before job b k v

  abbrev pub M : Machine G
  M = machine_of job makings

  abbrev pub z : After
  z = segment before

  abbrev pub o : Operation
  o = operation_at s k

  abbrev pub going : Operation
  going = record (behind_segment o z) { frame = q; wait = wait.Nothing }

  abbrev pub knotted : Knot
  knotted = knot_on s.waits.knots (knot_at s.waits.knots k).parent [] knot.Parked knot.Stopped

  abbrev pub from : (f : board.Frame) (w : BoardWait G) (is : Items G) → board.Frame
  from f w is = tree.met_by G M w f (tree.awaited G M w is)

  abbrev pub run : (f : board.Frame) (ps : List (Element G)) (w : BoardWait G) (d : List (Element G)) (is : Items G) → BoardAfter G
  run f ps w d is = M.segment (from f w is) (ps ++ d)

  abbrev waits_nothing : BoardStage G
  waits_nothing = idle nothing

  abbrev waits_first : BoardStage G
  waits_first = idle first

  -- ---- the row that is there

  abbrev begun : Begun s k
  begun = has_begun job s b h k v at claim before act

  ongoing : IsOngoing s regions extents live k going knotted begun.within begun.there
  ongoing = record {
    before = ap is_done begun.was;
    unfailed = ap has_failed begun.was;
    runs = ap (λ x. is_over (stage_of x o.wait o.activity)) begun.stage ∙ activity_open o.activity;
    now = refl;
    fails = refl;
    open_now = refl;
  }

  abbrev pub u : State
  u = one_changed s regions extents live k going knotted

  pub changes : Change job s u h.who now b.ways b.ways (λ w. v ≡ w)
  changes = change job s b h k v at regions extents live going knotted begun.within begun.there ongoing refl now nodes names stay fields

  row : operation_at u k ≡ going
  row = row_is s regions extents live k going knotted begun.within begun.there

  -- ---- roots

  abbrev pub roots_of : List RootId → List RootId
  roots_of above = above ++ o.frame.own

  abbrev pub wide_of : List RootId → List RootId
  wide_of more = more ++ q.own

  pub wide_roots : (above more : List RootId) → IsWider u above more → IsWider u (roots_of above) (wide_of more)
  wide_roots above more wider =
      let w = wider_on u above more o.frame.own wider in
      subst (λ own. IsWider u (roots_of above) (more ++ own)) (sym own_is) (subst (IsWider u (roots_of above)) (append_assoc more o.frame.own extra) (record {
        kept = All-weaker (Contains (more ++ o.frame.own)) (Contains ((more ++ o.frame.own) ++ extra)) (λ r c. Contains-append_left (more ++ o.frame.own) extra r c) (roots_of above) w.kept;
        added = All-append (λ (r : RootId). Contains (roots_of above) r ⊎ (is_live live r.0 ≡ true)) (more ++ o.frame.own) extra w.added
            (All-weaker (λ (r : RootId). is_live live r.0 ≡ true) (λ (r : RootId). Contains (roots_of above) r ⊎ (is_live live r.0 ≡ true)) (λ r l. inr l) extra there_extra);
      }))

  pub under : (above : List RootId) → All (λ (r : RootId). r.0 < length s.roots) above → All (λ (r : RootId). r.0 < length s.roots) (roots_of above)
  under above below = All-append (λ (r : RootId). r.0 < length s.roots) above o.frame.own below (h.own_made k)

  pub named_before : (above more : List RootId) → All (λ (r : RootId). r.0 < length s.roots) above → IsWider u above more → (other : ℕ → ℕ) → IsNaming extents now (wide_of more) other →
      IsNaming s.roots h.who (roots_of above) other
  named_before above more below wider = back job s u h.who now b.ways b.ways (λ w. v ≡ w) changes (roots_of above) (wide_of more) (wide_roots above more wider) (under above below)

  -- ---- what the segment left

  module _ (earlier : List Sibling) (above : List RootId) (D N : List Requirement) (i : ℕ) (f : board.Frame) (ps : List (Element G)) (w : BoardWait G) (d : List (Element G)) (is : Items G)
      (below : All (λ (r : RootId). r.0 < length s.roots) above) (x : Shows job s h.who b.ways v k earlier above (op D N i f ps (out w d) is)) where
    pub left_alike : AreLeft job s h.who (roots_of above) o N (from f w is) z (run f ps w d is)
    left_alike = segments_show job s b h v k earlier above D N i f ps d w is x below claim before act makings

    -- it is seen so in the new state
    pub seen_left : (more : List RootId) → IsWider u above more →
        IsSeen job.code regions live extents now (wide_of more) (record (behind_segment o z) { frame = g; parts = z.parts }) N (run f ps w d is).frame (run f ps w d is).parts
    seen_left more wider =
        let a = run f ps w d is in
        let places = leaves_places job s b h k v at claim before act earlier above D N i f ps w d is below x in
        seen_kept job s u h.who now b.ways b.ways (λ w. v ≡ w) changes (roots_of above) (wide_of more) (wide_roots above more wider) (under above below)
        (record (behind_segment o z) { frame = g; parts = z.parts }) N a.frame a.parts
        (left_seen job s h.who (roots_of above) o N f (from f w is) ps x.0.seen z a left_alike places g goes a.parts z.parts
        (left_held job s h.who (roots_of above) o N f (from f w is) ps x.0.seen z a left_alike places g goes) s.map (λ r l. l) (λ r field l. l))

  -- ---- what was made

  module _ (es : List (Effect G)) (grown : List Requirement → List Requirement) (pushed : ℕ → board.Frame → board.Frame) where
    pub record Goes (earlier : List Sibling) (above more : List RootId) (D N : List Requirement) (i : ℕ) (f : board.Frame) (ps : List (Element G)) (w : BoardWait G) (d : List (Element G)) (is : Items G) : Type 0 where
      pub given : tree.given G M [] D N i is (run f ps w d is).text (run f ps w d is).frame (run f ps w d is).parts (run f ps w d is).yields
          ≡ record { left = op D (grown N) (suc i) (pushed i (run f ps w d is).frame) (run f ps w d is).parts (idle nothing) (with_text job is (run f ps w d is).text); effects = es }
      pub own : (name : ℕ → ℕ) → IsNaming extents now (wide_of more) name → (pushed i (run f ps w d is).frame).own ≡ map (λ (r : RootId). name r.0) q.own
      pub seen : IsSeen job.code regions live extents now (wide_of more) going (grown N) (pushed i (run f ps w d is).frame) (run f ps w d is).parts

    module _ (made : (earlier : List Sibling) (above more : List RootId) (D N : List Requirement) (i : ℕ) (f : board.Frame) (ps : List (Element G)) (w : BoardWait G) (d : List (Element G)) (is : Items G) →
        All (λ (r : RootId). r.0 < length s.roots) above → IsWider u above more → Shows job s h.who b.ways v k earlier above (op D N i f ps (out w d) is) → Goes earlier above more D N i f ps w d is) where
      module _ (earlier : List Sibling) (above more : List RootId) (D N : List Requirement) (i : ℕ) (f : board.Frame) (ps : List (Element G)) (w : BoardWait G) (d : List (Element G)) (is : Items G)
          (below : All (λ (r : RootId). r.0 < length s.roots) above) (wider : IsWider u above more) (x : Shows job s h.who b.ways v k earlier above (op D N i f ps (out w d) is)) where
        abbrev a : BoardAfter G
        a = run f ps w d is

        abbrev js : Items G
        js = with_text job is a.text

        p : Goes earlier above more D N i f ps w d is
        p = made earlier above more D N i f ps w d is below wider x

        alike : AreLeft job s h.who (roots_of above) o N (from f w is) z a
        alike = left_alike earlier above D N i f ps w d is below x

        row_open : OpenRow job u now b.ways v k earlier (wide_of more) D (grown N) (pushed i a.frame) a.parts (idle nothing) js
        row_open = record {
          within = changes.size k begun.within;
          knot = knot_within s regions extents live k going knotted begun.within begun.there;
          way_is = at;
          going = refl;
          own = subst (λ (r : Operation). (name : ℕ → ℕ) → IsNaming extents now (wide_of more) name → (pushed i a.frame).own ≡ map (λ (r : RootId). name r.0) r.frame.own) (sym row) p.own;
          seen = subst (λ (r : Operation). IsSeen job.code regions live extents now (wide_of more) r (grown N) (pushed i a.frame) a.parts) (sym row) p.seen;
          said_is = text_said job 0 is a.text
              ∙ (λ t. also_said ((zero_plus (tree.child_count G is) ∙ many_children job o.children is (shown_match job s h.who b.ways v k 0 [] (roots_of above) o.children is x.1)) t) (alike.text t) (x.0.said_is t))
              ∙ ap (λ (r : Operation). r.said) (sym row);
          stands = subst (λ (c : Knot). Stands job.code extents now (wide_of more) u c.stage (operation_at u k) (grown N) (idle nothing)) (sym knotted_is)
              (subst (λ (r : Operation). Stands job.code extents now (wide_of more) u knot.Parked r (grown N) (idle nothing)) (sym row) (refl, (refl, tt)));
          free = λ c r. absurd (never_first r);
          waits = subst (λ (c : Knot). WaitsWell job.code u.waits.knots D (grown N) earlier (siblings job (operation_at u k).children js) c.on (idle nothing)) (sym knotted_is) (refl, refl);
          begun = λ c. clear_kept job s u h.who now b.ways b.ways (λ w. v ≡ w) changes D earlier (x.0.begun (ap was_begun begun.stage));
          listed = subst (λ (r : Operation). AreListed job u now (wide_of more) k (siblings job r.children js)) (sym row)
              (subst (AreListed job u now (wide_of more) k) (sym (text_siblings job o.children is a.text))
              (listed_kept job s u h.who now b.ways b.ways (λ w. v ≡ w) changes (roots_of above) (wide_of more) (wide_roots above more wider) (under above below) k (λ e t n c. c)
              (siblings job o.children is) x.0.listed));
        }
          where
            knotted_is : knot_at u.waits.knots k ≡ knotted
            knotted_is = knot_is s regions extents live k going knotted begun.within begun.there

            zero_plus : (n : ℕ) → 0 + n ≡ n
            zero_plus n = omega arith

            never_first : waits_nothing ≡ waits_first → ⊥
            never_first r = absurd cc

        paused_is : paused_of job makings (op D N i f ps (out w d) is) ≡ op D (grown N) (suc i) (pushed i a.frame) a.parts (idle nothing) js
        paused_is = ap (λ (c : tree.Stepped G (Node G)). restop job makings c.left) p.given

        open_here : IsOpen job u now b.ways v k earlier more (paused_of job makings (op D N i f ps (out w d) is))
        open_here = subst (IsOpen job u now b.ways v k earlier more) (sym paused_is)
            (subst (λ (r : Operation). OpenRow job u now b.ways v k earlier (more ++ r.frame.own) D (grown N) (pushed i a.frame) a.parts (idle nothing) js
            × ShowsChildren job u now b.ways v k 0 [] (more ++ r.frame.own) r.children js) (sym row) (
              row_open,
              text_shows job u now b.ways v k 0 [] (wide_of more) o.children is a.text
                  (children_kept job s u h.who now b.ways b.ways (λ w. v ≡ w) changes makings h.made h.own_made v k 0 [] (roots_of above) (wide_of more) o.children is (wide_roots above more wider) (under above below)
                  (λ c l t e. not_above v c t (e ∙ append_assoc v (c ∷ []) t)) x.1),
            ))

        same_settled : tree.settle G M (paused_of job makings (op D N i f ps (out w d) is)) ≡ tree.settle G M (left_of job makings (op D N i f ps (out w d) is))
        same_settled = ap (λ (c : tree.Stepped G (Node G)). tree.settle G M (restop job makings c.left)) p.given
            ∙ ap (λ (c : tree.Stepped G (Node G)). tree.settle G M c.left) (sym p.given)

      -- ---- the board

      abbrev There : Asked job
      There = Here job s b h k v at claim before act

      module _ (extents_are : length extents ≡ regions.roots) (named : AreMade (length extents) now (makings + 1)) (within : (node : ℕ) → node < length regions.nodes → IsWithinRoot job regions extents node)
          (holds : (root : ℕ) → is_live live root ≡ true → HoldsMap job live extents now (run_all G es b.state.map) root)
          (extra_made : All (λ (r : RootId). r.0 < length extents) extra) (more_made : (r : ℕ) → r < length s.roots → r < length extents)
          (extra_new : All (λ (r : RootId). (c : ℕ) → c < length s.roots → ¬ (r.0 ≡ c)) extra) where
        own_made : (j : ℕ) → All (λ (r : RootId). r.0 < length extents) (operation_at u j).frame.own
        own_made = by_number k (λ j. All (λ (r : RootId). r.0 < length extents) (operation_at u j).frame.own)
            (subst (λ (r : Operation). All (λ (r : RootId). r.0 < length extents) r.frame.own) (sym row)
            (subst (All (λ (r : RootId). r.0 < length extents)) (sym own_is)
            (All-append (λ (r : RootId). r.0 < length extents) o.frame.own extra
            (All-weaker (λ (r : RootId). r.0 < length s.roots) (λ (r : RootId). r.0 < length extents) (λ r l. more_made r.0 l) o.frame.own (h.own_made k)) extra_made)))
            (λ j n. subst (λ (r : Operation). All (λ (r : RootId). r.0 < length extents) r.frame.own) (sym (others s regions extents live k going knotted j n))
            (All-weaker (λ (r : RootId). r.0 < length s.roots) (λ (r : RootId). r.0 < length extents) (λ r l. more_made r.0 l) (operation_at s j).frame.own (h.own_made j)))

        abbrev Apart : List RootId → List RootId → Type 0
        Apart rs qs = All (λ (r : RootId). All (λ (q : RootId). ¬ (r ≡ q)) qs) rs

        extra_apart : (j : ℕ) (rs : List RootId) → All (λ (r : RootId). (c : ℕ) → c < length s.roots → ¬ (r.0 ≡ c)) rs → Apart rs (operation_at s j).frame.own
        extra_apart j rs e = All-weaker (λ (r : RootId). (c : ℕ) → c < length s.roots → ¬ (r.0 ≡ c)) (λ (r : RootId). All (λ (q : RootId). ¬ (r ≡ q)) (operation_at s j).frame.own)
            (λ r n. All-weaker (λ (q : RootId). q.0 < length s.roots) (λ (q : RootId). ¬ (r ≡ q)) (λ q l same. n q.0 l (ap (λ (y : RootId). y.0) same)) (operation_at s j).frame.own (h.own_made j)) rs e

        turned : (rs qs : List RootId) → Apart rs qs → Apart qs rs
        turned [] qs a = All-weaker (λ (q : RootId). Unit {0}) (λ (q : RootId). All (λ (r : RootId). ¬ (q ≡ r)) []) (λ q t. All-nil (λ (r : RootId). ¬ (q ≡ r))) qs (λ k d l. tt)
        turned (r ∷ rs) qs a = λ c d l. All-cons (λ (y : RootId). ¬ (get_or qs c d ≡ y)) r rs (λ e. All-head (λ (r : RootId). All (λ (q : RootId). ¬ (r ≡ q)) qs) r rs a c d l (sym e))
            (turned rs qs (All-tail (λ (r : RootId). All (λ (q : RootId). ¬ (r ≡ q)) qs) r rs a) c d l)

        with_extra : (j : ℕ) → ¬ (k ≡ j) → Apart q.own (operation_at s j).frame.own
        with_extra j n = subst (λ rs. Apart rs (operation_at s j).frame.own) (sym own_is)
            (All-append (λ (r : RootId). All (λ (q : RootId). ¬ (r ≡ q)) (operation_at s j).frame.own) o.frame.own extra (h.own_apart k j n) (extra_apart j extra extra_new))

        own_apart : (i j : ℕ) → ¬ (i ≡ j) → Apart (operation_at u i).frame.own (operation_at u j).frame.own
        own_apart i j n = by_number k (λ i. ¬ (i ≡ j) → Apart (operation_at u i).frame.own (operation_at u j).frame.own)
            (λ n. subst (λ (r : Operation). Apart r.frame.own (operation_at u j).frame.own) (sym row)
            (subst (λ (r : Operation). Apart q.own r.frame.own) (sym (others s regions extents live k going knotted j (λ e. n (sym e)))) (with_extra j n)))
            (λ i m n. subst (λ (r : Operation). Apart r.frame.own (operation_at u j).frame.own) (sym (others s regions extents live k going knotted i m))
            (by_number k (λ j. ¬ (i ≡ j) → Apart (operation_at s i).frame.own (operation_at u j).frame.own)
            (λ n. subst (λ (r : Operation). Apart (operation_at s i).frame.own r.frame.own) (sym row) (turned q.own (operation_at s i).frame.own (with_extra i (λ e. n (sym e)))))
            (λ j c n. subst (λ (r : Operation). Apart (operation_at s i).frame.own r.frame.own) (sym (others s regions extents live k going knotted j c)) (h.own_apart i j n)) j n)) i n

        first_live : All (λ (r : RootId). is_live live r.0 ≡ true) (operation_at u 0).frame.own
        first_live = by_number k (λ j. j ≡ 0 → All (λ (r : RootId). is_live live r.0 ≡ true) (operation_at u j).frame.own)
            (λ e. subst (λ (r : Operation). All (λ (r : RootId). is_live live r.0 ≡ true) r.frame.own) (sym row)
            (subst (All (λ (r : RootId). is_live live r.0 ≡ true)) (sym own_is) (All-append (λ (r : RootId). is_live live r.0 ≡ true) o.frame.own extra
            (subst (λ j. All (λ (r : RootId). is_live live r.0 ≡ true) (operation_at s j).frame.own) (sym e) old) there_extra)))
            (λ j n e. subst (λ (r : Operation). All (λ (r : RootId). is_live live r.0 ≡ true) r.frame.own) (sym (others s regions extents live k going knotted j n))
            (subst (λ j. All (λ (r : RootId). is_live live r.0 ≡ true) (operation_at s j).frame.own) (sym e) old)) 0 refl
          where
            old : All (λ (r : RootId). is_live live r.0 ≡ true) (operation_at s 0).frame.own
            old = All-weaker (λ (r : RootId). is_live s.map r.0 ≡ true) (λ (r : RootId). is_live live r.0 ≡ true) (λ r l. stay r.0 l) (operation_at s 0).frame.own h.first

        pub goes_open : yielded_by job s k before ≡ u → Opens job b k v s before
        goes_open yields = record {
          change = paused_of job makings;
          leaves = subst (λ t. OpenBoard job t (given_board job b k v (edited G v (paused_of job makings) b.state.tree)) k v) (sym yields)
              (opens job s b h k v at regions extents live going knotted begun.within begun.there ongoing refl now nodes names stay fields
              refl (paused_of job makings) (paused_needs job makings) 1 counts makes own (λ seat. refl) extents_are named within held first_live own_made own_apart);
          same = up_alike job s h.who b.ways There (paused_of job makings) (left_of job makings) makings
              (by_out job s b h k v at claim before act (λ w j earlier above n. tree.settle G M (paused_of job makings n) ≡ tree.settle G M (left_of job makings n))
              (λ earlier above D N i f ps w d is below x. same_settled earlier above above D N i f ps w d is below (wider_itself u above) x)) v [] 0 [] [] b.state.tree
              (here_at job s b h k v at claim before act);
        }
          where
            counts : OfAll job s h.who b.ways There (λ n. children_at G (machine_of job) [] (paused_of job makings n) ≡ children_at G (machine_of job) [] n + 0)
            counts = by_out job s b h k v at claim before act (λ w j earlier above n. children_at G (machine_of job) [] (paused_of job makings n) ≡ children_at G (machine_of job) [] n + 0)
                (λ earlier above D N i f ps w d is below x.
                let e = ap (children_at G (machine_of job) []) (paused_is earlier above above D N i f ps w d is below (wider_itself u above) x) in
                let c = text_count job is (run f ps w d is).text in omega (arith, e, c))

            makes : OfAll job s h.who b.ways There (λ n. made_in G (machine_of job) (paused_of job makings n) ≡ made_in G (machine_of job) n + 1)
            makes = by_out job s b h k v at claim before act (λ w j earlier above n. made_in G (machine_of job) (paused_of job makings n) ≡ made_in G (machine_of job) n + 1)
                (λ earlier above D N i f ps w d is below x.
                let e = ap (made_in G (machine_of job)) (paused_is earlier above above D N i f ps w d is below (wider_itself u above) x) in
                let c = text_made job (machine_of job) is (run f ps w d is).text in omega (arith, e, c))

            own : (w : List ℕ) (j : ℕ) (earlier : List Sibling) (above more : List RootId) (n : Node G) → v ≡ w → IsWider u above more → There w j earlier above n →
                (j ≡ k) × IsOpen job u now b.ways w j earlier more (paused_of job makings n)
            own w j earlier above more n e wider y = by_out job s b h k v at claim before act
                (λ w j earlier above n. (more : List RootId) → IsWider u above more → (j ≡ k) × IsOpen job u now b.ways w j earlier more (paused_of job makings n))
                (λ earlier above D N i f ps w d is below x more wider. (refl, open_here earlier above more D N i f ps w d is below wider x)) w j earlier above n y more wider

            effects : told_at G v (effects_of job makings) b.state.tree ≡ es
            effects = told_holds job s h.who b.ways There (effects_of job makings) (λ xs. xs ≡ es)
                (by_out job s b h k v at claim before act (λ w j earlier above n. effects_of job makings n ≡ es)
                (λ earlier above D N i f ps w d is below x. ap (λ (c : tree.Stepped G (Node G)). c.effects) (made earlier above above D N i f ps w d is below (wider_itself u above) x).given)) v [] 0 [] [] b.state.tree
                (here_at job s b h k v at claim before act)

            held : (root : ℕ) → is_live live root ≡ true → HoldsMap job live extents now (given_board job b k v (edited G v (paused_of job makings) b.state.tree)).state.map root
            held root l = subst (λ es. HoldsMap job live extents now (run_all G es b.state.map) root) (sym effects) (holds root l)
