-- What a segment is run from: what was waited for is given to the operation on the table and in the tree.
use Rattle.std.proofs.Common.{◌≡◌, ◌<◌, ◌++◌, ◌∷◌, ◌∙◌, ⊎_elim, ℕ, zero, suc, ℤ, Bool, List, None, Option, Some, [], ap, append-nil, arith, cond, drop, eq-eqb, false, inl, inr, length, map, option_map, pos, refl, subst, sym, take, true}
use Rattle.std.specs.Prelude.{All, slice_get, unwrap_or}
use Rattle.std.specs.List.Sorted.{IsStrictlyIncreasing}
use Rattle.std.proofs.lemmas.Bool.{and_from, and_parts, false_from_ne_true, false≢true}
use Rattle.std.proofs.lemmas.List.{map-append, take-append-drop}
use Rattle.std.proofs.lemmas.List.Elements.{All-append, All-cons, All-head, All-nil, All-tail, All-weaker}
use Rattle.plain_values.specs.Points.{union_of}
use Rattle.point_sets.proofs.Rising.{rising-filter, rising-union_of}
use Rattle.lane_kernels.specs.declared.numbers.Mode.{Mode}
use Rattle.lane_kernels.specs.declared.numbers.Mode.TheVariants as mode
use Rattle.region_tree.specs.Pieces.{Held}
use Rattle.region_tree.specs.Requirements.{IsPartOf, PartsAreApart, Requirement, all_modes, is_mode, is_of, mode_at, part_of as needed_part, part_of_mode, parts_of_modes, points_joined, points_required, same_mode}
use Rattle.region_tree.specs.declared.tree.OpNumber.{OpNumber}
use Rattle.region_tree.specs.declared.tree.RootId.{RootId}
use Rattle.region_tree.proofs.Joins.{same_mode-tells}
use Rattle.region_tree.proofs.PartLaws.{part_apart, parts_exact}
use Rattle.logical_map.specs.Fills.{Filling}
use Rattle.dependence_graph.specs.Knots.{all_done, is_done, knot_at, stage_at}
use Rattle.dependence_graph.specs.declared.stage.Stage.{Stage as Knotted}
use Rattle.task_code.specs.declared.code.Code.{Code}
use Rattle.task_code.specs.declared.job.Job.{Job}
use Rattle.machine_terms.specs.Orders.{result_of}
use Rattle.machine_terms.specs.Parts.{is_needed, part_of as held_part}
use Rattle.machine_terms.specs.declared.frame.Frame.{Frame}
use Rattle.board_rules.specs.Boards.{Items, Operation as Node, Stage as BoardStage, Wait as BoardWait, at_fault, by, child, child_op, closing, dropped, filling, first, idle, no_item, nothing, op, out, over, part, said, stopped}
use Rattle.board_rules.specs.Boards as tree
use Rattle.board_rules.specs.Ground.{Ground}
use Rattle.board_rules.specs.Running.{Element, Machine, filled, spots}
use Rattle.regent_boards.specs.Frames as board
use Rattle.regent_boards.specs.RegentMachine.{as_held, regent_ground, spots_of}
use Rattle.segment_renaming.specs.Renaming.{frame_to, part_to}
use Rattle.segment_renaming.specs.Resuming.{awaited}
use Rattle.segment_renaming.proofs.Alike.{needed_alike, part_of_to}
use Rattle.segment_renaming.proofs.Openings.{awaited_renamed}
use Rattle.code_boards.specs.Laws.{machine_of}
use Rattle.code_boards.specs.Pieces.{ArePieces, AreNumbered, Differs, IsPiece, all_elements, elements}
use Rattle.code_boards.specs.Views.{frame_in, mode_in, needs_in, part_with, parts_in, spaces_of}
use Rattle.code_boards.proofs.Filled.{want_held}
use Rattle.code_boards.proofs.Regrouping.{pieces_regroup}
use Rattle.order_boards.proofs.Frames.{met_seen}
use Rattle.order_boards.proofs.Parts.{part_behind}
use Rattle.board_terms.specs.declared.operation.Operation.{Operation}
use Rattle.board_terms.specs.declared.operation.Wait.{Wait}
use Rattle.board_terms.specs.declared.operation.Wait.TheVariants as wait
use Rattle.board_terms.specs.Claims.{filled_parts, frame_behind, part_filled, value_at, value_of}
use Rattle.board_terms.specs.States.{State, operation_at}
use Rattle.board_trees.specs.Frames.{HasEachOnce, HasFitting, IsHeld, IsSeen}
use Rattle.board_trees.specs.Names.{IsNaming, named}
use Rattle.board_trees.specs.Shows.{Shows, ShowsChildren, needs_issued, siblings}
use Rattle.board_trees.specs.Stages.{Fills, HasWait, IsFilled, IsWait, Stands}
use Rattle.board_trees.specs.Waits.{Sibling, WaitsForChild, has_ended}
use Rattle.board_trees.proofs.Settled.{node_told}
use Rattle.given_trees.proofs.Values.{held_as}

-- ---- the answer of a child

module _ (job : Job) (s : State) (who : ℕ → ℕ) (ways : List (List ℕ)) (makings : ℕ) where
  abbrev G : Ground
  G = regent_ground (spaces_of job.code)

  abbrev M : Machine G
  M = machine_of job makings

  by_stage : (roots : List RootId) (kn : Knotted) (o : Operation) (N : List Requirement) (st : BoardStage G) → Stands job.code s.roots who roots s kn o N st →
      tree.is_ended G st ≡ true → result_of (unwrap_or (tree.given_by G M st) M.no_answer).value ≡ value_of o.activity
  by_stage roots kn o N (over (by v)) (inl h) e = sym (ap value_of h.1)
  by_stage roots kn o N (over (by v)) (inr h) e = absurd h.1
  by_stage roots kn o N (over (at_fault x)) h e = absurd (false≢true e)
  by_stage roots kn o N (over stopped) h e = absurd (false≢true e)
  by_stage roots kn o N (idle w) h e = absurd (false≢true e)
  by_stage roots kn o N (filling w d l) h e = absurd (false≢true e)
  by_stage roots kn o N (out w d) h e = absurd (false≢true e)
  by_stage roots kn o N (closing x) h e = absurd (false≢true e)
  by_stage roots kn o N dropped h e = absurd (false≢true e)

  ended_value : (way : List ℕ) (k : ℕ) (earlier : List Sibling) (above : List RootId) (n : Node G) → Shows job s who ways way k earlier above n →
      has_ended s.waits.knots k ≡ true → result_of (unwrap_or (tree.given_by G M (tree.stage_of G n)) M.no_answer).value ≡ value_of (operation_at s k).activity
  ended_value way k earlier above (op D N i f ps st is) h e =
      by_stage (above ++ (operation_at s k).frame.own) (knot_at s.waits.knots k).stage (operation_at s k) N st h.0.stands
      (sym (node_told job s who ways way k earlier above (op D N i f ps st is) h).ended ∙ e)

  -- of a child that is waited for, and that has come
  pub answered : (place : ℕ) (on : List OpNumber) (way : List ℕ) (j c : ℕ) (earlier : List Sibling) (roots : List RootId) (ks : List OpNumber) (is : Items G) →
      ShowsChildren job s who ways way j c earlier roots ks is → WaitsForChild s.waits.knots place (siblings job ks is) on → all_done s.waits.knots on ≡ true →
      result_of (unwrap_or (tree.answer_of G M is place) M.no_answer).value ≡ value_at s (slice_get ks place)
  answered place on way j c earlier roots ks no_item h w e = ap (λ ks. value_at s (slice_get ks place)) (sym h)
  answered place on way j c earlier roots ks (said t is) h w e = answered place on way j c earlier roots ks is h w e
  answered place on way j c earlier roots [] (child_op n is) h w e = absurd h
  answered zero on way j c earlier roots (k ∷ ks) (child_op n is) h w e =
      ended_value (way ++ c ∷ []) k.0 earlier roots n h.1
      (⊎_elim (λ q. (and_parts (is_done (stage_at s.waits.knots k.0)) true (ap (all_done s.waits.knots) (sym q) ∙ e)).0) (λ q. q.1) w)
  answered (suc place) on way j c earlier roots (k ∷ ks) (child_op n is) h w e =
      answered place on way j (suc c) (earlier ++ record { op = k.0; needs = needs_issued job n } ∷ []) roots ks is h.2 w e

  -- ---- the frame

  module _ (roots : List RootId) (o : Operation) (f : board.Frame) (is : Items G) (name : ℕ → ℕ) (e : frame_in f ≡ frame_to (named name) o.frame) where
    abbrev Met : Wait → BoardWait G → Type 0
    Met v w = frame_in (tree.met_by G M w f (tree.awaited G M w is)) ≡ frame_to (named name) (frame_behind s o v)

    pub met_alike : (v : Wait) (w : BoardWait G) → IsWait job.code s.roots who roots o.frame.needs.items o.parts o.children v w →
        ((c : ℕ) → w ≡ child c → result_of (unwrap_or (tree.answer_of G M is c) M.no_answer).value ≡ value_at s (slice_get o.children c)) → Met v w
    met_alike wait.Beginning first h a = e
    met_alike wait.Beginning nothing h a = absurd h
    met_alike wait.Beginning (part k) h a = absurd h
    met_alike wait.Beginning (child c) h a = absurd h
    met_alike wait.Nothing first h a = absurd h
    met_alike wait.Nothing nothing h a = e
    met_alike wait.Nothing (part k) h a = absurd h
    met_alike wait.Nothing (child c) h a = absurd h
    met_alike (wait.Part root field) first h a = absurd h
    met_alike (wait.Part root field) nothing h a = absurd h
    met_alike (wait.Part root field) (part k) h a = e
    met_alike (wait.Part root field) (child c) h a = absurd h
    met_alike (wait.Child n) first h a = absurd h
    met_alike (wait.Child n) nothing h a = absurd h
    met_alike (wait.Child n) (part k) h a = absurd h
    met_alike (wait.Child n) (child c) h a =
        met_seen job.code c (unwrap_or (tree.answer_of G M is c) M.no_answer) f
        ∙ (λ j. awaited c (a c refl j) (e j))
        ∙ awaited_renamed (named name) c (value_at s (slice_get o.children c)) o.frame
        ∙ ap (λ k. frame_to (named name) (frame_behind s o (wait.Child k))) (sym h)

-- ---- the pieces of a part that is needed

unmapped : (P : List ℕ × Mode → Type 0) (hs : List Held) → All P (map held_as hs) → All (λ h. P (held_as h)) hs
unmapped P [] a = All-nil (λ h. P (held_as h))
unmapped P (h ∷ hs) a = All-cons (λ h. P (held_as h)) h hs (All-head P (held_as h) (map held_as hs) a) (unmapped P hs (All-tail P (held_as h) (map held_as hs) a))

module _ (N : List Requirement) (root field : ℕ) where
  required_rise : (N : List Requirement) → IsStrictlyIncreasing (points_required N root field)
  required_rise [] = λ k l. absurd (omega (arith, l))
  required_rise (r ∷ rs) = chosen (is_of root field r) (required_rise rs)
    where
      chosen : (b : Bool) → IsStrictlyIncreasing (points_required rs root field) →
          IsStrictlyIncreasing (cond b (union_of r.points (points_required rs root field)) (points_required rs root field))
      chosen true h = rising-union_of r.points (points_required rs root field) h
      chosen false h = h

  joined_rise : (m : Mode) → IsStrictlyIncreasing (points_joined N root field m)
  joined_rise m = rising-filter (λ p. is_mode m (mode_at N root field p)) (points_required N root field) (required_rise N)

  abbrev Rises : List ℕ × Mode → Type 0
  Rises q = IsStrictlyIncreasing q.0

  parts_rise : (ms : List Mode) → All Rises (parts_of_modes N root field ms)
  parts_rise [] = All-nil Rises
  parts_rise (m ∷ ms) = split (points_joined N root field m) (joined_rise m) (parts_rise ms)
    where
      split : (xs : List ℕ) → IsStrictlyIncreasing xs → All Rises (parts_of_modes N root field ms) → All Rises (part_of_mode xs m (parts_of_modes N root field ms))
      split [] r more = more
      split (x ∷ xs) r more = All-cons Rises (x ∷ xs, m) (parts_of_modes N root field ms) r more

  pub part_rises : All Rises (needed_part N root field)
  part_rises = parts_rise all_modes

module _ (code : Code) (root field : ℕ) where
  numbered : (xs : List ℕ) (zs : List ℤ) → length zs ≡ length xs → AreNumbered code root field xs zs
  numbered [] [] e = tt
  numbered [] (z ∷ zs) e = absurd (omega (arith, e))
  numbered (x ∷ xs) [] e = absurd (omega (arith, e))
  numbered (x ∷ xs) (z ∷ zs) e = numbered xs zs (omega (arith, e))

  is_piece : (xs : List ℕ) (zs : List ℤ) → 0 < length xs → length zs ≡ length xs → IsPiece code root field xs zs
  is_piece [] zs l e = absurd (omega (arith, l))
  is_piece (x ∷ xs) [] l e = absurd (omega (arith, e))
  is_piece (x ∷ xs) (z ∷ zs) l e = numbered xs zs (omega (arith, e))

  differs : (h : Held) (hs : List Held) → PartsAreApart (map held_as (h ∷ hs)) → Differs code root field h.mode hs
  differs h [] a = tt
  differs h (g ∷ hs) a = false_from_ne_true (same_mode h.mode g.mode) (λ e. (a 0 1 (omega arith) (omega arith)).1 (same_mode-tells h.mode g.mode e))

  abbrev HasPoints : List ℕ × Mode → Type 0
  HasPoints q = 0 < length q.0

  abbrev IsSized : Held → Type 0
  IsSized h = length h.values ≡ length h.points

  are_pieces : (hs : List Held) → PartsAreApart (map held_as hs) → All HasPoints (map held_as hs) → All IsSized hs → ArePieces code root field hs
  are_pieces [] a p z = tt
  are_pieces (h ∷ hs) a p z = (
    is_piece h.points h.values (All-head HasPoints (held_as h) (map held_as hs) p) (All-head IsSized h hs z),
    differs h hs a,
    are_pieces hs (λ i j l k. a (suc i) (suc j) (omega (arith, l)) (omega (arith, k))) (All-tail HasPoints (held_as h) (map held_as hs) p) (All-tail IsSized h hs z),
  )

  pub regrouped : (hs : List Held) → PartsAreApart (map held_as hs) → All HasPoints (map held_as hs) → All IsSized hs → (hs ≡ [] → ⊥) →
      parts_in code (all_elements code root field hs) ≡ part_with code root field hs ∷ []
  regrouped [] a p z n = absurd (n refl)
  regrouped (h ∷ hs) a p z n = pieces_regroup code root field (h ∷ hs) (are_pieces (h ∷ hs) a p z)

  -- elements are held at the widths of their fields
  as_mode : (m : Mode) → as_held (spaces_of code) root field m ≡ as_held (spaces_of code) root field (mode_in code (as_held (spaces_of code) root field m))
  as_mode mode.Read = refl
  as_mode mode.Write = refl
  as_mode (mode.Reduce o) = refl

  elements_held : (m : Mode) (xs : List ℕ) (zs : List ℤ) → All (IsHeld code) (elements code root field m xs zs)
  elements_held m [] zs = All-nil (IsHeld code)
  elements_held m (x ∷ xs) [] = All-nil (IsHeld code)
  elements_held m (x ∷ xs) (z ∷ zs) = All-cons (IsHeld code)
      (record { location = record { root = root; field = field; point = x }; mode = as_held (spaces_of code) root field m; number = z })
      (elements code root field m xs zs) (as_mode m) (elements_held m xs zs)

  pub all_held : (hs : List Held) → All (IsHeld code) (all_elements code root field hs)
  all_held [] = All-nil (IsHeld code)
  all_held (h ∷ hs) = All-append (IsHeld code) (elements code root field h.mode h.points h.values) (all_elements code root field hs)
      (elements_held h.mode h.points h.values) (all_held hs)

-- ---- a part that was wanted

module _ (job : Job) (s : State) (who : ℕ → ℕ) (roots : List RootId) where
  abbrev L : Ground
  L = regent_ground (spaces_of job.code)

  none_left : (xs : List (Element L)) → [] ≡ spots L xs → xs ≡ []
  none_left [] e = refl
  none_left (x ∷ xs) e = absurd cc

  module _ (N : List Requirement) (k : board.Key) (g : Filling) (d : List (Element L)) (filled_is : IsFilled job.code s.roots who roots N k g d []) where
    abbrev all_of : List (Element L)
    all_of = all_elements job.code k.root k.field g.pieces

    all_filled : d ≡ all_of
    all_filled = filled_is.filled ∙ sym (append-nil (take g.moved all_of))
        ∙ ap (λ xs. take g.moved all_of ++ xs) (sym (none_left (drop g.moved all_of) filled_is.left))
        ∙ take-append-drop g.moved all_of

    apart_here : PartsAreApart (map held_as g.pieces)
    apart_here = subst PartsAreApart (sym filled_is.wanted) (part_apart N k.root k.field)

    with_points : All (λ (q : List ℕ × Mode). 0 < length q.0) (map held_as g.pieces)
    with_points = subst (All (λ (q : List ℕ × Mode). 0 < length q.0)) (sym filled_is.wanted)
        (All-weaker (IsPartOf N k.root k.field) (λ (q : List ℕ × Mode). 0 < length q.0) (λ q p. p.some) (needed_part N k.root k.field) (parts_exact N k.root k.field))

    pub once_filled : HasEachOnce (part_filled g)
    once_filled = record {
      apart = apart_here;
      rising = unmapped (λ q. IsStrictlyIncreasing q.0) g.pieces (subst (All (λ (q : List ℕ × Mode). IsStrictlyIncreasing q.0)) (sym filled_is.wanted) (part_rises N k.root k.field));
    }

    pub held_filled : All (IsHeld job.code) d
    held_filled = subst (All (IsHeld job.code)) (sym all_filled) (all_held job.code k.root k.field g.pieces)

    module _ (M : Machine L) (o : Operation) (f : board.Frame) (ps : List (Element L)) (seen : IsSeen job.code s.tree s.map s.roots who roots o N f ps)
        (root : RootId) (field : ℕ) (h : IsWait job.code s.roots who roots o.frame.needs.items o.parts o.children (wait.Part root field) (part k))
        (name : ℕ → ℕ) (is : IsNaming s.roots who roots name) where
      root_is : name root.0 ≡ k.root
      root_is = h.2.1 name is

      needed_there : is_needed (needs_in N) k.root k.field ≡ true
      needed_there = ap (λ (rs : List Requirement). is_needed (needs_in rs) k.root k.field) (sym seen.needs)
          ∙ ap (λ (x : Frame). is_needed x.needs.items k.root k.field) (seen.frame name is)
          ∙ (λ i. is_needed (frame_to (named name) o.frame).needs.items (sym root_is i) (sym h.2.0 i))
          ∙ needed_alike (named name) is.one o.frame.needs.items root.0 field ∙ h.0

      none_wanted : needed_part N k.root k.field ≡ [] → ⊥
      none_wanted e = want_held job.code M (λ l. pos 0) N k.root k.field [] needed_there
          (ap (λ qs. held_part (parts_in job.code (filled L M (spots_of (spaces_of job.code) k.root k.field qs) (λ l. pos 0))) k.root k.field) e)

      no_pieces : g.pieces ≡ [] → ⊥
      no_pieces e = none_wanted (sym filled_is.wanted ∙ ap (map held_as) e)

      filled_part : parts_in job.code d ≡ part_with job.code k.root k.field g.pieces ∷ []
      filled_part = ap (parts_in job.code) all_filled ∙ regrouped job.code k.root k.field g.pieces apart_here with_points filled_is.sized no_pieces

      not_held : held_part (parts_in job.code ps) k.root k.field ≡ None
      not_held = ap (λ xs. held_part xs k.root k.field) (seen.parts name is)
          ∙ (λ i. held_part (map (part_to (named name)) o.parts) (sym root_is i) (sym h.2.0 i))
          ∙ part_of_to (named name) is.one o.parts root.0 field ∙ ap (option_map (part_to (named name))) h.1

      pub filled_alike : parts_in job.code (ps ++ d) ≡ map (part_to (named name)) (o.parts ++ filled_parts (Some g))
      filled_alike = part_behind job.code k.root k.field (part_with job.code k.root k.field g.pieces) (and_from _ _ (eq-eqb k.root k.root refl) (eq-eqb k.field k.field refl))
          ps d filled_part not_held
          ∙ (λ j. seen.parts name is j ++ record {
            root = record { 0 = sym (filled_is.key.1 name is) j };
            field = sym filled_is.key.0 j;
            kind = sym filled_is.kind j;
            pieces = g.pieces;
          } ∷ [])
          ∙ sym (map-append (part_to (named name)) o.parts (filled_parts (Some g)))

  -- ---- what is held by one that goes on

  module _ (M : Machine L) (o : Operation) (N : List Requirement) (f : board.Frame) (ps : List (Element L)) (seen : IsSeen job.code s.tree s.map s.roots who roots o N f ps)
      (d : List (Element L)) where
    none_more : d ≡ [] → (name : ℕ → ℕ) → IsNaming s.roots who roots name → parts_in job.code (ps ++ d) ≡ map (part_to (named name)) (o.parts ++ filled_parts None)
    none_more e name is = ap (λ xs. parts_in job.code (ps ++ xs)) e ∙ ap (parts_in job.code) (append-nil ps) ∙ seen.parts name is
        ∙ ap (map (part_to (named name))) (sym (append-nil o.parts))

    pub record Holds (fill : Option Filling) : Type 0 where
      pub parts : (name : ℕ → ℕ) → IsNaming s.roots who roots name → parts_in job.code (ps ++ d) ≡ map (part_to (named name)) (o.parts ++ filled_parts fill)
      pub held : All (IsHeld job.code) (ps ++ d)
      pub fitting : All HasFitting (o.parts ++ filled_parts fill)
      pub once : All HasEachOnce (o.parts ++ filled_parts fill)

    holds_none : d ≡ [] → Holds None
    holds_none e = record {
      parts = none_more e;
      held = subst (λ xs. All (IsHeld job.code) (ps ++ xs)) (sym e) (subst (All (IsHeld job.code)) (sym (append-nil ps)) seen.held);
      fitting = subst (All HasFitting) (sym (append-nil o.parts)) seen.fitting;
      once = subst (All HasEachOnce) (sym (append-nil o.parts)) seen.once;
    }

    holds_some : (k : board.Key) (g : Filling) (v : Wait) → IsWait job.code s.roots who roots o.frame.needs.items o.parts o.children v (part k) →
        IsFilled job.code s.roots who roots N k g d [] → Holds (Some g)
    holds_some k g wait.Beginning h fills = absurd h
    holds_some k g wait.Nothing h fills = absurd h
    holds_some k g (wait.Child n) h fills = absurd h
    holds_some k g (wait.Part root field) h fills = record {
      parts = filled_alike N k g d fills M o f ps seen root field h;
      held = All-append (IsHeld job.code) ps d seen.held (held_filled N k g d fills);
      fitting = All-append HasFitting o.parts (filled_parts (Some g)) seen.fitting (All-cons HasFitting (part_filled g) [] fills.fitting (All-nil HasFitting));
      once = All-append HasEachOnce o.parts (filled_parts (Some g)) seen.once (All-cons HasEachOnce (part_filled g) [] (once_filled N k g d fills) (All-nil HasEachOnce));
    }

    pub holds_out : (w : BoardWait L) (fill : Option Filling) → HasWait job.code s.roots who roots o w → Fills job.code s.roots who roots N w fill d [] → Holds fill
    holds_out first None h fills = holds_none fills.0
    holds_out first (Some g) h fills = absurd fills
    holds_out nothing None h fills = holds_none fills.0
    holds_out nothing (Some g) h fills = absurd fills
    holds_out (part k) None h fills = absurd fills
    holds_out (part k) (Some g) h fills = holds_some k g o.wait h fills
    holds_out (child c) None h fills = holds_none fills.0
    holds_out (child c) (Some g) h fills = absurd fills
