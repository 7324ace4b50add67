-- What an operation holds and is being filled with, of a state that shows a board of the laws.
use Rattle.std.proofs.Common.{List, None, Option, Some, [], ap, arith, cond, eqb-true, false, length, map, option_map, refl, subst, suc, sym, true, zero, ℕ, ℤ, ⊎_elim, ◌++◌, ◌<◌, ◌==◌, ◌||◌, ◌∙◌, ◌∷◌, ◌≡◌}
use Rattle.std.specs.Prelude.{All, drop, slice_get, take}
use Rattle.std.specs.List.{Contains, flat_map, list_any}
use Rattle.std.proofs.lemmas.Bool.{and_parts, false≢true, true≢false}
use Rattle.std.proofs.lemmas.List.{map-append, take-append-drop}
use Rattle.std.proofs.lemmas.List.Elements.{All-append, All-cons, All-contains, All-head, All-nil, All-tail}
use Rattle.std.proofs.Math.Bool.{or-false}
use Rattle.lane_kernels.specs.declared.numbers.Mode.{Mode as FieldMode}
use Rattle.region_finder.specs.Listings.{Listed}
use Rattle.region_tree.specs.Needs.{requirements_of}
use Rattle.region_tree.specs.Pieces.{Held}
use Rattle.region_tree.specs.Requirements.{Requirement, conflict, interfere, is_at, is_of, join_from}
use Rattle.region_tree.specs.declared.piece.Part.{Part}
use Rattle.region_tree.specs.declared.tree.OpNumber.{OpNumber}
use Rattle.region_tree.specs.declared.tree.RootId.{RootId}
use Rattle.logical_map.specs.Fills.{Filling}
use Rattle.task_code.specs.declared.job.Job.{Job}
use Rattle.board_rules.specs.Apart.{ApartWhileOpen, children_in, find, needs_now}
use Rattle.board_rules.specs.Boards.{Items, Operation as Node, Stage as BoardStage, Wait as BoardWait, child, closing, dropped, filling, first, idle, is_over as tree_over, needs_of, nothing, op, out, over, part, stage_of as tree_stage}
use Rattle.board_rules.specs.Ground.{Ground}
use Rattle.board_rules.specs.NumberedBoards.{Board}
use Rattle.board_rules.specs.Processes.{Apart, Inside}
use Rattle.board_rules.specs.Running.{Element, Spot, spots}
use Rattle.board_laws.proofs.Reaching.{apart_inside, by_test}
use Rattle.progress_laws.specs.Progress.{HeldIsApart, IssuedIsNeeded}
use Rattle.regent_boards.specs.Frames as board
use Rattle.regent_boards.specs.Frames.{Location}
use Rattle.regent_boards.specs.RegentMachine.{as_held, regent_ground}
use Rattle.regent_boards.proofs.NeedRenaming.{interfere_to, moved}
use Rattle.segment_renaming.specs.Renaming.{part_to}
use Rattle.segment_renaming.proofs.Alike.{same_root}
use Rattle.code_boards.specs.Laws.{machine_of}
use Rattle.code_boards.specs.Pieces.{all_elements, elements}
use Rattle.code_boards.specs.Views.{mode_in, spaces_of}
use Rattle.board_terms.specs.declared.operation.Activity.{Activity}
use Rattle.board_terms.specs.Closings.{all_over}
use Rattle.board_terms.specs.Claims.{filled_parts, part_filled}
use Rattle.board_terms.specs.Stages.{is_closing, is_over, stage_at, stage_of}
use Rattle.board_terms.specs.States.{State, operation_at}
use Rattle.board_trees.specs.Frames.{IsHeld, IsSeen}
use Rattle.board_trees.specs.Names.{named, pointed, requirement_named}
use Rattle.board_trees.specs.Shows.{Shows, ShowsBoard}
use Rattle.board_trees.specs.Stages.{Fills, IsFilled}
use Rattle.board_trees.proofs.Settled.{node_told}
use Rattle.claimed_trees.proofs.Moved.{spots_both}
use Rattle.changed_trees.proofs.Interfere.{interfere_pointed}
use Rattle.journal_progress.specs.Parts.{held_for, held_in, parts_held, parts_with}
use Rattle.journal_progress.proofs.Callers.{ChildAt, WereMade, child_at, find_behind, place_of}
use Rattle.journal_progress.proofs.Needs.{apart_needs}
use Rattle.journal_progress.proofs.Pieces.{Clear, PartClear, ElementClear, at_point, clear_apart, grouped_clear, held_mode, pieces_clear}
use Rattle.journal_progress.proofs.Places.{Placed, entry_needs, has_children, name, naming, placed, still_listed}

-- ---- children

-- where all are over, each is
over_child : (s : State) (ks : List OpNumber) (o : OpNumber) → Contains ks o → all_over s ks ≡ true → is_over (stage_at s o.0) ≡ true
over_child s [] o c e = absurd (omega (arith, c.1))
over_child s (x ∷ ks) o (zero, l, q) e = ap (λ (y : OpNumber). is_over (stage_at s y.0)) (sym q) ∙ (and_parts (is_over (stage_at s x.0)) (all_over s ks) e).0
over_child s (x ∷ ks) o (suc i, l, q) e = over_child s ks o (i, omega (arith, l), q) (and_parts (is_over (stage_at s x.0)) (all_over s ks) e).1

module _ (job : Job) where
  abbrev G : Ground
  G = regent_ground (spaces_of job.code)

  -- ---- an element that is apart from needs

  module _ (D : List Requirement) where
    abbrev ApartFrom : Element G → Type 0
    ApartFrom x = Apart G (Some x.mode) (G.at D x.location)

    abbrev one : Element G → Requirement
    one x = at_point x.location.root x.location.field (mode_in job.code x.mode) x.location.point

    apart_there : (x : Element G) → IsHeld job.code x → ApartFrom x → (l : Location) → Apart G (G.at (one x ∷ []) l) (G.at D l)
    apart_there x held a l = by_test (is_at l.root l.field l.point (one x))
        (λ t. is_at l.root l.field l.point (one x) ≡ t →
        Apart G (option_map (as_held (spaces_of job.code) l.root l.field) (join_from None (map (λ (r : Requirement). r.mode) (cond t (one x ∷ []) [])))) (G.at D l))
        (λ t e. let parts = and_parts (is_of l.root l.field (one x)) ((l.point == x.location.point) || false) e in
        let fields = and_parts (x.location.root == l.root) (x.location.field == l.field) parts.0 in
        let point : (l.point == x.location.point) ≡ true = sym (or-false (l.point == x.location.point)) ∙ parts.1 in
        let same : x.location ≡ l = (λ i. record { root = eqb-true x.location.root l.root fields.0 i; field = eqb-true x.location.field l.field fields.1 i; point = sym (eqb-true l.point x.location.point point) i }) in
        subst (λ (q : Location). Apart G (Some (as_held (spaces_of job.code) q.root q.field (mode_in job.code x.mode))) (G.at D q)) same
        (subst (λ o. Apart G (Some o) (G.at D x.location)) held a))
        (λ t e. tt) refl

    pub element_clear : (x : Element G) → IsHeld job.code x → ApartFrom x → ElementClear job.code (pointed D) x
    element_clear x held a = sym (or-false (list_any (conflict (one x)) (pointed D))) ∙ interfere_pointed (one x ∷ []) D
        ∙ apart_needs (spaces_of job.code) (one x ∷ []) D (apart_there x held a)

    abbrev AllApart : List (Spot G) → Type 0
    AllApart ss = All (λ (y : Spot G). Apart G (Some y.mode) (G.at D y.location)) ss

    elements_clear : (xs : List (Element G)) → All (IsHeld job.code) xs → AllApart (spots G xs) → All (ElementClear job.code (pointed D)) xs
    elements_clear [] g h = All-nil (ElementClear job.code (pointed D))
    elements_clear (x ∷ xs) g h =
        let P : Spot G → Type 0 = λ y. Apart G (Some y.mode) (G.at D y.location) in
        let y : Spot G = record { location = x.location; mode = x.mode } in
        All-cons (ElementClear job.code (pointed D)) x xs
        (element_clear x (All-head (IsHeld job.code) x xs g) (All-head P y (spots G xs) h))
        (elements_clear xs (All-tail (IsHeld job.code) x xs g) (All-tail P y (spots G xs) h))

  -- elements of pieces are held at the widths of their fields
  elements_held : (root field : ℕ) (m : FieldMode) (ps : List ℕ) (vs : List ℤ) → All (IsHeld job.code) (elements job.code root field m ps vs)
  elements_held root field m [] vs = All-nil (IsHeld job.code)
  elements_held root field m (p ∷ ps) [] = All-nil (IsHeld job.code)
  elements_held root field m (p ∷ ps) (v ∷ vs) = All-cons (IsHeld job.code)
      (record { location = record { root = root; field = field; point = p }; mode = as_held (spaces_of job.code) root field m; number = v })
      (elements job.code root field m ps vs) (ap (as_held (spaces_of job.code) root field) (sym (held_mode job.code [] root field m))) (elements_held root field m ps vs)

  all_held : (root field : ℕ) (hs : List Held) → All (IsHeld job.code) (all_elements job.code root field hs)
  all_held root field [] = All-nil (IsHeld job.code)
  all_held root field (x ∷ hs) = All-append (IsHeld job.code) (elements job.code root field x.mode x.points x.values) (all_elements job.code root field hs)
      (elements_held root field x.mode x.points x.values) (all_held root field hs)

  module _ (s : State) (b : Board G) (h : ShowsBoard job s b) where
    abbrev to : ℕ → ℕ
    to = name job s b h

    -- ---- parts that are apart from needs

    module _ (roots : List RootId) (made : WereMade job s h.who b.ways roots) (D : List Requirement) where
      abbrev AllClear : List Part → Type 0
      AllClear qs = All (PartClear job.code (pointed D)) (map (part_to (named to)) qs)

      both_clear : (xs ys : List Part) → AllClear xs → AllClear ys → AllClear (xs ++ ys)
      both_clear xs ys f g = subst (All (PartClear job.code (pointed D))) (sym (map-append (part_to (named to)) xs ys))
          (All-append (PartClear job.code (pointed D)) (map (part_to (named to)) xs) (map (part_to (named to)) ys) f g)

      fill_clear : (N : List Requirement) (key : board.Key) (f : Filling) (d : List (Element G)) (l : List (Spot G)) → IsFilled job.code s.roots h.who roots N key f d l →
          AllApart D (spots G d ++ l) → AllClear (part_filled f ∷ [])
      fill_clear N key f d l is apart =
          let all = all_elements job.code key.root key.field f.pieces in
          let spots_all : spots G d ++ l ≡ spots G all = (λ i. spots G (is.filled i) ++ is.left i) ∙ sym (spots_both job.code (machine_of job 0) b.state.map (take f.moved all) (drop f.moved all)) ∙ ap (spots G) (take-append-drop f.moved all) in
          let clear = pieces_clear job.code (pointed D) key.root key.field f.pieces is.sized
          (elements_clear D all (all_held key.root key.field f.pieces) (subst (AllApart D) spots_all apart)) in
          All-cons (PartClear job.code (pointed D)) (part_to (named to) (part_filled f)) []
          (subst (λ (k : board.Key). All (λ (x : Held). Clear (pointed D) (held_for k.root k.field x)) f.pieces)
          (λ i. record { root = sym (is.key.1 to (naming job s b h roots made)) i; field = sym is.key.0 i }) clear)
          (All-nil (PartClear job.code (pointed D)))

      fills_clear : (N : List Requirement) (w : BoardWait G) (o : Option Filling) (d : List (Element G)) (l : List (Spot G)) → Fills job.code s.roots h.who roots N w o d l →
          AllApart D (spots G d ++ l) → AllClear (filled_parts o)
      fills_clear N (part key) (Some f) d l is apart = fill_clear N key f d l is apart
      fills_clear N (part key) None d l is apart = absurd is
      fills_clear N w None d l is apart = All-nil (PartClear job.code (pointed D))
      fills_clear N first (Some f) d l is apart = absurd is
      fills_clear N nothing (Some f) d l is apart = absurd is
      fills_clear N (child c) (Some f) d l is apart = absurd is

    -- ---- an operation and its child

    module _ (held : HeldIsApart G b) (issued : IssuedIsNeeded G b) (k : ℕ) (goes : is_closing (stage_at s k) ≡ false) (x : Listed) (listed : Contains s.waits.listing x)
        (is_child : Contains (operation_at s k).children x.op) (still : is_over (stage_at s x.op.0) ≡ false) where
      abbrev g : Placed job s b h k
      g = placed job s b h k (has_children job s b h k x.op is_child)

      abbrev roots : List RootId
      roots = g.there.above ++ (operation_at s k).frame.own

      made : WereMade job s h.who b.ways roots
      made = All-append (λ (r : RootId). r.0 < length s.roots) g.there.above (operation_at s k).frame.own g.there.made (h.own_made k)

      abbrev Goal : List Part → Type 0
      Goal qs = interfere (flat_map held_in qs) (requirements_of s.tree x.issued) ≡ false

      place : (c : ℕ) × (slice_get (operation_at s k).children c ≡ Some x.op)
      place = place_of job s h.who b.ways (operation_at s k).children x.op is_child

      module _ (D N : List Requirement) (i : ℕ) (f : board.Frame) (ps : List (Element G)) (st : BoardStage G) (is : Items G)
          (shows : Shows job s h.who b.ways g.there.at k g.there.earlier g.there.above (op D N i f ps st is)) (found : find G g.way b.state.tree ≡ Some (op D N i f ps st is)) where
        kid : ChildAt job s h.who b.ways k place.0 x.op.0 roots is
        kid = child_at job s h.who b.ways place.0 g.there.at k 0 [] roots (operation_at s k).children is x.op.0 shows.1 shows.0.listed place.1

        abbrev E : List Requirement
        E = needs_of G kid.node

        kid_needs : pointed E ≡ map (requirement_named to) (requirements_of s.tree x.issued)
        kid_needs = entry_needs job s b h x listed k roots kid.node kid.later made (kid.listed (still_listed job s b h x.op.0 still))

        kid_open : tree_over G (tree_stage G kid.node) ≡ false
        kid_open = sym (node_told job s h.who b.ways kid.at x.op.0 kid.earlier roots kid.node kid.shows).is_over ∙ still

        kid_issued : (l : Location) → Inside G (G.at E l) (G.at (needs_now G kid.node) l)
        kid_issued = issued (g.way ++ place.0 ∷ []) kid.node (find_behind job s h.who b.ways g.way place.0 b.state.tree (op D N i f ps st is) found ∙ kid.found)

        apart_of : (ss : List (Spot G)) → All (ApartWhileOpen G ss) (children_in G is) → AllApart E ss
        apart_of ss a = narrower ss (All-contains (ApartWhileOpen G ss) (children_in G is) kid.node a kid.among kid_open)
          where
            narrower : (ys : List (Spot G)) → AllApart (needs_now G kid.node) ys → AllApart E ys
            narrower [] q = All-nil (λ (y : Spot G). Apart G (Some y.mode) (G.at E y.location))
            narrower (y ∷ ys) q =
                let P : Spot G → Type 0 = λ z. Apart G (Some z.mode) (G.at (needs_now G kid.node) z.location) in
                All-cons (λ (z : Spot G). Apart G (Some z.mode) (G.at E z.location)) y ys
                (apart_inside G (Some y.mode) (G.at E y.location) (G.at (needs_now G kid.node) y.location) (All-head P y ys q) (kid_issued y.location))
                (narrower ys (All-tail P y ys q))

        clear_goal : (qs : List Part) → AllClear roots made E qs → Goal qs
        clear_goal qs c = sym (interfere_to to (same_root (named to) (naming job s b h roots made).one) (flat_map held_in qs) (requirements_of s.tree x.issued))
            ∙ ap (interfere (map (moved to) (flat_map held_in qs))) (sym kid_needs)
            ∙ clear_apart job.code (pointed E) to qs c

        parts_clear : IsSeen job.code s.tree s.map s.roots h.who roots (operation_at s k) N f ps → AllClear roots made E (operation_at s k).parts
        parts_clear seen = subst (All (PartClear job.code (pointed E))) (seen.parts to (naming job s b h roots made))
            (grouped_clear job.code (pointed E) ps (elements_clear E ps seen.held (apart_of (spots G ps) (held g.way (op D N i f ps st is) found).0)))

        with_fill : IsSeen job.code s.tree s.map s.roots h.who roots (operation_at s k) N f ps → (w : BoardWait G) (o : Option Filling) (d : List (Element G)) (l : List (Spot G)) →
            Fills job.code s.roots h.who roots N w o d l → AllApart E (spots G d ++ l) → Goal ((operation_at s k).parts ++ filled_parts o)
        with_fill seen w o d l fills a = clear_goal ((operation_at s k).parts ++ filled_parts o)
            (both_clear roots made E (operation_at s k).parts (filled_parts o) (parts_clear seen) (fills_clear roots made E N w o d l fills a))

        abbrev GoalBy : Activity → Type 0
        GoalBy a = Goal (parts_with (operation_at s k).parts a)

        all_are_over : {A : Type 0} → all_over s (operation_at s k).children ≡ true → A
        all_are_over e = absurd (false≢true (sym still ∙ over_child s (operation_at s k).children x.op is_child e))

      by_node : (n : Node G) → Shows job s h.who b.ways g.there.at k g.there.earlier g.there.above n → find G g.way b.state.tree ≡ Some n → Goal (parts_held (operation_at s k))
      by_node (op D N i f ps (idle w) is) r found = subst (GoalBy D N i f ps (idle w) is r found) (sym r.0.stands.1.0)
          (clear_goal D N i f ps (idle w) is r found (operation_at s k).parts (parts_clear D N i f ps (idle w) is r found r.0.seen))
      by_node (op D N i f ps (filling w d l) is) r found = subst (GoalBy D N i f ps (filling w d l) is r found) (sym r.0.stands.1.activity_is)
          (with_fill D N i f ps (filling w d l) is r found r.0.seen w r.0.stands.1.fill d l r.0.stands.1.fills
          (apart_of D N i f ps (filling w d l) is r found (spots G d ++ l) (held g.way (op D N i f ps (filling w d l) is) found).1))
      by_node (op D N i f ps (out w d) is) r found = subst (GoalBy D N i f ps (out w d) is r found) (sym r.0.stands.1.activity_is)
          (with_fill D N i f ps (out w d) is r found r.0.seen w r.0.stands.1.fill d [] r.0.stands.1.fills
          (All-append (λ (y : Spot G). Apart G (Some y.mode) (G.at (needs_of G (kid D N i f ps (out w d) is r found).node) y.location)) (spots G d) []
          (apart_of D N i f ps (out w d) is r found (spots G d) (held g.way (op D N i f ps (out w d) is) found).1)
          (All-nil (λ (y : Spot G). Apart G (Some y.mode) (G.at (needs_of G (kid D N i f ps (out w d) is r found).node) y.location)))))
      by_node (op D N i f ps (closing e) is) r found = absurd (true≢false (sym closes ∙ goes))
        where
          closes : is_closing (stage_at s k) ≡ true
          closes = ⊎_elim (λ c i. is_closing (stage_of (c.0 i) (operation_at s k).wait (c.1.activity_is i)))
              (λ c i. is_closing (stage_of (c.0 i) (operation_at s k).wait (operation_at s k).activity)) r.0.stands
      by_node (op D N i f ps (over e) is) r found = all_are_over D N i f ps (over e) is r found r.0.children_are
      by_node (op D N i f ps dropped is) r found = all_are_over D N i f ps dropped is r found (ap (all_over s) r.0.children_are)

      pub held_apart : interfere (flat_map held_in (parts_held (operation_at s k))) (requirements_of s.tree x.issued) ≡ false
      held_apart = by_node g.there.node g.there.shows g.there.found
