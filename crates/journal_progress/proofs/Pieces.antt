-- Elements and pieces: what doesn't conflict with needs element by element doesn't where the elements are grouped in pieces.
use Rattle.std.proofs.Common.{◌≡◌, ◌++◌, ◌∷◌, ◌∙◌, ◌==◌, ◌&&◌, ◌||◌, ℕ, ℤ, Bool, List, [], arith, cond, eqb-true, false, length, map, refl, subst, sym, true}
use Rattle.std.specs.Prelude.{All}
use Rattle.std.specs.List.{flat_map, list_any}
use Rattle.std.proofs.lemmas.Bool.{and_parts, or_parts}
use Rattle.std.proofs.lemmas.List.{map-append}
use Rattle.std.proofs.lemmas.List.Elements.{All-append, All-cons, All-head, All-map, All-nil, All-tail}
use Rattle.std.proofs.lemmas.List.Folds.{list_any_none}
use Rattle.lane_kernels.specs.Modes.{in_conflict}
use Rattle.lane_kernels.specs.declared.numbers.Mode.{Mode as FieldMode}
use Rattle.lane_kernels.specs.declared.numbers.Mode.TheVariants.{Read, Reduce, Write}
use Rattle.plain_values.specs.Points.{has, meets}
use Rattle.region_tree.specs.Pieces.{Held}
use Rattle.region_tree.specs.Requirements.{Requirement, conflict, interfere, same_mode}
use Rattle.region_tree.specs.declared.piece.Part.{Part}
use Rattle.region_tree.proofs.Joins.{same_mode-tells}
use Rattle.task_code.specs.declared.code.Code.{Code}
use Rattle.machine_terms.specs.Parts.{is_part_of}
use Rattle.board_rules.specs.Ground.{Ground}
use Rattle.board_rules.specs.Running.{Element}
use Rattle.board_laws.proofs.Reaching.{by_test}
use Rattle.regent_boards.specs.RegentMachine.{as_held, regent_ground}
use Rattle.regent_boards.proofs.NeedRenaming.{moved}
use Rattle.segment_renaming.specs.Renaming.{part_to}
use Rattle.code_boards.specs.Pieces.{all_elements, elements}
use Rattle.code_boards.specs.Views.{mode_in, onto_parts, onto_pieces, part_with, parts_in, piece_with, spaces_of}
use Rattle.board_trees.specs.Names.{named}
use Rattle.journal_progress.specs.Parts.{held_for, held_in}

-- ---- tests

never : (x y z : Bool) → (x && y && z && false) ≡ false
never true true true = refl
never true true false = refl
never true false z = refl
never false y z = refl

one_point : (x y z u v : Bool) → (x && y && z && (u || false)) ≡ false → (x && y && z && v) ≡ false → (x && y && z && (u || v)) ≡ false
one_point true true true true v e f = e
one_point true true true false v e f = f
one_point true true false u v e f = refl
one_point true false z u v e f = refl
one_point false y z u v e f = refl

all_both : {X : Type 0} (P : X → Type 0) (xs ys : List X) → All P (xs ++ ys) → All P xs × All P ys
all_both P [] ys h = (All-nil P, h)
all_both P (x ∷ xs) ys h = let rest = all_both P xs ys (All-tail P x (xs ++ ys) h) in (All-cons P x xs (All-head P x (xs ++ ys) h) rest.0, rest.1)

-- ---- points

-- needed at one point
abbrev pub at_point : ℕ → ℕ → FieldMode → ℕ → Requirement
at_point root field m p = record { root = root; points = p ∷ []; field = field; mode = m }

abbrev at_points : ℕ → ℕ → FieldMode → List ℕ → Requirement
at_points root field m ps = record { root = root; points = ps; field = field; mode = m }

-- it conflicts with none of these
abbrev pub Clear : List Requirement → Requirement → Type 0
Clear zs a = list_any (conflict a) zs ≡ false

clear_none : (zs : List Requirement) (root field : ℕ) (m : FieldMode) → Clear zs (at_points root field m [])
clear_none [] root field m = refl
clear_none (z ∷ zs) root field m = λ i. never (root == z.root) (field == z.field) (in_conflict m z.mode) i || clear_none zs root field m i

clear_more : (zs : List Requirement) (root field : ℕ) (m : FieldMode) (p : ℕ) (ps : List ℕ) → Clear zs (at_point root field m p) → Clear zs (at_points root field m ps) → Clear zs (at_points root field m (p ∷ ps))
clear_more [] root field m p ps e f = refl
clear_more (z ∷ zs) root field m p ps e f =
    let one = or_parts (conflict (at_point root field m p) z) (list_any (conflict (at_point root field m p)) zs) e in
    let others = or_parts (conflict (at_points root field m ps) z) (list_any (conflict (at_points root field m ps)) zs) f in
    λ i. one_point (root == z.root) (field == z.field) (in_conflict m z.mode) (has z.points p) (meets ps z.points) one.0 others.0 i
    || clear_more zs root field m p ps one.1 others.1 i

clear_points : (zs : List Requirement) (root field : ℕ) (m : FieldMode) (ps : List ℕ) → All (λ p. Clear zs (at_point root field m p)) ps → Clear zs (at_points root field m ps)
clear_points zs root field m [] h = clear_none zs root field m
clear_points zs root field m (p ∷ ps) h = clear_more zs root field m p ps (All-head (λ p. Clear zs (at_point root field m p)) p ps h)
    (clear_points zs root field m ps (All-tail (λ p. Clear zs (at_point root field m p)) p ps h))

module _ (code : Code) (zs : List Requirement) where
  abbrev G : Ground
  G = regent_ground (spaces_of code)

  abbrev PieceClear : ℕ → ℕ → Held → Type 0
  PieceClear root field h = Clear zs (held_for root field h)

  abbrev pub PartClear : Part → Type 0
  PartClear q = All (PieceClear q.root.0 q.field) q.pieces

  abbrev pub ElementClear : Element G → Type 0
  ElementClear x = Clear zs (at_point x.location.root x.location.field (mode_in code x.mode) x.location.point)

  -- ---- elements that are grouped

  onto_clear : (root field : ℕ) (m : FieldMode) (p : ℕ) (z : ℤ) (hs : List Held) → Clear zs (at_point root field m p) → All (PieceClear root field) hs → All (PieceClear root field) (onto_pieces code m p z hs)
  onto_clear root field m p z [] c g = All-cons (PieceClear root field) (piece_with code m p z) [] c g
  onto_clear root field m p z (h ∷ hs) c g = by_test (same_mode m h.mode)
      (λ t. same_mode m h.mode ≡ t → All (PieceClear root field) (cond t (record { points = p ∷ h.points; mode = h.mode; values = z ∷ h.values } ∷ hs) (piece_with code m p z ∷ h ∷ hs)))
      (λ t e. All-cons (PieceClear root field) (record { points = p ∷ h.points; mode = h.mode; values = z ∷ h.values }) hs
      (clear_more zs root field h.mode p h.points (subst (λ n. Clear zs (at_point root field n p)) (same_mode-tells m h.mode e) c) (All-head (PieceClear root field) h hs g))
      (All-tail (PieceClear root field) h hs g))
      (λ t e. All-cons (PieceClear root field) (piece_with code m p z) (h ∷ hs) c g) refl

  onto_parts_clear : (root field : ℕ) (m : FieldMode) (p : ℕ) (z : ℤ) (qs : List Part) → Clear zs (at_point root field m p) → All PartClear qs → All PartClear (onto_parts code root field m p z qs)
  onto_parts_clear root field m p z [] c g = All-cons PartClear (part_with code root field (piece_with code m p z ∷ [])) [] (onto_clear root field m p z [] c (All-nil (PieceClear root field))) g
  onto_parts_clear root field m p z (q ∷ qs) c g = by_test (is_part_of root field q)
      (λ t. is_part_of root field q ≡ t → All PartClear (cond t (record { root = q.root; field = q.field; kind = q.kind; pieces = onto_pieces code m p z q.pieces } ∷ qs)
      (part_with code root field (piece_with code m p z ∷ []) ∷ q ∷ qs)))
      (λ t e. let same = and_parts (q.root.0 == root) (q.field == field) e in
      let here : Clear zs (at_point q.root.0 q.field m p) = (λ i. list_any (conflict (at_point (eqb-true q.root.0 root same.0 i) (eqb-true q.field field same.1 i) m p)) zs) ∙ c in
      All-cons PartClear (record { root = q.root; field = q.field; kind = q.kind; pieces = onto_pieces code m p z q.pieces }) qs
      (onto_clear q.root.0 q.field m p z q.pieces here (All-head PartClear q qs g)) (All-tail PartClear q qs g))
      (λ t e. All-cons PartClear (part_with code root field (piece_with code m p z ∷ [])) (q ∷ qs) (onto_clear root field m p z [] c (All-nil (PieceClear root field))) g) refl

  pub grouped_clear : (xs : List (Element G)) → All ElementClear xs → All PartClear (parts_in code xs)
  grouped_clear [] h = All-nil PartClear
  grouped_clear (x ∷ xs) h = onto_parts_clear x.location.root x.location.field (mode_in code x.mode) x.location.point x.number (parts_in code xs)
      (All-head ElementClear x xs h) (grouped_clear xs (All-tail ElementClear x xs h))

  -- ---- pieces whose elements are these

  pub held_mode : (root field : ℕ) (m : FieldMode) → mode_in code (as_held (spaces_of code) root field m) ≡ m
  held_mode root field Read = refl
  held_mode root field Write = refl
  held_mode root field (Reduce o) = refl

  elements_clear : (root field : ℕ) (m : FieldMode) (ps : List ℕ) (vs : List ℤ) → length vs ≡ length ps → All ElementClear (elements code root field m ps vs) → All (λ p. Clear zs (at_point root field m p)) ps
  elements_clear root field m [] vs e h = All-nil (λ p. Clear zs (at_point root field m p))
  elements_clear root field m (p ∷ ps) [] e h = absurd (omega (arith, e))
  elements_clear root field m (p ∷ ps) (v ∷ vs) e h =
      let x : Element G = record { location = record { root = root; field = field; point = p }; mode = as_held (spaces_of code) root field m; number = v } in
      All-cons (λ p. Clear zs (at_point root field m p)) p ps
      (subst (λ n. Clear zs (at_point root field n p)) (held_mode root field m) (All-head ElementClear x (elements code root field m ps vs) h))
      (elements_clear root field m ps vs (omega (arith, e)) (All-tail ElementClear x (elements code root field m ps vs) h))

  abbrev Sized : Held → Type 0
  Sized h = length h.values ≡ length h.points

  pub pieces_clear : (root field : ℕ) (hs : List Held) → All Sized hs → All ElementClear (all_elements code root field hs) → All (PieceClear root field) hs
  pieces_clear root field [] g h = All-nil (PieceClear root field)
  pieces_clear root field (x ∷ hs) g h =
      let parts = all_both ElementClear (elements code root field x.mode x.points x.values) (all_elements code root field hs) h in
      All-cons (PieceClear root field) x hs
      (clear_points zs root field x.mode x.points (elements_clear root field x.mode x.points x.values (All-head Sized x hs g) parts.0))
      (pieces_clear root field hs (All-tail Sized x hs g) parts.1)

  -- ---- parts, with roots by their names

  module _ (name : ℕ → ℕ) where
    named_clear : (qs : List Part) → All PartClear (map (part_to (named name)) qs) → All (Clear zs) (map (moved name) (flat_map held_in qs))
    named_clear [] h = All-nil (Clear zs)
    named_clear (q ∷ qs) h = subst (All (Clear zs)) (sym (map-append (moved name) (held_in q) (flat_map held_in qs)))
        (All-append (Clear zs) (map (moved name) (held_in q)) (map (moved name) (flat_map held_in qs))
        (All-map (Clear zs) (moved name) (held_in q) (All-map (λ r. Clear zs (moved name r)) (held_for q.root.0 q.field) q.pieces
        (All-head PartClear (part_to (named name) q) (map (part_to (named name)) qs) h)))
        (named_clear qs (All-tail PartClear (part_to (named name) q) (map (part_to (named name)) qs) h)))

    -- so what is held for parts that are clear doesn't interfere
    pub clear_apart : (qs : List Part) → All PartClear (map (part_to (named name)) qs) → interfere (map (moved name) (flat_map held_in qs)) zs ≡ false
    clear_apart qs h = list_any_none (λ a. list_any (conflict a) zs) (map (moved name) (flat_map held_in qs)) (named_clear qs h)
