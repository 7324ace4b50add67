-- The map behind parts that went back: what it is made of stays, and its numbers are what the parts make of them.
use Rattle.std.proofs.Common.{◌≡◌, ◌≢◌, ◌<◌, ◌≤◌, ◌==◌, ◌&&◌, ◌||◌, ◌∷◌, ◌∙◌, ◌⊎◌, ⊎_elim, inl, inr, ℕ, zero, suc, ℤ, Bool, List, [], ap, cond, eq-eqb, eqb-true, false, filter, length, map, refl, subst, sym, true}
use Rattle.std.specs.Prelude.{All, get_or}
use Rattle.std.proofs.lemmas.Bool.{and_from, and_parts, cases_eq, false≢true}
use Rattle.std.proofs.lemmas.List.{get_or_past, length-map}
use Rattle.std.proofs.lemmas.List.Elements.{All-cons, All-get_or, All-head, All-map, All-nil, All-tail}
use Rattle.plain_values.specs.Points.{has}
use Rattle.lane_kernels.specs.Numbers.{width_of}
use Rattle.lane_kernels.specs.declared.numbers.FieldKind.{FieldKind}
use Rattle.region_tree.specs.Pieces.{Held}
use Rattle.region_tree.specs.declared.piece.Part.{Part}
use Rattle.logical_map.specs.Gives.{add_reduction, all_given_at, give_pieces, is_reduction, is_write, with_pieces}
use Rattle.logical_map.specs.Laws.{IsWhole}
use Rattle.logical_map.specs.Maps.{Column, LogicalMap, column_of, columns_of, is_live, is_root, no_column, number_at, number_in_column, number_or_zero, on_column, on_field}
use Rattle.logical_map.proofs.Giving.{length_given}
use Rattle.logical_map.proofs.Reading.{given_is_read, lacked, others_stay, root_found, root_other}
use Rattle.machine_terms.specs.Parts.{is_part_of}
use Rattle.segment_renaming.specs.Renaming.{part_to}
use Rattle.segment_renaming.proofs.Alike.{same_root}
use Rattle.board_terms.specs.Gives.{with_part, with_parts}
use Rattle.board_trees.specs.Frames.{HasEachOnce}
use Rattle.board_trees.specs.Names.{named}
use Rattle.given_trees.proofs.Values.{parts_given, pieces_given, pieces_in_table}

-- ---- what a column keeps

pub record Shape : Type 0 where
  pub points : List ℕ
  pub kind : FieldKind
  pub count : ℕ

abbrev pub shape_of : Column → Shape
shape_of c = record { points = c.points; kind = c.kind; count = length c.numbers }

abbrev pub shapes : LogicalMap → ℕ → List Shape
shapes roots root = map shape_of (columns_of roots root)

pieces_shape : (hs : List Held) (c : Column) → shape_of (with_pieces hs c) ≡ shape_of c
pieces_shape hs c = λ i. record { points = c.points; kind = c.kind; count = length_given (width_of c.kind) hs c.points c.numbers i }

field_shapes : (f : Column → Column) → ((c : Column) → shape_of (f c) ≡ shape_of c) → (k : ℕ) (cs : List Column) → map shape_of (on_field k f cs) ≡ map shape_of cs
field_shapes f h k [] = refl
field_shapes f h zero (c ∷ cs) = ap (λ s. s ∷ map shape_of cs) (h c)
field_shapes f h (suc k) (c ∷ cs) = ap (λ ss. shape_of c ∷ ss) (field_shapes f h k cs)

-- pieces that are given leave it
given_shapes : (root field : ℕ) (hs : List Held) (roots : LogicalMap) (r : ℕ) → shapes (give_pieces root field hs roots) r ≡ shapes roots r
given_shapes root field hs roots r = ⊎_elim same other (cases_eq r root)
  where
    at_root : map shape_of (columns_of (give_pieces root field hs roots) root) ≡ map shape_of (columns_of roots root)
    at_root = ap (map shape_of) (root_found roots root (on_field field (with_pieces hs)) refl)
        ∙ field_shapes (with_pieces hs) (pieces_shape hs) field (columns_of roots root)

    same : r ≡ root → shapes (give_pieces root field hs roots) r ≡ shapes roots r
    same e = subst (λ k. shapes (give_pieces root field hs roots) k ≡ shapes roots k) (sym e) at_root

    other : r ≢ root → shapes (give_pieces root field hs roots) r ≡ shapes roots r
    other n = ap (map shape_of) (root_other roots root r (on_field field (with_pieces hs)) n)

given_live : (root field : ℕ) (hs : List Held) (roots : LogicalMap) (r : ℕ) → is_live (give_pieces root field hs roots) r ≡ is_live roots r
given_live root field hs [] r = refl
given_live root field hs (x ∷ xs) r = chosen (is_root root x) (given_live root field hs xs r)
  where
    chosen : (b : Bool) → is_live (on_column root field (with_pieces hs) xs) r ≡ is_live xs r →
        is_live (cond b (record x { columns = on_field field (with_pieces hs) x.columns } ∷ xs) (x ∷ on_column root field (with_pieces hs) xs)) r ≡ is_live (x ∷ xs) r
    chosen true e = refl
    chosen false e = ap (λ b. is_root r x || b) e

part_shapes : (q : Part) (roots : LogicalMap) (r : ℕ) → shapes (with_part q roots) r ≡ shapes roots r
part_shapes q roots r = given_shapes q.root.0 q.field (filter is_write q.pieces) (add_reduction q roots) r
    ∙ given_shapes q.root.0 q.field (filter is_reduction q.pieces) roots r

part_live : (q : Part) (roots : LogicalMap) (r : ℕ) → is_live (with_part q roots) r ≡ is_live roots r
part_live q roots r = given_live q.root.0 q.field (filter is_write q.pieces) (add_reduction q roots) r
    ∙ given_live q.root.0 q.field (filter is_reduction q.pieces) roots r

pub parts_shapes : (qs : List Part) (roots : LogicalMap) (r : ℕ) → shapes (with_parts qs roots) r ≡ shapes roots r
parts_shapes [] roots r = refl
parts_shapes (q ∷ qs) roots r = parts_shapes qs (with_part q roots) r ∙ part_shapes q roots r

pub parts_live : (qs : List Part) (roots : LogicalMap) (r : ℕ) → is_live (with_parts qs roots) r ≡ is_live roots r
parts_live [] roots r = refl
parts_live (q ∷ qs) roots r = parts_live qs (with_part q roots) r ∙ part_live q roots r

-- ---- what is known of a column by its shape

pub fields_same : (a b : LogicalMap) (r : ℕ) → shapes a r ≡ shapes b r → length (columns_of a r) ≡ length (columns_of b r)
fields_same a b r e = sym (length-map (columns_of a r) shape_of) ∙ ap length e ∙ length-map (columns_of b r) shape_of

pub kinds_same : (a b : LogicalMap) (r : ℕ) → shapes a r ≡ shapes b r → map (λ (c : Column). c.kind) (columns_of a r) ≡ map (λ (c : Column). c.kind) (columns_of b r)
kinds_same a b r e = sym (kinds_by (columns_of a r)) ∙ ap (map (λ (s : Shape). s.kind)) e ∙ kinds_by (columns_of b r)
  where
    kinds_by : (cs : List Column) → map (λ (s : Shape). s.kind) (map shape_of cs) ≡ map (λ (c : Column). c.kind) cs
    kinds_by [] = refl
    kinds_by (c ∷ cs) = ap (λ ks. c.kind ∷ ks) (kinds_by cs)

by_shapes : (P : Shape → Type 0) (cs : List Column) → All P (map shape_of cs) → All (λ c. P (shape_of c)) cs
by_shapes P [] a = All-nil (λ c. P (shape_of c))
by_shapes P (c ∷ cs) a = All-cons (λ c. P (shape_of c)) c cs (All-head P (shape_of c) (map shape_of cs) a) (by_shapes P cs (All-tail P (shape_of c) (map shape_of cs) a))

pub all_same : (P : Shape → Type 0) (a b : LogicalMap) (r : ℕ) → shapes a r ≡ shapes b r → All (λ c. P (shape_of c)) (columns_of b r) → All (λ c. P (shape_of c)) (columns_of a r)
all_same P a b r e h = by_shapes P (columns_of a r) (subst (All P) (sym e) (All-map P shape_of (columns_of b r) h))

pub kind_same : (a b : LogicalMap) (r f : ℕ) → shapes a r ≡ shapes b r → (column_of a r f).kind ≡ (column_of b r f).kind
kind_same a b r f e = sym (shaped a) ∙ ap (λ ss. (get_or ss f (shape_of no_column)).kind) e ∙ shaped b
  where
    found : (cs : List Column) (f : ℕ) → (get_or (map shape_of cs) f (shape_of no_column)).kind ≡ (get_or cs f no_column).kind
    found [] f = refl
    found (c ∷ cs) zero = refl
    found (c ∷ cs) (suc f) = found cs f

    shaped : (m : LogicalMap) → (get_or (shapes m r) f (shape_of no_column)).kind ≡ (column_of m r f).kind
    shaped m = found (columns_of m r) f

-- ---- numbers

-- a point of a field that is there, whose columns are whole
pub record IsPlace (roots : LogicalMap) (r f p : ℕ) : Type 0 where
  pub field : f < length (columns_of roots r)
  pub whole : All IsWhole (columns_of roots r)
  pub point : has (column_of roots r f).points p ≡ true

points_same : (a b : LogicalMap) (r f : ℕ) → shapes a r ≡ shapes b r → (column_of a r f).points ≡ (column_of b r f).points
points_same a b r f e = sym (shaped a) ∙ ap (λ ss. (get_or ss f (shape_of no_column)).points) e ∙ shaped b
  where
    found : (cs : List Column) (f : ℕ) → (get_or (map shape_of cs) f (shape_of no_column)).points ≡ (get_or cs f no_column).points
    found [] f = refl
    found (c ∷ cs) zero = refl
    found (c ∷ cs) (suc f) = found cs f

    shaped : (m : LogicalMap) → (get_or (shapes m r) f (shape_of no_column)).points ≡ (column_of m r f).points
    shaped m = found (columns_of m r) f

place_same : (a b : LogicalMap) (r f p : ℕ) → shapes a r ≡ shapes b r → IsPlace b r f p → IsPlace a r f p
place_same a b r f p e h = record {
  field = subst (λ k. f < k) (sym (fields_same a b r e)) h.field;
  whole = all_same (λ s. s.count ≡ length s.points) a b r e h.whole;
  point = ap (λ ps. has ps p) (points_same a b r f e) ∙ h.point;
}

module _ (roots : LogicalMap) (r f p : ℕ) (h : IsPlace roots r f p) where
  pieces_read : (root field : ℕ) (hs : List Held) → number_at (give_pieces root field hs roots) r f p
      ≡ cond ((root == r) && (field == f)) (all_given_at (width_of (column_of roots r f).kind) hs p (number_at roots r f p)) (number_at roots r f p)
  pieces_read root field hs = chosen ((root == r) && (field == f)) refl
    where
      chosen : (b : Bool) → ((root == r) && (field == f)) ≡ b → number_at (give_pieces root field hs roots) r f p
          ≡ cond b (all_given_at (width_of (column_of roots r f).kind) hs p (number_at roots r f p)) (number_at roots r f p)
      chosen true e =
          let same = and_parts (root == r) (field == f) e in
          (λ i. number_at (give_pieces (eqb-true root r same.0 i) (eqb-true field f same.1 i) hs roots) r f p)
          ∙ given_is_read r f hs roots p h.field (All-get_or IsWhole (columns_of roots r) f no_column h.field h.whole) h.point
      chosen false e = ap (λ (c : Column). number_in_column c p) (others_stay root field (with_pieces hs) roots r f (different (cases_eq r root) (cases_eq f field)))
        where
          different : (r ≡ root) ⊎ (r ≢ root) → (f ≡ field) ⊎ (f ≢ field) → (r ≢ root) ⊎ (f ≢ field)
          different (inr n) y = inl n
          different (inl x) (inr n) = inr n
          different (inl x) (inl y) = absurd (false≢true (sym e ∙ and_from (root == r) (field == f) (eq-eqb root r (sym x)) (eq-eqb field f (sym y))))

part_read : (q : Part) (roots : LogicalMap) (r f p : ℕ) → IsPlace roots r f p → HasEachOnce q → (is_part_of r f q ≡ true → q.kind ≡ (column_of roots r f).kind) →
    number_at (with_part q roots) r f p ≡ parts_given (q ∷ []) r f p (number_at roots r f p)
part_read q roots r f p h once kinds =
    let reductions = filter is_reduction q.pieces in
    let written = filter is_write q.pieces in
    let between = give_pieces q.root.0 q.field reductions roots in
    let e = given_shapes q.root.0 q.field reductions roots r in
    pieces_read between r f p (place_same between roots r f p e h) q.root.0 q.field written
    ∙ (λ i. cond (is_part_of r f q) (all_given_at (width_of (kind_same between roots r f e i)) written p (pieces_read roots r f p h q.root.0 q.field reductions i))
    (pieces_read roots r f p h q.root.0 q.field reductions i))
    ∙ chosen (is_part_of r f q) refl
  where
    chosen : (b : Bool) → is_part_of r f q ≡ b →
        cond b (all_given_at (width_of (column_of roots r f).kind) (filter is_write q.pieces) p
        (cond b (all_given_at (width_of (column_of roots r f).kind) (filter is_reduction q.pieces) p (number_at roots r f p)) (number_at roots r f p)))
        (cond b (all_given_at (width_of (column_of roots r f).kind) (filter is_reduction q.pieces) p (number_at roots r f p)) (number_at roots r f p))
        ≡ cond b (pieces_given (width_of q.kind) q.pieces p (number_at roots r f p)) (number_at roots r f p)
    chosen true e = (λ i. all_given_at (width_of (sym (kinds e) i)) (filter is_write q.pieces) p
        (all_given_at (width_of (sym (kinds e) i)) (filter is_reduction q.pieces) p (number_at roots r f p)))
        ∙ sym (pieces_in_table (width_of q.kind) q.pieces once.apart once.rising p (number_at roots r f p))
    chosen false e = refl

-- each part of the field has the field's kind
abbrev pub HasKind : LogicalMap → ℕ → ℕ → Part → Type 0
HasKind roots r f q = is_part_of r f q ≡ true → q.kind ≡ (column_of roots r f).kind

pub parts_read : (qs : List Part) (roots : LogicalMap) (r f p : ℕ) → IsPlace roots r f p → All HasEachOnce qs → All (HasKind roots r f) qs →
    number_at (with_parts qs roots) r f p ≡ parts_given qs r f p (number_at roots r f p)
parts_read [] roots r f p h once kinds = refl
parts_read (q ∷ qs) roots r f p h once kinds =
    let e = part_shapes q roots r in
    parts_read qs (with_part q roots) r f p (place_same (with_part q roots) roots r f p e h) (All-tail HasEachOnce q qs once)
    (kinds_on qs (All-tail (HasKind roots r f) q qs kinds))
    ∙ ap (parts_given qs r f p) (part_read q roots r f p h (All-head HasEachOnce q qs once) (All-head (HasKind roots r f) q qs kinds))
  where
    kinds_on : (qs : List Part) → All (HasKind roots r f) qs → All (HasKind (with_part q roots) r f) qs
    kinds_on [] a = All-nil (HasKind (with_part q roots) r f)
    kinds_on (x ∷ xs) a = All-cons (HasKind (with_part q roots) r f) x xs
        (λ b. All-head (HasKind roots r f) x xs a b ∙ sym (kind_same (with_part q roots) roots r f (part_shapes q roots r)))
        (kinds_on xs (All-tail (HasKind roots r f) x xs a))

-- a point that isn't there has the number that it had
pub parts_beside : (qs : List Part) (roots : LogicalMap) (r f p : ℕ) → has (column_of roots r f).points p ≡ false → number_at (with_parts qs roots) r f p ≡ number_at roots r f p
parts_beside qs roots r f p e =
    ap number_or_zero (lacked (column_of (with_parts qs roots) r f).points (column_of (with_parts qs roots) r f).numbers p
    (ap (λ ps. has ps p) (points_same (with_parts qs roots) roots r f (parts_shapes qs roots r)) ∙ e))
    ∙ ap number_or_zero (sym (lacked (column_of roots r f).points (column_of roots r f).numbers p e))

-- and so has a field that isn't there
pub parts_past : (qs : List Part) (roots : LogicalMap) (r f p : ℕ) → length (columns_of roots r) ≤ f → number_at (with_parts qs roots) r f p ≡ number_at roots r f p
parts_past qs roots r f p l =
    ap (λ (c : Column). number_in_column c p) (get_or_past (columns_of (with_parts qs roots) r) f no_column (subst (λ k. k ≤ f) (sym (fields_same (with_parts qs roots) roots r (parts_shapes qs roots r))) l))
    ∙ ap (λ (c : Column). number_in_column c p) (sym (get_or_past (columns_of roots r) f no_column l))

-- ---- with other numbers of roots

pub given_renamed : (name : ℕ → ℕ) → ((a b : ℕ) → name a ≡ name b → a ≡ b) → (qs : List Part) (r f p : ℕ) (z : ℤ) →
    parts_given (map (part_to (named name)) qs) (name r) f p z ≡ parts_given qs r f p z
given_renamed name one [] r f p z = refl
given_renamed name one (q ∷ qs) r f p z =
    given_renamed name one qs r f p _
    ∙ ap (λ b. parts_given qs r f p (cond (b && (q.field == f)) (pieces_given (width_of q.kind) q.pieces p z) z)) (same_root (named name) one q.root.0 r)
