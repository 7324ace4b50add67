-- How many numbers roots hold behind what is done to the map.
use Rattle.std.proofs.Common.{◌≡◌, ◌≢◌, ◌∙◌, ◌++◌, ◌==◌, ◌⊎◌, ◌||◌, ℕ, zero, suc, Bool, true, false, List, [], ◌∷◌, ap, cond, filter, inl, inr, length, map, refl, sym, ⊎_elim}
use Rattle.std.proofs.lemmas.Bool.{false≢true}
use Rattle.std.proofs.lemmas.Bool.Decides.{eqb_tells}
use Rattle.lane_kernels.specs.declared.numbers.FieldKind.{FieldKind}
use Rattle.region_tree.specs.Pieces.{Held}
use Rattle.region_tree.specs.declared.piece.Part.{Part}
use Rattle.logical_map.specs.Gives.{give_pieces, is_reduction, is_write, with_pieces}
use Rattle.logical_map.specs.Maps.{Column, LiveRoot, LogicalMap, closed, columns_of, is_live, is_root, new_column, on_field, opened}
use Rattle.logical_map.proofs.Deciding.{closed_is_gone, closed_keeps_others, opened_keeps_others}
use Rattle.logical_map.proofs.Reading.{root_found, root_other}
use Rattle.plain_values.specs.Points.{points}
use Rattle.point_sets.proofs.Rising.{length-counted_from}
use Rattle.task_code.specs.declared.code.Code.{Code}
use Rattle.machine_terms.specs.Contents.{kinds_of}
use Rattle.region_tree.specs.declared.tree.RootId.{RootId}
use Rattle.board_terms.specs.Closings.{closed_all}
use Rattle.board_terms.specs.Gives.{with_part, with_parts}
use Rattle.board_facts.proofs.Lists.{nil_mapped}
use Rattle.board_facts.specs.Given.{IsHeldBehind}
use Rattle.board_facts.specs.Rooms.{IsShaped, shape_made, shape_of}

abbrev pub count_of : Column → ℕ
count_of c = length c.points

-- ---- parts that go back

field_shape : (field : ℕ) (hs : List Held) (cs : List Column) → map count_of (on_field field (with_pieces hs) cs) ≡ map count_of cs
field_shape field hs [] = refl
field_shape zero hs (c ∷ cs) = refl
field_shape (suc field) hs (c ∷ cs) = ap (λ ns. count_of c ∷ ns) (field_shape field hs cs)

give_shape : (root field : ℕ) (hs : List Held) (roots : LogicalMap) (other : ℕ) →
    shape_of (give_pieces root field hs roots) other ≡ shape_of roots other
give_shape root field hs roots other = elim (eqb_tells other root) [
  | inl h ↦ ap (λ (n : ℕ). shape_of (give_pieces root field hs roots) n) h.1
      ∙ ap (map count_of) (root_found roots root (on_field field (with_pieces hs)) refl)
      ∙ field_shape field hs (columns_of roots root) ∙ ap (λ (n : ℕ). shape_of roots n) (sym h.1)
  | inr h ↦ ap (map count_of) (root_other roots root other (on_field field (with_pieces hs)) h.1)
]

part_shape : (q : Part) (roots : LogicalMap) (root : ℕ) → shape_of (with_part q roots) root ≡ shape_of roots root
part_shape q roots root =
    give_shape q.root.0 q.field (filter is_write q.pieces) (give_pieces q.root.0 q.field (filter is_reduction q.pieces) roots) root
    ∙ give_shape q.root.0 q.field (filter is_reduction q.pieces) roots root

pub parts_shape : (qs : List Part) (roots : LogicalMap) (root : ℕ) → shape_of (with_parts qs roots) root ≡ shape_of roots root
parts_shape [] roots root = refl
parts_shape (q ∷ qs) roots root = parts_shape qs (with_part q roots) root ∙ part_shape q roots root

-- ---- shapes behind shapes

pub nothing_held : (before after : LogicalMap) (root : ℕ) → IsHeldBehind before after root → columns_of before root ≡ [] →
    columns_of after root ≡ []
nothing_held before after root (inl h) e = nil_mapped count_of (columns_of after root) (h ∙ ap (map count_of) e)
nothing_held before after root (inr h) e = h

pub shaped_behind : (shape : List ℕ) (between after : LogicalMap) (root : ℕ) → IsShaped shape between root → IsHeldBehind between after root →
    IsShaped shape after root
shaped_behind shape between after root a (inr h) = inr h
shaped_behind shape between after root (inl g) (inl h) = inl (h ∙ g)
shaped_behind shape between after root (inr g) (inl h) = inr (nothing_held between after root (inl h) g)

-- ---- roots that are closed

no_columns : (roots : LogicalMap) (root : ℕ) → is_live roots root ≡ false → columns_of roots root ≡ []
no_columns [] root e = refl
no_columns (r ∷ rs) root e = by_case (is_root root r) e (no_columns rs root)
  where
    by_case : (b : Bool) → (b || is_live rs root) ≡ false → (is_live rs root ≡ false → columns_of rs root ≡ []) →
        cond b r.columns (columns_of rs root) ≡ []
    by_case true h rest = absurd (false≢true (sym h))
    by_case false h rest = rest h

closed_shape : (root : ℕ) (roots : LogicalMap) (other : ℕ) → IsHeldBehind roots (closed root roots) other
closed_shape root roots other = elim (eqb_tells other root) [
  | inl h ↦ inr (no_columns (closed root roots) other (ap (is_live (closed root roots)) h.1 ∙ closed_is_gone root roots))
  | inr h ↦ inl (ap (map count_of) (closed_keeps_others root roots other h.1))
]

pub all_closed_shape : (rs : List RootId) (roots : LogicalMap) (root : ℕ) → IsHeldBehind roots (closed_all rs roots) root
all_closed_shape [] roots root = inl refl
all_closed_shape (r ∷ rs) roots root =
    shaped_behind (shape_of roots root) (closed r.0 roots) (closed_all rs (closed r.0 roots)) root (closed_shape r.0 roots root)
    (all_closed_shape rs (closed r.0 roots) root)

-- ---- and roots that are made

pub others_shape : (root size : ℕ) (kinds : List FieldKind) (roots : LogicalMap) (other : ℕ) → other ≢ root →
    IsHeldBehind roots (opened root (points size) kinds roots) other
others_shape root size kinds roots other n = inl (ap (map count_of) (opened_keeps_others root (points size) kinds roots other n))

kinds_shape : (size : ℕ) (kinds : List FieldKind) → map count_of (map (new_column (points size)) kinds) ≡ map (λ (k : FieldKind). size) kinds
kinds_shape size [] = refl
kinds_shape size (k ∷ ks) =
    ap (λ n. n ∷ map count_of (map (new_column (points size)) ks)) (length-counted_from 0 size)
    ∙ ap (λ ns. size ∷ ns) (kinds_shape size ks)

found_last : (roots : LogicalMap) (r : LiveRoot) (root : ℕ) → (r.root == root) ≡ true → columns_of roots root ≡ [] →
    (columns_of (roots ++ r ∷ []) root ≡ r.columns) ⊎ (columns_of (roots ++ r ∷ []) root ≡ [])
found_last [] r root e n = inl (ap (λ (b : Bool). cond b r.columns []) e)
found_last (l ∷ ls) r root e n = by_case (is_root root l) n (found_last ls r root e)
  where
    by_case : (b : Bool) → cond b l.columns (columns_of ls root) ≡ [] →
        (columns_of ls root ≡ [] → (columns_of (ls ++ r ∷ []) root ≡ r.columns) ⊎ (columns_of (ls ++ r ∷ []) root ≡ [])) →
        (cond b l.columns (columns_of (ls ++ r ∷ []) root) ≡ r.columns) ⊎ (cond b l.columns (columns_of (ls ++ r ∷ []) root) ≡ [])
    by_case true h rest = inr h
    by_case false h rest = rest h

pub made_shape : (code : Code) (root size space : ℕ) (roots : LogicalMap) → columns_of roots root ≡ [] →
    IsShaped (shape_made code size space) (opened root (points size) (kinds_of code space) roots) root
made_shape code root size space roots e =
    let made : LiveRoot = record { root = root; columns = map (new_column (points size)) (kinds_of code space) } in
    let same : (root == root) ≡ true = ⊎_elim (λ h. h.0) (λ h. absurd (h.1 refl)) (eqb_tells root root) in
    ⊎_elim (λ h. inl (ap (map count_of) h ∙ kinds_shape size (kinds_of code space))) (λ h. inr h) (found_last roots made root same e)
