-- What is seen stays the same where a part is fetched, and changes at one point where a cell is set.
use Rattle.std.proofs.Common.{◌≡◌, ◌≢◌, ◌⊎◌, inl, inr, ℕ, ℤ, pos, List, [], ◌∷◌, ◌++◌, Bool, true, false, Option, Some, None, refl, sym, ap, ◌∙◌, subst}
use Rattle.std.specs.Prelude.{cond, map, replicate, length, ◌==◌, ◌&&◌}
use Rattle.std.proofs.lemmas.Bool.{eqb-true, eqb-false, and_parts, false≢true}
use Rattle.std.proofs.lemmas.Option.{none-some, same_Some}
use Rattle.lane_kernels.specs.declared.numbers.FieldKind.{FieldKind}
use Rattle.lane_kernels.specs.declared.numbers.FieldKind.TheVariants.{Truth}
use Rattle.std.proofs.lemmas.List.{length-map}
use Rattle.lane_kernels.specs.declared.numbers.Mode.{Mode}
use Rattle.lane_kernels.specs.declared.numbers.Mode.TheVariants as mode
use Rattle.lane_kernels.specs.declared.numbers.Op.{Op}
use Rattle.lane_kernels.specs.declared.numbers.Width.{Width}
use Rattle.lane_kernels.specs.Numbers.{FitsWidth, applied, identity_of, width_of}
use Rattle.region_tree.specs.declared.piece.Part.{Part}
use Rattle.region_tree.specs.Pieces.{Held}
use Rattle.region_tree.specs.Requirements as required
use Rattle.region_tree.specs.Requirements.{Requirement}
use Rattle.task_code.specs.declared.code.Code.{Code}
use Rattle.machine_terms.specs.Parts.{Cell, value_beside, set_beside, cell_of, cell_at, set_in, set_cell, is_part_of, part_of, set_part}
use Rattle.machine_terms.specs.declared.order.Contents.{Contents}
use Rattle.machine_terms.specs.Contents.{kept_at, kind_of}
use Rattle.machine_terms.specs.Copies.{piece_of, part_from}
use Rattle.machine_terms.proofs.KeptParts.{bare_pieces, set_part_bare}
use Rattle.memory_laws.specs.Parts.{outline_of, IsHeld, AreHeld}
use Rattle.memory_laws.specs.Places.{is_same}
use Rattle.memory_laws.specs.Setting.{SetCellsShow}
use Rattle.memory_laws.specs.Seen.{seen_value, seen_cell, seen_part, seen}

-- ---- a part more

abbrev pub or_part : Option Part → Option Part → Option Part
or_part (Some q) r = Some q
or_part None r = r

or_first : (b : Bool) (q : Part) (r s : Option Part) → cond b (Some q) (or_part r s) ≡ or_part (cond b (Some q) r) s
or_first true q r s = refl
or_first false q r s = refl

pub part_more : (ps : List Part) (n : Part) (root f : ℕ) →
    part_of (ps ++ n ∷ []) root f ≡ or_part (part_of ps root f) (cond (is_part_of root f n) (Some n) None)
part_more [] n root f = refl
part_more (q ∷ ps) n root f = ap (cond (is_part_of root f q) (Some q)) (part_more ps n root f)
    ∙ or_first (is_part_of root f q) q (part_of ps root f) _

-- ---- the cells of a part that was just fetched

-- a number beside each point is found there
beside_map : (g : ℕ → ℤ) (xs : List ℕ) (p : ℕ) →
    (value_beside xs (map g xs) p ≡ Some (g p)) ⊎ (value_beside xs (map g xs) p ≡ None)
beside_map g [] p = inr refl
beside_map g (x ∷ xs) p = chosen (x == p) refl (beside_map g xs p)
  where
    chosen : (b : Bool) → (x == p) ≡ b →
        (value_beside xs (map g xs) p ≡ Some (g p)) ⊎ (value_beside xs (map g xs) p ≡ None) →
        (cond b (Some (g x)) (value_beside xs (map g xs) p) ≡ Some (g p))
        ⊎ (cond b (Some (g x)) (value_beside xs (map g xs) p) ≡ None)
    chosen true e more = inl (ap (λ y. Some (g y)) (eqb-true x p e))
    chosen false e more = more

beside_same : (z : ℤ) (xs : List ℕ) (p : ℕ) →
    (value_beside xs (replicate (length xs) z) p ≡ Some z)
    ⊎ (value_beside xs (replicate (length xs) z) p ≡ None)
beside_same z [] p = inr refl
beside_same z (x ∷ xs) p = chosen (x == p) (beside_same z xs p)
  where
    chosen : (b : Bool) →
        (value_beside xs (replicate (length xs) z) p ≡ Some z)
        ⊎ (value_beside xs (replicate (length xs) z) p ≡ None) →
        (cond b (Some z) (value_beside xs (replicate (length xs) z) p) ≡ Some z)
        ⊎ (cond b (Some z) (value_beside xs (replicate (length xs) z) p) ≡ None)
    chosen true more = inl refl
    chosen false more = more

-- the identity leaves a number as it is
abbrev pub IdentityLeaves : Type 0
IdentityLeaves = (o : Op) (w : Width) (a : ℤ) → FitsWidth w a → applied o w a (identity_of o w) ≡ a

-- a cell before others, where its number, if it is there, is seen as the old one
one_more : (kind : FieldKind) (old z : ℤ) (m : Mode) (o : Option ℤ) (rest : Option Cell) →
    (o ≡ Some z) ⊎ (o ≡ None) → seen_value kind m old z ≡ old → seen_cell kind old rest ≡ old →
    seen_cell kind old (cell_of m o rest) ≡ old
one_more kind old z m o rest (inl e) h r = ap (λ v. seen_cell kind old (cell_of m v rest)) e ∙ h
one_more kind old z m o rest (inr e) h r = ap (λ v. seen_cell kind old (cell_of m v rest)) e ∙ r

module _ (leaves : IdentityLeaves) where
  fresh_cells : (kind : FieldKind) (c : Contents) (root f p : ℕ) (qs : List (List ℕ × Mode)) →
      FitsWidth (width_of kind) (kept_at c root f p) →
      seen_cell kind (kept_at c root f p) (cell_at (map (λ q. piece_of kind c root f q.1 q.0) qs) p)
      ≡ kept_at c root f p
  fresh_cells kind c root f p [] fits = refl
  fresh_cells kind c root f p ((xs, mode.Read) ∷ qs) fits = one_more kind (kept_at c root f p) _ mode.Read _
      (cell_at (map (λ q. piece_of kind c root f q.1 q.0) qs) p) (beside_map (kept_at c root f) xs p) refl
      (fresh_cells kind c root f p qs fits)
  fresh_cells kind c root f p ((xs, mode.Write) ∷ qs) fits = one_more kind (kept_at c root f p) _ mode.Write _
      (cell_at (map (λ q. piece_of kind c root f q.1 q.0) qs) p) (beside_map (kept_at c root f) xs p) refl
      (fresh_cells kind c root f p qs fits)
  fresh_cells kind c root f p ((xs, mode.Reduce o) ∷ qs) fits = one_more kind (kept_at c root f p) _ (mode.Reduce o) _
      (cell_at (map (λ q. piece_of kind c root f q.1 q.0) qs) p) (beside_same (identity_of o (width_of kind)) xs p)
      (leaves o (width_of kind) (kept_at c root f p) fits) (fresh_cells kind c root f p qs fits)

  -- a part that is wanted changes nothing that is seen
  pub fetched_seen : (code : Code) (c : Contents) (ps : List Part) (needs : List Requirement) (root f r g p : ℕ) →
      FitsWidth (width_of (kind_of code c root f)) (kept_at c root f p) →
      seen c (ps ++ part_from code c needs root f ∷ []) r g p ≡ seen c ps r g p
  fetched_seen code c ps needs root f r g p fits =
      let n = part_from code c needs root f in
      ap (seen_part (kept_at c r g p) p) (part_more ps n r g) ∙ over (part_of ps r g)
    where
      over : (o : Option Part) → seen_part (kept_at c r g p) p
          (or_part o (cond (is_part_of r g (part_from code c needs root f)) (Some (part_from code c needs root f)) None))
          ≡ seen_part (kept_at c r g p) p o
      over (Some q) = refl
      over None = chosen (is_part_of r g (part_from code c needs root f)) refl
        where
          chosen : (b : Bool) → is_part_of r g (part_from code c needs root f) ≡ b →
              seen_part (kept_at c r g p) p (cond b (Some (part_from code c needs root f)) None) ≡ kept_at c r g p
          chosen false e = refl
          chosen true e =
              let h = and_parts (root == r) (f == g) e in
              subst (λ r. seen_part (kept_at c r g p) p (Some (part_from code c needs root f)) ≡ kept_at c r g p)
              (eqb-true root r h.0)
              (subst (λ g. seen_part (kept_at c root g p) p (Some (part_from code c needs root f)) ≡ kept_at c root g p)
              (eqb-true f g h.1)
              (fresh_cells (kind_of code c root f) c root f p (required.part_of needs root f) fits))

-- ---- a cell is set

beside_set : (xs : List ℕ) (zs : List ℤ) (n : ℕ) (y v : ℤ) → value_beside xs zs n ≡ Some v →
    value_beside xs (set_beside xs zs n y) n ≡ Some y
beside_set [] zs n y v e = absurd (none-some v e)
beside_set (x ∷ xs) [] n y v e = absurd (none-some v e)
beside_set (x ∷ xs) (z ∷ zs) n y v e = chosen (x == n) refl e (beside_set xs zs n y v)
  where
    chosen : (b : Bool) → (x == n) ≡ b → cond b (Some z) (value_beside xs zs n) ≡ Some v →
        (value_beside xs zs n ≡ Some v → value_beside xs (set_beside xs zs n y) n ≡ Some y) →
        value_beside (x ∷ xs) (cond b (y ∷ zs) (z ∷ set_beside xs zs n y)) n ≡ Some y
    chosen true q h more = ap (λ b. cond b (Some y) (value_beside xs zs n)) q
    chosen false q h more =
        ap (λ b. cond b (Some z) (value_beside xs (set_beside xs zs n y) n)) q ∙ more h

-- the cell that was there has the number now, in its mode
pub cell_set : (hs : List Held) (n : ℕ) (y : ℤ) (c : Cell) → cell_at hs n ≡ Some c →
    cell_at (set_cell hs n y) n ≡ Some (record { mode = c.mode; value = y })
cell_set [] n y c e = absurd (none-some c e)
cell_set (h ∷ hs) n y c e = over (value_beside h.points h.values n) refl e (cell_set hs n y c)
  where
    over : (o : Option ℤ) → value_beside h.points h.values n ≡ o → cell_of h.mode o (cell_at hs n) ≡ Some c →
        (cell_at hs n ≡ Some c → cell_at (set_cell hs n y) n ≡ Some (record { mode = c.mode; value = y })) →
        cell_at (set_in o h n y hs (set_cell hs n y)) n ≡ Some (record { mode = c.mode; value = y })
    over (Some v) q d more =
        ap (λ o. cell_of h.mode o (cell_at hs n)) (beside_set h.points h.values n y v q)
        ∙ ap (λ o. with_value o) d
      where
        with_value : Option Cell → Option Cell
        with_value (Some k) = Some (record { mode = k.mode; value = y })
        with_value None = None
    over None q d more = ap (λ o. cell_of h.mode o (cell_at (set_cell hs n y) n)) q ∙ more d

-- the part that was there has the cell now
pub part_set : (ps : List Part) (root f n : ℕ) (y : ℤ) (q : Part) → part_of ps root f ≡ Some q →
    part_of (set_part ps root f n y) root f ≡ Some (record q { pieces = set_cell q.pieces n y })
part_set [] root f n y q e = absurd (none-some q e)
part_set (r ∷ ps) root f n y q e = chosen (is_part_of root f r) refl e (part_set ps root f n y q)
  where
    chosen : (b : Bool) → is_part_of root f r ≡ b → cond b (Some r) (part_of ps root f) ≡ Some q →
        (part_of ps root f ≡ Some q →
        part_of (set_part ps root f n y) root f ≡ Some (record q { pieces = set_cell q.pieces n y })) →
        part_of (cond b (record r { pieces = set_cell r.pieces n y } ∷ ps) (r ∷ set_part ps root f n y)) root f
        ≡ Some (record q { pieces = set_cell q.pieces n y })
    chosen true q e more = ap (λ b. cond b (Some (record r { pieces = set_cell r.pieces n y })) (part_of ps root f)) q ∙ ap with_cell e
      where
        with_cell : Option Part → Option Part
        with_cell (Some k) = Some (record k { pieces = set_cell k.pieces n y })
        with_cell None = None
    chosen false q e more = ap (λ b. cond b (Some r) (part_of (set_part ps root f n y) root f)) q ∙ more e

-- ---- nothing else is set

beside_other : (xs : List ℕ) (zs : List ℤ) (n p : ℕ) (y : ℤ) → n ≢ p →
    value_beside xs (set_beside xs zs n y) p ≡ value_beside xs zs p
beside_other [] zs n p y ne = refl
beside_other (x ∷ xs) [] n p y ne = refl
beside_other (x ∷ xs) (z ∷ zs) n p y ne = chosen (x == n) refl (beside_other xs zs n p y ne)
  where
    differs : (b : Bool) → (x == p) ≡ b → x ≡ n →
        cond b (Some y) (value_beside xs zs p) ≡ cond b (Some z) (value_beside xs zs p)
    differs true e q = absurd (ne (sym q ∙ eqb-true x p e))
    differs false e q = refl

    chosen : (b : Bool) → (x == n) ≡ b → value_beside xs (set_beside xs zs n y) p ≡ value_beside xs zs p →
        value_beside (x ∷ xs) (cond b (y ∷ zs) (z ∷ set_beside xs zs n y)) p
        ≡ cond (x == p) (Some z) (value_beside xs zs p)
    chosen true e more = differs (x == p) refl (eqb-true x n e)
    chosen false e more = ap (cond (x == p) (Some z)) more

pub cell_other : (hs : List Held) (n p : ℕ) (y : ℤ) → n ≢ p → cell_at (set_cell hs n y) p ≡ cell_at hs p
cell_other [] n p y ne = refl
cell_other (h ∷ hs) n p y ne = over (value_beside h.points h.values n) (cell_other hs n p y ne)
  where
    over : (o : Option ℤ) → cell_at (set_cell hs n y) p ≡ cell_at hs p →
        cell_at (set_in o h n y hs (set_cell hs n y)) p ≡ cell_at (h ∷ hs) p
    over (Some v) more =
        ap (λ o. cell_of h.mode o (cell_at hs p)) (beside_other h.points h.values n p y ne)
    over None more = ap (cell_of h.mode (value_beside h.points h.values p)) more

outline_bare : (hs : List Held) → map outline_of (bare_pieces hs) ≡ map outline_of hs
outline_bare [] = refl
outline_bare (h ∷ hs) =
    ap (λ n. record { points = h.points; mode = h.mode; count = n } ∷ map outline_of (bare_pieces hs))
    (length-map h.values (λ (z : ℤ). pos 0))
    ∙ ap (λ us. outline_of h ∷ us) (outline_bare hs)

abbrev first_pieces : List Part → List Held
first_pieces [] = []
first_pieces (q ∷ qs) = q.pieces

-- points, modes and counts stay
pub outline_set : (hs : List Held) (n : ℕ) (y : ℤ) → map outline_of (set_cell hs n y) ≡ map outline_of hs
outline_set hs n y =
    let q : Part = record { root = record { 0 = 0 }; field = 0; kind = Truth; pieces = hs } in
    sym (outline_bare (set_cell hs n y))
    ∙ ap (λ qs. map outline_of (first_pieces qs)) (set_part_bare (q ∷ []) 0 0 n y) ∙ outline_bare hs

pub part_other : (ps : List Part) (root f n : ℕ) (y : ℤ) (r g : ℕ) → ((root == r) && (f == g)) ≡ false →
    part_of (set_part ps root f n y) r g ≡ part_of ps r g
part_other [] root f n y r g ne = refl
part_other (q ∷ ps) root f n y r g ne = chosen (is_part_of root f q) refl (part_other ps root f n y r g ne)
  where
    differs : (b : Bool) → is_part_of r g q ≡ b → is_part_of root f q ≡ true →
        cond b (Some (record q { pieces = set_cell q.pieces n y })) (part_of ps r g)
        ≡ cond b (Some q) (part_of ps r g)
    differs false e d = refl
    differs true e d =
        let a = and_parts (q.root.0 == root) (q.field == f) d in
        let b = and_parts (q.root.0 == r) (q.field == g) e in
        absurd (false≢true (sym ne
        ∙ ap (λ k. (k == r) && (f == g)) (sym (eqb-true q.root.0 root a.0))
        ∙ ap (λ k. (q.root.0 == r) && (k == g)) (sym (eqb-true q.field f a.1)) ∙ e))

    chosen : (b : Bool) → is_part_of root f q ≡ b →
        part_of (set_part ps root f n y) r g ≡ part_of ps r g →
        part_of (cond b (record q { pieces = set_cell q.pieces n y } ∷ ps) (q ∷ set_part ps root f n y)) r g
        ≡ part_of (q ∷ ps) r g
    chosen true e more = differs (is_part_of r g q) refl e
    chosen false e more = ap (cond (is_part_of r g q) (Some q)) more

-- what is seen there is by the new number, and elsewhere it is as it was
pub seen_set : (c : Contents) (ps : List Part) (root f n : ℕ) (y : ℤ) (q : Part) (k : Cell) (r g p : ℕ) →
    part_of ps root f ≡ Some q → cell_at q.pieces n ≡ Some k →
    seen c (set_part ps root f n y) r g p
    ≡ cond (is_same root f n r g p) (seen_value q.kind k.mode (kept_at c root f n) y) (seen c ps r g p)
seen_set c ps root f n y q k r g p e d = chosen (root == r) (f == g) refl refl
  where
    at_point : (b : Bool) → (n == p) ≡ b →
        seen_cell q.kind (kept_at c root f p) (cell_at (set_cell q.pieces n y) p)
        ≡ cond b (seen_value q.kind k.mode (kept_at c root f n) y)
        (seen_cell q.kind (kept_at c root f p) (cell_at q.pieces p))
    at_point true b = subst (λ u. seen_cell q.kind (kept_at c root f u) (cell_at (set_cell q.pieces n y) u)
        ≡ seen_value q.kind k.mode (kept_at c root f n) y) (eqb-true n p b)
        (ap (seen_cell q.kind (kept_at c root f n)) (cell_set q.pieces n y k d))
    at_point false b =
        ap (seen_cell q.kind (kept_at c root f p)) (cell_other q.pieces n p y (eqb-false n p b))

    here : seen c (set_part ps root f n y) root f p
        ≡ cond (n == p) (seen_value q.kind k.mode (kept_at c root f n) y) (seen c ps root f p)
    here = ap (seen_part (kept_at c root f p) p) (part_set ps root f n y q e)
        ∙ at_point (n == p) refl
        ∙ ap (λ o. cond (n == p) (seen_value q.kind k.mode (kept_at c root f n) y)
        (seen_part (kept_at c root f p) p o)) (sym e)

    chosen : (a b : Bool) → (root == r) ≡ a → (f == g) ≡ b →
        seen c (set_part ps root f n y) r g p
        ≡ cond (a && b && (n == p)) (seen_value q.kind k.mode (kept_at c root f n) y) (seen c ps r g p)
    chosen true true a b = subst (λ r. seen c (set_part ps root f n y) r g p
        ≡ cond (n == p) (seen_value q.kind k.mode (kept_at c root f n) y) (seen c ps r g p))
        (eqb-true root r a)
        (subst (λ g. seen c (set_part ps root f n y) root g p
        ≡ cond (n == p) (seen_value q.kind k.mode (kept_at c root f n) y) (seen c ps root g p))
        (eqb-true f g b) here)
    chosen true false a b = ap (seen_part (kept_at c r g p) p)
        (part_other ps root f n y r g (ap (λ d. d && (f == g)) a ∙ b))
    chosen false b a _ = ap (seen_part (kept_at c r g p) p)
        (part_other ps root f n y r g (ap (λ d. d && (f == g)) a))

pub set_cells_show : SetCellsShow
set_cells_show c ps q k root f n y e d r g p = seen_set c ps root f n y q k r g p e d

-- ---- the parts stay those of the needs

pub none_set : (ps : List Part) (root f n : ℕ) (y : ℤ) (r g : ℕ) → part_of ps r g ≡ None →
    part_of (set_part ps root f n y) r g ≡ None
none_set [] root f n y r g e = refl
none_set (q ∷ ps) root f n y r g e =
    chosen (is_part_of root f q) (is_part_of r g q) refl e (none_set ps root f n y r g)
  where
    chosen : (a b : Bool) → is_part_of r g q ≡ b → cond b (Some q) (part_of ps r g) ≡ None →
        (part_of ps r g ≡ None → part_of (set_part ps root f n y) r g ≡ None) →
        part_of (cond a (record q { pieces = set_cell q.pieces n y } ∷ ps) (q ∷ set_part ps root f n y)) r g
        ≡ None
    chosen a true d e more = absurd (none-some q (sym e))
    chosen true false d e more =
        ap (λ b. cond b (Some (record q { pieces = set_cell q.pieces n y })) (part_of ps r g)) d ∙ e
    chosen false false d e more =
        ap (λ b. cond b (Some q) (part_of (set_part ps root f n y) r g)) d ∙ more e

-- the number that is set fits, and isn't held for reading
pub held_set : (code : Code) (c : Contents) (needs : List Requirement) (ps : List Part) (root f n : ℕ) (y : ℤ)
    (q : Part) (k : Cell) → part_of ps root f ≡ Some q → cell_at q.pieces n ≡ Some k →
    (k.mode ≡ mode.Read → ⊥) → FitsWidth (width_of q.kind) y → AreHeld code c needs ps →
    AreHeld code c needs (set_part ps root f n y)
held_set code c needs [] root f n y q k e d ne fits h = absurd (none-some q e)
held_set code c needs (u ∷ ps) root f n y q k e d ne fits h =
    chosen (is_part_of root f u) refl e
    (λ e. held_set code c needs ps root f n y q k e d ne fits h.2)
  where
    one : u ≡ q → IsHeld code c needs (record u { pieces = set_cell u.pieces n y })
    one same =
        let there : cell_at u.pieces n ≡ Some k = ap (λ (v : Part). cell_at v.pieces n) same ∙ d in
        let wide : FitsWidth (width_of u.kind) y =
        subst (λ (v : Part). FitsWidth (width_of v.kind) y) (sym same) fits in
        let set = cell_set u.pieces n y k there in
        record {
          made = h.0.made;
          kind = h.0.kind;
          outline = outline_set u.pieces n y ∙ h.0.outline;
          reads = λ p b w. at_point p b w (n == p) refl (λ e r. absurd (ne (ap (λ (c : Cell). c.mode) (same_Some _ _ e) ∙ r))) (λ e. h.0.reads p b e);
          fits = λ p b w. at_point p b w (n == p) refl
              (λ e. subst (λ (c : Cell). FitsWidth (width_of u.kind) c.value) (same_Some _ _ e) wide) (λ e. h.0.fits p b e);
        }
      where
        at_point : {T : Type 0} (p : ℕ) (b : Cell) → cell_at (set_cell u.pieces n y) p ≡ Some b → (t : Bool) → (n == p) ≡ t →
            (Some (record { mode = k.mode; value = y }) ≡ Some b → T) → (cell_at u.pieces p ≡ Some b → T) → T
        at_point p b w true t this that =
            this (sym (cell_set u.pieces n y k (ap (λ (v : Part). cell_at v.pieces n) same ∙ d))
            ∙ ap (cell_at (set_cell u.pieces n y)) (eqb-true n p t) ∙ w)
        at_point p b w false t this that = that (sym (cell_other u.pieces n p y (eqb-false n p t)) ∙ w)

    chosen : (b : Bool) → is_part_of root f u ≡ b → cond b (Some u) (part_of ps root f) ≡ Some q →
        (part_of ps root f ≡ Some q → AreHeld code c needs (set_part ps root f n y)) →
        AreHeld code c needs (cond b (record u { pieces = set_cell u.pieces n y } ∷ ps) (u ∷ set_part ps root f n y))
    chosen true b e more = (one (same_Some _ _ e), h.1, h.2)
    chosen false b e more = (h.0, none_set ps root f n y u.root.0 u.field h.1, more e)
