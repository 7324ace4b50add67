-- What a covered touch finds, and what it sets there.
use Rattle.std.proofs.Common.{◌≡◌, ◌⊎◌, inl, inr, ℕ, ◌<◌, ℤ, Bool, true, false, Option, Some, None, refl, sym, ap, ◌∙◌, subst}
use Rattle.std.specs.Prelude.{cond, length}
use Rattle.std.proofs.lemmas.Int.{SFits-int_wrap}
use Rattle.std.proofs.lemmas.Option.{none-some, same_Some}
use Rattle.lane_kernels.specs.declared.numbers.FieldKind.{FieldKind}
use Rattle.lane_kernels.specs.declared.numbers.Mode.{Mode}
use Rattle.lane_kernels.specs.declared.numbers.Mode.TheVariants as mode
use Rattle.lane_kernels.specs.declared.numbers.Op.{Op}
use Rattle.lane_kernels.specs.declared.numbers.Width.{Width}
use Rattle.lane_kernels.specs.Modes.{same_op}
use Rattle.lane_kernels.specs.Numbers.{FitsWidth, applied, wrapped, std_width, width_of}
use Rattle.lane_kernels.proofs.Operators.{associative}
use Rattle.lane_kernels.proofs.SameOps.{same_op-tells}
use Rattle.region_tree.specs.declared.piece.Part.{Part}
use Rattle.region_tree.specs.Requirements.{mode_at}
use Rattle.regent_tree.specs.Store.{Store, column, read_at}
use Rattle.task_code.specs.declared.code.Code.{Code}
use Rattle.machine_terms.specs.Contents.{kept_at, kind_of}
use Rattle.machine_terms.specs.Parts.{Cell, Found, cell_at, is_needed, part_of, refused, missing, found, found_cell, found_in, find}
use Rattle.machine_terms.specs.Pointers.{written}
use Rattle.machine_terms.proofs.FitParts.{written_fits}
use Rattle.memory_laws.specs.Finding.{FoundIsRead}
use Rattle.memory_laws.specs.Memory.{IsKept, Memory, Holds}
use Rattle.memory_laws.specs.Places.{number_at}
use Rattle.memory_laws.specs.Seen.{seen_value, seen_cell, seen_part}
use Rattle.memory_laws.specs.Setting.{SetCellsHold}
use Rattle.memory_laws.specs.Touches.{changed}
use Rattle.memory_laws.proofs.Holding.{mode_of_cell, held_mode}
use Rattle.memory_laws.proofs.Set.{holds_set}
use Rattle.memory_laws.proofs.Shapes.{held_part, length_stored}

-- ---- what was found is a cell of the part

pub record Cells (m : Memory) (root f n : ℕ) (kind : FieldKind) (c : Cell) : Type 0 where
  pub part : Part
  pub is_part : part_of m.parts root f ≡ Some part
  pub is_cell : cell_at part.pieces n ≡ Some c
  pub kind_is : part.kind ≡ kind

abbrev HasFound : (FieldKind → Cell → Type 0) → Found → Type 0
HasFound P refused = ⊥
HasFound P missing = ⊥
HasFound P (found k c) = P k c

pub found_tells : (m : Memory) (root f n : ℕ) (kind : FieldKind) (c : Cell) →
    find m.items m.parts root f n ≡ found kind c → Cells m root f n kind c
found_tells m root f n kind c e =
    subst (HasFound (Cells m root f n)) e (needed (is_needed m.items root f) (subst (HasFound (λ k d. Unit {0})) (sym e) tt))
  where
    cell : (q : Part) → part_of m.parts root f ≡ Some q → (o : Option Cell) → cell_at q.pieces n ≡ o →
        HasFound (λ k d. Unit {0}) (found_cell q.kind o) → HasFound (Cells m root f n) (found_cell q.kind o)
    cell q p None d h = h
    cell q p (Some c) d h = record { part = q; is_part = p; is_cell = d; kind_is = refl }

    part : (o : Option Part) → part_of m.parts root f ≡ o →
        HasFound (λ k d. Unit {0}) (found_in o n) → HasFound (Cells m root f n) (found_in o n)
    part None p h = h
    part (Some q) p h = cell q p (cell_at q.pieces n) refl h

    needed : (b : Bool) → HasFound (λ k d. Unit {0}) (cond b (found_in (part_of m.parts root f) n) refused) →
        HasFound (Cells m root f n) (cond b (found_in (part_of m.parts root f) n) refused)
    needed true h = part (part_of m.parts root f) refl h
    needed false h = h

module _ (code : Code) (store : Store) (m : Memory) (r f n : ℕ) (kind : FieldKind) (c : Cell)
    (h : Holds code store m) (t : Cells m (number_at m.contents r) f n kind c) where
  abbrev pub root : ℕ
  root = number_at m.contents r

  -- the part is that of the field
  pub kind_there : kind ≡ kind_of code m.contents root f
  kind_there =
      let a = held_part code m.contents m.needs m.parts root f t.part h.held t.is_part in
      sym t.kind_is ∙ a.0.kind
      ∙ ap (λ k. kind_of code m.contents k t.part.field) a.1 ∙ ap (kind_of code m.contents root) a.2

  pub mode_there : mode_at m.needs root f n ≡ Some c.mode
  mode_there =
      let a = held_part code m.contents m.needs m.parts root f t.part h.held t.is_part in
      ap (λ k. mode_at m.needs root k n) (sym a.2) ∙ ap (λ k. mode_at m.needs k t.part.field n) (sym a.1)
      ∙ sym (held_mode code m.contents m.needs t.part n a.0) ∙ ap mode_of_cell t.is_cell

  -- the point is one of the store's
  pub in_store : n < length (column store r f)
  in_store = subst (λ k. n < k) (sym (length_stored code store m.contents m.parts h.stands r f))
      (h.needed root f n c.mode mode_there).0

  -- what is seen there is by the cell
  pub sees : read_at store r f n ≡ seen_value kind c.mode (kept_at m.contents root f n) c.value
  sees = h.stands.same r f n in_store
      ∙ ap (seen_part (kept_at m.contents root f n) n) t.is_part
      ∙ ap (seen_cell t.part.kind (kept_at m.contents root f n)) t.is_cell
      ∙ ap (λ k. seen_value k c.mode (kept_at m.contents root f n) c.value) t.kind_is

  pub cell_fits : FitsWidth (width_of kind) c.value
  cell_fits =
      let a = held_part code m.contents m.needs m.parts root f t.part h.held t.is_part in
      subst (λ k. FitsWidth (width_of k) c.value) t.kind_is (a.0.fits n c t.is_cell)

  pub old_fits : FitsWidth (width_of kind) (kept_at m.contents root f n)
  old_fits = subst (λ k. FitsWidth (width_of k) (kept_at m.contents root f n)) (sym kind_there)
      (h.stands.fits root f n)

-- ---- reads

pub found_is_read : FoundIsRead
found_is_read code store m r f n kind c h e covers =
    let t = found_tells m (number_at m.contents r) f n kind c e in
    by (kept_at m.contents (number_at m.contents r) f n) c.mode (covers) ∙ sym (sees code store m r f n kind c h t)
  where
    none : (o : Op) → (Some (mode.Reduce o) ≡ Some mode.Read) ⊎ (Some (mode.Reduce o) ≡ Some mode.Write) → ⊥
    none o (inl e) = subst IsReduce (same_Some _ _ e) tt
      where
        IsReduce : Mode → Type 0
        IsReduce (mode.Reduce o) = Unit {0}
        IsReduce _ = ⊥
    none o (inr e) = subst IsReduce (same_Some _ _ e) tt
      where
        IsReduce : Mode → Type 0
        IsReduce (mode.Reduce o) = Unit {0}
        IsReduce _ = ⊥

    by : (old : ℤ) (md : Mode) → (Some md ≡ Some mode.Read) ⊎ (Some md ≡ Some mode.Write) →
        c.value ≡ seen_value kind md old c.value
    by old mode.Read s = refl
    by old mode.Write s = refl
    by old (mode.Reduce o) s = absurd (none o s)

-- ---- writes and reductions

-- and isn't held for reading
pub written_unread : (a md : Mode) (w : Width) (old z y : ℤ) → written a md w old z ≡ Some y → md ≡ mode.Read → ⊥
written_unread a md w old z y e r = unread a (ap (λ k. written a k w old z) (sym r) ∙ e)
  where
    unread : (a : Mode) → written a mode.Read w old z ≡ Some y → ⊥
    unread mode.Read e = none-some y e
    unread mode.Write e = none-some y e
    unread (mode.Reduce o) e = none-some y e

-- what is seen by it is the number behind the access
change_seen : (kind : FieldKind) (a md : Mode) (old v z y s : ℤ) → FitsWidth (width_of kind) old →
    FitsWidth (width_of kind) v → written a md (width_of kind) v z ≡ Some y → s ≡ seen_value kind md old v →
    seen_value kind md old y ≡ changed a (width_of kind) s z
change_seen kind mode.Read md old v z y s f g e is = absurd (none-some y e)
change_seen kind mode.Write mode.Read old v z y s f g e is = absurd (none-some y e)
change_seen kind mode.Write mode.Write old v z y s f g e is = sym (same_Some _ y e)
change_seen kind mode.Write (mode.Reduce p) old v z y s f g e is = absurd (none-some y e)
change_seen kind (mode.Reduce o) mode.Read old v z y s f g e is = absurd (none-some y e)
change_seen kind (mode.Reduce o) mode.Write old v z y s f g e is = sym (same_Some _ y e)
    ∙ ap (λ u. applied o (width_of kind) u (wrapped (width_of kind) z)) (sym is)
change_seen kind (mode.Reduce o) (mode.Reduce p) old v z y s f g e is = chosen (same_op o p) refl e
  where
    w : Width
    w = width_of kind

    chosen : (b : Bool) → same_op o p ≡ b → cond b (Some (applied o w v (wrapped w z))) None ≡ Some y →
        applied p w old y ≡ applied o w s (wrapped w z)
    chosen false q e = absurd (none-some y e)
    chosen true q e = ap (λ k. applied k w old y) (sym (same_op-tells o p q))
        ∙ ap (applied o w old) (sym (same_Some _ y e))
        ∙ sym (associative o w old v (wrapped w z) f g (SFits-int_wrap (std_width w) z))
        ∙ ap (λ u. applied o w u (wrapped w z))
        (ap (λ k. applied k w old v) (same_op-tells o p q) ∙ sym is)

pub set_cells_hold : SetCellsHold
set_cells_hold code store m a r f n kind c z y h e set kept =
    let root = number_at m.contents r in
    let t = found_tells m root f n kind c e in
    let s = read_at store r f n in
    holds_set code store m r f n y (changed a (width_of kind) s z) t.part c h
    (in_store code store m r f n kind c h t) t.is_part t.is_cell
    (written_unread a c.mode (width_of kind) c.value z y set)
    (subst (λ k. FitsWidth (width_of k) y) (sym t.kind_is) (written_fits a c.mode (width_of kind) c.value z y set))
    (ap (λ k. seen_value k c.mode (kept_at m.contents root f n) y) t.kind_is
    ∙ change_seen kind a c.mode (kept_at m.contents root f n) c.value z y s
    (old_fits code store m r f n kind c h t) (cell_fits code store m r f n kind c h t) set
    (sees code store m r f n kind c h t))
    (subst (λ k. IsKept k (changed a (width_of kind) s z)) (kind_there code store m r f n kind c h t) kept)
