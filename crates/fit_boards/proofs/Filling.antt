-- A part that is wanted: its fill fits from the beginning on, whatever is moved, and when all is moved the part fits.
use Rattle.std.proofs.Common.{◌≡◌, ◌⊎◌, inl, inr, ⊎_elim, ℕ, zero, suc, ℤ, pos, ◌<◌, ◌-◌, List, [], ◌∷◌, Bool, true, false, cond, refl, sym, ap, ◌∙◌, subst, arith, length, map}
use Rattle.std.specs.Prelude.{int_lt, ◌*ℤ◌}
use Rattle.std.proofs.lemmas.Int.{ints, int_wrap_fits}
use Rattle.std.proofs.lemmas.List.{length-replicate}
use Rattle.lane_kernels.proofs.Operators.{commutative, identity}
use Rattle.lane_kernels.specs.declared.numbers.FieldKind.{FieldKind}
use Rattle.lane_kernels.specs.declared.numbers.Mode.{Mode}
use Rattle.lane_kernels.specs.declared.numbers.Mode.TheVariants as mode
use Rattle.lane_kernels.specs.declared.numbers.Op.{Op}
use Rattle.lane_kernels.specs.declared.numbers.Op.TheVariants.{Sum, Product, Least, Greatest}
use Rattle.lane_kernels.specs.declared.numbers.Width.{Width}
use Rattle.lane_kernels.specs.Numbers.{FitsWidth, applied, identity_of, std_width, width_of, wrapped}
use Rattle.region_tree.proofs.PartLaws.{part_apart}
use Rattle.region_tree.specs.Pieces.{Held}
use Rattle.region_tree.specs.Requirements.{PartsAreApart}
use Rattle.region_tree.specs.Requirements as required
use Rattle.logical_map.specs.Fills.{Filling as Fill, blank, chunk_moved, moved_beside, moved_pieces, number_for, started}
use Rattle.logical_map.specs.Maps.{Column, LogicalMap, column_of, columns_of}
use Rattle.task_code.specs.declared.code.TaskCode.{TaskCode}
use Rattle.claimed_trees.proofs.Moved.{outline_kept}
use Rattle.board_terms.specs.Claims.{part_filled}
use Rattle.board_terms.specs.declared.extent.Extent.{Extent}
use Rattle.fit_rules.specs.Shapes.{Each, NumberIs, Shape, World}
use Rattle.fit_rules.specs.Fits.{CellNumber, claims, Folds, kept_as, kind_at, PartFits, Program, shape_at}
use Rattle.fit_laws.proofs.Fetching.{kept_narrow}
use Rattle.fit_boards.specs.Fitting.{ColumnFits, FillFits, held_as, MapFits, PieceFits, space_at}
use Rattle.fit_boards.proofs.Cells.{cell_fits}
use Rattle.fit_boards.proofs.Columns.{each_same, number_fits, zero_is}

-- ---- numbers before anything is moved

-- 0 as a number of a reduction leaves a number as it is, or makes 0 of it
zero_folded : (op : Op) (w : Width) (y : ℤ) → FitsWidth w y → FitsWidth w (pos 0) → (applied op w y (pos 0) ≡ y) ⊎ (applied op w y (pos 0) ≡ pos 0)
zero_folded Sum w y h n = inl (commutative Sum w y (pos 0) h n ∙ (identity Sum w).1 y h)
zero_folded Product w y h n = inr (ap (wrapped w) (none y) ∙ int_wrap_fits (std_width w) (pos 0) n)
  where
    none : (z : ℤ) → z *ℤ pos 0 ≡ pos 0
    none z = omega (arith, ints)
zero_folded Least w y h n = of (int_lt (pos 0) y)
  where
    of : (b : Bool) → (wrapped w (cond b (pos 0) y) ≡ y) ⊎ (wrapped w (cond b (pos 0) y) ≡ pos 0)
    of true = inr (int_wrap_fits (std_width w) (pos 0) n)
    of false = inl (int_wrap_fits (std_width w) y h)
zero_folded Greatest w y h n = of (int_lt (pos 0) y)
  where
    of : (b : Bool) → (wrapped w (cond b y (pos 0)) ≡ y) ⊎ (wrapped w (cond b y (pos 0)) ≡ pos 0)
    of true = inl (int_wrap_fits (std_width w) y h)
    of false = inr (int_wrap_fits (std_width w) (pos 0) n)

module _ (k : FieldKind) (n : ℕ) where
  narrow_zero : FitsWidth (width_of k) (pos 0)
  narrow_zero = kept_narrow k n (pos 0) (zero_is k n)

  zero_folds : (op : Op) → Folds k (kept_as k n) op (pos 0)
  zero_folds op = (
    narrow_zero,
    λ y h. ⊎_elim
        (λ e. subst (NumberIs (kept_as k n)) (sym e) h)
        (λ e. subst (NumberIs (kept_as k n)) (sym e) (zero_is k n))
        (zero_folded op (width_of k) y (kept_narrow k n y h) narrow_zero),
  )

  blank_is : (m : Mode) → CellNumber k (kept_as k n) m (pos 0)
  blank_is mode.Read = zero_is k n
  blank_is mode.Write = zero_is k n
  blank_is (mode.Reduce op) = zero_folds op

  identity_folds : (op : Op) → Folds k (kept_as k n) op (identity_of op (width_of k))
  identity_folds op = (
    (identity op (width_of k)).0,
    λ y h. subst (NumberIs (kept_as k n)) (sym (commutative op (width_of k) y (identity_of op (width_of k)) (kept_narrow k n y h) (identity op (width_of k)).0
        ∙ (identity op (width_of k)).1 y (kept_narrow k n y h))) h,
  )

-- ---- what is moved

module _ (k : FieldKind) (s : Shape) (m : Mode) (f : ℕ → ℤ) (fits : (p : ℕ) → CellNumber k s m (f p)) where
  -- as many numbers, which fit
  beside_moved : (behind next : ℕ) (ps : List ℕ) (zs : List ℤ) → Each (CellNumber k s m) zs →
      (length (moved_beside f behind next ps zs) ≡ length zs) × Each (CellNumber k s m) (moved_beside f behind next ps zs)
  beside_moved (suc behind) next [] zs h = (refl, h)
  beside_moved (suc behind) next (p ∷ ps) [] h = (refl, h)
  beside_moved (suc behind) next (p ∷ ps) (z ∷ zs) h = let more = beside_moved behind next ps zs h.1 in (ap suc more.0, (h.0, more.1))
  beside_moved zero zero ps zs h = (refl, h)
  beside_moved zero (suc next) [] zs h = (refl, h)
  beside_moved zero (suc next) (p ∷ ps) [] h = (refl, h)
  beside_moved zero (suc next) (p ∷ ps) (z ∷ zs) h = let more = beside_moved zero next ps zs h.1 in (ap suc more.0, (fits p, more.1))

module _ (g : Program) (sp f : ℕ) where
  abbrev k : FieldKind
  k = kind_at g sp f

  abbrev s : Shape
  s = shape_at g sp f

  -- what an element gets
  number_is : (c : Column) → ColumnFits g sp f c → (m : Mode) (p : ℕ) → CellNumber k s m (number_for c m p)
  number_is c h mode.Read p = number_fits g sp f c h p
  number_is c h mode.Write p = number_fits g sp f c h p
  number_is c h (mode.Reduce op) p = subst (λ d. Folds k s op (identity_of op (width_of d))) (sym h.kind) (identity_folds k (g.positions sp f) op)

  pieces_moved : (c : Column) → ColumnFits g sp f c → (behind next : ℕ) (hs : List Held) → Each (PieceFits k s) hs → Each (PieceFits k s) (moved_pieces c behind next hs)
  pieces_moved c a behind next [] h = tt
  pieces_moved c a behind next (x ∷ hs) h =
      let one = beside_moved k s x.mode (number_for c x.mode) (number_is c a x.mode) behind next x.points x.values h.0.1 in (
        (one.0 ∙ h.0.0, one.1),
        pieces_moved c a (behind - length x.points) (next - (length x.points - behind)) hs h.1,
      )

  blank_pieces : (ws : List (List ℕ × Mode)) → (map held_as (map blank ws) ≡ ws) × Each (PieceFits k s) (map blank ws)
  blank_pieces [] = (refl, tt)
  blank_pieces (w ∷ ws) =
      let more = blank_pieces ws in (
        ap (λ r. w ∷ r) more.0,
        ((length-replicate (length w.0) (pos 0), each_same (CellNumber k s w.1) (length w.0) (pos 0) (blank_is k (g.positions sp f) w.1)), more.1),
      )

-- ---- a fill

module _ (g : Program) (x : World) (t : TaskCode) (extents : List Extent) (m : LogicalMap) (fits : MapFits g extents m) (root field : ℕ)
    (space : x.spaces root ≡ space_at extents root) (there : field < length (columns_of m root)) where
  -- the column of which it is
  column_is : ColumnFits g (x.spaces root) field (column_of m root field)
  column_is = subst (λ sp. ColumnFits g sp field (column_of m root field)) (sym space) (fits root field there).1

  pub fill_starts : FillFits g x t root field (started root field (required.part_of (claims g x t) root field) m)
  fill_starts =
      let blanks = blank_pieces g (x.spaces root) field (required.part_of (claims g x t) root field) in record {
        root_is = refl;
        field_is = refl;
        kind = column_is.kind;
        asked = blanks.0;
        pieces = blanks.1;
      }

  pub fill_moves : (f : Fill) → FillFits g x t root field f → FillFits g x t root field (chunk_moved m f)
  fill_moves f h =
      let c : column_of m root field ≡ column_of m f.root f.field = ap (λ r. column_of m r field) (sym h.root_is) ∙ ap (column_of m f.root) (sym h.field_is) in record {
        root_is = h.root_is;
        field_is = h.field_is;
        kind = h.kind;
        asked = outline_kept (column_of m f.root f.field) f.moved 4096 f.pieces ∙ h.asked;
        pieces = pieces_moved g (x.spaces root) field (column_of m f.root f.field) (subst (ColumnFits g (x.spaces root) field) c column_is) f.moved 4096 f.pieces h.pieces;
      }

-- the part that it becomes
pub part_fits : (g : Program) (x : World) (t : TaskCode) (root field : ℕ) (f : Fill) → x.there root ≡ true → FillFits g x t root field f → PartFits g x t root field (part_filled f)
part_fits g x t root field f there h = record {
  there = there;
  kind = h.kind;
  cells = λ p. cell_fits (kind_at g (x.spaces root) field) (shape_at g (x.spaces root) field) (claims g x t) root field p f.pieces h.asked h.pieces;
}

pub part_once : (g : Program) (x : World) (t : TaskCode) (root field : ℕ) (f : Fill) → FillFits g x t root field f → PartsAreApart (map held_as (part_filled f).pieces)
part_once g x t root field f h = subst PartsAreApart (sym h.asked) (part_apart (claims g x t) root field)
