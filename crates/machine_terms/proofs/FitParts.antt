-- Parts whose numbers fit the widths of their fields.
use Rattle.std.proofs.Common.{◌≡◌, ℕ, ℤ, List, [], ◌∷◌, Bool, true, false, cond, Option, Some, None, refl, sym, ap, subst, ◌==◌}
use Rattle.std.proofs.lemmas.Int.{SFits-int_wrap}
use Rattle.std.proofs.lemmas.Option.{same_Some}
use Rattle.lane_kernels.specs.declared.numbers.FieldKind.{FieldKind}
use Rattle.lane_kernels.specs.declared.numbers.Mode.{Mode}
use Rattle.lane_kernels.specs.declared.numbers.Mode.TheVariants as mode
use Rattle.lane_kernels.specs.declared.numbers.Width.{Width}
use Rattle.lane_kernels.specs.declared.numbers.Width.TheVariants.{W32, W64}
use Rattle.lane_kernels.specs.Modes.{same_op}
use Rattle.lane_kernels.specs.Numbers.{FitsWidth, applied, std_width, width_of, wrapped}
use Rattle.lane_kernels.proofs.Operators.{closed}
use Rattle.region_tree.specs.declared.piece.Part.{Part}
use Rattle.region_tree.specs.Pieces.{Held}
use Rattle.machine_terms.specs.Parts.{Cell, Found, cell_at, found, found_cell, found_in, is_part_of, missing, part_of, refused, set_beside, set_cell, set_in, set_part, value_beside}
use Rattle.machine_terms.specs.Pointers.{same_width, written}

abbrev pub AllFit : Width → List ℤ → Type 0
AllFit w [] = Unit {0}
AllFit w (z ∷ zs) = FitsWidth w z × AllFit w zs

abbrev pub PiecesFit : Width → List Held → Type 0
PiecesFit w [] = Unit {0}
PiecesFit w (h ∷ hs) = AllFit w h.values × PiecesFit w hs

abbrev pub PartsFit : List Part → Type 0
PartsFit [] = Unit {0}
PartsFit (q ∷ qs) = PiecesFit (width_of q.kind) q.pieces × PartsFit qs

-- ---- a number that is set

beside_fits : (w : Width) (xs : List ℕ) (zs : List ℤ) (p : ℕ) (y : ℤ) → FitsWidth w y → AllFit w zs → AllFit w (set_beside xs zs p y)
beside_fits w [] zs p y f h = h
beside_fits w (x ∷ xs) [] p y f h = h
beside_fits w (x ∷ xs) (z ∷ zs) p y f h = here (x == p) (beside_fits w xs zs p y f h.1)
  where
    here : (b : Bool) → AllFit w (set_beside xs zs p y) → AllFit w (cond b (y ∷ zs) (z ∷ set_beside xs zs p y))
    here true more = (f, h.1)
    here false more = (h.0, more)

set_in_fits : (w : Width) (o : Option ℤ) (h : Held) (p : ℕ) (z : ℤ) (hs rest : List Held) → FitsWidth w z →
    PiecesFit w (h ∷ hs) → PiecesFit w rest → PiecesFit w (set_in o h p z hs rest)
set_in_fits w (Some old) h p z hs rest f g r = (beside_fits w h.points h.values p z f g.0, g.1)
set_in_fits w None h p z hs rest f g r = (g.0, r)

set_cell_fits : (w : Width) (hs : List Held) (p : ℕ) (z : ℤ) → FitsWidth w z → PiecesFit w hs → PiecesFit w (set_cell hs p z)
set_cell_fits w [] p z f g = tt
set_cell_fits w (h ∷ hs) p z f g = set_in_fits w (value_beside h.points h.values p) h p z hs (set_cell hs p z) f g
    (set_cell_fits w hs p z f g.1)

-- a number fits the part of a field, where there is one
abbrev pub FitsPart : Option Part → ℤ → Type 0
FitsPart None z = Unit {0}
FitsPart (Some q) z = FitsWidth (width_of q.kind) z

pub set_part_fits : (qs : List Part) (root field p : ℕ) (z : ℤ) → FitsPart (part_of qs root field) z → PartsFit qs →
    PartsFit (set_part qs root field p z)
set_part_fits [] root field p z f g = tt
set_part_fits (q ∷ qs) root field p z f g = here (is_part_of root field q) f (set_part_fits qs root field p z)
  where
    here : (b : Bool) → FitsPart (cond b (Some q) (part_of qs root field)) z →
        (FitsPart (part_of qs root field) z → PartsFit qs → PartsFit (set_part qs root field p z)) →
        PartsFit (cond b (record q { pieces = set_cell q.pieces p z } ∷ qs) (q ∷ set_part qs root field p z))
    here true f more = (set_cell_fits (width_of q.kind) q.pieces p z f g.0, g.1)
    here false f more = (g.0, more f g.1)

-- ---- numbers that are set

abbrev kind_in : FieldKind → Found → FieldKind
kind_in k (found l c) = l
kind_in k missing = k
kind_in k refused = k

-- a number of the width of the field that was found
pub found_fits : (b : Bool) (o : Option Part) (p : ℕ) (k : FieldKind) (c : Cell) (z : ℤ) → cond b (found_in o p) refused ≡ found k c →
    FitsWidth (width_of k) z → FitsPart o z
found_fits b None p k c z e f = tt
found_fits false (Some q) p k c z e f = absurd cc
found_fits true (Some q) p k c z e f = by_cell (cell_at q.pieces p) e
  where
    by_cell : (o : Option Cell) → found_cell q.kind o ≡ found k c → FitsWidth (width_of q.kind) z
    by_cell None d = absurd cc
    by_cell (Some a) d = subst (λ l. FitsWidth (width_of l) z) (sym (ap (kind_in k) d)) f

pub width_is : (v w : Width) → same_width v w ≡ true → v ≡ w
width_is W32 W32 e = refl
width_is W64 W64 e = refl
width_is W32 W64 e = absurd cc
width_is W64 W32 e = absurd cc

pub wrapped_fits : (w : Width) (z : ℤ) → FitsWidth w (wrapped w z)
wrapped_fits w z = SFits-int_wrap (std_width w) z

fits_some : (w : Width) (y z : ℤ) → FitsWidth w y → Some y ≡ Some z → FitsWidth w z
fits_some w y z f e = subst (FitsWidth w) (same_Some y z e) f

pub written_fits : (a m : Mode) (w : Width) (old z y : ℤ) → written a m w old z ≡ Some y → FitsWidth w y
written_fits mode.Write mode.Write w old z y e = fits_some w _ y (wrapped_fits w z) e
written_fits (mode.Reduce o) mode.Write w old z y e = fits_some w _ y (closed o w old (wrapped w z)) e
written_fits (mode.Reduce o) (mode.Reduce p) w old z y e = by_op (same_op o p) e
  where
    by_op : (b : Bool) → cond b (Some (applied o w old (wrapped w z))) None ≡ Some y → FitsWidth w y
    by_op true d = fits_some w _ y (closed o w old (wrapped w z)) d
    by_op false d = absurd cc
written_fits mode.Read m w old z y e = absurd cc
written_fits mode.Write mode.Read w old z y e = absurd cc
written_fits mode.Write (mode.Reduce p) w old z y e = absurd cc
written_fits (mode.Reduce o) mode.Read w old z y e = absurd cc
