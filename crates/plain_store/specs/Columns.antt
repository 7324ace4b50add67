-- The numbers of one field of a root, as a list that is taken out and put in whole.
use Rattle.std.specs.Prelude.{◌≡◌, ◌<◌, ◌&&◌, ℕ, zero, suc, ℤ, pos, List, [], ◌∷◌, Bool, true, false, cond, not, get_or, slice_set, length, map, replicate, ◌==◌}
use Rattle.std.specs.List.{list_any}
use Rattle.lane_kernels.specs.declared.numbers.FieldKind.{FieldKind}
use Rattle.lane_kernels.specs.declared.numbers.Mode.{Mode}
use Rattle.lane_kernels.specs.declared.numbers.Mode.TheVariants as mode
use Rattle.lane_kernels.specs.Numbers.{applied, identity_of, width_of}
use Rattle.region_tree.specs.Pieces.{Held}
use Rattle.machine_terms.specs.declared.order.Contents.{Contents}
use Rattle.machine_terms.specs.declared.order.Root.{Root}
use Rattle.machine_terms.specs.Contents.{image_in, image_of}

abbrev pub column_of : Contents → ℕ → ℕ → List ℤ
column_of contents root field = get_or (image_of contents root).fields field []

-- the root with a number, where a field has other numbers
abbrev pub with_column : ℕ → ℕ → List ℤ → Root → Root
with_column root field zs r = cond (r.id.0 == root)
    (record r { image = record r.image { fields = slice_set r.image.fields field zs } }) r

abbrev pub put_column : ℕ → ℕ → List ℤ → Contents → Contents
put_column root field zs contents =
    record contents { roots = map (with_column root field zs) contents.roots }

-- ---- roots that are there once

abbrev pub is_root : ℕ → Root → Bool
is_root root r = r.id.0 == root

abbrev pub is_alone : List Root → ℕ → Bool
is_alone [] root = false
is_alone (r ∷ rs) root =
    cond (is_root root r) (not (list_any (is_root root) rs)) (is_alone rs root)

-- the place of the only root with a number
abbrev pub is_place : List Root → ℕ → ℕ → Bool
is_place [] root k = false
is_place (r ∷ rs) root zero = is_root root r && not (list_any (is_root root) rs)
is_place (r ∷ rs) root (suc k) = not (is_root root r) && is_place rs root k

pub record IsPlaceOf (roots : List Root) (root place : ℕ) : Type 0 where
  pub below : place < length roots
  pub alone : is_alone roots root ≡ true
  pub image : (d : Root) → (get_or roots place d).image ≡ image_in roots root
  pub put : (field : ℕ) (zs : List ℤ) (r d : Root) → r ≡ get_or roots place d →
      slice_set roots place (record r {
        image = record r.image {
          fields = slice_set r.image.fields field zs;
        };
      }) ≡ map (with_column root field zs) roots

-- one root has the number, and it has the field
pub record IsThere (contents : Contents) (root field : ℕ) : Type 0 where
  pub alone : is_alone contents.roots root ≡ true
  pub inside : field < length (image_of contents root).fields

-- ---- pieces of a field's numbers

-- the piece for some points
abbrev pub piece_on : FieldKind → List ℤ → Mode → List ℕ → Held
piece_on kind column (mode.Reduce o) points = record {
  points = points;
  mode = mode.Reduce o;
  values = replicate (length points) (identity_of o (width_of kind));
}
piece_on kind column m points =
    record { points = points; mode = m; values = map (λ p. get_or column p (pos 0)) points }

-- the numbers where a piece's went back
abbrev pub number_given : FieldKind → Mode → ℕ → ℤ → List ℤ → List ℤ
number_given kind mode.Read p z column = column
number_given kind mode.Write p z column = slice_set column p z
number_given kind (mode.Reduce o) p z column =
    slice_set column p (applied o (width_of kind) (get_or column p (pos 0)) z)

abbrev pub points_given : FieldKind → Mode → List ℕ → List ℤ → List ℤ → List ℤ
points_given kind m (x ∷ xs) (z ∷ zs) column =
    points_given kind m xs zs (number_given kind m x z column)
points_given kind m _ _ column = column

abbrev pub pieces_given : FieldKind → List Held → List ℤ → List ℤ
pieces_given kind [] column = column
pieces_given kind (h ∷ hs) column =
    pieces_given kind hs (points_given kind h.mode h.points h.values column)
