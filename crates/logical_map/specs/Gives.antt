-- Pieces that are given back: a write replaces the numbers at its points, a reduction is folded into them.
use Rattle.std.specs.Prelude.{Bool, true, false, List, [], ◌∷◌, Option, Some, None, cond, filter, length, not, sum_by, ℕ, ℤ}
use Rattle.std.specs.Prelude.{◌==◌, ◌&&◌}
use Rattle.lane_kernels.specs.Numbers.{applied, width_of}
use Rattle.lane_kernels.specs.declared.numbers.Mode.{Mode}
use Rattle.lane_kernels.specs.declared.numbers.Mode.TheVariants.{Read, Write, Reduce}
use Rattle.lane_kernels.specs.declared.numbers.Width.{Width}
use Rattle.region_tree.specs.Pieces.{Held}
use Rattle.region_tree.specs.declared.piece.Part.{Part}
use Rattle.logical_map.specs.Maps.{Column, LogicalMap, number_beside, on_column}

-- what a piece's number at a point, where it has one, makes of the one that stands there
abbrev pub given : Width → Mode → ℤ → Option ℤ → ℤ
given width mode z None = z
given width Read z (Some y) = z
given width Write z (Some y) = y
given width (Reduce op) z (Some y) = applied op width z y

abbrev pub given_at : Width → Held → ℕ → ℤ → ℤ
given_at width h point z = given width h.mode z (number_beside h.points h.values point)

-- what pieces make of it, one after the other
abbrev pub all_given_at : Width → List Held → ℕ → ℤ → ℤ
all_given_at width [] point z = z
all_given_at width (h ∷ hs) point z = all_given_at width hs point (given_at width h point z)

abbrev pub given_beside : Width → List Held → List ℕ → List ℤ → List ℤ
given_beside width hs (p ∷ ps) (z ∷ zs) = all_given_at width hs p z ∷ given_beside width hs ps zs
given_beside width hs _ zs = zs

abbrev pub with_pieces : List Held → Column → Column
with_pieces hs c = record c { numbers = given_beside (width_of c.kind) hs c.points c.numbers }

abbrev pub give_pieces : ℕ → ℕ → List Held → LogicalMap → LogicalMap
give_pieces root field hs roots = on_column root field (with_pieces hs) roots

-- ---- parts

abbrev pub is_write : Held → Bool
is_write h = is_writing h.mode
  where
    is_writing : Mode → Bool
    is_writing Write = true
    is_writing _ = false

abbrev pub is_reduction : Held → Bool
is_reduction h = is_reducing h.mode
  where
    is_reducing : Mode → Bool
    is_reducing (Reduce op) = true
    is_reducing _ = false

-- the map where the pieces of a part for writing went back
abbrev pub put_back : Part → LogicalMap → LogicalMap
put_back part roots = give_pieces part.root.0 part.field (filter is_write part.pieces) roots

-- the map where the reductions of a part were folded in
abbrev pub add_reduction : Part → LogicalMap → LogicalMap
add_reduction part roots = give_pieces part.root.0 part.field (filter is_reduction part.pieces) roots

-- the part without its reductions
abbrev pub without_reductions : Part → Part
without_reductions part = record part { pieces = filter (λ h. not (is_reduction h)) part.pieces }

-- how many reductions parts have on a field of a root
abbrev pub reductions_in : ℕ → ℕ → Part → ℕ
reductions_in root field part = cond ((part.root.0 == root) && (part.field == field))
    (length (filter is_reduction part.pieces)) 0

abbrev pub reductions_on : List Part → ℕ → ℕ → ℕ
reductions_on parts root field = sum_by (reductions_in root field) parts
