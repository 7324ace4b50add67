-- Pieces that are filled from the map, some elements at a time.
use Rattle.std.specs.Prelude.{◌+◌, ◌-◌, List, [], ◌∷◌, length, map, min, pos, replicate, suc, sum_by, zero, ℕ, ℤ}
use Rattle.lane_kernels.specs.Numbers.{identity_of, width_of}
use Rattle.lane_kernels.specs.declared.numbers.FieldKind.{FieldKind}
use Rattle.lane_kernels.specs.declared.numbers.Mode.{Mode}
use Rattle.lane_kernels.specs.declared.numbers.Mode.TheVariants.{Reduce}
use Rattle.region_tree.specs.Pieces.{Held}
use Rattle.logical_map.specs.Maps.{Column, LogicalMap, column_of, number_in_column}

-- a fill: its pieces, and how many of their elements were moved, piece by piece and point by point
pub record Filling : Type 0 where
  pub root : ℕ
  pub field : ℕ
  pub kind : FieldKind
  pub pieces : List Held
  pub moved : ℕ

-- what an element gets: the number that the field has there, and for a reduction the identity
abbrev pub number_for : Column → Mode → ℕ → ℤ
number_for c (Reduce op) point = identity_of op (width_of c.kind)
number_for c _ point = number_in_column c point

-- the values where behind so many the next ones are moved, one for each point
abbrev pub moved_beside : (ℕ → ℤ) → ℕ → ℕ → List ℕ → List ℤ → List ℤ
moved_beside f (suc behind) next (p ∷ ps) (z ∷ zs) = z ∷ moved_beside f behind next ps zs
moved_beside f zero (suc next) (p ∷ ps) (z ∷ zs) = f p ∷ moved_beside f zero next ps zs
moved_beside f _ _ _ zs = zs

abbrev pub moved_piece : Column → ℕ → ℕ → Held → Held
moved_piece c behind next h =
    record h { values = moved_beside (number_for c h.mode) behind next h.points h.values }

abbrev pub moved_pieces : Column → ℕ → ℕ → List Held → List Held
moved_pieces c behind next [] = []
moved_pieces c behind next (h ∷ hs) = moved_piece c behind next h
    ∷ moved_pieces c (behind - length h.points) (next - (length h.points - behind)) hs

abbrev pub elements_of : List Held → ℕ
elements_of hs = sum_by (λ (h : Held). length h.points) hs

-- how many elements are moved at a time
abbrev pub chunk : ℕ
chunk = 4096

-- before anything is moved
abbrev pub blank : List ℕ × Mode → Held
blank w = record { points = w.0; mode = w.1; values = replicate (length w.0) (pos 0) }

abbrev pub started : ℕ → ℕ → List (List ℕ × Mode) → LogicalMap → Filling
started root field wanted roots = record {
  root = root;
  field = field;
  kind = (column_of roots root field).kind;
  pieces = map blank wanted;
  moved = 0;
}

-- the next elements are moved, or all that are left
abbrev pub chunk_moved : LogicalMap → Filling → Filling
chunk_moved roots f = record f {
  pieces = moved_pieces (column_of roots f.root f.field) f.moved chunk f.pieces;
  moved = min (f.moved + chunk) (elements_of f.pieces);
}
