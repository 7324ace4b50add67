-- What is kept of the live roots, as contracts see it: the fields of the logical map, and of each how many
-- reductions more it takes for sure.
use Rattle.std.specs.Prelude.{◌≡◌, ◌==◌, ◌≤◌, Bool, List, [], ◌∷◌, cond, get_or, map, ℕ}
use Rattle.logical_map.specs.Fills.{Filling, elements_of}
use Rattle.logical_map.specs.Maps.{Column, LiveRoot, LogicalMap, no_column}

-- a field of a root
pub record FieldContents : Type 0 where
  pub column : Column
  pub spare : ℕ

-- a root, by its number, with its fields in order
pub record RootContents : Type 0 where
  pub root : ℕ
  pub fields : List FieldContents

-- ---- the logical map

abbrev pub column_in : FieldContents → Column
column_in f = f.column

abbrev pub live_root : RootContents → LiveRoot
live_root r = record { root = r.root; columns = map column_in r.fields }

abbrev pub map_of : List RootContents → LogicalMap
map_of roots = map live_root roots

-- ---- room for reductions

abbrev pub is_kept : ℕ → RootContents → Bool
is_kept root r = r.root == root

abbrev pub fields_of : List RootContents → ℕ → List FieldContents
fields_of [] root = []
fields_of (r ∷ rs) root = cond (is_kept root r) r.fields (fields_of rs root)

-- the field of a root that isn't live, or lacks it
abbrev pub no_field : FieldContents
no_field = record { column = no_column; spare = 0 }

abbrev pub field_of : List RootContents → ℕ → ℕ → FieldContents
field_of roots root field = get_or (fields_of roots root) field no_field

-- how many reductions more a field takes for sure
abbrev pub spare_of : List RootContents → ℕ → ℕ → ℕ
spare_of roots root field = (field_of roots root field).spare

-- no field takes fewer than before
abbrev pub KeepsSpare : List RootContents → List RootContents → Type 0
KeepsSpare before after = (root field : ℕ) → spare_of before root field ≤ spare_of after root field

-- ---- fills

-- no element is left
abbrev pub IsFull : Filling → Type 0
IsFull f = f.moved ≡ elements_of f.pieces
