-- A field of a root that changes.
use Rattle.std.specs.Prelude.{◌+◌, ◌≤◌, ◌==◌, ◌&&◌, List, Option, Some, None, cond, get_or, ℕ}
use Rattle.logical_map.specs.Maps.{Column, LiveRoot, no_column, on_field}
use Rattle.physical_instances.specs.Kept.{FieldContents, RootContents, no_field, spare_of}

-- the field that was found, or that of a root that lacks it
abbrev pub column_if : Option FieldContents → Column
column_if None = no_column
column_if (Some f) = f.column

-- ---- one root

-- no field of a root takes fewer reductions than before
abbrev pub KeepsRoom : List FieldContents → List FieldContents → Type 0
KeepsRoom before after = (field : ℕ) → (get_or before field no_field).spare ≤ (get_or after field no_field).spare

-- one field takes so many reductions less at most, and the others no fewer than before
abbrev pub LowersRoom : ℕ → ℕ → List FieldContents → List FieldContents → Type 0
LowersRoom field less before after = (other : ℕ) →
    (get_or before other no_field).spare ≤ (get_or after other no_field).spare + cond (field == other) less 0

-- likewise of all roots
abbrev pub LowersSpare : ℕ → ℕ → ℕ → List RootContents → List RootContents → Type 0
LowersSpare root field less before after = (r f : ℕ) →
    spare_of before r f ≤ spare_of after r f + cond ((root == r) && (field == f)) less 0

abbrev pub with_field : ℕ → (Column → Column) → LiveRoot → LiveRoot
with_field field f r = record r { columns = on_field field f r.columns }
