-- How many numbers the fields of a root hold.
use Rattle.std.specs.Prelude.{◌≡◌, ◌≤◌, ◌⊎◌, ℕ, ℤ, List, [], length, map}
use Rattle.logical_map.specs.Maps.{Column, LogicalMap, columns_of}
use Rattle.lane_kernels.specs.declared.numbers.FieldKind.{FieldKind}
use Rattle.task_code.specs.declared.code.Code.{Code}
use Rattle.machine_terms.specs.Contents.{kinds_of}

-- of each field of a root
abbrev pub shape_of : LogicalMap → ℕ → List ℕ
shape_of roots root = map (λ (c : Column). length c.points) (columns_of roots root)

-- of each field of a new root
abbrev pub shape_made : Code → ℕ → ℕ → List ℕ
shape_made code size space = map (λ (k : FieldKind). size) (kinds_of code space)

-- a root has another shape only where it holds nothing
abbrev pub IsShaped : List ℕ → LogicalMap → ℕ → Type 0
IsShaped shape roots root = (shape_of roots root ≡ shape) ⊎ (columns_of roots root ≡ [])

-- lists that take what a root holds, of no more fields than a need can name
abbrev pub IsRoomFor : LogicalMap → ℕ → List (List ℤ) → Type 0
IsRoomFor roots root fields = (length fields ≤ 256) × IsShaped (map length fields) roots root
