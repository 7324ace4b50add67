-- Parts that are held by what is needed.
use Rattle.std.specs.Prelude.{◌≡◌, ℕ, ◌<◌, List, [], ◌∷◌, true, Some, None, map, length}
use Rattle.lane_kernels.specs.declared.numbers.Mode.{Mode}
use Rattle.lane_kernels.specs.declared.numbers.Mode.TheVariants as mode
use Rattle.lane_kernels.specs.Numbers.{FitsWidth, width_of}
use Rattle.region_tree.specs.declared.needs.Need.{Need}
use Rattle.region_tree.specs.declared.piece.Part.{Part}
use Rattle.region_tree.specs.Pieces.{Held}
use Rattle.region_tree.specs.Requirements as required
use Rattle.region_tree.specs.Requirements.{Requirement, mode_at}
use Rattle.task_code.specs.declared.code.Code.{Code}
use Rattle.machine_terms.specs.declared.order.Contents.{Contents}
use Rattle.machine_terms.specs.Contents.{kept_at, kind_of}
use Rattle.machine_terms.specs.Parts.{Cell, cell_at, part_of, is_needed}
use Rattle.memory_laws.specs.Places.{column_of}

-- the points of a piece, its mode, and how many numbers it has
pub record Outline : Type 0 where
  pub points : List ℕ
  pub mode : Mode
  pub count : ℕ

abbrev pub outline_of : Held → Outline
outline_of h = record { points = h.points; mode = h.mode; count = length h.values }

abbrev pub outline_in : List ℕ × Mode → Outline
outline_in q = record { points = q.0; mode = q.1; count = length q.0 }

-- A part of a root that was made is that of the needs for its field: what is held for reading is
-- what the roots hold, and each number fits.
pub record IsHeld (code : Code) (contents : Contents) (needs : List Requirement) (q : Part) : Type 0 where
  pub made : q.root.0 < contents.made
  pub kind : q.kind ≡ kind_of code contents q.root.0 q.field
  pub outline : map outline_of q.pieces ≡ map outline_in (required.part_of needs q.root.0 q.field)
  pub reads : (p : ℕ) (c : Cell) → cell_at q.pieces p ≡ Some c → c.mode ≡ mode.Read →
      c.value ≡ kept_at contents q.root.0 q.field p
  pub fits : (p : ℕ) (c : Cell) → cell_at q.pieces p ≡ Some c → FitsWidth (width_of q.kind) c.value

-- no field has two parts
abbrev pub AreHeld : Code → Contents → List Requirement → List Part → Type 0
AreHeld code contents needs [] = Unit {0}
AreHeld code contents needs (q ∷ qs) = IsHeld code contents needs q
    × (part_of qs q.root.0 q.field ≡ None) × AreHeld code contents needs qs

-- Where there is a mode at a point, the point is one of the root's, and the frame tells of the need.
abbrev pub AreNeeds : Contents → List Requirement → List Need → Type 0
AreNeeds contents needs items = (root field point : ℕ) (m : Mode) →
    mode_at needs root field point ≡ Some m →
    (point < length (column_of contents root field)) × (is_needed items root field ≡ true)
