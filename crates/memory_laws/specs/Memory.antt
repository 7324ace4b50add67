-- When what an instance has of the roots stands for a store.
use Rattle.std.specs.Prelude.{◌≡◌, ℕ, ◌<◌, ℤ, List, [], length, get_or}
use Rattle.plain_values.specs.Points.{IsPoints}
use Rattle.lane_kernels.specs.declared.numbers.FieldKind.{FieldKind}
use Rattle.lane_kernels.specs.Numbers.{FitsWidth, width_of}
use Rattle.region_tree.specs.declared.needs.Need.{Need}
use Rattle.region_tree.specs.declared.piece.Part.{Part}
use Rattle.region_tree.specs.Requirements.{Requirement}
use Rattle.regent_tree.specs.Laws.{shape_of}
use Rattle.regent_tree.specs.Store.{Store, no_root, column, read_at}
use Rattle.regent_tree.specs.Values.{kept_number, meant}
use Rattle.task_code.specs.declared.code.Code.{Code}
use Rattle.machine_terms.specs.declared.order.Contents.{Contents}
use Rattle.machine_terms.specs.declared.order.Instance.{Instance}
use Rattle.machine_terms.specs.Contents.{image_of, kept_at, kind_of}
use Rattle.memory_laws.specs.Parts.{AreHeld, AreNeeds}
use Rattle.memory_laws.specs.Places.{numbers, number_at}
use Rattle.memory_laws.specs.Seen.{seen}

-- a number that a field of a kind may keep: it fits, and a value has it
abbrev pub IsKept : FieldKind → ℤ → Type 0
IsKept kind z = FitsWidth (width_of kind) z × (kept_number (meant kind [] z) ≡ z)

-- What the roots hold, overlaid by parts, stands for a store. The numbers of roots rise and were
-- given; the root at each place has the shape of the store's, and what is seen at each point is the
-- store's number.
pub record StandFor (code : Code) (contents : Contents) (parts : List Part) (store : Store) : Type 0 where
  pub count : length contents.roots ≡ length store
  pub numbered : IsPoints contents.made (numbers contents)
  pub shape : (place : ℕ) →
      shape_of (image_of contents (number_at contents place)) ≡ shape_of (get_or store place no_root)
  pub same : (place field point : ℕ) → point < length (column store place field) →
      read_at store place field point ≡ seen contents parts (number_at contents place) field point
  pub kept : (place field point : ℕ) → point < length (column store place field) →
      IsKept (kind_of code contents (number_at contents place) field) (read_at store place field point)
  pub fits : (root field point : ℕ) →
      FitsWidth (width_of (kind_of code contents root field)) (kept_at contents root field point)

-- what an instance has: what the roots hold, the parts that it holds, and what it needs, with the
-- points and as its frame tells
pub record Memory : Type 0 where
  pub contents : Contents
  pub parts : List Part
  pub needs : List Requirement
  pub items : List Need

abbrev pub memory_of : Instance → Memory
memory_of i = record {
  contents = i.contents;
  parts = i.parts;
  needs = i.needs;
  items = i.frame.needs.items;
}

-- that stands for a store, and the parts are those of the needs
pub record Holds (code : Code) (store : Store) (m : Memory) : Type 0 where
  pub stands : StandFor code m.contents m.parts store
  pub held : AreHeld code m.contents m.needs m.parts
  pub needed : AreNeeds m.contents m.needs m.items
