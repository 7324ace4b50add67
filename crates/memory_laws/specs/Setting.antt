-- Laws of a cell whose number is set.
use Rattle.std.specs.Prelude.{◌≡◌, ℕ, ℤ, List, Some, cond}
use Rattle.lane_kernels.specs.declared.numbers.FieldKind.{FieldKind}
use Rattle.lane_kernels.specs.declared.numbers.Mode.{Mode}
use Rattle.lane_kernels.specs.Numbers.{width_of}
use Rattle.region_tree.specs.declared.piece.Part.{Part}
use Rattle.regent_tree.specs.Store.{Store, read_at, write_at}
use Rattle.task_code.specs.declared.code.Code.{Code}
use Rattle.machine_terms.specs.declared.order.Contents.{Contents}
use Rattle.machine_terms.specs.Contents.{kept_at}
use Rattle.machine_terms.specs.Parts.{Cell, cell_at, part_of, set_part, found, find}
use Rattle.machine_terms.specs.Pointers.{written}
use Rattle.memory_laws.specs.Memory.{IsKept, Memory, Holds}
use Rattle.memory_laws.specs.Places.{is_same, number_at}
use Rattle.memory_laws.specs.Seen.{seen_value, seen}
use Rattle.memory_laws.specs.Touches.{changed}

-- What is seen changes at the cell's point, by the cell's mode, and nowhere else.
abbrev pub SetCellsShow : Type 0
SetCellsShow =
    (contents : Contents) (parts : List Part) (q : Part) (c : Cell) (root field point : ℕ) (y : ℤ) →
    part_of parts root field ≡ Some q → cell_at q.pieces point ≡ Some c →
    (r f p : ℕ) → seen contents (set_part parts root field point y) r f p
    ≡ cond (is_same root field point r f p)
    (seen_value q.kind c.mode (kept_at contents root field point) y) (seen contents parts r f p)

-- Where the machine sets a cell, what is held stands for the store behind the access: with the number
-- that was written, or with the number folded in at the field's width.
abbrev pub SetCellsHold : Type 0
SetCellsHold =
    (code : Code) (store : Store) (m : Memory) (access : Mode) (place field point : ℕ) (kind : FieldKind)
    (c : Cell) (z y : ℤ) → Holds code store m →
    find m.items m.parts (number_at m.contents place) field point ≡ found kind c →
    written access c.mode (width_of kind) c.value z ≡ Some y →
    IsKept kind (changed access (width_of kind) (read_at store place field point) z) →
    Holds code
    (write_at store place field point (changed access (width_of kind) (read_at store place field point) z))
    (record m { parts = set_part m.parts (number_at m.contents place) field point y })
