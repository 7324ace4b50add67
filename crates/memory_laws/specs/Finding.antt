-- Laws of what a covered touch finds.
use Rattle.std.specs.Prelude.{◌≡◌, ◌≢◌, ◌⊎◌, ℕ, ℤ, Some, None}
use Rattle.lane_kernels.specs.declared.numbers.FieldKind.{FieldKind}
use Rattle.lane_kernels.specs.declared.numbers.Mode.{Mode}
use Rattle.lane_kernels.specs.declared.numbers.Mode.TheVariants as mode
use Rattle.lane_kernels.specs.declared.numbers.Width.{Width}
use Rattle.regent_tree.specs.Store.{Store, Touch, read_at}
use Rattle.task_code.specs.declared.code.Code.{Code}
use Rattle.machine_terms.specs.declared.order.Instance.{Instance}
use Rattle.machine_terms.specs.Contents.{kind_of}
use Rattle.machine_terms.specs.Orders.{fetch_part}
use Rattle.machine_terms.specs.Parts.{Cell, part_of, missing, found, find}
use Rattle.machine_terms.specs.Pointers.{written}
use Rattle.memory_laws.specs.Memory.{Memory, memory_of, Holds}
use Rattle.memory_laws.specs.Places.{number_at}
use Rattle.memory_laws.specs.Touches.{Covers, IsCovered}

-- the field's part isn't held
abbrev pub IsMissing : Memory → ℕ → ℕ → ℕ → Type 0
IsMissing m root field point =
    (find m.items m.parts root field point ≡ missing) × (part_of m.parts root field ≡ None)

-- there is a cell, of the field's kind, whose mode allows the access
pub record IsFound (code : Code) (m : Memory) (access : Mode) (root field point : ℕ) : Type 0 where
  pub kind : FieldKind
  pub cell : Cell
  pub finds : find m.items m.parts root field point ≡ found kind cell
  pub kind_is : kind ≡ kind_of code m.contents root field
  pub allows : Covers access (Some cell.mode)

-- Never a refusal.
abbrev pub CoveredIsFound : Type 0
CoveredIsFound = (code : Code) (store : Store) (m : Memory) (t : Touch) → Holds code store m →
    IsCovered m.contents m.needs t →
    IsMissing m (number_at m.contents t.root) t.field t.point
    ⊎ IsFound code m t.access (number_at m.contents t.root) t.field t.point

-- Behind the fetch it is there.
abbrev pub FetchedIsFound : Type 0
FetchedIsFound = (code : Code) (store : Store) (i : Instance) (t : Touch) →
    Holds code store (memory_of i) → IsCovered i.contents i.needs t →
    part_of i.parts (number_at i.contents t.root) t.field ≡ None →
    IsFound code (memory_of (fetch_part code (number_at i.contents t.root) t.field i)) t.access
    (number_at i.contents t.root) t.field t.point

-- A number that may be read is the store's.
abbrev pub FoundIsRead : Type 0
FoundIsRead = (code : Code) (store : Store) (m : Memory) (place field point : ℕ) (kind : FieldKind)
    (c : Cell) → Holds code store m →
    find m.items m.parts (number_at m.contents place) field point ≡ found kind c →
    Covers mode.Read (Some c.mode) → c.value ≡ read_at store place field point

-- Another access sets a number.
abbrev pub AllowedIsWritten : Type 0
AllowedIsWritten = (access held : Mode) (w : Width) (old z : ℤ) → Covers access (Some held) →
    access ≢ mode.Read → (y : ℤ) × (written access held w old z ≡ Some y)
