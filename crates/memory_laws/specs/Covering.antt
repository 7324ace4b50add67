-- Laws of touches that stay covered: all that a test lets pass.
use Rattle.std.specs.Prelude.{◌≡◌, ◌<◌, ℕ, [], ◌∷◌, ◌++◌, Bool, true, length}
use Rattle.regent_tree.specs.Laws.{SameRoots}
use Rattle.regent_tree.specs.Store.{Store, Touch, column, new_root}
use Rattle.task_code.specs.declared.code.Code.{Code}
use Rattle.machine_terms.specs.declared.order.Instance.{Instance}
use Rattle.machine_terms.specs.Contents.{kinds_of}
use Rattle.machine_terms.specs.Makes.{make_root}
use Rattle.memory_laws.specs.Memory.{Memory, memory_of, Holds}
use Rattle.memory_laws.specs.Places.{numbers}
use Rattle.memory_laws.specs.Touches.{IsCovered}

-- those of points that are there
abbrev pub AreCovered : (Touch → Bool) → Store → Memory → Type 0
AreCovered passes store m = (t : Touch) → passes t ≡ true →
    t.point < length (column store t.root t.field) → IsCovered m.contents m.needs t

-- They stay covered where roots keep their numbers and shapes, whatever is kept, held or given back.
abbrev pub CoveredStays : Type 0
CoveredStays = (code : Code) (store after : Store) (m n : Memory) (passes : Touch → Bool) →
    Holds code store m → numbers n.contents ≡ numbers m.contents → n.needs ≡ m.needs →
    SameRoots store after → AreCovered passes store m → AreCovered passes after n

-- Where a root is made, each touch of it is covered too.
abbrev pub MadeCovers : Type 0
MadeCovers = (code : Code) (store : Store) (i : Instance) (size space : ℕ) (passes : Touch → Bool) →
    Holds code store (memory_of i) → AreCovered passes store (memory_of i) →
    AreCovered passes (store ++ new_root space size (kinds_of code space) ∷ [])
    (memory_of (make_root code size space i))
