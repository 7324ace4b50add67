-- Laws of a root that is made.
use Rattle.std.specs.Prelude.{◌≡◌, ℕ, List, [], ◌∷◌, ◌++◌, length}
use Rattle.regent_tree.specs.Store.{Store, new_root}
use Rattle.task_code.specs.declared.code.Code.{Code}
use Rattle.machine_terms.specs.declared.order.Instance.{Instance}
use Rattle.machine_terms.specs.Contents.{kinds_of}
use Rattle.machine_terms.specs.Makes.{make_root}
use Rattle.memory_laws.specs.Closing.{AreOwn}
use Rattle.memory_laws.specs.Memory.{memory_of, Holds}
use Rattle.memory_laws.specs.Places.{numbers, number_at}

-- The store has one root more, of zeros; parts that are held stay.
abbrev pub MadeHolds : Type 0
MadeHolds = (code : Code) (store : Store) (i : Instance) (size space : ℕ) → Holds code store (memory_of i) →
    Holds code (store ++ new_root space size (kinds_of code space) ∷ [])
    (memory_of (make_root code size space i))

-- The root's number is how many were made before it, and comes behind the others; so the root is one of
-- the instance's own.
abbrev pub MadeIsNumbered : Type 0
MadeIsNumbered = (code : Code) (store : Store) (i : Instance) (size space : ℕ) →
    Holds code store (memory_of i) →
    (number_at (make_root code size space i).contents (length store) ≡ i.contents.made)
    × (numbers (make_root code size space i).contents ≡ numbers i.contents ++ i.contents.made ∷ [])

abbrev pub MadeIsOwn : Type 0
MadeIsOwn = (code : Code) (i : Instance) (size space : ℕ) (before : List ℕ) →
    AreOwn before i.frame.own i.contents →
    AreOwn before (make_root code size space i).frame.own (make_root code size space i).contents
