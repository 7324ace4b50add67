-- Laws of an instance's own roots, which are closed behind it.
use Rattle.std.specs.Prelude.{◌≡◌, ℕ, List, [], ◌++◌, length, map, take}
use Rattle.region_tree.specs.declared.tree.RootId.{RootId}
use Rattle.regent_tree.specs.declared.outcome.Ending.TheVariants.{Finished}
use Rattle.regent_tree.specs.Laws.{SameRoots}
use Rattle.regent_tree.specs.Store.{Store}
use Rattle.task_code.specs.declared.code.Code.{Code}
use Rattle.machine_terms.specs.declared.order.Contents.{Contents}
use Rattle.machine_terms.specs.declared.order.Instance.{Instance}
use Rattle.machine_terms.specs.Contents.{closed}
use Rattle.machine_terms.specs.Jobs.{images_of}
use Rattle.memory_laws.specs.Memory.{StandFor, memory_of, Holds}
use Rattle.memory_laws.specs.Places.{numbers}

-- an instance's own roots come behind those that were there before it, which are given by their numbers
abbrev pub AreOwn : List ℕ → List RootId → Contents → Type 0
AreOwn before own contents = numbers contents ≡ before ++ map (λ (id : RootId). id.0) own

-- Where the own roots are closed, the others stand for the store without the last ones, and have the
-- numbers that they had before.
abbrev pub ClosedStands : Type 0
ClosedStands = (code : Code) (store : Store) (contents : Contents) (before : List ℕ)
    (own : List RootId) → StandFor code contents [] store → AreOwn before own contents →
    StandFor code (closed own contents) [] (take (length before) store)
    × (numbers (closed own contents) ≡ before)

-- So the caller, which held no parts, has the store that the call leaves, where that keeps the shapes
-- of roots.
abbrev pub ReturnedHolds : Type 0
ReturnedHolds = (code : Code) (store after : Store) (i : Instance) (contents : Contents)
    (own : List RootId) → Holds code store (memory_of i) → i.parts ≡ [] →
    StandFor code contents [] after → AreOwn (numbers i.contents) own contents →
    SameRoots store (take (length store) after) →
    Holds code (take (length store) after) (memory_of (record i { contents = closed own contents }))

-- At the end of the first task what its roots hold is the store.
abbrev pub EndsWithStore : Type 0
EndsWithStore = (code : Code) (store : Store) (contents : Contents) (own : List RootId) →
    StandFor code contents [] store → AreOwn [] own contents → images_of own contents ≡ Finished store
