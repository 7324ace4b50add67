-- Laws of parts that go back: before children run, and at the end of an instance.
use Rattle.std.specs.Prelude.{◌≡◌, ℕ, List, [], map}
use Rattle.region_tree.specs.declared.piece.Part.{Part}
use Rattle.regent_tree.specs.Store.{Store}
use Rattle.task_code.specs.declared.code.Code.{Code}
use Rattle.machine_terms.specs.declared.order.Contents.{Contents}
use Rattle.machine_terms.specs.declared.order.Instance.{Instance}
use Rattle.machine_terms.specs.declared.order.Root.{Root}
use Rattle.machine_terms.specs.Contents.{kept_at}
use Rattle.machine_terms.specs.Copies.{give_parts}
use Rattle.machine_terms.specs.Orders.{give_all}
use Rattle.memory_laws.specs.Memory.{StandFor, Memory, memory_of, Holds}
use Rattle.memory_laws.specs.Places.{numbers}
use Rattle.memory_laws.specs.Seen.{seen}

-- The roots then hold at each point what was seen there.
abbrev pub GivenIsSeen : Type 0
GivenIsSeen = (code : Code) (store : Store) (m : Memory) → Holds code store m → (root field point : ℕ) →
    kept_at (give_parts m.parts m.contents) root field point ≡ seen m.contents m.parts root field point

-- They have their numbers.
abbrev pub GivenKeepsNumbers : Type 0
GivenKeepsNumbers = (parts : List Part) (contents : Contents) →
    (numbers (give_parts parts contents) ≡ numbers contents)
    × ((give_parts parts contents).made ≡ contents.made)

-- They alone stand for the store, and so does the instance without parts.
abbrev pub GivenStands : Type 0
GivenStands = (code : Code) (store : Store) (m : Memory) → Holds code store m →
    StandFor code (give_parts m.parts m.contents) [] store

abbrev pub GivenHolds : Type 0
GivenHolds = (code : Code) (store : Store) (i : Instance) → Holds code store (memory_of i) →
    Holds code store (memory_of (give_all i))

-- What stands for a store alone is the store: root by root the same numbers.
abbrev pub AloneIsTheStore : Type 0
AloneIsTheStore = (code : Code) (store : Store) (contents : Contents) → StandFor code contents [] store →
    map (λ (r : Root). r.image) contents.roots ≡ store
