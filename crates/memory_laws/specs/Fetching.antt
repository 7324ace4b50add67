-- Laws of a part that is fetched, as a Want asks.
use Rattle.std.specs.Prelude.{◌≡◌, ℕ, ◌<◌, None, length}
use Rattle.regent_tree.specs.Store.{Store}
use Rattle.task_code.specs.declared.code.Code.{Code}
use Rattle.machine_terms.specs.declared.order.Instance.{Instance}
use Rattle.machine_terms.specs.Orders.{fetch_part}
use Rattle.machine_terms.specs.Parts.{part_of}
use Rattle.memory_laws.specs.Memory.{memory_of, Holds}
use Rattle.memory_laws.specs.Places.{number_at}
use Rattle.memory_laws.specs.Seen.{seen}

-- Nothing that is seen changes: a reduction's piece has identities.
abbrev pub FetchedChangesNothing : Type 0
FetchedChangesNothing = (code : Code) (store : Store) (i : Instance) (root field : ℕ) →
    Holds code store (memory_of i) → (r f p : ℕ) →
    seen i.contents (fetch_part code root field i).parts r f p ≡ seen i.contents i.parts r f p

-- The part is one that may be held.
abbrev pub FetchedHolds : Type 0
FetchedHolds = (code : Code) (store : Store) (i : Instance) (place field : ℕ) →
    Holds code store (memory_of i) → place < length store →
    part_of i.parts (number_at i.contents place) field ≡ None →
    Holds code store (memory_of (fetch_part code (number_at i.contents place) field i))
