-- The report of a source over memory.
use Rattle.std.specs.Prelude.{ℕ, List}
use Rattle.run_io.specs.Faults.{one_more}
use Rattle.run_io.specs.Source.{next_left, after_next, with_name}

-- the bytes left now, those that each later begin will make available, the number of begins, and
-- the names of the first two
pub record Told : Type 0 where
  pub left : List ℕ
  pub later : List (List ℕ)
  pub begins : ℕ
  pub names : List (List ℕ)

-- after a begin by this name that failed: it counts, with its name
abbrev pub counted : List ℕ → Told → Told
counted name told = record told { begins = one_more told.begins; names = with_name name told.names }

-- after a begin by this name that succeeded: it counts, and makes available what was promised
abbrev pub begun : List ℕ → Told → Told
begun name told = record (counted name told) { left = next_left told.later; later = after_next told.later }
