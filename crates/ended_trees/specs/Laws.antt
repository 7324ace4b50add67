-- What is left where a segment ends its operation's own work.
use Rattle.std.specs.Prelude.{◌≡◌, ℤ, Option}
use Rattle.regent_tree.specs.declared.outcome.Fault.{Fault}
use Rattle.machine_terms.specs.declared.outcome.Yield.{Yield}
use Rattle.machine_terms.specs.declared.outcome.Yield.TheVariants as yield
use Rattle.changed_trees.specs.Given.{YieldsOpen}

abbrev pub IsEnd : Yield → Type 0
IsEnd y = (v : Option ℤ) × (y ≡ yield.End v)

abbrev pub IsFault : Yield → Type 0
IsFault y = (x : Fault) × (y ≡ yield.Fault x)

abbrev pub IsMachineFault : Yield → Type 0
IsMachineFault y = y ≡ yield.MachineFault

-- it came to its end, with a value or none: its parts go back
abbrev pub EndsOpen : Type 0
EndsOpen = YieldsOpen IsEnd

-- it faulted: its parts are dropped
abbrev pub FaultsOpen : Type 0
FaultsOpen = YieldsOpen IsFault

-- its code did what no compiled program does: it is broken
abbrev pub MachineFaultsOpen : Type 0
MachineFaultsOpen = YieldsOpen IsMachineFault
