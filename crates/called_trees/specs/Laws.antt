-- What a yield of calls leaves.
use Rattle.std.specs.Prelude.{◌≡◌, List}
use Rattle.machine_terms.specs.declared.outcome.CallOut.{CallOut}
use Rattle.machine_terms.specs.declared.outcome.Yield.{Yield}
use Rattle.machine_terms.specs.declared.outcome.Yield.TheVariants as yield
use Rattle.changed_trees.specs.Given.{YieldsOpen}

abbrev pub IsCalls : Yield → Type 0
IsCalls y = (cs : List CallOut) × (y ≡ yield.Calls cs)

-- The calls up to the first that can't be made are issued on the table as in the tree: their children come behind the others,
-- and begin or are dropped. Where there is such a one, the caller is broken on both.
abbrev pub CallsOpen : Type 0
CallsOpen = YieldsOpen IsCalls
