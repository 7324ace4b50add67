-- What a yield leaves: a want, a wait for a child, a root or a partition that is made.
use Rattle.std.specs.Prelude.{◌≡◌, ℕ}
use Rattle.region_tree.specs.declared.tree.RootId.{RootId}
use Rattle.machine_terms.specs.declared.outcome.Yield.{Yield}
use Rattle.machine_terms.specs.declared.outcome.Yield.TheVariants as yield
use Rattle.changed_trees.specs.Given.{YieldsOpen}

abbrev pub IsWant : Yield → Type 0
IsWant y = (root : RootId) × (field : ℕ) × (y ≡ yield.Want root field)

abbrev pub IsAwait : Yield → Type 0
IsAwait y = (n : ℕ) × (y ≡ yield.Await n)

abbrev pub WantsOpen : Type 0
WantsOpen = YieldsOpen IsWant

abbrev pub AwaitsOpen : Type 0
AwaitsOpen = YieldsOpen IsAwait
