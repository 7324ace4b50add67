-- What a segment that makes a root or a partition leaves.
use Rattle.std.specs.Prelude.{◌≡◌, ℕ, Bool, List}
use Rattle.machine_terms.specs.declared.outcome.Made.TheVariants as made
use Rattle.machine_terms.specs.declared.outcome.Yield.{Yield}
use Rattle.machine_terms.specs.declared.outcome.Yield.TheVariants as yield
use Rattle.machine_terms.specs.declared.value.RegionValue.{RegionValue}
use Rattle.changed_trees.specs.Given.{YieldsOpen}

abbrev pub MakesRoot : Yield → Type 0
MakesRoot y = (size : ℕ) × (space : ℕ) × (y ≡ yield.Make (made.Root size space))

abbrev pub MakesPartition : Yield → Type 0
MakesPartition y = (r : RegionValue) × (sets : List (List ℕ)) × (disjoint : Bool) × (y ≡ yield.Make (made.Partition r sets disjoint))

abbrev pub RootsOpen : Type 0
RootsOpen = YieldsOpen MakesRoot

abbrev pub PartitionsOpen : Type 0
PartitionsOpen = YieldsOpen MakesPartition
