-- Types that are no partition's and no region's.
use Rattle.regent_tree.specs.declared.typing.StaticType.{StaticType}
use Rattle.regent_tree.specs.declared.typing.StaticType.TheVariants.{Partition as partition_type, Region as region_type}
use Rattle.code_laws.specs.Simple.{a_partition_type, IsPartition, simple_index, simple_integer, simple_space, simple_truth}
use Rattle.sound_code.proofs.Wholes.{IsWorth, worth_pointer, worth_simple}

abbrev pub IsNoCut : StaticType → Type 0
IsNoCut (partition_type d r p) = ⊥
IsNoCut (region_type k sp args r) = ⊥
IsNoCut t = Unit {0}

pub worth_no_partition : (t : StaticType) → IsWorth t → IsNoCut t
worth_no_partition _ (worth_simple _ (simple_integer w)) = tt
worth_no_partition _ (worth_simple _ simple_truth) = tt
worth_no_partition _ (worth_simple _ (simple_index k)) = tt
worth_no_partition _ (worth_simple _ (simple_space k)) = tt
worth_no_partition _ (worth_pointer k sp args rs few) = tt

pub worth_no_cut : (t : StaticType) → IsWorth t → IsPartition t → ⊥
worth_no_cut _ h (a_partition_type d r p) = worth_no_partition (partition_type d r p) h
