-- Types like those of partitions and of regions.
use Rattle.std.proofs.Common.{◌≡◌, ℕ, Bool, true, List, refl}
use Rattle.regent_tree.specs.StaticTypes.{Reach}
use Rattle.regent_tree.specs.declared.facts.Term.{Term}
use Rattle.regent_tree.specs.declared.types.Kind.{Kind}
use Rattle.regent_tree.specs.declared.typing.StaticType.{StaticType}
use Rattle.regent_tree.specs.declared.typing.StaticType.TheVariants.{Partition as partition_type, Region as region_type}
use Rattle.code_laws.specs.Pointers.{IsLike, like_partition, like_region}

-- one like a partition's is one of the same region, disjoint only where that is
pub record IsCutLike (u : StaticType) (d : Bool) (r p : ℕ) : Type 0 where
  pub flag : Bool
  pub is : u ≡ partition_type flag r p
  pub disjoint : flag ≡ true → d ≡ true

pub like_cut : (u : StaticType) (d : Bool) (r p : ℕ) → IsLike u (partition_type d r p) → IsCutLike u d r p
like_cut _ _ _ _ (like_partition c d r p h) = record { flag = c; is = refl; disjoint = h }

-- one like a region's is one of the same field space
pub record IsRootLike (u : StaticType) (sp : ℕ) (r : Term) : Type 0 where
  pub kind : Kind
  pub args : List Reach
  pub is : u ≡ region_type kind sp args r

pub like_root : (u : StaticType) (k : Kind) (sp : ℕ) (args : List Reach) (r : Term) → IsLike u (region_type k sp args r) → IsRootLike u sp r
like_root _ _ _ _ _ (like_region j k sp args brgs r) = record { kind = j; args = args; is = refl }
