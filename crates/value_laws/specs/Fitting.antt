-- When a value fits a static type.
use Rattle.std.specs.List.{All}
use Rattle.std.specs.Prelude.{Bool, List, false, get_or, length, ℕ, ℤ, ◌≡◌, ◌≤◌, ◌⊎◌}
use Rattle.lane_kernels.specs.Numbers.{FitsWidth}
use Rattle.lane_kernels.specs.declared.numbers.Width.{Width}
use Rattle.lane_kernels.specs.declared.numbers.Width.TheVariants.{W64}
use Rattle.regent_tree.specs.Accesses.{space_in}
use Rattle.regent_tree.specs.Laws.{Shape}
use Rattle.regent_tree.specs.Scopes.{bound_as}
use Rattle.regent_tree.specs.StaticTypes.{Reach}
use Rattle.regent_tree.specs.Values.{Partition, Region, Target, Value, a_number, a_partition, a_pointer, a_region, a_space, a_truth, an_index, no_region, partition_of, region_of}
use Rattle.regent_tree.specs.declared.facts.Term.{Term}
use Rattle.regent_tree.specs.declared.facts.Term.TheVariants.{Name}
use Rattle.regent_tree.specs.declared.types.Kind.{Kind}
use Rattle.regent_tree.specs.declared.typing.Bound.{Bound}
use Rattle.regent_tree.specs.declared.typing.StaticType.{StaticType}
use Rattle.regent_tree.specs.declared.typing.StaticType.TheVariants.{Index as index_type, Integer as integer_type, Ispace as ispace_type, Nothing as no_type, Partition as partition_type, Pointer as pointer_type, Region as region_type, Truth as truth_type, Unknown as unknown_type}
use Rattle.value_laws.specs.Shapes.{IsPartitionOf, IsPosition, IsRegionOf, most_points}

-- a pointer goes with regions of its field space; `wild` has none
abbrev pub IsGoal : List Shape → ℕ → Region → Type 0
IsGoal roots space r = (r ≡ no_region) ⊎ IsRegionOf roots space r

-- the field space of the region with a number
abbrev pub space_bound : List Bound → ℕ → ℕ
space_bound names i = space_in (bound_as names i).static_type

-- A value is of the kind that a type says. A number fits its width, and an index 64 bits; a pointer has a
-- position of its list; a region or partition is one of a root with the type's field space, which of a
-- partition is its parent's. What a call without a result gives may be anything.
pub data Fits (roots : List Shape) (names : List Bound) : StaticType → Value → Type 0 where
  fits_integer : {w : Width} {z : ℤ} → FitsWidth w z → Fits roots names (integer_type w) (a_number w z)
  fits_truth : {b : Bool} → Fits roots names truth_type (a_truth b)
  fits_index : {k : Kind} {z : ℤ} → FitsWidth W64 z → Fits roots names (index_type k) (an_index z)
  fits_pointer : {k : Kind} {space : ℕ} {args terms : List Reach} {t : Target} {rs : List Region} →
      IsPosition (length terms) t → All (IsGoal roots space) rs →
      Fits roots names (pointer_type k space args terms) (a_pointer t rs)
  fits_space : {k : Kind} {n : ℕ} → n ≤ most_points → Fits roots names (ispace_type k) (a_space n)
  fits_region : {k : Kind} {space : ℕ} {args : List Reach} {t : Term} {r : Region} →
      IsRegionOf roots space r → Fits roots names (region_type k space args t) (a_region r)
  fits_partition : {d : Bool} {parent own : ℕ} {p : Partition} → IsPartitionOf roots (space_bound names parent) d p →
      Fits roots names (partition_type d parent own) (a_partition p)
  fits_nothing : {v : Value} → Fits roots names no_type v
  fits_unknown : {v : Value} → Fits roots names unknown_type v

-- each name's value fits its type
abbrev pub NamesFit : List Shape → List Bound → List Value → Type 0
NamesFit roots names vs = (i : ℕ) →
    Fits roots names (bound_as names i).static_type (get_or vs (bound_as names i).place (a_truth false))

-- ---- roots

-- the root of the region with a number
abbrev pub root_bound : List Bound → List Value → ℕ → ℕ
root_bound names vs i = (region_of (get_or vs (bound_as names i).place (a_truth false))).root

-- a partition is of its parent's root, and a region that has a name is of the root of the region with that name
abbrev pub HasRootOfName : List Bound → List Value → StaticType → Value → Type 0
HasRootOfName names vs (partition_type d parent own) v = (partition_of v).root ≡ root_bound names vs parent
HasRootOfName names vs (region_type k space args (Name i)) v = (region_of v).root ≡ root_bound names vs i
HasRootOfName names vs t v = Unit {0}

-- each name's value is so
abbrev pub RootsAgree : List Bound → List Value → Type 0
RootsAgree names vs = (i : ℕ) →
    HasRootOfName names vs (bound_as names i).static_type (get_or vs (bound_as names i).place (a_truth false))
