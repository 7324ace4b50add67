-- What stands where a value, a parameter or an operand does, by its type: regions and partitions are told there.
use Rattle.std.proofs.Common.{◌≡◌, ℕ, Bool, List, false, true}
use Rattle.regent_tree.specs.StaticTypes.{Reach}
use Rattle.regent_tree.specs.Typing.{is_pointer}
use Rattle.regent_tree.specs.declared.facts.Known.{Known}
use Rattle.regent_tree.specs.declared.facts.Term.{Term}
use Rattle.regent_tree.specs.declared.types.Kind.{Kind}
use Rattle.regent_tree.specs.declared.typing.Bound.{Bound}
use Rattle.regent_tree.specs.declared.typing.StaticType.{StaticType}
use Rattle.regent_tree.specs.declared.typing.StaticType.TheVariants.{Index as index_type, Ispace as ispace_type, Partition as partition_type, Pointer as pointer_type, Region as region_type}
use Rattle.check_rules.specs.rules.Standing.{param_spot, stands}
use Rattle.check_rules.specs.rules.Types.{may_stand}
use Rattle.check_rules.specs.types.Fitting.{fits}
use Rattle.check_rules.specs.types.Sorts.{is_collection, is_integer, is_number, is_space, is_truth, may_be}
use Rattle.code_rules.specs.Slots.{Where}
use Rattle.code_laws.specs.Pointers.{GoesInto, IsPointer, Passes, PassesInto, a_pointer_type, passes_plain, fills_index, into_index, into_plain, into_space}
use Rattle.code_laws.specs.Simple.{IsPartition, IsRegion, IsScalar, a_partition_type, a_region_type, number_index, number_integer, scalar_integer, scalar_truth, simple_index, simple_integer, simple_space, simple_truth}
use Rattle.code_laws.proofs.Typing.{no_way, no_way_back}
use Rattle.code_laws.proofs.LocalValues.{IsValue, goals_aims, value_pointer, value_simple}

-- a region's or a partition's type
pub data IsCollection : StaticType → Type 0 where
  collects_region : (k : Kind) (sp : ℕ) (args : List Reach) (r : Term) → IsCollection (region_type k sp args r)
  collects_partition : (d : Bool) (r p : ℕ) → IsCollection (partition_type d r p)

-- is that of no number, truth, pointer or index space, and of no operand
pub collected_integer : (t : StaticType) → IsCollection t → may_be is_integer t ≡ true → ⊥
collected_integer _ (collects_region k sp args r) e = no_way_back e
collected_integer _ (collects_partition d r p) e = no_way_back e

pub collected_truth : (t : StaticType) → IsCollection t → may_be is_truth t ≡ true → ⊥
collected_truth _ (collects_region k sp args r) e = no_way_back e
collected_truth _ (collects_partition d r p) e = no_way_back e

pub collected_number : (t : StaticType) → IsCollection t → may_be is_number t ≡ true → ⊥
collected_number _ (collects_region k sp args r) e = no_way_back e
collected_number _ (collects_partition d r p) e = no_way_back e

pub collected_pointed : (t : StaticType) → IsCollection t → may_be is_pointer t ≡ true → ⊥
collected_pointed _ (collects_region k sp args r) e = no_way_back e
collected_pointed _ (collects_partition d r p) e = no_way_back e

pub collected_spaced : (t : StaticType) → IsCollection t → may_be is_space t ≡ true → ⊥
collected_spaced _ (collects_region k sp args r) e = no_way_back e
collected_spaced _ (collects_partition d r p) e = no_way_back e

pub collected_apart : (t : StaticType) → IsCollection t → is_collection t ≡ false → ⊥
collected_apart _ (collects_region k sp args r) e = no_way e
collected_apart _ (collects_partition d r p) e = no_way e

-- nor does it fit the type of a value
pub collected_value : (keeping : Bool) (bs : List Bound) (known : List Known) (t u : StaticType) → IsCollection t → IsValue keeping bs u →
    fits known t u ≡ true → ⊥
collected_value keeping bs known _ _ (collects_region k sp args r) (value_simple _ (simple_integer w)) e = no_way_back e
collected_value keeping bs known _ _ (collects_region k sp args r) (value_simple _ simple_truth) e = no_way_back e
collected_value keeping bs known _ _ (collects_region k sp args r) (value_simple _ (simple_space j)) e = no_way_back e
collected_value keeping bs known _ _ (collects_region k sp args r) (value_simple _ (simple_index j)) e = no_way_back e
collected_value keeping bs known _ _ (collects_region k sp args r) (value_pointer j sq brgs us h a) e = no_way_back e
collected_value keeping bs known _ _ (collects_partition d r p) (value_simple _ (simple_integer w)) e = no_way_back e
collected_value keeping bs known _ _ (collects_partition d r p) (value_simple _ simple_truth) e = no_way_back e
collected_value keeping bs known _ _ (collects_partition d r p) (value_simple _ (simple_space j)) e = no_way_back e
collected_value keeping bs known _ _ (collects_partition d r p) (value_simple _ (simple_index j)) e = no_way_back e
collected_value keeping bs known _ _ (collects_partition d r p) (value_pointer j sq brgs us h a) e = no_way_back e

-- and a value fits none of these
pub value_apart : (keeping : Bool) (bs : List Bound) (known : List Known) (t u : StaticType) → IsValue keeping bs t → IsCollection u →
    fits known t u ≡ true → ⊥
value_apart keeping bs known _ _ (value_simple _ (simple_integer w)) (collects_region k sp args r) e = no_way_back e
value_apart keeping bs known _ _ (value_simple _ simple_truth) (collects_region k sp args r) e = no_way_back e
value_apart keeping bs known _ _ (value_simple _ (simple_space j)) (collects_region k sp args r) e = no_way_back e
value_apart keeping bs known _ _ (value_simple _ (simple_index j)) (collects_region k sp args r) e = no_way_back e
value_apart keeping bs known _ _ (value_pointer j sq brgs us h a) (collects_region k sp args r) e = no_way_back e
value_apart keeping bs known _ _ (value_simple _ (simple_integer w)) (collects_partition d r p) e = no_way_back e
value_apart keeping bs known _ _ (value_simple _ simple_truth) (collects_partition d r p) e = no_way_back e
value_apart keeping bs known _ _ (value_simple _ (simple_space j)) (collects_partition d r p) e = no_way_back e
value_apart keeping bs known _ _ (value_simple _ (simple_index j)) (collects_partition d r p) e = no_way_back e
value_apart keeping bs known _ _ (value_pointer j sq brgs us h a) (collects_partition d r p) e = no_way_back e

module _ (w : Where) where
  -- no parameter that is a number, a truth, an index, an index space or a pointer takes a region or a partition
  pub collected_scalar : (t p : StaticType) → IsCollection t → IsScalar p → may_stand w.scope.known (stands t (param_spot p)) ≡ true → ⊥
  collected_scalar _ _ (collects_region k sp args r) (scalar_integer v) e = no_way_back e
  collected_scalar _ _ (collects_region k sp args r) scalar_truth e = no_way_back e
  collected_scalar _ _ (collects_partition d r q) (scalar_integer v) e = no_way_back e
  collected_scalar _ _ (collects_partition d r q) scalar_truth e = no_way_back e

  pub collected_index : (t : StaticType) (k : Kind) → IsCollection t → may_stand w.scope.known (stands t (param_spot (index_type k))) ≡ true → ⊥
  collected_index _ k (collects_region j sp args r) e = no_way_back e
  collected_index _ k (collects_partition d r q) e = no_way_back e

  pub collected_space : (t : StaticType) (k : Kind) → IsCollection t → may_stand w.scope.known (stands t (param_spot (ispace_type k))) ≡ true → ⊥
  collected_space _ k (collects_region j sp args r) e = no_way_back e
  collected_space _ k (collects_partition d r q) e = no_way_back e

  pub collected_pointer : (t : StaticType) (k : Kind) (sp : ℕ) (args rs : List Reach) → IsCollection t →
      may_stand w.scope.known (stands t (param_spot (pointer_type k sp args rs))) ≡ true → ⊥
  collected_pointer _ k sp args rs (collects_region j sq brgs r) e = no_way_back e
  collected_pointer _ k sp args rs (collects_partition d r q) e = no_way_back e

  -- one that is a region takes no partition, and the other way round
  pub cut_for_region : (t p : StaticType) → IsPartition t → IsRegion p → may_stand w.scope.known (stands t (param_spot p)) ≡ true → ⊥
  cut_for_region _ _ (a_partition_type d r q) (a_region_type k sp args u) e = no_way_back e

  pub region_for_cut : (t : StaticType) (d : Bool) (r p : ℕ) → IsRegion t → may_stand w.scope.known (stands t (param_spot (partition_type d r p))) ≡ true → ⊥
  region_for_cut _ d r p (a_region_type k sp args u) e = no_way_back e

  -- what goes into a parameter where pointers are kept
  abbrev pub FitsParam : Bool → StaticType → StaticType → Type 0
  FitsParam false t p = ⊥
  FitsParam true t p = GoesInto t p

  -- what an index takes
  pub index_param : (b : Bool) (t : StaticType) (k : Kind) → b ≡ true → IsValue b w.scope.names t →
      may_stand w.scope.known (stands t (param_spot (index_type k))) ≡ true → FitsParam b t (index_type k)
  index_param false t k q a e = absurd (no_way_back q)
  index_param true _ k q (value_simple _ (simple_integer v)) e = into_plain _ _ (fills_index _ k (number_integer v))
  index_param true _ k q (value_simple _ (simple_index j)) e = into_plain _ _ (fills_index _ k (number_index j))
  index_param true _ k q (value_simple _ simple_truth) e = absurd (no_way_back e)
  index_param true _ k q (value_simple _ (simple_space j)) e = absurd (no_way_back e)
  index_param true _ k q (value_pointer j sp args rs h r) e = into_index j sp args rs k

  -- and what an index space takes
  pub space_param : (b : Bool) (t : StaticType) (k : Kind) → b ≡ true → IsValue b w.scope.names t →
      may_stand w.scope.known (stands t (param_spot (ispace_type k))) ≡ true → FitsParam b t (ispace_type k)
  space_param false t k q a e = absurd (no_way_back q)
  space_param true _ k q (value_simple _ (simple_space j)) e = into_space j k
  space_param true _ k q (value_simple _ (simple_integer v)) e = absurd (no_way_back e)
  space_param true _ k q (value_simple _ (simple_index j)) e = absurd (no_way_back e)
  space_param true _ k q (value_simple _ simple_truth) e = absurd (no_way_back e)
  space_param true _ k q (value_pointer j sp args rs h r) e = absurd (no_way_back e)

  -- and what a pointer takes
  pub pointer_param : (b : Bool) (t : StaticType) (k : Kind) (sp : ℕ) (args rs : List Reach) → b ≡ true → IsValue b w.scope.names t →
      may_stand w.scope.known (stands t (param_spot (pointer_type k sp args rs))) ≡ true → IsPointer t
  pointer_param false t k sp args rs q a e = absurd (no_way_back q)
  pointer_param true _ k sp args rs q (value_pointer j sq brgs us h r) e = a_pointer_type j sq brgs us (goals_aims w.scope.names sq us r)
  pointer_param true _ k sp args rs q (value_simple _ (simple_integer v)) e = absurd (no_way_back e)
  pointer_param true _ k sp args rs q (value_simple _ (simple_index j)) e = absurd (no_way_back e)
  pointer_param true _ k sp args rs q (value_simple _ simple_truth) e = absurd (no_way_back e)
  pointer_param true _ k sp args rs q (value_simple _ (simple_space j)) e = absurd (no_way_back e)

  pub passes_into : (b : Bool) (t u p : StaticType) → b ≡ true → Passes t u p → PassesInto b t u p
  passes_into false t u p q a = absurd (no_way_back q)
  passes_into true t u p q a = a

  pub goes_passes : (b : Bool) (t p : StaticType) → b ≡ true → FitsParam b t p → PassesInto b t p p
  goes_passes false t p q a = absurd (no_way_back q)
  goes_passes true t p q a = passes_plain t p a

  -- only a partition is taken as one
  pub value_no_cut : (b : Bool) (t : StaticType) (d : Bool) (r p : ℕ) → IsValue b w.scope.names t →
      may_stand w.scope.known (stands t (param_spot (partition_type d r p))) ≡ true → ⊥
  value_no_cut b _ d r p (value_pointer j sq brgs us h q) e = no_way_back e
  value_no_cut b _ d r p (value_simple _ (simple_integer v)) e = no_way_back e
  value_no_cut b _ d r p (value_simple _ (simple_index j)) e = no_way_back e
  value_no_cut b _ d r p (value_simple _ simple_truth) e = no_way_back e
  value_no_cut b _ d r p (value_simple _ (simple_space j)) e = no_way_back e
