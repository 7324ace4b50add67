-- What sort of thing a static type is of.
use Rattle.std.specs.Prelude.{Bool, List, false, get_or, true, ℕ, ◌||◌}
use Rattle.regent_tree.specs.declared.typing.StaticType.{StaticType}
use Rattle.regent_tree.specs.declared.typing.StaticType.TheVariants.{Index as index_type, Integer as integer_type, Ispace as ispace_type, Partition as partition_type, Region as region_type, Truth as truth_type, Unknown as unknown_type}
use Rattle.regent_tree.specs.Typing.{is_pointer}
use Rattle.regent_tree.specs.declared.types.Kind.{Kind}
use Rattle.regent_tree.specs.declared.types.Kind.TheVariants.{Int1d, Ptr}

abbrev pub is_unknown_type : StaticType → Bool
is_unknown_type unknown_type = true
is_unknown_type _ = false

abbrev pub is_integer : StaticType → Bool
is_integer (integer_type w) = true
is_integer _ = false

abbrev pub is_truth : StaticType → Bool
is_truth truth_type = true
is_truth _ = false

abbrev pub is_index : StaticType → Bool
is_index (index_type k) = true
is_index _ = false

abbrev pub is_region : StaticType → Bool
is_region (region_type k s args r) = true
is_region _ = false

abbrev pub is_partition : StaticType → Bool
is_partition (partition_type d r p) = true
is_partition _ = false

abbrev pub is_space : StaticType → Bool
is_space (ispace_type k) = true
is_space _ = false

-- an integer, an index, or a pointer, which stands for its point number
abbrev pub is_number : StaticType → Bool
is_number t = is_integer t || is_index t || is_pointer t

-- a region, a partition or an index space: what has no place among values
abbrev pub is_collection : StaticType → Bool
is_collection t = is_region t || is_partition t || is_space t

-- of this sort, or unknown: what is unknown is taken for anything
abbrev pub may_be : (StaticType → Bool) → StaticType → Bool
may_be sort t = is_unknown_type t || sort t

abbrev pub same_kind : Kind → Kind → Bool
same_kind Int1d Int1d = true
same_kind Ptr Ptr = true
same_kind _ _ = false

-- an index space of unstructured points
abbrev pub is_unstructured : StaticType → Bool
is_unstructured (ispace_type Ptr) = true
is_unstructured _ = false

-- the type of an argument, a parameter or an operand at a place; where there is none, it is unknown
abbrev pub type_at : List StaticType → ℕ → StaticType
type_at types i = get_or types i unknown_type
