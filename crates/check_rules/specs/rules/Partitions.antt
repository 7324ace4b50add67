-- Rule 15, Partition: what a partition operation names doesn't lie where it must, or a partition
-- isn't as a parameter asks.
use Rattle.std.specs.List.{list_any}
use Rattle.std.specs.Prelude.{Bool, List, None, Option, Some, [], cond, false, not, true, ℕ, ◌&&◌, ◌==◌, ◌||◌, ◌∷◌}
use Rattle.regent_tree.specs.Facts.{is_name, is_subregion}
use Rattle.regent_tree.specs.Scopes.{Scope, bound_to}
use Rattle.regent_tree.specs.declared.typing.Bound.{Bound}
use Rattle.regent_tree.specs.Initializers.{colours}
use Rattle.regent_tree.specs.declared.typing.StaticType.{StaticType}
use Rattle.regent_tree.specs.declared.typing.StaticType.TheVariants.{Partition as partition_type, Region as region_type}
use Rattle.regent_tree.specs.Syntax.{Expression, Name, Initializer, Tree, a_link, access_expr, both_initializer, by_field_initializer, chain_expr, either_initializer, equal_initializer, image_initializer, no_link, no_step, plain_initializer, preimage_initializer}
use Rattle.regent_tree.specs.Typing.{is_pointer}
use Rattle.regent_tree.specs.declared.expression.Arithmetic.TheVariants.{Subtract}
use Rattle.regent_tree.specs.declared.expression.Operator.TheVariants.{Compute}
use Rattle.regent_tree.specs.declared.facts.Known.{Known}
use Rattle.regent_tree.specs.declared.facts.Term.TheVariants as term
use Rattle.regent_tree.specs.declared.types.TypeTerm.{TypeTerm}
use Rattle.regent_tree.specs.declared.types.TypeTerm.TheVariants as typed
use Rattle.check_rules.specs.types.Declarations.{known_field}
use Rattle.regent_tree.specs.Lookup.{type_named}
use Rattle.check_rules.specs.types.Lookup.{names_a}
use Rattle.check_rules.specs.types.TypedForms.{Calling}
use Rattle.check_rules.specs.types.Sorts.{is_index, is_integer, is_partition, is_region, is_unknown_type, is_unstructured, may_be, type_at}

-- ---- types

-- the colours of a partition type are an index space of kind `ptr`
abbrev pub is_unstructured_name : List Bound → Option Name → Bool
is_unstructured_name names None = false
is_unstructured_name names (Some n) = is_unstructured (type_named names n)

abbrev pub miscolours_in_type : List Bound → TypeTerm → Bool
miscolours_in_type names (typed.Partition d r colours) = is_unstructured_name names colours
miscolours_in_type names t = false

-- ---- calls

-- a region that an argument is, by the number of a partition's parent
abbrev pub is_parent : ℕ → StaticType → Bool
is_parent parent (region_type k s args t) = is_name parent t
is_parent parent t = is_unknown_type t

-- a partition argument is aliased for a disjoint parameter, or its parent isn't the argument for
-- the region of the parameter
abbrev pub mispartitions : List StaticType → StaticType → StaticType → Bool
mispartitions types (partition_type asked r own) (partition_type d parent p) =
    (asked && not d) || not (is_parent parent (type_at types r))
mispartitions types wanted t = false

abbrev pub mispartition_in : List StaticType → List StaticType → List StaticType → Bool
mispartition_in types [] ts = false
mispartition_in types (p ∷ ps) [] = false
mispartition_in types (p ∷ ps) (t ∷ ts) =
    mispartitions types p t || mispartition_in types ps ts

abbrev pub mispartitions_call : List StaticType → Calling → Bool
mispartitions_call params c = mispartition_in c.args params c.args

-- ---- initializers

-- two names of partitions, as far as is known; a name that isn't bound may be one
abbrev pub may_be_partitions : List Bound → Name → Name → Bool
may_be_partitions names p q =
    may_be is_partition (type_named names p) && may_be is_partition (type_named names q)

-- the difference of two partitions: two bare names with one `-`, as the whole of an initializer
abbrev pub is_difference : List Bound → Expression → Bool
is_difference names (chain_expr (access_expr p no_step)
    (a_link (Compute Subtract) (access_expr q no_step) no_link)) = may_be_partitions names p q
is_difference names e = false

-- the two partitions of a set operation
abbrev pub operands_of : List Bound → Initializer → List (Name × Name)
operands_of names (both_initializer p q) = (p, q) ∷ []
operands_of names (either_initializer p q) = (p, q) ∷ []
operands_of names (plain_initializer (chain_expr (access_expr p no_step)
    (a_link (Compute Subtract) (access_expr q no_step) no_link))) =
    cond (may_be_partitions names p q) ((p, q) ∷ []) []
operands_of names initializer = []

-- a field that tells colours is an integer or index, one that tells points an index or pointer
abbrev pub tells_colours : StaticType → Bool
tells_colours t = may_be (λ u. is_integer u || is_index u) t

abbrev pub tells_points : StaticType → Bool
tells_points t = may_be (λ u. is_index u || is_pointer u) t

-- a region with a number doesn't derivably lie within one of a type
abbrev pub is_outside : List Known → ℕ → StaticType → Bool
is_outside known a (region_type k s args r) = not (is_subregion known (term.Name a) r)
is_outside known a t = false

abbrev pub parent_is_outside : List Known → StaticType → StaticType → Bool
parent_is_outside known (partition_type d parent p) t = is_outside known parent t
parent_is_outside known u t = false

abbrev pub have_other_parents : StaticType → StaticType → Bool
have_other_parents (partition_type d r p) (partition_type e s q) = not (r == s)
have_other_parents t u = false

-- an `image` where the partition's parent isn't within the field's region, a `preimage` where the
-- new partition's isn't, a set operation of partitions with different parents, a field of another
-- type
abbrev pub mispartitions_initializer : Tree → Scope → Initializer → Bool
mispartitions_initializer tree s (by_field_initializer r f e) =
    not (tells_colours (known_field tree (type_named s.names r) f))
mispartitions_initializer tree s (image_initializer parent p r f) =
    parent_is_outside s.known (type_named s.names p) (type_named s.names r)
    || not (tells_points (known_field tree (type_named s.names r) f))
mispartitions_initializer tree s (preimage_initializer parent p r f) =
    (names_a is_region s.names parent && not (is_unknown_type (type_named s.names parent))
    && is_outside s.known (bound_to s.names parent).number (type_named s.names r))
    || not (tells_points (known_field tree (type_named s.names r) f))
mispartitions_initializer tree s initializer = list_any
    (λ (pq : Name × Name).
    have_other_parents (type_named s.names pq.0) (type_named s.names pq.1))
    (operands_of s.names initializer)

-- the colours of a partition, whose type is among these, are an index space of kind `ptr`
abbrev pub has_colours : Initializer → Bool
has_colours (equal_initializer r e) = true
has_colours (by_field_initializer r f e) = true
has_colours initializer = false

abbrev pub miscolours_initializer : Initializer → List StaticType → Bool
miscolours_initializer initializer types = has_colours initializer && list_any is_unstructured types
