-- Rule 1, Name: a name is used that stands for nothing, or for something else than is needed there.
use Rattle.std.specs.List.{list_any}
use Rattle.std.specs.Prelude.{Bool, List, None, Option, Some, false, not, ◌&&◌, ◌||◌}
use Rattle.regent_tree.specs.declared.typing.Bound.{Bound}
use Rattle.regent_tree.specs.Initializers.{colours}
use Rattle.regent_tree.specs.declared.typing.StaticType.TheVariants.{Partition as partition_type, Pointer as pointer_type}
use Rattle.regent_tree.specs.Syntax.{Form, Name, Initializer, Tree, both_initializer, by_field_initializer, call_form, either_initializer, equal_initializer, fill_form, image_initializer, preimage_initializer, print_form}
use Rattle.regent_tree.specs.declared.types.Ref.{Ref}
use Rattle.regent_tree.specs.declared.types.Ref.TheVariants.{Named, Wild}
use Rattle.regent_tree.specs.declared.types.SpaceUse.{SpaceUse}
use Rattle.regent_tree.specs.declared.types.TypeTerm.{TypeTerm}
use Rattle.regent_tree.specs.declared.types.TypeTerm.TheVariants as typed
use Rattle.regent_tree.specs.Lookup.{has_alias, has_field, has_space, has_task, is_bound, type_named}
use Rattle.check_rules.specs.types.Lookup.{is_colors, names_a, region_has}
use Rattle.check_rules.specs.types.TypedForms.{Calling, TypedForm, Taking, typed_access, typed_call, field_of}
use Rattle.check_rules.specs.types.Sorts.{is_partition, is_region, is_space}

-- ---- types

-- a region's name is bound to a region; `wild` is none
abbrev pub misses_region : List Bound → Ref → Bool
misses_region names Wild = false
misses_region names (Named n) = not (names_a is_region names n)

abbrev pub unbound_name_in_use : Tree → List Bound → SpaceUse → Bool
unbound_name_in_use tree names u =
    not (has_space tree u.name) || list_any (misses_region names) u.args

abbrev pub misses_space : List Bound → Option Name → Bool
misses_space names None = false
misses_space names (Some n) = not (names_a is_space names n)

-- a name in the type stands for nothing of the kind that is needed there
abbrev pub unbound_name_in_type : Tree → List Bound → TypeTerm → Bool
unbound_name_in_type tree names (typed.Pointer t) =
    unbound_name_in_use tree names t.space || list_any (misses_region names) t.regions
unbound_name_in_type tree names (typed.Region k u) = unbound_name_in_use tree names u
unbound_name_in_type tree names (typed.Partition d r colours) =
    not (names_a is_region names r) || misses_space names colours
unbound_name_in_type tree names t = false

-- ---- expressions

-- a field that its space hasn't, or of a partition anything but its colours
abbrev pub is_unknown_field : Tree → Taking → Bool
is_unknown_field tree (field_of (pointer_type k s args regions) f) = not (has_field tree s f)
is_unknown_field tree (field_of (partition_type d r p) f) = not (is_colors f)
is_unknown_field tree taking = false

abbrev pub is_unknown_task : Tree → Calling → Bool
is_unknown_task tree c = not (has_task tree c.task)

abbrev pub has_unbound_name : Tree → List Bound → TypedForm → Bool
has_unbound_name tree names (typed_access n taken) =
    not (is_bound names n) || list_any (is_unknown_field tree) taken
has_unbound_name tree names (typed_call c) = is_unknown_task tree c
has_unbound_name tree names typed_form = false

-- ---- initializers

abbrev pub are_partitions : List Bound → Name → Name → Bool
are_partitions names p q = names_a is_partition names p && names_a is_partition names q

-- `r.f`, where r is no region or has no such field
abbrev pub is_unknown_region_field : Tree → List Bound → Name → Name → Bool
is_unknown_region_field tree names r f =
    not (names_a is_region names r) || not (region_has tree (type_named names r) f)

-- the names of a partition operation are of a region or a partition, as its form says

abbrev pub unbound_name_in_initializer : Tree → List Bound → Initializer → Bool
unbound_name_in_initializer tree names (equal_initializer r e) = not (names_a is_region names r)
unbound_name_in_initializer tree names (by_field_initializer r f e) = is_unknown_region_field tree names r f
unbound_name_in_initializer tree names (image_initializer parent p r f) = not (names_a is_region names parent)
    || not (names_a is_partition names p) || is_unknown_region_field tree names r f
unbound_name_in_initializer tree names (preimage_initializer parent p r f) = not (names_a is_region names parent)
    || not (names_a is_partition names p) || is_unknown_region_field tree names r f
unbound_name_in_initializer tree names (both_initializer p q) = not (are_partitions names p q)
unbound_name_in_initializer tree names (either_initializer p q) = not (are_partitions names p q)
unbound_name_in_initializer tree names initializer = false

-- ---- statements

abbrev pub misses_alias : Tree → Option Name → Bool
misses_alias tree None = false
misses_alias tree (Some c) = not (has_alias tree c)

-- `fill` names a region and fields of it, a `printf` an alias, a call a task
abbrev pub unbound_name_in_form : Tree → List Bound → Form → Bool
unbound_name_in_form tree names (fill_form r fields e) = not (names_a is_region names r)
    || list_any (is_unknown_region_field tree names r) fields
unbound_name_in_form tree names (print_form alias format args) = misses_alias tree alias
unbound_name_in_form tree names (call_form task args) = not (has_task tree task)
unbound_name_in_form tree names form = false
