-- What parameters and fields are declared as, where there may be breaches: a type with a breach is
-- unknown.
use Rattle.std.specs.List.{list_any}
use Rattle.std.specs.Prelude.{Bool, List, None, Option, Some, false, not, true, ℕ, ◌||◌}
use Rattle.regent_tree.specs.declared.typing.Bound.{Bound}
use Rattle.regent_tree.specs.StaticTypes.{field_place, field_type, space_at, task_named}
use Rattle.regent_tree.specs.declared.typing.StaticType.{StaticType}
use Rattle.regent_tree.specs.declared.typing.StaticType.TheVariants.{Region as region_type, Unknown as unknown_type}
use Rattle.regent_tree.specs.Syntax.{Name, Tree}
use Rattle.regent_tree.specs.declared.types.Param.{Param}
use Rattle.regent_tree.specs.declared.types.Ref.{Ref}
use Rattle.regent_tree.specs.declared.types.Ref.TheVariants.{Named, Wild}
use Rattle.regent_tree.specs.declared.types.TypeTerm.{TypeTerm}
use Rattle.regent_tree.specs.declared.types.TypeTerm.TheVariants as typed
use Rattle.regent_tree.specs.Lookup.{has_field, type_named}
use Rattle.check_rules.specs.rules.Pointers.{wrong_region_in_type}
use Rattle.check_rules.specs.types.Sorts.{is_unknown_type}
use Rattle.check_rules.specs.rules.Spaces.{misfits_in_type}
use Rattle.check_rules.specs.types.Params.{params_beside, says_no_type, term_at, type_unless, types_in_order, with_unknown}

-- ---- types

-- a name in the type is bound to what has an unknown type
abbrev pub is_unknown_ref : List Bound → Ref → Bool
is_unknown_ref names Wild = false
is_unknown_ref names (Named n) = is_unknown_type (type_named names n)

abbrev pub names_unknown : List Bound → TypeTerm → Bool
names_unknown names (typed.Pointer t) =
    list_any (is_unknown_ref names) t.space.args || list_any (is_unknown_ref names) t.regions
names_unknown names (typed.Region k u) = list_any (is_unknown_ref names) u.args
names_unknown names (typed.Partition d r c) = is_unknown_type (type_named names r)
names_unknown names t = false

-- the type has a breach, or depends on what is unknown: what it says is taken for unknown
abbrev pub is_flawed_type : Tree → List Bound → TypeTerm → Bool
is_flawed_type tree names t =
    says_no_type tree names t || wrong_region_in_type tree names t || misfits_in_type tree names t
    || names_unknown names t

-- ---- parameters

-- the names of a list of parameters, where a type with a breach is unknown
abbrev pub params_bound : Tree → List Param → List Bound
params_bound tree params = let names = params_beside tree params in
    with_unknown (is_flawed_type tree names) params names

-- the types of a task's parameters
abbrev pub params_of : Tree → Name → List StaticType
params_of tree task = types_in_order (params_bound tree (task_named tree task).params)

-- ---- fields

-- the type isn't a number type, a truth or a pointer
abbrev pub is_no_field_type : TypeTerm → Bool
is_no_field_type (typed.Ispace k) = true
is_no_field_type (typed.Region k u) = true
is_no_field_type (typed.Partition d r c) = true
is_no_field_type t = false

-- a field whose declared type has a breach
abbrev pub is_flawed_field : Tree → ℕ → Name → Bool
is_flawed_field tree s f =
    let space = space_at tree s in
    let t = term_at space.fields (field_place tree s f) in
    is_no_field_type t || is_flawed_type tree (params_beside tree space.params) t

-- the type of a field of a region, where its declaration has no breach
abbrev pub known_field : Tree → StaticType → Name → StaticType
known_field tree (region_type k s args r) f = type_unless
    (not (has_field tree s f) || is_flawed_field tree s f) (field_type tree s args f)
known_field tree t f = unknown_type

-- ---- results

-- the result type of a task has a breach
abbrev pub is_value_term : TypeTerm → Bool
is_value_term (typed.Number t) = true
is_value_term typed.Truth = true
is_value_term t = false

abbrev pub is_no_result_type : Option TypeTerm → Bool
is_no_result_type None = false
is_no_result_type (Some t) = not (is_value_term t)
