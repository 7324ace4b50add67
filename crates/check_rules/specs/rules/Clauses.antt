-- Rule 16, Declared: what a clause names is no parameter that is a region, or no field of that region.
use Rattle.std.specs.List.{list_all, list_any}
use Rattle.std.specs.Prelude.{Bool, List, None, Option, Some, false, filter, not, ◌||◌}
use Rattle.regent_tree.specs.declared.typing.Bound.{Bound}
use Rattle.regent_tree.specs.declared.typing.StaticType.{StaticType}
use Rattle.regent_tree.specs.Syntax.{ItemForm, Name, TaskTree, Tree, task_item}
use Rattle.regent_tree.specs.declared.program.Clause.{Clause}
use Rattle.regent_tree.specs.declared.program.Clause.TheVariants as clause
use Rattle.regent_tree.specs.declared.program.Place.{Place}
use Rattle.check_rules.specs.types.Declarations.{params_bound}
use Rattle.regent_tree.specs.Lookup.{type_named}
use Rattle.check_rules.specs.types.Lookup.{names_a, region_has}
use Rattle.check_rules.specs.types.Sorts.{is_region}

abbrev pub is_no_region : List Bound → Name → Bool
is_no_region names n = not (names_a is_region names n)

abbrev pub lacks_fields : Tree → StaticType → Option (List Name) → Bool
lacks_fields tree t None = false
lacks_fields tree t (Some fs) = not (list_all (region_has tree t) fs)

abbrev pub misdeclares_place : Tree → List Bound → Place → Bool
misdeclares_place tree names p = is_no_region names p.region
    || lacks_fields tree (type_named names p.region) p.fields

abbrev pub misdeclares : Tree → List Bound → Clause → Bool
misdeclares tree names (clause.Grants grants places) =
    list_any (misdeclares_place tree names) places
misdeclares tree names (clause.Within a b) = is_no_region names a || is_no_region names b
misdeclares tree names (clause.Apart a b) = is_no_region names a || is_no_region names b

-- the clauses of a task that name what is there
abbrev pub clauses_told : Tree → TaskTree → List Clause
clauses_told tree t = filter (λ c. not (misdeclares tree (params_bound tree t.params) c)) t.clauses

abbrev pub misdeclares_item : Tree → ItemForm → Bool
misdeclares_item tree (task_item t) =
    list_any (misdeclares tree (params_bound tree t.params)) t.clauses
misdeclares_item tree form = false
