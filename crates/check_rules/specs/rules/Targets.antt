-- Rule 6, Target: what is assigned can't be. It is neither a field nor a variable that may change,
-- which a loop's, a parameter and a collection may not. What is reduced is no integer.
use Rattle.std.specs.Prelude.{Bool, List, false, length, nat_lt, not, true, ◌&&◌, ◌||◌}
use Rattle.regent_tree.specs.Scopes.{Scope, bound_to}
use Rattle.regent_tree.specs.declared.typing.Bound.{Bound}
use Rattle.regent_tree.specs.declared.typing.StaticType.{StaticType}
use Rattle.regent_tree.specs.Syntax.{Form, Name, Steps, TaskTree, Tree, access_expr, assign_form, at_step, field_step, no_step}
use Rattle.regent_tree.specs.declared.statement.How.{How}
use Rattle.regent_tree.specs.declared.statement.How.TheVariants as how
use Rattle.check_rules.specs.types.KnownTypes.{known_type}
use Rattle.regent_tree.specs.Lookup.{is_bound}
use Rattle.check_rules.specs.types.Sorts.{is_collection, is_integer, is_space, may_be}

-- whether a name can't be assigned; parameters are the first bindings of a task
abbrev pub is_fixed : TaskTree → Bound → Bool
is_fixed t b = b.by_loop || nat_lt b.number (length t.params) || is_collection b.static_type

-- whether an access ends in `[e]`
abbrev pub ends_in_element : Steps → Bool
ends_in_element no_step = false
ends_in_element (at_step e no_step) = true
ends_in_element (field_step f rest) = ends_in_element rest
ends_in_element (at_step e rest) = ends_in_element rest

-- an access ends in an element, whatever else is wrong with it, or in the colours of a partition
abbrev pub ends_in_no_place : Steps → StaticType → Bool
ends_in_no_place steps t = ends_in_element steps || is_space t

abbrev pub is_no_target : TaskTree → List Bound → Name → Steps → StaticType → Bool
is_no_target task names n no_step t = is_bound names n && is_fixed task (bound_to names n)
is_no_target task names n steps t = ends_in_no_place steps t

abbrev pub is_no_integer : How → StaticType → Bool
is_no_integer how.Set t = false
is_no_integer (how.Reduce o) t = not (may_be is_integer t)

-- a target that is an access of this type breaches the rule
abbrev pub mistargets : TaskTree → List Bound → Name → Steps → How → StaticType → Bool
mistargets task names n steps h t =
    is_no_target task names n steps t || is_no_integer h t

abbrev pub mistargets_form : Tree → TaskTree → Scope → Form → Bool
mistargets_form tree task s (assign_form n steps h e) =
    mistargets task s.names n steps h (known_type tree s (access_expr n steps))
mistargets_form tree task s form = false
