-- Rule 3, Type: an expression's type doesn't fit its place, or an operator's operands aren't as it
-- takes them.
use Rattle.std.specs.List.{list_any}
use Rattle.std.specs.Prelude.{Bool, List, false, is_none, not, true, ◌&&◌, ◌||◌}
use Rattle.regent_tree.specs.Operators.{comparison}
use Rattle.regent_tree.specs.StaticTypes.{task_named}
use Rattle.regent_tree.specs.declared.typing.StaticType.{StaticType}
use Rattle.regent_tree.specs.declared.typing.StaticType.TheVariants.{Index as index_type}
use Rattle.regent_tree.specs.Syntax.{Tree}
use Rattle.regent_tree.specs.Typing.{are_pointers, counting_as, is_pointer}
use Rattle.regent_tree.specs.declared.expression.Comparison.{Comparison}
use Rattle.regent_tree.specs.declared.expression.Comparison.TheVariants.{Equal, NotEqual}
use Rattle.regent_tree.specs.declared.expression.Operator.{Operator}
use Rattle.regent_tree.specs.declared.expression.Operator.TheVariants.{Compare, Compute}
use Rattle.regent_tree.specs.declared.facts.Known.{Known}
use Rattle.check_rules.specs.types.Fitting.{fits, fits_param}
use Rattle.regent_tree.specs.Lookup.{has_task}
use Rattle.check_rules.specs.types.TypedForms.{Calling, Computing, TypedForm, Taking, typed_access, typed_call, typed_chain, element_of, field_of}
use Rattle.check_rules.specs.types.Sorts.{is_integer, is_number, is_partition, is_region, is_space, is_truth, may_be, same_kind}
use Rattle.check_rules.specs.rules.Standing.{Spot, Standing, domain_spot, integer_spot, number_spot, param_spot, pointer_spot, space_spot, standing_in, truth_spot, typed_spot, value_spot}

-- ---- operators

-- integers widen, an index goes with an integer or an index of its own kind, and a pointer counts
-- as an index; what is unknown goes with everything
abbrev pub computes_with : StaticType → StaticType → Bool
computes_with (index_type k) (index_type j) = same_kind k j
computes_with t u = may_be is_number t && may_be is_number u

-- order is between integers and indices, and a pointer counts as an index beside one of these
abbrev pub has_order_with : StaticType → StaticType → Bool
has_order_with t u = may_be is_number t && may_be is_number u && not (are_pointers t u)

-- equality is between these too, and between two truths or two pointers
abbrev pub has_equality_with : StaticType → StaticType → Bool
has_equality_with t u =
    (may_be is_number t && may_be is_number u) || (may_be is_truth t && may_be is_truth u)

abbrev pub compares_with : Comparison → StaticType → StaticType → Bool
compares_with Equal t u = has_equality_with t u
compares_with NotEqual t u = has_equality_with t u
compares_with comparison t u = has_order_with t u

-- `and` and `or` take truths
abbrev pub operates_on : Operator → StaticType → StaticType → Bool
operates_on (Compute o) t u = computes_with (counting_as t) (counting_as u)
operates_on (Compare c) t u = compares_with c t u
operates_on connective t u = may_be is_truth t && may_be is_truth u

-- the operands aren't as the operator takes them
abbrev pub is_ill_typed_operation : Computing → Bool
is_ill_typed_operation c = not (operates_on c.operator c.left c.right)

-- ---- accesses

-- a field is taken of what is no pointer and no partition, an element of what is no region and no
-- partition
abbrev pub is_ill_typed_step : Taking → Bool
is_ill_typed_step (field_of t f) = not (may_be (λ u. is_pointer u || is_partition u) t)
is_ill_typed_step (element_of t e) = not (may_be (λ u. is_region u || is_partition u) t)

-- ---- places

-- whether a type may stand at a place
abbrev pub may_stand : List Known → Standing → Bool
may_stand known s = may_stand_at known s.type s.spot
  where
    may_stand_at : List Known → StaticType → Spot → Bool
    may_stand_at known t integer_spot = may_be is_integer t
    may_stand_at known t truth_spot = may_be is_truth t
    may_stand_at known t number_spot = may_be is_number t
    may_stand_at known t pointer_spot = may_be is_pointer t
    may_stand_at known t value_spot = true
    may_stand_at known t space_spot = may_be is_space t
    may_stand_at known t domain_spot = may_be (λ u. is_region u || is_space u) t
    may_stand_at known t (typed_spot wanted) = fits known t wanted
    may_stand_at known t (param_spot wanted) = fits_param known t wanted

abbrev pub is_ill_typed_at_place : List Known → Standing → Bool
is_ill_typed_at_place known s = not (may_stand known s)

-- ---- expressions

abbrev pub has_no_result : Tree → Calling → Bool
has_no_result tree c = has_task tree c.task && is_none (task_named tree c.task).result

abbrev pub mistypes_itself : Tree → TypedForm → Bool
mistypes_itself tree (typed_chain cs) = list_any is_ill_typed_operation cs
mistypes_itself tree (typed_call c) = has_no_result tree c
mistypes_itself tree (typed_access n taken) = list_any is_ill_typed_step taken
mistypes_itself tree typed_form = false

-- an operator's operands aren't as it takes them, or a part doesn't fit its place
abbrev pub mistypes : Tree → List Known → TypedForm → Bool
mistypes tree known typed_form =
    mistypes_itself tree typed_form || list_any (is_ill_typed_at_place known) (standing_in tree typed_form)
