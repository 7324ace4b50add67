-- One step of an access, and one further member of a chain, as the code sees them.
use Rattle.std.specs.Option.{option_or}
use Rattle.std.specs.Prelude.{Option}
use Rattle.regent_tree.specs.Plain.{expression_of}
use Rattle.regent_tree.specs.Scopes.{Scope}
use Rattle.regent_tree.specs.Syntax.{TaskTree, Tree}
use Rattle.regent_tree.specs.Typing.{type_of_element, type_of_field}
use Rattle.regent_tree.specs.declared.expression.Link.{Link}
use Rattle.regent_tree.specs.declared.expression.Step.{At, Field, Step}
use Rattle.regent_tree.specs.declared.typing.StaticType.{StaticType}
use Rattle.check_rules.specs.first.FirstInExpressions.{first_in_expression, first_of_operator, first_of_step}
use Rattle.check_rules.specs.types.KnownTypes.{known_type, known_type_after_step}
use Rattle.check_rules.specs.types.TypedForms.{Computing, computing, element_of, field_of}
use Rattle.check_rules.specs.declared.rule.Rule.{Rule}

-- ---- steps of accesses

abbrev pub known_type_after : Tree → Scope → StaticType → Step → StaticType
known_type_after tree s t (Field f) = known_type_after_step tree (field_of t f) (type_of_field tree t f)
known_type_after tree s t (At e) =
    known_type_after_step tree (element_of t (known_type tree s (expression_of e)))
    (type_of_element s t (expression_of e))

abbrev pub first_at_step : Tree → TaskTree → Scope → StaticType → Step → Option Rule
first_at_step tree task s t (Field f) = first_of_step tree task s (field_of t f)
first_at_step tree task s t (At e) =
    option_or (first_in_expression tree task s (expression_of e))
    (first_of_step tree task s (element_of t (known_type tree s (expression_of e))))

-- ---- members of chains

abbrev pub computing_at : Tree → Scope → StaticType → Link → Computing
computing_at tree s t l = computing l.operator t (known_type tree s (expression_of l.operand))

abbrev pub first_at_link : Tree → TaskTree → Scope → StaticType → Link → Option Rule
first_at_link tree task s t l =
    option_or (first_in_expression tree task s (expression_of l.operand))
    (first_of_operator (computing_at tree s t l))
