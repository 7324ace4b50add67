-- The first rule that an expression breaches, in the order in which the checker goes: the parts from
-- left to right, and then what they stand in. That it is one of those that the tree breaches, and
-- that there is one where there are some, is a law.
use Rattle.std.specs.Option.{option_or}
use Rattle.std.specs.Prelude.{List, None, Option, [], not, ◌||◌, ◌∷◌}
use Rattle.regent_tree.specs.Lookup.{is_bound, type_named}
use Rattle.regent_tree.specs.Scopes.{Scope}
use Rattle.regent_tree.specs.Syntax.{Expression, Expressions, Links, Name, Steps, TaskTree, Tree, a_link, access_expr, an_expr, at_step, call_expr, cast_expr, chain_expr, convert_expr, field_step, is_null_expr, no_expr, no_link, no_step, null_expr, number_expr, prefix_expr, space_expr, truth_expr}
use Rattle.regent_tree.specs.Typing.{type_of_element, type_of_field}
use Rattle.regent_tree.specs.declared.expression.Sign.{Sign}
use Rattle.regent_tree.specs.declared.facts.Known.{Known}
use Rattle.regent_tree.specs.declared.rights.Access.TheVariants.{Read}
use Rattle.regent_tree.specs.declared.types.TypeTerm.{TypeTerm}
use Rattle.regent_tree.specs.declared.types.TypeTerm.TheVariants as typed
use Rattle.regent_tree.specs.declared.typing.Bound.{Bound}
use Rattle.regent_tree.specs.declared.typing.StaticType.{StaticType}
use Rattle.check_rules.specs.rules.Constraints.{breaks_constraint}
use Rattle.check_rules.specs.rules.Counts.{miscounts_call, miscounts_in_type}
use Rattle.check_rules.specs.types.Declarations.{params_of}
use Rattle.check_rules.specs.types.KnownTypes.{known_type, known_types, known_type_after_operator, known_type_after_signs, known_type_after_step}
use Rattle.check_rules.specs.rules.Names.{is_unknown_field, unbound_name_in_type, is_unknown_task}
use Rattle.check_rules.specs.rules.Partitions.{miscolours_in_type, mispartitions_call}
use Rattle.check_rules.specs.rules.Places.{misplaces}
use Rattle.check_rules.specs.rules.Pointers.{wrong_region_in_type, takes_of_wild}
use Rattle.check_rules.specs.rules.Privileges.{lacks, wanted_by_call, wanted_of_step}
use Rattle.check_rules.specs.first.Rules.{first_in, first_of, rule_if}
use Rattle.check_rules.specs.types.TypedForms.{Calling, Computing, Taking, calling, computing, element_of, field_of}
use Rattle.check_rules.specs.types.Sorts.{is_collection}
use Rattle.check_rules.specs.rules.Spaces.{misfits_call, misfits_in_type}
use Rattle.check_rules.specs.rules.Standing.{Standing, integer_spot, number_spot, pointer_spot, spot_of_sign, standing_in_call, standing_in_step, stands}
use Rattle.check_rules.specs.rules.Types.{has_no_result, is_ill_typed_operation, is_ill_typed_at_place, is_ill_typed_step}
use Rattle.check_rules.specs.declared.rule.Rule.{Rule}
use Rattle.check_rules.specs.declared.rule.Rule.TheVariants as rule

-- ---- a written type, and what stands somewhere

abbrev pub first_in_type : Tree → List Bound → TypeTerm → Option Rule
first_in_type tree names t = first_of (rule_if (unbound_name_in_type tree names t) rule.Name
    ∷ rule_if (miscounts_in_type tree t) rule.Count
    ∷ rule_if (wrong_region_in_type tree names t) rule.Pointer
    ∷ rule_if (misfits_in_type tree names t) rule.Spaces
    ∷ rule_if (miscolours_in_type names t) rule.Partition
    ∷ [])

abbrev pub first_of_standing : List Known → Standing → Option Rule
first_of_standing known s =
    first_of (rule_if (misplaces s) rule.Place ∷ rule_if (is_ill_typed_at_place known s) rule.Type ∷ [])

-- ---- parts of expressions

abbrev pub first_of_operator : Computing → Option Rule
first_of_operator c =
    first_of (rule_if (is_collection c.left || is_collection c.right) rule.Place
    ∷ rule_if (is_ill_typed_operation c) rule.Type
    ∷ [])

-- prefixes, the outermost first; the innermost is looked at first
abbrev pub first_of_signs : List Sign → StaticType → Option Rule
first_of_signs [] t = None
first_of_signs (sign ∷ signs) t = option_or (first_of_signs signs t)
    (first_of_standing [] (stands (known_type_after_signs signs t) (spot_of_sign sign)))

-- a step of an access, but for the reading of a field
abbrev pub first_of_taking : Tree → Taking → Option Rule
first_of_taking tree taking = first_of (rule_if (is_unknown_field tree taking) rule.Name
    ∷ rule_if (is_ill_typed_step taking) rule.Type
    ∷ first_in (first_of_standing []) (standing_in_step taking)
    ∷ rule_if (takes_of_wild taking) rule.Pointer
    ∷ [])

abbrev pub first_of_reading : Tree → TaskTree → Scope → Taking → Option Rule
first_of_reading tree task s taking =
    rule_if (lacks tree task s (wanted_of_step tree Read taking)) rule.Read

abbrev pub first_of_step : Tree → TaskTree → Scope → Taking → Option Rule
first_of_step tree task s taking =
    option_or (first_of_taking tree taking) (first_of_reading tree task s taking)

-- a call, whether it stands alone or in an expression
abbrev pub first_of_call : Tree → TaskTree → Scope → Calling → Option Rule
first_of_call tree task s c = let params = params_of tree c.task in
    first_of (rule_if (is_unknown_task tree c) rule.Name
    ∷ rule_if (miscounts_call tree c) rule.Count
    ∷ first_in (first_of_standing s.known) (standing_in_call tree c)
    ∷ rule_if (misfits_call params c) rule.Spaces
    ∷ rule_if (mispartitions_call params c) rule.Partition
    ∷ rule_if (lacks tree task s (wanted_by_call tree c)) rule.CallPrivilege
    ∷ rule_if (breaks_constraint tree s.known c) rule.CallConstraint
    ∷ [])

-- ---- expressions

abbrev mutual
  pub first_in_expression : Tree → TaskTree → Scope → Expression → Option Rule
  first_in_expression tree task s (number_expr z w) = None
  first_in_expression tree task s (truth_expr b) = None
  first_in_expression tree task s (chain_expr first rest) =
      option_or (first_in_expression tree task s first)
      (first_in_links tree task s (known_type tree s first) rest)
  first_in_expression tree task s (prefix_expr signs e) =
      option_or (first_in_expression tree task s e) (first_of_signs signs (known_type tree s e))
  first_in_expression tree task s (call_expr t args) =
      let c = calling t (known_types tree s args) in
      option_or (first_in_args tree task s args)
      (option_or (first_of_call tree task s c) (rule_if (has_no_result tree c) rule.Type))
  first_in_expression tree task s (access_expr n steps) =
      option_or (rule_if (not (is_bound s.names n)) rule.Name)
      (first_in_steps tree task s (type_named s.names n) steps)
  first_in_expression tree task s (convert_expr t e) =
      option_or (first_in_expression tree task s e)
      (first_of_standing [] (stands (known_type tree s e) number_spot))
  first_in_expression tree task s (is_null_expr e) =
      option_or (first_in_expression tree task s e)
      (first_of_standing [] (stands (known_type tree s e) pointer_spot))
  first_in_expression tree task s (null_expr p) = first_in_type tree s.names (typed.Pointer p)
  first_in_expression tree task s (cast_expr p e) =
      option_or (first_in_expression tree task s e)
      (option_or (first_of_standing [] (stands (known_type tree s e) number_spot))
      (first_in_type tree s.names (typed.Pointer p)))
  first_in_expression tree task s (space_expr k e) =
      option_or (first_in_expression tree task s e)
      (first_of_standing [] (stands (known_type tree s e) integer_spot))

  -- behind the first member of a chain, from the type of what stands on the left
  pub first_in_links : Tree → TaskTree → Scope → StaticType → Links → Option Rule
  first_in_links tree task s t no_link = None
  first_in_links tree task s t (a_link o e rest) =
      let c = computing o t (known_type tree s e) in
      option_or (first_in_expression tree task s e) (option_or (first_of_operator c)
      (first_in_links tree task s (known_type_after_operator c) rest))

  pub first_in_args : Tree → TaskTree → Scope → Expressions → Option Rule
  first_in_args tree task s no_expr = None
  first_in_args tree task s (an_expr e es) =
      option_or (first_in_expression tree task s e) (first_in_args tree task s es)

  -- the steps of an access, from the type of what it begins with
  pub first_in_steps : Tree → TaskTree → Scope → StaticType → Steps → Option Rule
  first_in_steps tree task s t no_step = None
  first_in_steps tree task s t (field_step f rest) =
      let taking = field_of t f in
      option_or (first_of_step tree task s taking) (first_in_steps tree task s
      (known_type_after_step tree taking (type_of_field tree t f)) rest)
  first_in_steps tree task s t (at_step e rest) =
      let taking = element_of t (known_type tree s e) in
      option_or (first_in_expression tree task s e) (option_or (first_of_step tree task s taking)
      (first_in_steps tree task s (known_type_after_step tree taking (type_of_element s t e)) rest))

-- the steps of a target: a field that is assigned or reduced is not read
abbrev pub first_in_target_steps : Tree → TaskTree → Scope → StaticType → Steps → Option Rule
first_in_target_steps tree task s t no_step = None
first_in_target_steps tree task s t (field_step f no_step) = first_of_taking tree (field_of t f)
first_in_target_steps tree task s t (field_step f rest) =
    let taking = field_of t f in
    option_or (first_of_step tree task s taking) (first_in_target_steps tree task s
    (known_type_after_step tree taking (type_of_field tree t f)) rest)
first_in_target_steps tree task s t (at_step e rest) =
    let taking = element_of t (known_type tree s e) in
    option_or (first_in_expression tree task s e) (option_or (first_of_step tree task s taking)
    (first_in_target_steps tree task s
    (known_type_after_step tree taking (type_of_element s t e)) rest))

abbrev pub first_in_target : Tree → TaskTree → Scope → Name → Steps → Option Rule
first_in_target tree task s n steps = option_or (rule_if (not (is_bound s.names n)) rule.Name)
    (first_in_target_steps tree task s (type_named s.names n) steps)
