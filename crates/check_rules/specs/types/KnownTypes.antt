-- The types of expressions where there may be breaches: an expression with a breach, or one whose
-- type depends on what is unknown, has an unknown type. All others have the types that the meaning
-- of programs gives them.
use Rattle.std.specs.List.{list_any}
use Rattle.std.specs.Prelude.{Bool, List, [], not, ◌||◌, ◌∷◌}
use Rattle.regent_tree.specs.Lookup.{type_named}
use Rattle.regent_tree.specs.Scopes.{Scope, in_scope}
use Rattle.regent_tree.specs.StaticTypes.{number_type, task_named, written_pointer}
use Rattle.regent_tree.specs.Syntax.{Expression, Expressions, Links, Steps, Tree, a_link, access_expr, an_expr, at_step, call_expr, cast_expr, chain_expr, convert_expr, field_step, is_null_expr, no_expr, no_link, no_step, null_expr, number_expr, prefix_expr, space_expr, truth_expr}
use Rattle.regent_tree.specs.Typing.{counting_as, is_pointer, operated, result_type, type_of_element, type_of_field}
use Rattle.regent_tree.specs.declared.expression.Sign.{Sign}
use Rattle.regent_tree.specs.declared.expression.Sign.TheVariants.{Minus, Not}
use Rattle.regent_tree.specs.declared.facts.Known.{Known}
use Rattle.regent_tree.specs.declared.types.TypeTerm.TheVariants as typed
use Rattle.regent_tree.specs.declared.typing.StaticType.{StaticType}
use Rattle.regent_tree.specs.declared.typing.StaticType.TheVariants.{Integer as integer_type, Ispace as ispace_type, Pointer as pointer_type, Truth as truth_type}
use Rattle.check_rules.specs.rules.Counts.{miscounts_call}
use Rattle.check_rules.specs.types.Declarations.{is_flawed_field, is_flawed_type, is_no_result_type, params_of}
use Rattle.check_rules.specs.types.Params.{type_unless}
use Rattle.check_rules.specs.rules.Names.{is_unknown_field, is_unknown_task}
use Rattle.check_rules.specs.rules.Partitions.{mispartitions_call}
use Rattle.check_rules.specs.rules.Pointers.{takes_of_wild}
use Rattle.check_rules.specs.types.TypedForms.{Calling, Computing, TypedForm, Signing, Taking, typed_access, typed_call, calling, typed_cast, typed_chain, computing, typed_constant, typed_convert, element_of, field_of, typed_is_null, typed_null, typed_prefix, typed_space}
use Rattle.check_rules.specs.types.Sorts.{is_integer, is_number, is_truth, is_unknown_type}
use Rattle.check_rules.specs.rules.Spaces.{misfits_call}
use Rattle.check_rules.specs.rules.Standing.{standing_in_call}
use Rattle.check_rules.specs.rules.Types.{has_no_result, is_ill_typed_operation, is_ill_typed_at_place, is_ill_typed_step}

-- ---- the type after a part, by the types of what stands there

abbrev pub known_type_after_operator : Computing → StaticType
known_type_after_operator c = type_unless
    (is_unknown_type c.left || is_unknown_type c.right || is_ill_typed_operation c)
    (operated c.operator c.left c.right)

abbrev pub known_type_after_sign : Sign → StaticType → StaticType
known_type_after_sign Not t = type_unless (not (is_truth t)) truth_type
known_type_after_sign Minus t = type_unless (not (is_number t)) (counting_as t)

-- what a step takes isn't known: a field whose declared type has a breach, or a step of what is
-- unknown or at a place that is no number
abbrev pub takes_unknown : Tree → Taking → Bool
takes_unknown tree (field_of (pointer_type k s args regions) f) = is_flawed_field tree s f
takes_unknown tree (field_of t f) = is_unknown_type t
takes_unknown tree (element_of t e) = is_unknown_type t || not (is_number e)

abbrev pub known_type_after_step : Tree → Taking → StaticType → StaticType
known_type_after_step tree taking t = type_unless
    (takes_unknown tree taking || is_unknown_field tree taking || is_ill_typed_step taking
    || takes_of_wild taking) t

-- a call has a breach, or depends on what is unknown
abbrev pub is_flawed_call : Tree → List Known → Calling → Bool
is_flawed_call tree known c =
    is_unknown_task tree c || has_no_result tree c || miscounts_call tree c
    || list_any (is_ill_typed_at_place known) (standing_in_call tree c)
    || misfits_call (params_of tree c.task) c || mispartitions_call (params_of tree c.task) c
    || list_any is_unknown_type c.args || is_no_result_type (task_named tree c.task).result

abbrev pub type_of_call : Tree → List Known → Calling → StaticType
type_of_call tree known c = type_unless (is_flawed_call tree known c)
    (result_type tree (task_named tree c.task).result)

-- the type after prefixes, the outermost first, and what each of them stands before
abbrev pub known_type_after_signs : List Sign → StaticType → StaticType
known_type_after_signs [] t = t
known_type_after_signs (sign ∷ signs) t = known_type_after_sign sign (known_type_after_signs signs t)

abbrev pub signings : List Sign → StaticType → List Signing
signings [] t = []
signings (sign ∷ signs) t =
    record { sign = sign; operand = known_type_after_signs signs t } ∷ signings signs t

-- ---- types of expressions

abbrev mutual
  pub known_type : Tree → Scope → Expression → StaticType
  known_type tree s (number_expr z w) = integer_type w
  known_type tree s (truth_expr b) = truth_type
  known_type tree s (chain_expr first rest) =
      known_type_after_links tree s (known_type tree s first) rest
  known_type tree s (prefix_expr signs e) = known_type_after_signs signs (known_type tree s e)
  known_type tree s (call_expr task args) =
      type_of_call tree s.known (calling task (known_types tree s args))
  known_type tree s (access_expr n steps) =
      known_type_after_steps tree s (type_named s.names n) steps
  known_type tree s (convert_expr t e) =
      type_unless (not (is_number (known_type tree s e))) (number_type t)
  known_type tree s (is_null_expr e) =
      type_unless (not (is_pointer (known_type tree s e))) truth_type
  known_type tree s (null_expr p) = type_unless (is_flawed_type tree s.names (typed.Pointer p))
      (written_pointer tree (in_scope s) p)
  known_type tree s (cast_expr p e) = type_unless
      (not (is_number (known_type tree s e)) || is_flawed_type tree s.names (typed.Pointer p))
      (written_pointer tree (in_scope s) p)
  known_type tree s (space_expr k e) =
      type_unless (not (is_integer (known_type tree s e))) (ispace_type k)

  pub known_types : Tree → Scope → Expressions → List StaticType
  known_types tree s no_expr = []
  known_types tree s (an_expr e es) = known_type tree s e ∷ known_types tree s es

  -- the type of a chain, from the type of what stands on the left
  pub known_type_after_links : Tree → Scope → StaticType → Links → StaticType
  known_type_after_links tree s t no_link = t
  known_type_after_links tree s t (a_link o e rest) = known_type_after_links tree s
      (known_type_after_operator (computing o t (known_type tree s e))) rest

  -- the type of an access, from the type of what it begins with
  pub known_type_after_steps : Tree → Scope → StaticType → Steps → StaticType
  known_type_after_steps tree s t no_step = t
  known_type_after_steps tree s t (field_step f rest) = known_type_after_steps tree s
      (known_type_after_step tree (field_of t f) (type_of_field tree t f)) rest
  known_type_after_steps tree s t (at_step e rest) = known_type_after_steps tree s
      (known_type_after_step tree (element_of t (known_type tree s e)) (type_of_element s t e)) rest

-- ---- shapes of expressions

-- the operators of a chain, with the types on both sides
abbrev pub computings : Tree → Scope → StaticType → Links → List Computing
computings tree s t no_link = []
computings tree s t (a_link o e rest) =
    let c = computing o t (known_type tree s e) in
    c ∷ computings tree s (known_type_after_operator c) rest

-- the steps of an access, with the types that they are taken of
abbrev pub takings : Tree → Scope → StaticType → Steps → List Taking
takings tree s t no_step = []
takings tree s t (field_step f rest) =
    let taking = field_of t f in
    taking ∷ takings tree s (known_type_after_step tree taking (type_of_field tree t f)) rest
takings tree s t (at_step e rest) =
    let taking = element_of t (known_type tree s e) in
    taking ∷ takings tree s (known_type_after_step tree taking (type_of_element s t e)) rest

abbrev pub typed_form_of : Tree → Scope → Expression → TypedForm
typed_form_of tree s (number_expr z w) = typed_constant
typed_form_of tree s (truth_expr b) = typed_constant
typed_form_of tree s (chain_expr first rest) =
    typed_chain (computings tree s (known_type tree s first) rest)
typed_form_of tree s (prefix_expr signs e) = typed_prefix (signings signs (known_type tree s e))
typed_form_of tree s (call_expr task args) = typed_call (calling task (known_types tree s args))
typed_form_of tree s (access_expr n steps) =
    typed_access n (takings tree s (type_named s.names n) steps)
typed_form_of tree s (convert_expr t e) = typed_convert (known_type tree s e)
typed_form_of tree s (is_null_expr e) = typed_is_null (known_type tree s e)
typed_form_of tree s (null_expr p) = typed_null p
typed_form_of tree s (cast_expr p e) = typed_cast p (known_type tree s e)
typed_form_of tree s (space_expr k e) = typed_space (known_type tree s e)
