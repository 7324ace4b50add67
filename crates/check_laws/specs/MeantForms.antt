-- An expression by the types that the meaning of programs gives its parts.
use Rattle.std.specs.Prelude.{List, [], ◌∷◌}
use Rattle.regent_tree.specs.Lookup.{type_named}
use Rattle.regent_tree.specs.Scopes.{Scope}
use Rattle.regent_tree.specs.Syntax.{Expression, Links, Steps, Tree, a_link, access_expr, at_step, call_expr, cast_expr, chain_expr, convert_expr, field_step, is_null_expr, no_link, no_step, null_expr, number_expr, prefix_expr, space_expr, truth_expr}
use Rattle.regent_tree.specs.Typing.{operated, signed_type, type_of, type_of_element, type_of_field, types_of}
use Rattle.regent_tree.specs.declared.expression.Sign.{Sign}
use Rattle.regent_tree.specs.declared.typing.StaticType.{StaticType}
use Rattle.check_rules.specs.types.TypedForms.{Computing, Signing, Taking, TypedForm, calling, computing, element_of, field_of, typed_access, typed_call, typed_cast, typed_chain, typed_constant, typed_convert, typed_is_null, typed_null, typed_prefix, typed_space}

-- the operators of a chain, with the types on both sides
abbrev pub meant_computings : Tree → Scope → StaticType → Links → List Computing
meant_computings tree s t no_link = []
meant_computings tree s t (a_link o e rest) = computing o t (type_of tree s e)
    ∷ meant_computings tree s (operated o t (type_of tree s e)) rest

-- prefixes, with the types of what they stand before
abbrev pub meant_signings : List Sign → StaticType → List Signing
meant_signings [] t = []
meant_signings (sign ∷ signs) t =
    record { sign = sign; operand = signed_type signs t } ∷ meant_signings signs t

-- the steps of an access, with the types that they are taken of
abbrev pub meant_takings : Tree → Scope → StaticType → Steps → List Taking
meant_takings tree s t no_step = []
meant_takings tree s t (field_step f rest) =
    field_of t f ∷ meant_takings tree s (type_of_field tree t f) rest
meant_takings tree s t (at_step e rest) = element_of t (type_of tree s e)
    ∷ meant_takings tree s (type_of_element s t e) rest

abbrev pub meant_form_of : Tree → Scope → Expression → TypedForm
meant_form_of tree s (number_expr z w) = typed_constant
meant_form_of tree s (truth_expr b) = typed_constant
meant_form_of tree s (chain_expr first rest) =
    typed_chain (meant_computings tree s (type_of tree s first) rest)
meant_form_of tree s (prefix_expr signs e) =
    typed_prefix (meant_signings signs (type_of tree s e))
meant_form_of tree s (call_expr task args) = typed_call (calling task (types_of tree s args))
meant_form_of tree s (access_expr n steps) =
    typed_access n (meant_takings tree s (type_named s.names n) steps)
meant_form_of tree s (convert_expr t e) = typed_convert (type_of tree s e)
meant_form_of tree s (is_null_expr e) = typed_is_null (type_of tree s e)
meant_form_of tree s (null_expr p) = typed_null p
meant_form_of tree s (cast_expr p e) = typed_cast p (type_of tree s e)
meant_form_of tree s (space_expr k e) = typed_space (type_of tree s e)
