-- Of an expression of which nothing is told, the types of its parts are those of the meaning.
use Rattle.std.proofs.Common.{Bool, List, None, Option, [], ◌∷◌, ◌≡◌, ap, cond, false, not, refl, true, ◌∙◌}
use Rattle.regent_tree.specs.Lookup.{is_bound, type_named}
use Rattle.regent_tree.specs.Scopes.{Scope}
use Rattle.regent_tree.specs.Syntax.{Expression, Expressions, Links, Name, Steps, TaskTree, Tree, a_link, access_expr, an_expr, at_step, call_expr, cast_expr, chain_expr, convert_expr, field_step, is_null_expr, no_expr, no_link, no_step, null_expr, number_expr, prefix_expr, space_expr, truth_expr}
use Rattle.regent_tree.specs.Typing.{operated, signed_type, type_of, type_of_element, type_of_field, types_of}
use Rattle.regent_tree.specs.declared.expression.Sign.{Sign}
use Rattle.regent_tree.specs.declared.typing.StaticType.{StaticType}
use Rattle.regent_tree.specs.declared.typing.StaticType.TheVariants.{Unknown as unknown_type}
use Rattle.check_rules.specs.first.FirstInExpressions.{first_in_args, first_in_expression, first_in_links, first_in_steps, first_in_target, first_in_target_steps, first_of_operator, first_of_signs, first_of_step, first_of_taking}
use Rattle.check_rules.specs.types.KnownTypes.{computings, known_type, known_type_after_operator, known_type_after_signs, known_type_after_step, known_types, signings, takings, typed_form_of}
use Rattle.check_rules.specs.first.Rules.{rule_if}
use Rattle.check_rules.specs.types.Sorts.{is_unknown_type}
use Rattle.check_rules.specs.scopes.Sound.{IsSound}
use Rattle.check_rules.specs.types.TypedForms.{calling, computing, element_of, field_of, typed_access, typed_call, typed_cast, typed_chain, typed_convert, typed_is_null, typed_prefix, typed_space}
use Rattle.check_rules.specs.declared.rule.Rule.{Rule}
use Rattle.check_rules.specs.declared.rule.Rule.TheVariants as rule
use Rattle.check_rules.proofs.Laws.{types_as_meant}
use Rattle.check_laws.specs.Laws.{ExpressionsAreKnown, IsAsMeant}
use Rattle.check_laws.specs.MeantForms.{meant_computings, meant_form_of, meant_signings, meant_takings}
use Rattle.check_laws.specs.SoundScopes.{IsKnown, IsSoundScope}
use Rattle.check_laws.proofs.Expressions.{known_expression, known_target, meant}
use Rattle.check_laws.proofs.Parts.{after_operator, after_signs, contrary, element_known, field_known}
use Rattle.plain_values.proofs.Plain.{option_or_parts}
use Rattle.check_rules.proofs.Untold.{rule_none}
use Rattle.std.proofs.lemmas.Bool.{not-false}

-- what is unknown where it is flawed, and known, isn't flawed
pub unflawed : (b : Bool) (t : StaticType) → is_unknown_type (cond b unknown_type t) ≡ false → cond b unknown_type t ≡ t
unflawed true t k = absurd (contrary k)
unflawed false t k = refl

module _ (tree : Tree) (task : TaskTree) (s : Scope) (sound : IsSound tree) (scope : IsSoundScope s) where
  abbrev told : Expression → Option Rule
  told e = first_in_expression tree task s e

  as_meant : (e : Expression) → told e ≡ None → known_type tree s e ≡ type_of tree s e
  as_meant e none =
      meant (known_type tree s e) (type_of tree s e) (known_expression tree task s sound scope e none).known (types_as_meant tree s e)

  computings_meant : (t m : StaticType) (rest : Links) → t ≡ m → IsKnown s t → first_in_links tree task s t rest ≡ None →
      computings tree s t rest ≡ meant_computings tree s m rest
  computings_meant t m no_link same k e = refl
  computings_meant t m (a_link o x rest) same k e =
      let u = known_type tree s x in
      let parts = option_or_parts (told x) _ e in
      let more = option_or_parts (first_of_operator (computing o t u)) _ parts.1 in
      let right = as_meant x parts.0 in
      let after = after_operator s o t u k.known (known_expression tree task s sound scope x parts.0).known more.0 in
      let is : known_type_after_operator (computing o t u) ≡ operated o m (type_of tree s x) =
      unflawed _ (operated o t u) after.known ∙ (λ j. operated o (same j) (right j)) in
      let others = computings_meant (known_type_after_operator (computing o t u)) (operated o m (type_of tree s x)) rest is after more.1 in
      λ j. computing o (same j) (right j) ∷ others j

  signings_meant : (signs : List Sign) (e : Expression) → IsKnown s (known_type tree s e) → first_of_signs signs (known_type tree s e) ≡ None →
      signings signs (known_type tree s e) ≡ meant_signings signs (type_of tree s e)
  signings_meant [] e k none = refl
  signings_meant (sign ∷ signs) e k none =
      let t = known_type tree s e in
      let parts = option_or_parts (first_of_signs signs t) _ none in
      let operand = meant (known_type_after_signs signs t) (signed_type signs (type_of tree s e))
      (after_signs s signs t k parts.0).known (types_as_meant tree s (prefix_expr signs e)) in
      let others = signings_meant signs e k parts.0 in
      λ j. record { sign = sign; operand = operand j } ∷ others j

  args_meant : (args : Expressions) → first_in_args tree task s args ≡ None → known_types tree s args ≡ types_of tree s args
  args_meant no_expr e = refl
  args_meant (an_expr x xs) e =
      let parts = option_or_parts (told x) _ e in
      λ j. as_meant x parts.0 j ∷ args_meant xs parts.1 j

  -- after a step
  field_after : (t m : StaticType) (f : Name) → t ≡ m → IsKnown s t → first_of_taking tree (field_of t f) ≡ None →
      (known_type_after_step tree (field_of t f) (type_of_field tree t f) ≡ type_of_field tree m f)
      × IsKnown s (known_type_after_step tree (field_of t f) (type_of_field tree t f))
  field_after t m f same k e =
      let after = field_known tree s t f sound k e in
      (unflawed _ (type_of_field tree t f) after.known ∙ ap (λ u. type_of_field tree u f) same, after)

  element_after : (t m : StaticType) (x : Expression) → t ≡ m → IsKnown s t → told x ≡ None →
      first_of_taking tree (element_of t (known_type tree s x)) ≡ None →
      (known_type_after_step tree (element_of t (known_type tree s x)) (type_of_element s t x) ≡ type_of_element s m x)
      × IsKnown s (known_type_after_step tree (element_of t (known_type tree s x)) (type_of_element s t x))
  element_after t m x same k none e =
      let after = element_known tree s t (known_type tree s x) x k (known_expression tree task s sound scope x none).known e in
      (unflawed _ (type_of_element s t x) after.known ∙ ap (λ u. type_of_element s u x) same, after)

  takings_meant : (t m : StaticType) (steps : Steps) → t ≡ m → IsKnown s t → first_in_steps tree task s t steps ≡ None →
      takings tree s t steps ≡ meant_takings tree s m steps
  takings_meant t m no_step same k e = refl
  takings_meant t m (field_step f rest) same k e =
      let parts = option_or_parts (first_of_step tree task s (field_of t f)) _ e in
      let here = option_or_parts (first_of_taking tree (field_of t f)) _ parts.0 in
      let after = field_after t m f same k here.0 in
      let others = takings_meant (known_type_after_step tree (field_of t f) (type_of_field tree t f)) (type_of_field tree m f) rest
      after.0 after.1 parts.1 in
      λ j. field_of (same j) f ∷ others j
  takings_meant t m (at_step x rest) same k e =
      let u = known_type tree s x in
      let parts = option_or_parts (told x) _ e in
      let more = option_or_parts (first_of_step tree task s (element_of t u)) _ parts.1 in
      let here = option_or_parts (first_of_taking tree (element_of t u)) _ more.0 in
      let after = element_after t m x same k parts.0 here.0 in
      let others = takings_meant (known_type_after_step tree (element_of t u) (type_of_element s t x)) (type_of_element s m x) rest
      after.0 after.1 more.1 in
      λ j. element_of (same j) (as_meant x parts.0 j) ∷ others j

  -- a target, whose last field isn't read
  target_takings : (t m : StaticType) (steps : Steps) → t ≡ m → IsKnown s t → first_in_target_steps tree task s t steps ≡ None →
      takings tree s t steps ≡ meant_takings tree s m steps
  target_takings t m no_step same k e = refl
  target_takings t m (field_step f no_step) same k e = λ j. field_of (same j) f ∷ []
  target_takings t m (field_step f (field_step g rest)) same k e =
      let parts = option_or_parts (first_of_step tree task s (field_of t f)) _ e in
      let here = option_or_parts (first_of_taking tree (field_of t f)) _ parts.0 in
      let after = field_after t m f same k here.0 in
      let others = target_takings (known_type_after_step tree (field_of t f) (type_of_field tree t f)) (type_of_field tree m f)
      (field_step g rest) after.0 after.1 parts.1 in
      λ j. field_of (same j) f ∷ others j
  target_takings t m (field_step f (at_step x rest)) same k e =
      let parts = option_or_parts (first_of_step tree task s (field_of t f)) _ e in
      let here = option_or_parts (first_of_taking tree (field_of t f)) _ parts.0 in
      let after = field_after t m f same k here.0 in
      let others = target_takings (known_type_after_step tree (field_of t f) (type_of_field tree t f)) (type_of_field tree m f)
      (at_step x rest) after.0 after.1 parts.1 in
      λ j. field_of (same j) f ∷ others j
  target_takings t m (at_step x rest) same k e =
      let u = known_type tree s x in
      let parts = option_or_parts (told x) _ e in
      let more = option_or_parts (first_of_step tree task s (element_of t u)) _ parts.1 in
      let here = option_or_parts (first_of_taking tree (element_of t u)) _ more.0 in
      let after = element_after t m x same k parts.0 here.0 in
      let others = target_takings (known_type_after_step tree (element_of t u) (type_of_element s t x)) (type_of_element s m x) rest
      after.0 after.1 more.1 in
      λ j. element_of (same j) (as_meant x parts.0 j) ∷ others j

  pub target_as_meant : (n : Name) (steps : Steps) → first_in_target tree task s n steps ≡ None →
      IsAsMeant tree s (access_expr n steps)
  target_as_meant n steps e =
      let parts = option_or_parts (rule_if (not (is_bound s.names n)) rule.Name) _ e in
      let bound = not-false (is_bound s.names n) (rule_none _ rule.Name parts.0) in
      let known = known_target tree task s sound scope n steps e in
      record {
        known = known;
        type = meant (known_type tree s (access_expr n steps)) (type_of tree s (access_expr n steps)) known.known
            (types_as_meant tree s (access_expr n steps));
        form = ap (typed_access n) (target_takings (type_named s.names n) (type_named s.names n) steps refl (scope.types n bound) parts.1);
      }

  form_meant : (e : Expression) → told e ≡ None → typed_form_of tree s e ≡ meant_form_of tree s e
  form_meant (number_expr z w) e = refl
  form_meant (truth_expr b) e = refl
  form_meant (chain_expr first rest) e =
      let parts = option_or_parts (told first) _ e in
      let known = known_expression tree task s sound scope first parts.0 in
      ap typed_chain (computings_meant (known_type tree s first) (type_of tree s first) rest (as_meant first parts.0) known parts.1)
  form_meant (prefix_expr signs x) e =
      let parts = option_or_parts (told x) _ e in
      ap typed_prefix (signings_meant signs x (known_expression tree task s sound scope x parts.0) parts.1)
  form_meant (call_expr t args) e =
      let parts = option_or_parts (first_in_args tree task s args) _ e in
      ap (λ ts. typed_call (calling t ts)) (args_meant args parts.0)
  form_meant (access_expr n steps) e =
      let parts = option_or_parts (rule_if (not (is_bound s.names n)) rule.Name) _ e in
      let bound = not-false (is_bound s.names n) (rule_none _ rule.Name parts.0) in
      ap (typed_access n) (takings_meant (type_named s.names n) (type_named s.names n) steps refl (scope.types n bound) parts.1)
  form_meant (convert_expr t x) e = ap typed_convert (as_meant x (option_or_parts (told x) _ e).0)
  form_meant (is_null_expr x) e = ap typed_is_null (as_meant x (option_or_parts (told x) _ e).0)
  form_meant (null_expr p) e = refl
  form_meant (cast_expr p x) e = ap (typed_cast p) (as_meant x (option_or_parts (told x) _ e).0)
  form_meant (space_expr k x) e = ap typed_space (as_meant x (option_or_parts (told x) _ e).0)

  pub expression_as_meant : (e : Expression) → told e ≡ None → IsAsMeant tree s e
  expression_as_meant e none = record {
    known = known_expression tree task s sound scope e none;
    type = as_meant e none;
    form = form_meant e none;
  }

pub expressions_are_known : ExpressionsAreKnown
expressions_are_known tree task s e sound scope none = expression_as_meant tree task s sound scope e none
