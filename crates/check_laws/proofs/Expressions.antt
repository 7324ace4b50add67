-- Expressions of which nothing is told.
use Rattle.std.proofs.Common.{None, Option, [], ◌||◌, ◌≡◌, ap, false, inl, inr, not, refl, subst, sym, true, ◌∙◌, ◌⊎◌}
use Rattle.std.specs.List.{list_any}
use Rattle.regent_tree.specs.Lookup.{is_bound, type_named}
use Rattle.regent_tree.specs.Scopes.{Scope, in_scope}
use Rattle.regent_tree.specs.StaticTypes.{number_type, written_pointer}
use Rattle.regent_tree.specs.Syntax.{Expression, Expressions, Links, Name, Steps, TaskTree, Tree, a_link, access_expr, an_expr, at_step, call_expr, cast_expr, chain_expr, convert_expr, field_step, is_null_expr, no_expr, no_link, no_step, null_expr, number_expr, prefix_expr, space_expr, truth_expr}
use Rattle.regent_tree.specs.Typing.{is_pointer, type_of_element, type_of_field}
use Rattle.regent_tree.specs.declared.types.PointerTerm.{PointerTerm}
use Rattle.regent_tree.specs.declared.types.TypeTerm.TheVariants as typed
use Rattle.regent_tree.specs.declared.typing.StaticType.{StaticType}
use Rattle.regent_tree.specs.declared.typing.StaticType.TheVariants.{Ispace as ispace_type, Truth as truth_type, Unknown as unknown_type}
use Rattle.check_rules.specs.rules.Counts.{miscounts_in_type}
use Rattle.check_rules.specs.types.Declarations.{is_flawed_type}
use Rattle.check_rules.specs.first.FirstInExpressions.{first_in_args, first_in_expression, first_in_links, first_in_steps, first_in_target, first_in_target_steps, first_in_type, first_of_operator, first_of_standing, first_of_step, first_of_taking}
use Rattle.check_rules.specs.types.KnownTypes.{known_type, known_types, known_type_after_links, known_type_after_operator, known_type_after_step, known_type_after_steps}
use Rattle.check_rules.specs.rules.Names.{unbound_name_in_type}
use Rattle.check_rules.specs.rules.Pointers.{wrong_region_in_type}
use Rattle.check_rules.specs.first.Rules.{rule_if}
use Rattle.check_rules.specs.types.TypedForms.{calling, computing, element_of, field_of}
use Rattle.check_rules.specs.types.Sorts.{is_integer, is_number, is_unknown_type}
use Rattle.check_rules.specs.scopes.Sound.{IsSound}
use Rattle.check_rules.specs.rules.Spaces.{misfits_in_type}
use Rattle.check_rules.specs.rules.Standing.{integer_spot, number_spot, pointer_spot, stands}
use Rattle.check_rules.specs.rules.Types.{has_no_result}
use Rattle.check_rules.specs.declared.rule.Rule.{Rule}
use Rattle.check_rules.specs.declared.rule.Rule.TheVariants as rule
use Rattle.check_rules.proofs.Written.{names_known}
use Rattle.check_laws.specs.SoundScopes.{IsKnown, IsSoundScope}
use Rattle.check_laws.proofs.Parts.{after_operator, after_signs, call_known, contrary, element_known, field_known, number_known, surely, unless_false, value_known}
use Rattle.plain_values.proofs.Plain.{option_or_parts}
use Rattle.check_rules.proofs.Untold.{rule_none, standing_none}
use Rattle.std.proofs.lemmas.Bool.{not-false}

module _ (tree : Tree) (task : TaskTree) (s : Scope) (sound : IsSound tree) (scope : IsSoundScope s) where
  abbrev told : Expression → Option Rule
  told e = first_in_expression tree task s e

  -- a pointer type of which nothing is told
  pointer_known : (p : PointerTerm) → first_in_type tree s.names (typed.Pointer p) ≡ None →
      is_flawed_type tree s.names (typed.Pointer p) ≡ false
  pointer_known p e =
      let a = option_or_parts _ _ e in
      let b = option_or_parts _ _ a.1 in
      let c = option_or_parts _ _ b.1 in
      let d = option_or_parts _ _ c.1 in
      let named = rule_none (unbound_name_in_type tree s.names (typed.Pointer p)) rule.Name a.0 in
      let counted = rule_none (miscounts_in_type tree (typed.Pointer p)) rule.Count b.0 in
      let points = rule_none (wrong_region_in_type tree s.names (typed.Pointer p)) rule.Pointer c.0 in
      let fits = rule_none (misfits_in_type tree s.names (typed.Pointer p)) rule.Spaces d.0 in
      let known = names_known tree s.names (λ n b. (scope.types n b).known) (typed.Pointer p) named in
      λ j. named j || counted j || points j || fits j || known j

  spot_none : (t : StaticType) → is_unknown_type t ≡ false → first_of_standing [] (stands t number_spot) ≡ None → is_number t ≡ true
  spot_none t k e = surely is_number t k (not-false _ (standing_none [] (stands t number_spot) e).1)

  mutual
    pub known_expression : (e : Expression) → told e ≡ None → IsKnown s (known_type tree s e)
    known_expression (number_expr z w) e = value_known s _ refl tt
    known_expression (truth_expr b) e = value_known s _ refl tt
    known_expression (chain_expr first rest) e =
        let parts = option_or_parts (told first) _ e in
        known_links (known_type tree s first) rest (known_expression first parts.0) parts.1
    known_expression (prefix_expr signs x) e =
        let parts = option_or_parts (told x) _ e in
        after_signs s signs (known_type tree s x) (known_expression x parts.0) parts.1
    known_expression (call_expr t args) e =
        let parts = option_or_parts (first_in_args tree task s args) _ e in
        let c = calling t (known_types tree s args) in
        let here = option_or_parts _ _ parts.1 in
        call_known tree task s c sound here.0 (rule_none (has_no_result tree c) rule.Type here.1) (known_args args parts.0)
    known_expression (access_expr n steps) e =
        let parts = option_or_parts (rule_if (not (is_bound s.names n)) rule.Name) _ e in
        let bound = not-false (is_bound s.names n) (rule_none _ rule.Name parts.0) in
        known_steps (type_named s.names n) steps (scope.types n bound) parts.1
    known_expression (convert_expr t x) e =
        let parts = option_or_parts (told x) _ e in
        let is = spot_none (known_type tree s x) (known_expression x parts.0).known parts.1 in
        subst (IsKnown s) (sym (unless_false (not (is_number (known_type tree s x))) (number_type t) (ap not is))) (number_known s t)
    known_expression (is_null_expr x) e =
        let parts = option_or_parts (told x) _ e in
        let is = surely is_pointer (known_type tree s x) (known_expression x parts.0).known
        (not-false _ (standing_none [] (stands (known_type tree s x) pointer_spot) parts.1).1) in
        subst (IsKnown s) (sym (unless_false (not (is_pointer (known_type tree s x))) truth_type (ap not is))) (value_known s truth_type refl tt)
    known_expression (null_expr p) e =
        subst (IsKnown s) (sym (unless_false (is_flawed_type tree s.names (typed.Pointer p)) (written_pointer tree (in_scope s) p) (pointer_known p e)))
        (value_known s (written_pointer tree (in_scope s) p) refl tt)
    known_expression (cast_expr p x) e =
        let parts = option_or_parts (told x) _ e in
        let more = option_or_parts (first_of_standing [] (stands (known_type tree s x) number_spot)) _ parts.1 in
        let is = spot_none (known_type tree s x) (known_expression x parts.0).known more.0 in
        let flawless : (not (is_number (known_type tree s x)) || is_flawed_type tree s.names (typed.Pointer p)) ≡ false =
        λ j. not (is j) || pointer_known p more.1 j in
        subst (IsKnown s) (sym (unless_false _ (written_pointer tree (in_scope s) p) flawless))
        (value_known s (written_pointer tree (in_scope s) p) refl tt)
    known_expression (space_expr k x) e =
        let parts = option_or_parts (told x) _ e in
        let is = surely is_integer (known_type tree s x) (known_expression x parts.0).known
        (not-false _ (standing_none [] (stands (known_type tree s x) integer_spot) parts.1).1) in
        subst (IsKnown s) (sym (unless_false (not (is_integer (known_type tree s x))) (ispace_type k) (ap not is))) (value_known s (ispace_type k) refl tt)

    known_links : (t : StaticType) (rest : Links) → IsKnown s t → first_in_links tree task s t rest ≡ None →
        IsKnown s (known_type_after_links tree s t rest)
    known_links t no_link k e = k
    known_links t (a_link o x rest) k e =
        let parts = option_or_parts (told x) _ e in
        let more = option_or_parts (first_of_operator (computing o t (known_type tree s x))) _ parts.1 in
        known_links (known_type_after_operator (computing o t (known_type tree s x))) rest
        (after_operator s o t (known_type tree s x) k.known (known_expression x parts.0).known more.0) more.1

    known_args : (args : Expressions) → first_in_args tree task s args ≡ None → list_any is_unknown_type (known_types tree s args) ≡ false
    known_args no_expr e = refl
    known_args (an_expr x xs) e =
        let parts = option_or_parts (told x) _ e in
        λ j. (known_expression x parts.0).known j || known_args xs parts.1 j

    known_steps : (t : StaticType) (steps : Steps) → IsKnown s t → first_in_steps tree task s t steps ≡ None →
        IsKnown s (known_type_after_steps tree s t steps)
    known_steps t no_step k e = k
    known_steps t (field_step f rest) k e =
        let parts = option_or_parts (first_of_step tree task s (field_of t f)) _ e in
        let here = option_or_parts (first_of_taking tree (field_of t f)) _ parts.0 in
        known_steps (known_type_after_step tree (field_of t f) (type_of_field tree t f)) rest
        (field_known tree s t f sound k here.0) parts.1
    known_steps t (at_step x rest) k e =
        let u = known_type tree s x in
        let parts = option_or_parts (told x) _ e in
        let more = option_or_parts (first_of_step tree task s (element_of t u)) _ parts.1 in
        let here = option_or_parts (first_of_taking tree (element_of t u)) _ more.0 in
        known_steps (known_type_after_step tree (element_of t u) (type_of_element s t x)) rest
        (element_known tree s t u x k (known_expression x parts.0).known here.0) more.1

  -- a target, whose last field isn't read
  target_steps : (t : StaticType) (steps : Steps) → IsKnown s t → first_in_target_steps tree task s t steps ≡ None →
      IsKnown s (known_type_after_steps tree s t steps)
  target_steps t no_step k e = k
  target_steps t (field_step f no_step) k e = field_known tree s t f sound k e
  target_steps t (field_step f (field_step g rest)) k e =
      let parts = option_or_parts (first_of_step tree task s (field_of t f)) _ e in
      let here = option_or_parts (first_of_taking tree (field_of t f)) _ parts.0 in
      target_steps (known_type_after_step tree (field_of t f) (type_of_field tree t f)) (field_step g rest)
      (field_known tree s t f sound k here.0) parts.1
  target_steps t (field_step f (at_step x rest)) k e =
      let parts = option_or_parts (first_of_step tree task s (field_of t f)) _ e in
      let here = option_or_parts (first_of_taking tree (field_of t f)) _ parts.0 in
      target_steps (known_type_after_step tree (field_of t f) (type_of_field tree t f)) (at_step x rest)
      (field_known tree s t f sound k here.0) parts.1
  target_steps t (at_step x rest) k e =
      let u = known_type tree s x in
      let parts = option_or_parts (told x) _ e in
      let more = option_or_parts (first_of_step tree task s (element_of t u)) _ parts.1 in
      let here = option_or_parts (first_of_taking tree (element_of t u)) _ more.0 in
      target_steps (known_type_after_step tree (element_of t u) (type_of_element s t x)) rest
      (element_known tree s t u x k (known_expression x parts.0).known here.0) more.1

  pub known_target : (n : Name) (steps : Steps) → first_in_target tree task s n steps ≡ None →
      IsKnown s (known_type tree s (access_expr n steps))
  known_target n steps e =
      let parts = option_or_parts (rule_if (not (is_bound s.names n)) rule.Name) _ e in
      let bound = not-false (is_bound s.names n) (rule_none _ rule.Name parts.0) in
      target_steps (type_named s.names n) steps (scope.types n bound) parts.1

-- a type that is as it is meant, or else unknown, is as it is meant where it is known
pub meant : (t m : StaticType) → is_unknown_type t ≡ false → (t ≡ m) ⊎ (t ≡ unknown_type) → t ≡ m
meant t m k (inl e) = e
meant t m k (inr e) = absurd (contrary (sym (ap is_unknown_type e) ∙ k))
