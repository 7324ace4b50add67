-- Where nothing is told of an expression, nothing is told of the expressions in it.
use Rattle.std.proofs.Common.{List, None, [], ◌++◌, ◌∷◌, ◌≡◌, inl, inr, subst}
use Rattle.regent_tree.specs.Scopes.{Scope}
use Rattle.regent_tree.specs.Syntax.{Expression, Expressions, Links, Steps, TaskTree, Tree, a_link, access_expr, an_expr, at_step, call_expr, cast_expr, chain_expr, convert_expr, field_step, is_null_expr, no_expr, no_link, no_step, null_expr, number_expr, prefix_expr, space_expr, truth_expr}
use Rattle.regent_tree.specs.Typing.{type_of_element, type_of_field}
use Rattle.regent_tree.specs.declared.typing.StaticType.{StaticType}
use Rattle.regent_tree.proofs.Members.{Has, Has-append_cases}
use Rattle.check_rules.specs.first.FirstInExpressions.{first_in_args, first_in_expression, first_in_links, first_in_steps, first_in_target_steps, first_of_operator, first_of_step}
use Rattle.check_rules.specs.types.KnownTypes.{known_type, known_type_after_operator, known_type_after_step}
use Rattle.check_rules.specs.types.Parts.{subexpressions, parts_of_args, parts_of_links, parts_of_steps}
use Rattle.check_rules.specs.types.TypedForms.{computing, element_of, field_of}
use Rattle.plain_values.proofs.Plain.{option_or_parts}

module _ (tree : Tree) (task : TaskTree) (s : Scope) where
  abbrev IsUntold : Expression → Type 0
  IsUntold e = first_in_expression tree task s e ≡ None

  -- an expression itself, or one in it
  here_or : (e : Expression) (rest : List Expression) → IsUntold e → ((x : Expression) → Has rest x → IsUntold x) →
      (x : Expression) → Has (e ∷ rest) x → IsUntold x
  here_or e rest untold inside x (inl is) = subst IsUntold is untold
  here_or e rest untold inside x (inr h) = inside x h

  either : (xs ys : List Expression) → ((x : Expression) → Has xs x → IsUntold x) →
      ((x : Expression) → Has ys x → IsUntold x) → (x : Expression) → Has (xs ++ ys) x → IsUntold x
  either xs ys first last x h = elim (Has-append_cases xs ys x h) [ inl g ↦ first x g | inr g ↦ last x g ]

  mutual
    pub untold_inside : (e : Expression) → IsUntold e → (x : Expression) → Has (subexpressions e) x → IsUntold x
    untold_inside (number_expr z w) e x h = here_or (number_expr z w) [] e (λ y g. absurd g) x h
    untold_inside (truth_expr b) e x h = here_or (truth_expr b) [] e (λ y g. absurd g) x h
    untold_inside (chain_expr first rest) e x h =
        let parts = option_or_parts (first_in_expression tree task s first) _ e in
        here_or (chain_expr first rest) (subexpressions first ++ parts_of_links rest) e
        (either (subexpressions first) (parts_of_links rest) (untold_inside first parts.0)
        (untold_links (known_type tree s first) rest parts.1)) x h
    untold_inside (prefix_expr signs a) e x h =
        let parts = option_or_parts (first_in_expression tree task s a) _ e in
        here_or (prefix_expr signs a) (subexpressions a) e (untold_inside a parts.0) x h
    untold_inside (call_expr t args) e x h =
        let parts = option_or_parts (first_in_args tree task s args) _ e in
        here_or (call_expr t args) (parts_of_args args) e (untold_args args parts.0) x h
    untold_inside (access_expr n steps) e x h =
        let parts = option_or_parts _ (first_in_steps tree task s _ steps) e in
        here_or (access_expr n steps) (parts_of_steps steps) e (untold_steps _ steps parts.1) x h
    untold_inside (convert_expr t a) e x h =
        let parts = option_or_parts (first_in_expression tree task s a) _ e in
        here_or (convert_expr t a) (subexpressions a) e (untold_inside a parts.0) x h
    untold_inside (is_null_expr a) e x h =
        let parts = option_or_parts (first_in_expression tree task s a) _ e in
        here_or (is_null_expr a) (subexpressions a) e (untold_inside a parts.0) x h
    untold_inside (null_expr p) e x h = here_or (null_expr p) [] e (λ y g. absurd g) x h
    untold_inside (cast_expr p a) e x h =
        let parts = option_or_parts (first_in_expression tree task s a) _ e in
        here_or (cast_expr p a) (subexpressions a) e (untold_inside a parts.0) x h
    untold_inside (space_expr k a) e x h =
        let parts = option_or_parts (first_in_expression tree task s a) _ e in
        here_or (space_expr k a) (subexpressions a) e (untold_inside a parts.0) x h

    untold_links : (t : StaticType) (rest : Links) → first_in_links tree task s t rest ≡ None → (x : Expression) →
        Has (parts_of_links rest) x → IsUntold x
    untold_links t no_link e x h = absurd h
    untold_links t (a_link o a rest) e x h =
        let parts = option_or_parts (first_in_expression tree task s a) _ e in
        let more = option_or_parts (first_of_operator (computing o t (known_type tree s a))) _ parts.1 in
        either (subexpressions a) (parts_of_links rest) (untold_inside a parts.0)
        (untold_links (known_type_after_operator (computing o t (known_type tree s a))) rest more.1) x h

    untold_args : (args : Expressions) → first_in_args tree task s args ≡ None → (x : Expression) →
        Has (parts_of_args args) x → IsUntold x
    untold_args no_expr e x h = absurd h
    untold_args (an_expr a others) e x h =
        let parts = option_or_parts (first_in_expression tree task s a) _ e in
        either (subexpressions a) (parts_of_args others) (untold_inside a parts.0) (untold_args others parts.1) x h

    untold_steps : (t : StaticType) (steps : Steps) → first_in_steps tree task s t steps ≡ None → (x : Expression) →
        Has (parts_of_steps steps) x → IsUntold x
    untold_steps t no_step e x h = absurd h
    untold_steps t (field_step f rest) e x h =
        let parts = option_or_parts (first_of_step tree task s (field_of t f)) _ e in
        untold_steps (known_type_after_step tree (field_of t f) (type_of_field tree t f)) rest parts.1 x h
    untold_steps t (at_step a rest) e x h =
        let u = known_type tree s a in
        let parts = option_or_parts (first_in_expression tree task s a) _ e in
        let more = option_or_parts (first_of_step tree task s (element_of t u)) _ parts.1 in
        either (subexpressions a) (parts_of_steps rest) (untold_inside a parts.0)
        (untold_steps (known_type_after_step tree (element_of t u) (type_of_element s t a)) rest more.1) x h

  -- the steps of a target
  pub untold_target : (t : StaticType) (steps : Steps) → first_in_target_steps tree task s t steps ≡ None → (x : Expression) →
      Has (parts_of_steps steps) x → IsUntold x
  untold_target t no_step e x h = absurd h
  untold_target t (field_step f no_step) e x h = absurd h
  untold_target t (field_step f (field_step g rest)) e x h =
      let parts = option_or_parts (first_of_step tree task s (field_of t f)) _ e in
      untold_target (known_type_after_step tree (field_of t f) (type_of_field tree t f)) (field_step g rest) parts.1 x h
  untold_target t (field_step f (at_step a rest)) e x h =
      let parts = option_or_parts (first_of_step tree task s (field_of t f)) _ e in
      untold_target (known_type_after_step tree (field_of t f) (type_of_field tree t f)) (at_step a rest) parts.1 x h
  untold_target t (at_step a rest) e x h =
      let u = known_type tree s a in
      let parts = option_or_parts (first_in_expression tree task s a) _ e in
      let more = option_or_parts (first_of_step tree task s (element_of t u)) _ parts.1 in
      either (subexpressions a) (parts_of_steps rest) (untold_inside a parts.0)
      (untold_target (known_type_after_step tree (element_of t u) (type_of_element s t a)) rest more.1) x h
