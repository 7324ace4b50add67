-- What each step keeps, the evaluation of every expression keeps.
use Rattle.std.specs.Prelude.{false, List}
use Rattle.regent_tree.specs.declared.expression.Operator.TheVariants.{Or, And, Compare, Compute}
use Rattle.regent_tree.specs.Syntax.{Expression, number_expr, truth_expr, chain_expr, prefix_expr, call_expr, access_expr, convert_expr, is_null_expr, null_expr, cast_expr, space_expr, Links, no_link, a_link, Expressions, no_expr, an_expr, Steps, no_step, field_step, at_step}
use Rattle.regent_tree.specs.Values.{Value, a_pointer, null_target, truth_of, number_of}
use Rattle.regent_tree.specs.Store.{Store}
use Rattle.regent_tree.specs.StaticTypes.{task_named}
use Rattle.regent_tree.specs.declared.typing.StaticType.{StaticType}
use Rattle.regent_tree.specs.declared.typing.StaticType.TheVariants.{Truth as truth_type}
use Rattle.regent_tree.specs.Typing.{operated, are_pointers, type_of_field, type_of_element, params_at}
use Rattle.regent_tree.specs.Running.{State, Here}
use Rattle.regent_tree.specs.Accesses.{standing, converted, regions_written, take_field, take_element}
use Rattle.regent_tree.specs.Operators.{operand, combined, cast_to}
use Rattle.regent_tree.specs.Evaluation.{value, linked, values, stepped, named_value, static_type_of, typed, first_type, other_types}
use Rattle.regent_tree.specs.Laws.{CallsAre}
use Rattle.regent_tree.proofs.Steps.{Law, Kept, in_turn, given_kept, choice_kept, named_kept, standing_kept, converted_kept, written_kept, take_field_kept, take_element_kept, operand_kept, combined_kept, size_kept, called_kept}

module _ {Good : Store → Store → Type 0} {R : State → State → Type 0} (law : Law Good R) where
  mutual
    pub value_kept : (h : Here) → CallsAre Good h.calls → (e : Expression) → Kept R (value h e)
    value_kept h g (number_expr z w) = given_kept law _
    value_kept h g (truth_expr b) = given_kept law _
    value_kept h g (chain_expr first rest) = in_turn law (value h first) _ (value_kept h g first)
        (λ v. linked_kept h g (typed h first) v rest)
    value_kept h g (prefix_expr signs e) = in_turn law (value h e) _ (value_kept h g e)
        (λ v. in_turn law (standing h v) _ (standing_kept law h v) (λ u. given_kept law _))
    value_kept h g (call_expr task args) =
        let types = params_at h.tree h.scope (task_named h.tree task) args in
        in_turn law (values h types args) _ (values_kept h g types args)
        (λ vs. called_kept law h g task vs)
    value_kept h g (access_expr n steps) = in_turn law (named_value h n) _ (named_kept law h n)
        (λ v. stepped_kept h g (static_type_of h n) v steps)
    value_kept h g (convert_expr t e) = in_turn law (value h e) _ (value_kept h g e)
        (λ v. in_turn law (standing h v) _ (standing_kept law h v) (λ u. given_kept law _))
    value_kept h g (is_null_expr e) =
        in_turn law (value h e) _ (value_kept h g e) (λ v. given_kept law _)
    value_kept h g (null_expr t) =
        in_turn law (regions_written h t) _ (written_kept law h t)
        (λ rs. given_kept law (a_pointer null_target rs))
    value_kept h g (cast_expr t e) = in_turn law (value h e) _ (value_kept h g e)
        (λ v. in_turn law (regions_written h t) _ (written_kept law h t)
        (λ rs. given_kept law (cast_to rs v)))
    value_kept h g (space_expr k e) =
        in_turn law (value h e) _ (value_kept h g e) (λ v. size_kept law h (number_of v))

    pub linked_kept : (h : Here) → CallsAre Good h.calls →
        (t : StaticType) (v : Value) (ls : Links) → Kept R (linked h t v ls)
    linked_kept h g t v no_link = given_kept law v
    linked_kept h g t v (a_link Or e rest) =
        choice_kept law (truth_of v) _ _ (linked_kept h g truth_type v rest)
        (in_turn law (value h e) _ (value_kept h g e) (λ u. linked_kept h g truth_type u rest))
    linked_kept h g t v (a_link And e rest) = choice_kept law (truth_of v) _ _
        (in_turn law (value h e) _ (value_kept h g e) (λ u. linked_kept h g truth_type u rest))
        (linked_kept h g truth_type v rest)
    linked_kept h g t v (a_link (Compare o) e rest) =
        let b = are_pointers t (typed h e) in
        in_turn law (operand h b v) _ (operand_kept law h b v) (λ x.
        in_turn law (value h e) _ (value_kept h g e) (λ u.
        in_turn law (operand h b u) _ (operand_kept law h b u) (λ y.
        in_turn law (combined h (Compare o) x y) _ (combined_kept law h (Compare o) x y) (λ z.
        linked_kept h g (operated (Compare o) t (typed h e)) z rest))))
    linked_kept h g t v (a_link (Compute o) e rest) =
        let b = false in
        in_turn law (operand h b v) _ (operand_kept law h b v) (λ x.
        in_turn law (value h e) _ (value_kept h g e) (λ u.
        in_turn law (operand h b u) _ (operand_kept law h b u) (λ y.
        in_turn law (combined h (Compute o) x y) _ (combined_kept law h (Compute o) x y) (λ z.
        linked_kept h g (operated (Compute o) t (typed h e)) z rest))))

    pub values_kept : (h : Here) → CallsAre Good h.calls →
        (types : List StaticType) (es : Expressions) → Kept R (values h types es)
    values_kept h g types no_expr = given_kept law _
    values_kept h g types (an_expr e es) = in_turn law (value h e) _ (value_kept h g e) (λ v.
        in_turn law (converted h (typed h e) (first_type types) _ v) _
        (converted_kept law h (typed h e) (first_type types) _ v) (λ u.
        in_turn law (values h (other_types types) es) _ (values_kept h g (other_types types) es)
        (λ us. given_kept law _)))

    pub stepped_kept : (h : Here) → CallsAre Good h.calls →
        (t : StaticType) (v : Value) (ss : Steps) → Kept R (stepped h t v ss)
    stepped_kept h g t v no_step = given_kept law v
    stepped_kept h g t v (field_step f rest) =
        in_turn law (take_field h t f v) _ (take_field_kept law h t f v)
        (λ u. stepped_kept h g (type_of_field h.tree t f) u rest)
    stepped_kept h g t v (at_step e rest) = in_turn law (value h e) _ (value_kept h g e) (λ w.
        in_turn law (standing h w) _ (standing_kept law h w) (λ z.
        in_turn law (take_element h (number_of z) v) _ (take_element_kept law h (number_of z) v)
        (λ u.
        stepped_kept h g (type_of_element h.scope t e) u rest)))
