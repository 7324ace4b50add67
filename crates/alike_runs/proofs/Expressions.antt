-- Where calls answer alike, the evaluation of every expression is alike.
use Rattle.std.specs.Prelude.{false, List, []}
use Rattle.regent_tree.specs.declared.expression.Operator.TheVariants.{Or, And, Compare, Compute}
use Rattle.regent_tree.specs.Syntax.{Expression, number_expr, truth_expr, chain_expr, prefix_expr, call_expr, access_expr, convert_expr, is_null_expr, null_expr, cast_expr, space_expr, Links, no_link, a_link, Expressions, no_expr, an_expr, Steps, no_step, field_step, at_step}
use Rattle.regent_tree.specs.Values.{Value, a_pointer, null_target, truth_of, number_of}
use Rattle.regent_tree.specs.StaticTypes.{task_named}
use Rattle.regent_tree.specs.declared.outcome.FaultKind.{FaultKind}
use Rattle.regent_tree.specs.declared.typing.StaticType.{StaticType}
use Rattle.regent_tree.specs.declared.typing.StaticType.TheVariants.{Truth as truth_type}
use Rattle.regent_tree.specs.Typing.{operated, are_pointers, type_of_field, type_of_element, params_at}
use Rattle.regent_tree.specs.Running.{Calls, Here}
use Rattle.regent_tree.specs.Accesses.{standing, converted, regions_written, take_field, take_element}
use Rattle.regent_tree.specs.Operators.{operand, combined, cast_to}
use Rattle.regent_tree.specs.Evaluation.{value, linked, values, stepped, named_value, static_type_of, typed, first_type, other_types}
use Rattle.alike_runs.specs.Alike.{AreAlike}
use Rattle.alike_runs.proofs.Steps.{Alike, called_alike, choice_alike, combined_alike, converted_alike, given_alike, in_turn, named_alike, operand_alike, size_alike, standing_alike, take_element_alike, take_field_alike, with, written_alike}

module _ (other : FaultKind) (calls : Calls) where
  mutual
    pub value_alike : (h : Here) → AreAlike other h.calls calls → (e : Expression) → Alike other (value h e) (value (with calls h) e)
    value_alike h g (number_expr z w) = given_alike _
    value_alike h g (truth_expr b) = given_alike _
    value_alike h g (chain_expr first rest) = in_turn (value h first) (value (with calls h) first) _ _ (value_alike h g first)
        (λ v. linked_alike h g (typed h first) v rest)
    value_alike h g (prefix_expr signs e) = in_turn (value h e) (value (with calls h) e) _ _ (value_alike h g e)
        (λ v. in_turn (standing h v) (standing (with calls h) v) _ _ (standing_alike other calls h v) (λ u. given_alike _))
    value_alike h g (call_expr task args) =
        let types = params_at h.tree h.scope (task_named h.tree task) args in
        in_turn (values h types args) (values (with calls h) types args) _ _ (values_alike h g types args)
        (λ vs. called_alike other calls h g task vs)
    value_alike h g (access_expr n steps) = in_turn (named_value h n) (named_value (with calls h) n) _ _ (named_alike other calls h n)
        (λ v. stepped_alike h g (static_type_of h n) v steps)
    value_alike h g (convert_expr t e) = in_turn (value h e) (value (with calls h) e) _ _ (value_alike h g e)
        (λ v. in_turn (standing h v) (standing (with calls h) v) _ _ (standing_alike other calls h v) (λ u. given_alike _))
    value_alike h g (is_null_expr e) =
        in_turn (value h e) (value (with calls h) e) _ _ (value_alike h g e) (λ v. given_alike _)
    value_alike h g (null_expr t) =
        in_turn (regions_written h t) (regions_written (with calls h) t) _ _ (written_alike other calls h t)
        (λ rs. given_alike (a_pointer null_target rs))
    value_alike h g (cast_expr t e) = in_turn (value h e) (value (with calls h) e) _ _ (value_alike h g e)
        (λ v. in_turn (regions_written h t) (regions_written (with calls h) t) _ _ (written_alike other calls h t)
        (λ rs. given_alike (cast_to rs v)))
    value_alike h g (space_expr k e) =
        in_turn (value h e) (value (with calls h) e) _ _ (value_alike h g e) (λ v. size_alike other calls h (number_of v))

    pub linked_alike : (h : Here) → AreAlike other h.calls calls →
        (t : StaticType) (v : Value) (ls : Links) → Alike other (linked h t v ls) (linked (with calls h) t v ls)
    linked_alike h g t v no_link = given_alike v
    linked_alike h g t v (a_link Or e rest) =
        choice_alike (truth_of v) _ _ _ _ (linked_alike h g truth_type v rest)
        (in_turn (value h e) (value (with calls h) e) _ _ (value_alike h g e) (λ u. linked_alike h g truth_type u rest))
    linked_alike h g t v (a_link And e rest) = choice_alike (truth_of v) _ _ _ _
        (in_turn (value h e) (value (with calls h) e) _ _ (value_alike h g e) (λ u. linked_alike h g truth_type u rest))
        (linked_alike h g truth_type v rest)
    linked_alike h g t v (a_link (Compare o) e rest) =
        let b = are_pointers t (typed h e) in
        in_turn (operand h b v) (operand (with calls h) b v) _ _ (operand_alike other calls h b v) (λ x.
        in_turn (value h e) (value (with calls h) e) _ _ (value_alike h g e) (λ u.
        in_turn (operand h b u) (operand (with calls h) b u) _ _ (operand_alike other calls h b u) (λ y.
        in_turn (combined h (Compare o) x y) (combined (with calls h) (Compare o) x y) _ _ (combined_alike other calls h (Compare o) x y) (λ z.
        linked_alike h g (operated (Compare o) t (typed h e)) z rest))))
    linked_alike h g t v (a_link (Compute o) e rest) =
        let b = false in
        in_turn (operand h b v) (operand (with calls h) b v) _ _ (operand_alike other calls h b v) (λ x.
        in_turn (value h e) (value (with calls h) e) _ _ (value_alike h g e) (λ u.
        in_turn (operand h b u) (operand (with calls h) b u) _ _ (operand_alike other calls h b u) (λ y.
        in_turn (combined h (Compute o) x y) (combined (with calls h) (Compute o) x y) _ _ (combined_alike other calls h (Compute o) x y) (λ z.
        linked_alike h g (operated (Compute o) t (typed h e)) z rest))))

    pub values_alike : (h : Here) → AreAlike other h.calls calls →
        (types : List StaticType) (es : Expressions) → Alike other (values h types es) (values (with calls h) types es)
    values_alike h g types no_expr = given_alike _
    values_alike h g types (an_expr e es) = in_turn (value h e) (value (with calls h) e) _ _ (value_alike h g e) (λ v.
        in_turn (converted h (typed h e) (first_type types) [] v) (converted (with calls h) (typed h e) (first_type types) [] v) _ _
        (converted_alike other calls h (typed h e) (first_type types) [] v) (λ u.
        in_turn (values h (other_types types) es) (values (with calls h) (other_types types) es) _ _ (values_alike h g (other_types types) es)
        (λ us. given_alike _)))

    pub stepped_alike : (h : Here) → AreAlike other h.calls calls →
        (t : StaticType) (v : Value) (ss : Steps) → Alike other (stepped h t v ss) (stepped (with calls h) t v ss)
    stepped_alike h g t v no_step = given_alike v
    stepped_alike h g t v (field_step f rest) =
        in_turn (take_field h t f v) (take_field (with calls h) t f v) _ _ (take_field_alike other calls h t f v)
        (λ u. stepped_alike h g (type_of_field h.tree t f) u rest)
    stepped_alike h g t v (at_step e rest) = in_turn (value h e) (value (with calls h) e) _ _ (value_alike h g e) (λ w.
        in_turn (standing h w) (standing (with calls h) w) _ _ (standing_alike other calls h w) (λ z.
        in_turn (take_element h (number_of z) v) (take_element (with calls h) (number_of z) v) _ _ (take_element_alike other calls h (number_of z) v)
        (λ u.
        stepped_alike h g (type_of_element h.scope t e) u rest)))
