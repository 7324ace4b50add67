-- Evaluation leaves the values of names as they are.
use Rattle.std.proofs.Common.{List, [], ◌∷◌, Bool, Option, None, Some, true, false, ℕ, ℤ, zero, suc, pos, negsuc, ◌≡◌, get_or}
use Rattle.std.specs.Prelude.{length, nat_le, nat_lt}
use Rattle.plain_values.specs.Points.{has}
use Rattle.regent_tree.specs.Accesses.{Aim, aimed_through, converted, hits, misses, read_field, regions_written, standing, take_element, take_field}
use Rattle.regent_tree.specs.Evaluation.{answered, called, first_type, linked, other_types, stepped, typed, value, values}
use Rattle.regent_tree.specs.Numbers.{computed}
use Rattle.regent_tree.specs.Operators.{all_signed, arithmetic, as_number, cast_to, combined, compares_pointers, operand, result_value, result_width, space_of_size, unless_divided}
use Rattle.regent_tree.specs.Running.{Called, Here, Result, Run, State, and_then, broke, came_back, fails, fault, given, gives, if_true, pay_from, ◌>>=◌}
use Rattle.regent_tree.specs.StaticTypes.{task_named}
use Rattle.regent_tree.specs.Syntax.{Expression, Expressions, Links, Name, Steps, a_link, access_expr, an_expr, at_step, call_expr, cast_expr, chain_expr, convert_expr, field_step, is_null_expr, no_expr, no_link, no_step, null_expr, number_expr, prefix_expr, space_expr, truth_expr}
use Rattle.regent_tree.specs.Typing.{operated, params_at, type_of_element, type_of_field}
use Rattle.regent_tree.specs.Values.{Region, Value, a_number, a_partition, a_pointer, a_region, a_space, a_truth, an_index, is_null_target, null_target, number_of, point_target, target_of, truth_of}
use Rattle.regent_tree.specs.declared.expression.Arithmetic.{Arithmetic}
use Rattle.regent_tree.specs.declared.expression.Operator.{Operator}
use Rattle.regent_tree.specs.declared.expression.Operator.TheVariants.{And, Compare, Compute, Or}
use Rattle.regent_tree.specs.declared.outcome.FaultKind.TheVariants.{BadColor, BadSize, OutOfRegion}
use Rattle.regent_tree.specs.declared.typing.StaticType.{StaticType}
use Rattle.regent_tree.specs.declared.typing.StaticType.TheVariants.{Index as index_type, Integer as integer_type, Ispace as ispace_type, Nothing as no_type, Partition as partition_type, Pointer as pointer_type, Region as region_type, Truth as truth_type, Unknown as unknown_type}
use Rattle.expression_laws.specs.Sound.{EndsIn}

-- a step gives something in a state whose names have these values
abbrev pub KeepsNames : {A : Type 0} → List Value → Result A → Type 0
KeepsNames vs r = EndsIn (λ a w. w.names ≡ vs) (λ f w. Unit {0}) r

module _ (h : Here) (vs : List Value) where
  pub next : {A B : Type 0} (r : Result A) (more : A → Run B) → KeepsNames vs r → ((a : A) (w : State) → w.names ≡ vs → KeepsNames vs (more a w)) → KeepsNames vs (and_then r more)
  next (gives a w) more e f = f a w e
  next (fails q w) more e f = tt

  either : {A : Type 0} (b : Bool) (this that : Run A) (u : State) → KeepsNames vs (this u) → KeepsNames vs (that u) → KeepsNames vs (if_true b this that u)
  either true this that u e f = e
  either false this that u e f = f

  standing_same : (v : Value) (u : State) → u.names ≡ vs → KeepsNames vs (standing h v u)
  standing_same (a_number w z) u e = e
  standing_same (a_truth b) u e = e
  standing_same (an_index z) u e = e
  standing_same (a_pointer null_target rs) u e = tt
  standing_same (a_pointer (point_target n i) rs) u e = e
  standing_same (a_space n) u e = e
  standing_same (a_region r) u e = e
  standing_same (a_partition p) u e = e

  operand_same : (b : Bool) (v : Value) (u : State) → u.names ≡ vs → KeepsNames vs (operand h b v u)
  operand_same true v u e = e
  operand_same false v u e = standing_same v u e

  divided_same : (f : ℤ → Value) (o : Option ℤ) (u : State) → u.names ≡ vs → KeepsNames vs (unless_divided h f o u)
  divided_same f (Some z) u e = e
  divided_same f None u e = tt

  arithmetic_same : (o : Arithmetic) (a b : Value) (u : State) → u.names ≡ vs → KeepsNames vs (arithmetic h o a b u)
  arithmetic_same o (a_partition p) b u e = e
  arithmetic_same o (a_number w z) b u e = divided_same (result_value (a_number w z) b) (computed o (result_width (a_number w z) b) (number_of (a_number w z)) (number_of b)) u e
  arithmetic_same o (a_truth c) b u e = divided_same (result_value (a_truth c) b) (computed o (result_width (a_truth c) b) (number_of (a_truth c)) (number_of b)) u e
  arithmetic_same o (an_index z) b u e = divided_same (result_value (an_index z) b) (computed o (result_width (an_index z) b) (number_of (an_index z)) (number_of b)) u e
  arithmetic_same o (a_pointer t rs) b u e = divided_same (result_value (a_pointer t rs) b) (computed o (result_width (a_pointer t rs) b) (number_of (a_pointer t rs)) (number_of b)) u e
  arithmetic_same o (a_space n) b u e = divided_same (result_value (a_space n) b) (computed o (result_width (a_space n) b) (number_of (a_space n)) (number_of b)) u e
  arithmetic_same o (a_region r) b u e = divided_same (result_value (a_region r) b) (computed o (result_width (a_region r) b) (number_of (a_region r)) (number_of b)) u e

  combined_same : (o : Operator) (a b : Value) (u : State) → u.names ≡ vs → KeepsNames vs (combined h o a b u)
  combined_same (Compute o) a b u e = arithmetic_same o a b u e
  combined_same (Compare c) a b u e = e
  combined_same And a b u e = e
  combined_same Or a b u e = e

  read_same : (t : StaticType) (f : Name) (a : Aim) (u : State) → u.names ≡ vs → KeepsNames vs (read_field h t f a u)
  read_same t f (misses k) u e = tt
  read_same t f (hits root n) u e = e

  take_field_same : (t : StaticType) (f : Name) (v : Value) (u : State) → u.names ≡ vs → KeepsNames vs (take_field h t f v u)
  take_field_same t f (a_partition p) u e = e
  take_field_same t f (a_number w z) u e = tt
  take_field_same t f (a_truth b) u e = tt
  take_field_same t f (an_index z) u e = tt
  take_field_same t f (a_pointer q rs) u e = read_same t f (aimed_through rs q) u e
  take_field_same t f (a_space n) u e = tt
  take_field_same t f (a_region r) u e = tt

  take_element_same : (z : ℤ) (v : Value) (u : State) → u.names ≡ vs → KeepsNames vs (take_element h z v u)
  take_element_same (pos n) (a_region r) u e = either (has r.points n) (given (a_pointer (point_target n 1) (r ∷ []))) (fault h OutOfRegion) u e tt
  take_element_same (negsuc n) (a_region r) u e = tt
  take_element_same (pos n) (a_partition p) u e = either (nat_lt n (length p.sets)) (given (a_region (record { root = p.root; points = get_or p.sets n [] }))) (fault h BadColor) u e tt
  take_element_same (negsuc n) (a_partition p) u e = tt
  take_element_same z (a_number w y) u e = e
  take_element_same z (a_truth b) u e = e
  take_element_same z (an_index y) u e = e
  take_element_same z (a_pointer q rs) u e = e
  take_element_same z (a_space n) u e = e

  pub converted_same : (from wanted : StaticType) (rs : List Region) (v : Value) (u : State) → u.names ≡ vs → KeepsNames vs (converted h from wanted rs v u)
  converted_same from (integer_type w) rs v u e = e
  converted_same from (index_type k) rs v u e = next (standing h v u) (λ a. given (an_index (number_of a))) (standing_same v u e) (λ a w e. e)
  converted_same from (pointer_type k s args terms) rs v u e = e
  converted_same from truth_type rs v u e = e
  converted_same from (ispace_type k) rs v u e = e
  converted_same from (region_type k s args t) rs v u e = e
  converted_same from (partition_type d r p) rs v u e = e
  converted_same from no_type rs v u e = e
  converted_same from unknown_type rs v u e = e

  space_same : (z : ℤ) (u : State) → u.names ≡ vs → KeepsNames vs (space_of_size h z u)
  space_same (pos n) u e = either (nat_le n 4194304) (given (a_space n)) (fault h BadSize) u e tt
  space_same (negsuc n) u e = tt

  answered_same : (c : Called) (u : State) → u.names ≡ vs → KeepsNames vs (answered c u)
  answered_same (came_back v store text) u e = e
  answered_same (broke f text) u e = tt

  called_same : (name : Name) (us : List Value) (u : State) → u.names ≡ vs → KeepsNames vs (called h name us u)
  called_same name us u e = paid u.turns
    where
      paid : (n : ℕ) → KeepsNames vs (and_then (pay_from n h u) (λ _ w. and_then (gives w w) (λ t. answered (h.calls h.line name us t.store))))
      paid zero = tt
      paid (suc n) = answered_same _ (record u { turns = n }) e

  -- an operator that evaluates both operands
  both_same : (o : Operator) (t : StaticType) (v : Value) (y : Expression) (rest : Links) (u : State) → u.names ≡ vs → ((w : State) → w.names ≡ vs → KeepsNames vs (value h y w)) →
      ((z : Value) (w : State) → w.names ≡ vs → KeepsNames vs (linked h (operated o t (typed h y)) z rest w)) →
      KeepsNames vs (and_then (operand h (compares_pointers o t (typed h y)) v u) (λ a. value h y >>= λ q. operand h (compares_pointers o t (typed h y)) q >>= λ d. combined h o a d >>= λ z. linked h (operated o t (typed h y)) z rest))
  both_same o t v y rest u e right onward =
      let b = compares_pointers o t (typed h y) in
      let last : Value → Value → Run Value = λ a d. combined h o a d >>= λ z. linked h (operated o t (typed h y)) z rest in
      next (operand h b v u) (λ a. value h y >>= λ q. operand h b q >>= λ d. last a d) (operand_same b v u e) (λ a w e.
      next (value h y w) (λ q. operand h b q >>= λ d. last a d) (right w e) (λ q w e.
      next (operand h b q w) (λ d. last a d) (operand_same b q w e) (λ d w e.
      next (combined h o a d w) (λ z. linked h (operated o t (typed h y)) z rest) (combined_same o a d w e) onward)))

  mutual
    pub value_same : (y : Expression) (u : State) → u.names ≡ vs → KeepsNames vs (value h y u)
    value_same (number_expr z w) u e = e
    value_same (truth_expr b) u e = e
    value_same (chain_expr first rest) u e =
        next (value h first u) (λ v. linked h (typed h first) v rest) (value_same first u e) (λ v w e. linked_same (typed h first) v rest w e)
    value_same (prefix_expr signs y) u e =
        next (value h y u) (λ v. standing h v >>= λ a. given (all_signed signs a)) (value_same y u e) (λ v w e.
        next (standing h v w) (λ a. given (all_signed signs a)) (standing_same v w e) (λ a w e. e))
    value_same (call_expr name es) u e =
        next (values h (params_at h.tree h.scope (task_named h.tree name) es) es u) (λ us. called h name us)
        (values_same (params_at h.tree h.scope (task_named h.tree name) es) es u e) (λ us w e. called_same name us w e)
    value_same (access_expr n steps) u e = stepped_same _ steps _ u e
    value_same (convert_expr t y) u e =
        next (value h y u) (λ v. standing h v >>= λ a. given (as_number t a)) (value_same y u e) (λ v w e.
        next (standing h v w) (λ a. given (as_number t a)) (standing_same v w e) (λ a w e. e))
    value_same (is_null_expr y) u e = next (value h y u) (λ v. given (a_truth (is_null_target (target_of v)))) (value_same y u e) (λ v w e. e)
    value_same (null_expr p) u e = e
    value_same (cast_expr p y) u e = next (value h y u) (λ v. regions_written h p >>= λ rs. given (cast_to rs v)) (value_same y u e) (λ v w e. e)
    value_same (space_expr k y) u e = next (value h y u) (λ v. space_of_size h (number_of v)) (value_same y u e) (λ v w e. space_same (number_of v) w e)

    linked_same : (t : StaticType) (v : Value) (rest : Links) (u : State) → u.names ≡ vs → KeepsNames vs (linked h t v rest u)
    linked_same t v no_link u e = e
    linked_same t v (a_link Or y rest) u e =
        either (truth_of v) (linked h truth_type v rest) (value h y >>= λ a. linked h truth_type a rest) u (linked_same truth_type v rest u e)
        (next (value h y u) (λ a. linked h truth_type a rest) (value_same y u e) (λ a w e. linked_same truth_type a rest w e))
    linked_same t v (a_link And y rest) u e =
        either (truth_of v) (value h y >>= λ a. linked h truth_type a rest) (linked h truth_type v rest) u
        (next (value h y u) (λ a. linked h truth_type a rest) (value_same y u e) (λ a w e. linked_same truth_type a rest w e)) (linked_same truth_type v rest u e)
    linked_same t v (a_link (Compare c) y rest) u e = both_same (Compare c) t v y rest u e (λ w e. value_same y w e) (λ z w e. linked_same (operated (Compare c) t (typed h y)) z rest w e)
    linked_same t v (a_link (Compute o) y rest) u e = both_same (Compute o) t v y rest u e (λ w e. value_same y w e) (λ z w e. linked_same (operated (Compute o) t (typed h y)) z rest w e)

    values_same : (types : List StaticType) (es : Expressions) (u : State) → u.names ≡ vs → KeepsNames vs (values h types es u)
    values_same types no_expr u e = e
    values_same types (an_expr y es) u e =
        next (value h y u) (λ v. converted h (typed h y) (first_type types) [] v >>= λ a. values h (other_types types) es >>= λ us. given (a ∷ us)) (value_same y u e) (λ v w e.
        next (converted h (typed h y) (first_type types) [] v w) (λ a. values h (other_types types) es >>= λ us. given (a ∷ us)) (converted_same (typed h y) (first_type types) [] v w e) (λ a w e.
        next (values h (other_types types) es w) (λ us. given (a ∷ us)) (values_same (other_types types) es w e) (λ us w e. e)))

    stepped_same : (t : StaticType) (steps : Steps) (v : Value) (u : State) → u.names ≡ vs → KeepsNames vs (stepped h t v steps u)
    stepped_same t no_step v u e = e
    stepped_same t (field_step f rest) v u e =
        next (take_field h t f v u) (λ a. stepped h (type_of_field h.tree t f) a rest) (take_field_same t f v u e) (λ a w e. stepped_same (type_of_field h.tree t f) rest a w e)
    stepped_same t (at_step y rest) v u e =
        next (value h y u) (λ b. standing h b >>= λ z. take_element h (number_of z) v >>= λ a. stepped h (type_of_element h.scope t y) a rest) (value_same y u e) (λ b w e.
        next (standing h b w) (λ z. take_element h (number_of z) v >>= λ a. stepped h (type_of_element h.scope t y) a rest) (standing_same b w e) (λ z w e.
        next (take_element h (number_of z) v w) (λ a. stepped h (type_of_element h.scope t y) a rest) (take_element_same (number_of z) v w e) (λ a w e.
        stepped_same (type_of_element h.scope t y) rest a w e)))
