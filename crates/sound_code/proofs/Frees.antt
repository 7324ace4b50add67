-- What is asked of a task holds of one that is typed, where each fill names a field: each name that is read has a value.
use Rattle.std.proofs.Common.{◌≡◌, ◌⊎◌, ⊎_elim, ℕ, zero, suc, List, [], ◌∷◌, true, false, ◌&&◌, ◌||◌, None, Some, refl, sym, ap, subst}
use Rattle.std.specs.List.{list_all}
use Rattle.std.specs.Prelude.{slice_get}
use Rattle.std.proofs.lemmas.Bool.{false≢true, or_left, or_right}
use Rattle.regent_tree.specs.Execution.{before_last}
use Rattle.regent_tree.specs.StaticTypes.{task_named}
use Rattle.regent_tree.specs.Syntax.{a_link, a_statement, access_expr, an_arm, an_expr, Arms, assert_form, assign_form, at_step, Block, both_initializer, by_field_initializer, call_expr, call_form, cast_expr, chain_expr, convert_expr, do_form, either_initializer, else_block, equal_initializer, Expression, Expressions, field_step, fill_form, for_in_form, for_to_form, Form, if_form, image_initializer, is_null_expr, Links, Name, no_arm, no_else, no_expr, no_link, no_statement, no_step, null_expr, number_expr, Otherwise, plain_initializer, prefix_expr, preimage_initializer, print_form, region_initializer, return_form, space_expr, Steps, TaskTree, then_statement, Tree, truth_expr, var_form, while_form}
use Rattle.regent_tree.specs.Typing.{arithmetic_type, initializer_type, operated, owned, param_types, taken_from, var_type}
use Rattle.regent_tree.specs.declared.expression.Arithmetic.TheVariants.{Subtract}
use Rattle.regent_tree.specs.declared.expression.Operator.TheVariants.{And, Compare, Compute, Or}
use Rattle.regent_tree.specs.declared.statement.How.TheVariants as how
use Rattle.regent_tree.specs.declared.typing.StaticType.{StaticType}
use Rattle.check_rules.specs.types.Sorts.{is_partition, is_region}
use Rattle.code_rules.specs.Instructions.{tasks_of}
use Rattle.code_rules.specs.Programs.{place_of}
use Rattle.code_rules.specs.Slots.{bound, typed, Where}
use Rattle.code_rules.specs.Statements.{after_arm, after_arms, after_form, looping, on_line}
use Rattle.expression_laws.specs.WrittenStatements.{AreWrittenArms, IsWrittenBlock, IsWrittenElse, IsWrittenForm, names_field}
use Rattle.code_laws.specs.Fields.{are_fields}
use Rattle.code_laws.specs.Pointers.{BeginsWith, IsCounting, IsLike}
use Rattle.code_laws.specs.Simple.{a_partition_type, IsPartition}
use Rattle.code_laws.specs.Steps.{Forms}
use Rattle.code_laws.specs.Typed.{BeginsAsPart, AreFilled, AreNumbers, ArePassed, AreTypedArms, AreTypedLinks, IsBegun, IsDifference, IsIndexed, IsKeepable, IsLooped, IsNamedRegion, IsPassed, IsTyped, IsTypedBlock, IsTypedElse, IsTypedForm, LoopsOver, LoopsOverPart}
use Rattle.code_laws.proofs.Arguments.{given_by, handed_name, IsCutArgument, IsPartArgument}
use Rattle.code_laws.proofs.Wider.{assigned, beginning, begun, compared, counting, filling, loops_over, looped_over, passing, signed_as, zeroed, said_either}
use Rattle.sound_code.proofs.WholeTasks.{are_whole_arguments, are_whole_arms, are_whole_expressions, are_whole_links, is_value, is_whole_block, is_whole_domain, is_whole_else, is_whole_expression, is_whole_form, is_whole_program, is_whole_task, names_region, takes_part}
use Rattle.sound_code.proofs.Truths.{both_true}
use Rattle.sound_code.proofs.Values.{IsValue, integer_value, truth_value, space_value, pointer_value, counting_value, kept_value, into_values, passed_values, assigned_values, begins_values, itself_value, filled_value, compared_values, signed_value, region_sort, regions_sort, partition_sort}
use Rattle.sound_code.proofs.Wholes.{kept_of, owned_same}

-- ---- expressions

module _ (forms : Forms) (keeps : forms.keeps ≡ true) where
  -- what is given for a parameter
  given_whole : (w : Where) (t p : StaticType) (e : Expression) →
      (IsTyped forms w e → is_value false (typed w e) ≡ true → is_whole_expression false w e ≡ true) →
      ((n : Name) (i : Expression) → e ≡ access_expr n (at_step i no_step) → IsIndexed forms w e → is_whole_expression false w i ≡ true) →
      IsPassed forms w t p e (IsTyped forms w e) (IsIndexed forms w e) →
      (is_partition p || ((is_region p || is_value false p) && (names_region w e || (takes_part false w e || is_whole_expression false w e)))) ≡ true
  given_whole w t p e value part g = given_by forms.keeps forms.takes w t p e (IsTyped forms w e) (IsIndexed forms w e)
      ((is_partition p || ((is_region p || is_value false p) && (names_region w e || (takes_part false w e || is_whole_expression false w e)))) ≡ true)
      (λ a f.
      let both = passed_values (typed w e) t p (passing forms.keeps (typed w e) t p a) in
      or_right (is_partition p) _ (both_true (is_region p || is_value false p) _ (or_right (is_region p) (is_value false p) both.1)
      (or_right (names_region w e) _ (or_right (takes_part false w e) (is_whole_expression false w e) (value f both.0)))))
      (λ y takes h.
      let n = handed_name y w t p e h in
      let sorts = regions_sort (bound w n.0).static_type p n.4 in
      or_right (is_partition p) _ (both_true (is_region p || is_value false p) _ (or_left (is_region p) (is_value false p) sorts.1)
      (subst (λ y. (names_region w y || (takes_part false w y || is_whole_expression false w y)) ≡ true) (sym n.1)
      (or_left (is_region (bound w n.0).static_type) _ sorts.0))))
      (λ (a : IsPartArgument forms.takes w t p e (IsIndexed forms w e)).
      or_right (is_partition p) _ (both_true (is_region p || is_value false p) _ (or_left (is_region p) (is_value false p) (regions_sort (typed w e) p a.regions).1)
      (or_right (names_region w e) _ (or_left (takes_part false w e) (is_whole_expression false w e)
      (subst (λ y. takes_part false w y ≡ true) (sym a.is)
      (both_true (is_partition (bound w a.name).static_type) (is_whole_expression false w a.index) (partition_sort _ a.cut.partition) (part a.name a.index a.is a.part)))))))
      (λ (a : IsCutArgument forms.takes w t p e). or_left (is_partition p) _ (partition_sort p a.partition)) g

  -- what stands before an operator
  first_value : (w : Where) (t : StaticType) (ls : Links) → (ls ≡ no_link → ⊥) → AreTypedLinks forms w t ls → IsValue t
  first_value w t no_link some f = absurd (some refl)
  first_value w t (a_link Or e rest) some f = truth_value t f.0
  first_value w t (a_link And e rest) some f = truth_value t f.0
  first_value w t (a_link (Compare c) e rest) some f = (compared_values c t (typed w e) (compared forms.keeps c t (typed w e) f.0)).0
  first_value w t (a_link (Compute c) e rest) some f = counting_value t (counting forms.keeps t f.0)

  -- the index of a part
  abbrev index_in : Expression → Expression
  index_in (access_expr n (at_step i no_step)) = i
  index_in e = e

  mutual
    expr_whole : (w : Where) (e : Expression) → IsTyped forms w e → IsValue (typed w e) → is_whole_expression false w e ≡ true
    expr_whole w (number_expr z v) f v0 = refl
    expr_whole w (truth_expr b) f v = refl
    expr_whole w (chain_expr first no_link) f v = both_true (is_whole_expression false w first) true (expr_whole w first f.0 v) refl
    expr_whole w (chain_expr first (a_link o e rest)) f v =
        both_true (is_whole_expression false w first) (are_whole_links false w (a_link o e rest))
        (expr_whole w first f.0 (first_value w (typed w first) (a_link o e rest) (λ q. absurd cc) f.1)) (links_whole w (typed w first) (a_link o e rest) f.1)
    expr_whole w (prefix_expr signs e) f v = expr_whole w e f.0 (signed_value (typed w e) signs (signed_as forms.keeps _ signs f.1))
    expr_whole w (access_expr n no_step) f v = v
    expr_whole w (access_expr n (field_step l rest)) f v = refl
    expr_whole w (access_expr n (at_step e no_step)) f v = both_true (is_region (bound w n).static_type) (is_whole_expression false w e) (region_sort _ f.4)
        (expr_whole w e f.1 (counting_value _ f.2))
    expr_whole w (access_expr n (at_step e (field_step l no_step))) f v = expr_whole w e f.0 (counting_value _ (counting forms.keeps _ f.1))
    expr_whole w (access_expr n (at_step e (field_step l (field_step k rest)))) f v = expr_whole w e f.1 (counting_value _ (counting forms.keeps _ f.2))
    expr_whole w (call_expr task args) f v = args_whole w _ (param_types w.tree (task_named w.tree task)) args f.3
    expr_whole w (convert_expr t e) f v = expr_whole w e f.0 (counting_value _ (counting forms.keeps _ f.1))
    expr_whole w (space_expr k e) f v = expr_whole w e f.0 (integer_value _ f.1)
    expr_whole w (is_null_expr e) f v = expr_whole w e f.2 (pointer_value _ f.1)
    expr_whole w (null_expr t) f v = refl
    expr_whole w (cast_expr t e) f v = both_true (is_value false (typed w (cast_expr t e))) (is_whole_expression false w e) (pointer_value _ f.1.0)
        (expr_whole w e f.3 (counting_value _ f.2))
    expr_whole w (access_expr n (at_step e (at_step i no_step))) f v = both_true (is_whole_expression false w e) (is_whole_expression false w i)
        (expr_whole w e f.2.0 (counting_value _ f.2.1)) (expr_whole w i f.3.0 (counting_value _ f.3.1))
    expr_whole w (access_expr n (at_step e (at_step i (field_step l rest)))) f v = both_true (is_whole_expression false w e) (is_whole_expression false w i)
        (expr_whole w e f.2.0 (counting_value _ f.2.1)) (expr_whole w i f.3.0 (counting_value _ f.3.1))
    expr_whole w _ f v = absurd f

    links_whole : (w : Where) (t : StaticType) (ls : Links) → AreTypedLinks forms w t ls → are_whole_links false w ls ≡ true
    links_whole w t no_link f = refl
    links_whole w t (a_link Or e rest) f =
        both_true (is_whole_expression false w e) _ (expr_whole w e f.2 (truth_value _ f.1)) (links_whole w _ rest f.3)
    links_whole w t (a_link And e rest) f =
        both_true (is_whole_expression false w e) _ (expr_whole w e f.2 (truth_value _ f.1)) (links_whole w _ rest f.3)
    links_whole w t (a_link (Compare c) e rest) f =
        both_true (is_whole_expression false w e) _ (expr_whole w e f.1 (compared_values c t (typed w e) (compared forms.keeps c t (typed w e) f.0)).1)
        (links_whole w _ rest f.2)
    links_whole w t (a_link (Compute c) e rest) f =
        both_true (is_whole_expression false w e) _ (expr_whole w e f.2 (counting_value _ (counting forms.keeps _ f.1))) (links_whole w _ rest f.3)

    index_whole : (w : Where) (e : Expression) (n : Name) (i : Expression) → e ≡ access_expr n (at_step i no_step) → IsIndexed forms w e →
        is_whole_expression false w i ≡ true
    index_whole w (access_expr m (at_step j no_step)) n i same f =
        subst (λ y. is_whole_expression false w y ≡ true) (ap index_in same) (expr_whole w j f.0 (counting_value _ f.1))
    index_whole w _ n i same f = absurd f

    args_whole : (w : Where) (ts ps : List StaticType) (es : Expressions) → ArePassed forms w ts ps es → are_whole_arguments false w ps es ≡ true
    args_whole w [] [] no_expr f = refl
    args_whole w (t ∷ ts) (p ∷ ps) (an_expr e es) f =
        both_true (is_partition p || ((is_region p || is_value false p) && (names_region w e || (takes_part false w e || is_whole_expression false w e)))) _
        (given_whole w t p e (expr_whole w e) (index_whole w e) f.0) (args_whole w ts ps es f.1)
    args_whole w [] [] (an_expr e es) f = absurd f
    args_whole w [] (p ∷ ps) es f = absurd f
    args_whole w (t ∷ ts) [] es f = absurd f
    args_whole w (t ∷ ts) (p ∷ ps) no_expr f = absurd f

  numbers_whole : (w : Where) (es : Expressions) → AreNumbers forms w es → are_whole_expressions false w es ≡ true
  numbers_whole w no_expr f = refl
  numbers_whole w (an_expr e es) f =
      both_true (is_whole_expression false w e) _ (expr_whole w e f.1 (integer_value _ f.0)) (numbers_whole w es f.2)

  -- over what a loop goes
  named_sort : (w : Where) (e : Expression) → IsNamedRegion w e → names_region w e ≡ true
  named_sort w (access_expr n no_step) r = region_sort _ r.0
  named_sort w _ r = absurd r

  part_whole : (w : Where) (e : Expression) → LoopsOverPart w e (IsIndexed forms w e) → takes_part false w e ≡ true
  part_whole w (access_expr n (at_step i no_step)) p =
      both_true (is_partition (bound w n).static_type) (is_whole_expression false w i) (partition_sort _ p.0.partition) (index_whole w (access_expr n (at_step i no_step)) n i refl p.3)
  part_whole w _ p = absurd p

  domain_whole : (w : Where) (e : Expression) (Body : Type 0) → IsLooped forms.keeps w e (IsTyped forms w e) (IsIndexed forms w e) Body →
      is_whole_domain false w e ≡ true
  domain_whole w e Body f = ⊎_elim
      (λ (l : LoopsOver forms.keeps w e × IsTyped forms w e × Body). ⊎_elim
      (λ s. or_right (names_region w e) _ (or_right (takes_part false w e) (is_whole_expression false w e) (expr_whole w e l.1 (space_value _ s))))
      (λ r. or_left (names_region w e) _ (named_sort w e r)) (loops_over forms.keeps w e l.0))
      (λ (p : LoopsOverPart w e (IsIndexed forms w e) × Body). or_right (names_region w e) _ (or_left (takes_part false w e) _ (part_whole w e p.0)))
      (looped_over forms.keeps w e (IsTyped forms w e) (IsIndexed forms w e) Body f)

  looped_body : (w : Where) (e : Expression) (Body : Type 0) → IsLooped forms.keeps w e (IsTyped forms w e) (IsIndexed forms w e) Body → Body
  looped_body w e Body f = ⊎_elim
      (λ (l : LoopsOver forms.keeps w e × IsTyped forms w e × Body). l.2) (λ (p : LoopsOverPart w e (IsIndexed forms w e) × Body). p.1)
      (looped_over forms.keeps w e (IsTyped forms w e) (IsIndexed forms w e) Body f)

  -- a difference of partitions
  minus_sort : (u v : StaticType) → IsPartition u → is_partition (operated (Compute Subtract) u v) ≡ true
  minus_sort _ v (a_partition_type d r p) = refl

  difference_sort : (w : Where) (e : Expression) → IsDifference w e → is_partition (typed w e) ≡ true
  difference_sort w (chain_expr (access_expr p no_step) (a_link (Compute Subtract) (access_expr q no_step) no_link)) d =
      minus_sort (bound w p).static_type (bound w q).static_type d.first.partition
  difference_sort w _ d = absurd d

  -- a variable that begins as a part
  begins_whole : (w : Where) (e : Expression) → BeginsAsPart forms.takes w e (IsIndexed forms w e) → takes_part false w e ≡ true
  begins_whole w (access_expr n (at_step e no_step)) b = part_whole w (access_expr n (at_step e no_step)) b.0
  begins_whole w _ b = absurd b

  begun_whole : (w : Where) (e : Expression) → IsBegun forms.keeps w e (IsKeepable forms.keeps w e × IsTyped forms w e) (BeginsAsPart forms.takes w e (IsIndexed forms w e)) →
      (is_partition (typed w e) || (takes_part false w e || (is_value false (owned w.scope.next (typed w e)) && is_whole_expression false w e))) ≡ true
  begun_whole w e f = ⊎_elim
      (λ (b : IsKeepable forms.keeps w e × IsTyped forms w e).
      let is = kept_of forms.keeps w e b.0 in
      or_right (is_partition (typed w e)) _ (or_right (takes_part false w e) _ (both_true (is_value false (owned w.scope.next (typed w e))) (is_whole_expression false w e)
      (subst IsValue (sym (owned_same w.scope.next (typed w e) is)) (kept_value (typed w e) is)) (expr_whole w e b.1 (kept_value (typed w e) is)))))
      (⊎_elim (λ d. or_left (is_partition (typed w e)) _ (difference_sort w e d))
      (λ b. or_right (is_partition (typed w e)) _ (or_left (takes_part false w e) _ (begins_whole w e b))))
      (begun forms.keeps w e (IsKeepable forms.keeps w e × IsTyped forms w e) (BeginsAsPart forms.takes w e (IsIndexed forms w e)) f)

  -- the point of an access whose last field is one of what the fields before it go to
  point_typed : (w : Where) (n : Name) (e : Expression) (f g : Name) (rest : Steps) → are_fields rest ≡ true →
      IsTyped forms w (access_expr n (before_last (at_step e (field_step f (field_step g rest))))) → IsTyped forms w e × IsCounting (typed w e)
  point_typed w n e f g no_step lo t = (t.0, counting forms.keeps _ t.1)
  point_typed w n e f g (field_step k rest) lo t = (t.1, counting forms.keeps _ t.2)
  point_typed w n e f g (at_step i rest) lo t = absurd (false≢true lo)

  -- the two indices of an element of a part that has no name
  both_whole : (w : Where) (e i : Expression) → IsTyped forms w e × IsCounting (typed w e) → IsTyped forms w i × IsCounting (typed w i) →
      (is_whole_expression false w e && is_whole_expression false w i) ≡ true
  both_whole w e i a b = both_true (is_whole_expression false w e) (is_whole_expression false w i) (expr_whole w e a.0 (counting_value _ a.1))
      (expr_whole w i b.0 (counting_value _ b.1))

  part_front : (w : Where) (n : Name) (e i : Expression) (f g : Name) (rest : Steps) → are_fields rest ≡ true →
      IsTyped forms w (access_expr n (before_last (at_step e (at_step i (field_step f (field_step g rest)))))) →
      (is_whole_expression false w e && is_whole_expression false w i) ≡ true
  part_front w n e i f g no_step lo t = both_whole w e i t.2 t.3
  part_front w n e i f g (field_step k rest) lo t = both_whole w e i t.2 t.3
  part_front w n e i f g (at_step y rest) lo t = absurd (false≢true lo)

  filled_whole : (w : Where) (r : Name) (fields : List Name) (e : Expression) → names_field fields ≡ true → AreFilled forms.keeps w r (typed w e) fields → IsValue (typed w e)
  filled_whole w r [] e some f = absurd (false≢true some)
  filled_whole w r (l ∷ fields) e some f = filled_value (typed w e) _ (filling forms.keeps (typed w e) _ f.0)

  mutual
    form_whole : (w : Where) (form : Form) → IsTypedForm forms w form → IsWrittenForm form → is_whole_form false w form ≡ true
    form_whole w (var_form n None (Some (plain_initializer e))) f h = begun_whole w e f
    form_whole w (var_form n (Some t) (Some (plain_initializer e))) f h =
        let u = var_type w.tree w.scope (Some t) (Some (plain_initializer e)) in
        ⊎_elim
        (λ (b : BeginsWith forms.keeps w.scope.names (typed w e) u × IsTyped forms w e).
        let both = begins_values w.scope.names (typed w e) u (beginning forms.keeps w.scope.names (typed w e) u b.0) in
        or_right (is_partition (typed w e)) _ (or_right (takes_part false w e) _
        (both_true (is_value false u) (is_whole_expression false w e) both.1 (expr_whole w e b.1 both.0))))
        (λ (d : (IsDifference w e ⊎ BeginsAsPart forms.takes w e (IsIndexed forms w e)) × IsLike u (initializer_type w.tree w.scope w.scope.next (plain_initializer e))).
        ⊎_elim (λ c. or_left (is_partition (typed w e)) _ (difference_sort w e c))
        (λ c. or_right (is_partition (typed w e)) _ (or_left (takes_part false w e) _ (begins_whole w e c))) d.0)
        (said_either forms.keeps w e (BeginsWith forms.keeps w.scope.names (typed w e) u × IsTyped forms w e) (BeginsAsPart forms.takes w e (IsIndexed forms w e))
        (IsLike u (initializer_type w.tree w.scope w.scope.next (plain_initializer e))) f)
    form_whole w (var_form n None (Some (region_initializer e u))) f h = expr_whole w e f.2 (space_value _ f.1)
    form_whole w (var_form n None (Some (equal_initializer r e))) f h = expr_whole w e f.2 (space_value _ f.1)
    form_whole w (var_form n None (Some (by_field_initializer r l e))) f h = expr_whole w e f.2 (space_value _ f.1)
    form_whole w (var_form n None (Some (image_initializer s p r l))) f h = refl
    form_whole w (var_form n None (Some (preimage_initializer s p r l))) f h = refl
    form_whole w (var_form n None (Some (both_initializer p q))) f h = refl
    form_whole w (var_form n None (Some (either_initializer p q))) f h = refl
    form_whole w (var_form n (Some t) None) f h = itself_value w.scope.names _ (zeroed forms.keeps w.scope.names _ f)
    form_whole w (var_form n (Some t) (Some (region_initializer e u))) f h = expr_whole w e f.2.2 (space_value _ f.2.1)
    form_whole w (var_form n (Some t) (Some (equal_initializer r e))) f h = expr_whole w e f.2.2 (space_value _ f.2.1)
    form_whole w (var_form n (Some t) (Some (by_field_initializer r l e))) f h = expr_whole w e f.2.2 (space_value _ f.2.1)
    form_whole w (var_form n (Some t) (Some (image_initializer s p r l))) f h = refl
    form_whole w (var_form n (Some t) (Some (preimage_initializer s p r l))) f h = refl
    form_whole w (var_form n (Some t) (Some (both_initializer p q))) f h = refl
    form_whole w (var_form n (Some t) (Some (either_initializer p q))) f h = refl
    form_whole w (if_form arms other) f h =
        both_true (are_whole_arms false w w arms) (is_whole_else false (after_arms w arms) other) (arms_whole w w arms f.0 h.0)
        (else_whole (after_arms w arms) other f.1 h.1)
    form_whole w (while_form test body) f h =
        both_true (is_whole_expression false w test) (is_whole_block false w body) (expr_whole w test f.1 (truth_value _ f.0)) (block_whole w body f.2 h.1)
    form_whole w (for_in_form d n domain body) f h =
        both_true (is_whole_domain false w domain) (is_whole_block false (looping w n (taken_from (typed w domain))) body) (domain_whole w domain _ f)
        (block_whole (looping w n (taken_from (typed w domain))) body (looped_body w domain _ f) h.1)
    form_whole w (for_to_form d n from to body) f h =
        let lw = looping w n (arithmetic_type (typed w from) (typed w to)) in
        both_true (is_whole_expression false w from) (is_whole_expression false w to && is_whole_block false lw body) (expr_whole w from f.2 (integer_value _ f.0))
        (both_true (is_whole_expression false w to) (is_whole_block false lw body) (expr_whole w to f.3 (integer_value _ f.1)) (block_whole lw body f.4 h.2))
    form_whole w (do_form body) f h = block_whole w body f h
    form_whole w (fill_form r fields e) f h = expr_whole w e f.0 (filled_whole w r fields e h.1 f.3)
    form_whole w (assert_form e) f h = expr_whole w e f.1 (truth_value _ f.0)
    form_whole w (print_form alias format args) f h = numbers_whole w args f.0
    form_whole w (call_form task args) f h = args_whole w _ (param_types w.tree (task_named w.tree task)) args f.2
    form_whole w (assign_form n no_step how.Set e) f h =
        let both = assigned_values (typed w e) (bound w n).static_type (assigned forms.keeps _ _ f.0) in
        both_true (is_value false (bound w n).static_type) (is_whole_expression false w e) both.1 (expr_whole w e f.1 both.0)
    form_whole w (assign_form n no_step (how.Reduce o) e) f h =
        both_true (is_value false (bound w n).static_type) (is_whole_expression false w e) (integer_value _ f.1) (expr_whole w e f.2 (integer_value _ f.0))
    form_whole w (assign_form n (field_step l no_step) how.Set y) f h = expr_whole w y f.2 (assigned_values _ _ f.1).0
    form_whole w (assign_form n (field_step l no_step) (how.Reduce o) y) f h = expr_whole w y f.3 (integer_value _ f.1)
    form_whole w (assign_form n (field_step l (field_step k rest)) how.Set y) f h =
        expr_whole w y f.2 (assigned_values _ _ f.1).0
    form_whole w (assign_form n (field_step l (field_step k rest)) (how.Reduce o) y) f h =
        expr_whole w y f.3 (integer_value _ f.1)
    form_whole w (assign_form n (at_step e (field_step l no_step)) how.Set y) f h =
        both_true (is_whole_expression false w e) (is_whole_expression false w y)
        (expr_whole w e f.2 (counting_value _ (counting forms.keeps _ f.3)))
        (expr_whole w y f.1 (assigned_values _ _ (assigned forms.keeps _ _ f.0)).0)
    form_whole w (assign_form n (at_step e (field_step l no_step)) (how.Reduce o) y) f h =
        both_true (is_whole_expression false w e) (is_whole_expression false w y)
        (expr_whole w e f.3 (counting_value _ (counting forms.keeps _ f.4)))
        (expr_whole w y f.2 (integer_value _ f.0))
    form_whole w (assign_form n (at_step e (field_step l (field_step k rest))) how.Set y) f h =
        let point = point_typed w n e l k rest f.3.0 f.3.1 in
        both_true (is_whole_expression false w e) (is_whole_expression false w y)
        (expr_whole w e point.0 (counting_value _ point.1))
        (expr_whole w y f.2 (assigned_values _ _ f.1).0)
    form_whole w (assign_form n (at_step e (field_step l (field_step k rest))) (how.Reduce o) y) f h =
        let point = point_typed w n e l k rest f.4.0 f.4.1 in
        both_true (is_whole_expression false w e) (is_whole_expression false w y)
        (expr_whole w e point.0 (counting_value _ point.1))
        (expr_whole w y f.3 (integer_value _ f.1))
    form_whole w (return_form None) f h = refl
    form_whole w (return_form (Some e)) f h = expr_whole w e f.1 (into_values _ _ f.0.0).0
    form_whole w (assign_form n (at_step e (at_step i (field_step l no_step))) how.Set y) f h =
        both_true (is_whole_expression false w e && is_whole_expression false w i) (is_whole_expression false w y) (both_whole w e i f.4 f.5)
        (expr_whole w y f.2 (assigned_values _ _ f.1).0)
    form_whole w (assign_form n (at_step e (at_step i (field_step l no_step))) (how.Reduce o) y) f h =
        both_true (is_whole_expression false w e && is_whole_expression false w i) (is_whole_expression false w y) (both_whole w e i f.5 f.6)
        (expr_whole w y f.3 (integer_value _ f.1))
    form_whole w (assign_form n (at_step e (at_step i (field_step l (field_step k rest)))) how.Set y) f h =
        both_true (is_whole_expression false w e && is_whole_expression false w i) (is_whole_expression false w y) (part_front w n e i l k rest f.3.0 f.3.1)
        (expr_whole w y f.2 (assigned_values _ _ f.1).0)
    form_whole w (assign_form n (at_step e (at_step i (field_step l (field_step k rest)))) (how.Reduce o) y) f h =
        both_true (is_whole_expression false w e && is_whole_expression false w i) (is_whole_expression false w y) (part_front w n e i l k rest f.4.0 f.4.1)
        (expr_whole w y f.3 (integer_value _ f.1))
    form_whole w _ f h = absurd f

    block_whole : (w : Where) (b : Block) → IsTypedBlock forms w b → IsWrittenBlock b → is_whole_block false w b ≡ true
    block_whole w no_statement f h = refl
    block_whole w (then_statement (a_statement line form) rest) f h =
        both_true (is_whole_form false (on_line w line) form) (is_whole_block false (after_form w form) rest) (form_whole (on_line w line) form f.0 h.0)
        (block_whole (after_form w form) rest f.1 h.1)

    arms_whole : (own w : Where) (arms : Arms) → AreTypedArms forms own w arms → AreWrittenArms arms → are_whole_arms false own w arms ≡ true
    arms_whole own w no_arm f h = refl
    arms_whole own w (an_arm test body rest) f h =
        both_true (is_whole_expression false own test) (is_whole_block false w body && are_whole_arms false own (after_arm w body) rest)
        (expr_whole own test f.1 (truth_value _ f.0))
        (both_true (is_whole_block false w body) (are_whole_arms false own (after_arm w body) rest) (block_whole w body f.2 h.1)
        (arms_whole own (after_arm w body) rest f.3 h.2))

    else_whole : (w : Where) (other : Otherwise) → IsTypedElse forms w other → IsWrittenElse other → is_whole_else false w other ≡ true
    else_whole w no_else f h = refl
    else_whole w (else_block body) f h = block_whole w body f h

-- so it is of a program
pub program_whole : (tree : Tree) → (forms : TaskTree → Forms) → ((t : TaskTree) → (forms t).keeps ≡ true) →
    ((k : ℕ) (t : TaskTree) → slice_get (tasks_of tree) k ≡ Some t → IsTypedBlock (forms t) (place_of tree t) t.body) →
    ((k : ℕ) (t : TaskTree) → slice_get (tasks_of tree) k ≡ Some t → IsWrittenBlock t.body) → is_whole_program false tree ≡ true
program_whole tree forms keeps typed written = all (tasks_of tree) typed written
  where
    all : (ts : List TaskTree) → ((k : ℕ) (t : TaskTree) → slice_get ts k ≡ Some t → IsTypedBlock (forms t) (place_of tree t) t.body) →
        ((k : ℕ) (t : TaskTree) → slice_get ts k ≡ Some t → IsWrittenBlock t.body) → list_all (is_whole_task false tree) ts ≡ true
    all [] typed written = refl
    all (t ∷ ts) typed written =
        both_true (is_whole_task false tree t) (list_all (is_whole_task false tree) ts)
        (block_whole (forms t) (keeps t) (place_of tree t) t.body (typed zero t refl) (written zero t refl))
        (all ts (λ k u e. typed (suc k) u e) (λ k u e. written (suc k) u e))
