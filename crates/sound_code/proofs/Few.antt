-- Within the limits of a text a pointer's type names four regions at most: so it is of types that are written, of those that fields
-- have, and so of all names. What is asked of tasks then holds with that too.
use Rattle.std.proofs.Common.{◌≡◌, inl, inr, ⊎_elim, ℕ, zero, suc, List, [], ◌∷◌, ◌++◌, Bool, true, false, ◌&&◌, ◌||◌, cond, None, Option, Some, refl, sym, ◌∙◌, subst, arith}
use Rattle.std.specs.Prelude.{bytes_eq, slice_get}
use Rattle.std.specs.List.{list_all}
use Rattle.std.proofs.lemmas.Bool.{false≢true}
use Rattle.regent_tree.specs.Limits.{node, nodes, parts_of_arms, parts_of_block, parts_of_expression, parts_of_expressions, parts_of_form, parts_of_init, parts_of_item, parts_of_items, parts_of_links, parts_of_otherwise, parts_of_params, parts_of_pointer, parts_of_steps, parts_of_term, parts_of_type}
use Rattle.regent_tree.specs.Scopes.{bound_params, bound_to, scope_of}
use Rattle.regent_tree.specs.StaticTypes.{task_named}
use Rattle.regent_tree.specs.Syntax.{a_link, a_statement, access_expr, alias_item, an_arm, an_expr, Arms, assert_form, assign_form, at_step, Block, both_initializer, by_field_initializer, call_expr, call_form, cast_expr, chain_expr, convert_expr, do_form, either_initializer, else_block, equal_initializer, Expression, Expressions, field_step, fill_form, for_in_form, for_to_form, Form, if_form, image_initializer, Initializer, import_item, is_null_expr, ItemForm, Links, Name, no_arm, no_else, no_expr, no_link, no_statement, no_step, null_expr, number_expr, Otherwise, plain_initializer, prefix_expr, preimage_initializer, print_form, region_initializer, return_form, space_expr, space_item, start_item, Steps, task_item, TaskTree, then_statement, Tree, truth_expr, var_form, while_form}
use Rattle.regent_tree.specs.Typing.{arithmetic_type, owned, param_types, scope_after_arms, taken_from, type_of_field, var_type}
use Rattle.regent_tree.specs.declared.expression.Arithmetic.TheVariants.{Subtract}
use Rattle.regent_tree.specs.declared.expression.Operator.TheVariants.{Compute}
use Rattle.regent_tree.specs.declared.types.Param.{Param}
use Rattle.regent_tree.specs.declared.types.TypeTerm.{TypeTerm}
use Rattle.regent_tree.specs.declared.typing.Bound.{Bound}
use Rattle.regent_tree.specs.declared.typing.StaticType.{StaticType}
use Rattle.code_rules.specs.Instructions.{tasks_of}
use Rattle.code_rules.specs.Programs.{place_of}
use Rattle.check_rules.specs.types.Sorts.{is_partition, is_region}
use Rattle.code_rules.specs.Slots.{bound, typed, Where}
use Rattle.code_rules.specs.Statements.{after_arm, after_arms, after_form, looping, on_line}
use Rattle.code_laws.proofs.Names.{arms_names, else_names}
use Rattle.code_laws.proofs.Openings.{types_cons, types_in}
use Rattle.code_laws.proofs.Typing.{AreKept, kept_behind, kept_left, kept_right}
use Rattle.code_laws.proofs.PartTypes.{a_part_pointer, IsPartPointer, part_pointer}
use Rattle.code_laws.proofs.Wider.{any_field, begun, keepable}
use Rattle.code_laws.specs.Steps.{Forms}
use Rattle.code_laws.specs.Typed.{part_element, element_field, field_behind, IsLooped, AreTypedArms, BeginsAsPart, IsBegun, IsDifference, IsIndexed, IsKeepable, IsPartElement, IsPointing, IsTyped, IsTypedBlock, IsTypedElse, IsTypedForm}
use Rattle.fit_rules.specs.Shapes.{Each}
use Rattle.sound_code.proofs.WholeTasks.{are_whole_arguments, are_whole_arms, are_whole_expressions, are_whole_links, is_value, is_whole_block, is_whole_domain, is_whole_else, is_whole_expression, is_whole_form, is_whole_program, is_whole_task, names_region, takes_part}
use Rattle.sound_code.proofs.FewTypes.{value_few, written_few, said_few, owned_few, taken_few, counted_few, element_few, colours_few, minus_few}
use Rattle.sound_code.proofs.Truths.{and_map, or_map, or_maps}
use Rattle.sound_code.proofs.Wholes.{begun_part_few, field_few, further_few, HasFew, simple_few}

-- the body of a loop is as it is typed, whatever the loop goes over
looped_body : (b : Bool) (w : Where) (e : Expression) (Typed Part Body : Type 0) → IsLooped b w e Typed Part Body → Body
looped_body false w e Typed Part Body f = f.2
looped_body true w e Typed Part Body (inl f) = f.2
looped_body true w e Typed Part Body (inr p) = p.1

-- ---- names

abbrev AreFew : List Bound → Type 0
AreFew bs = Each (λ (b : Bound). HasFew b.static_type) bs

few_bound : (bs : List Bound) (n : Name) → AreFew bs → HasFew (bound_to bs n).static_type
few_bound [] n a = omega arith
few_bound (b ∷ bs) n a = chosen (bytes_eq b.name n) (few_bound bs n a.1)
  where
    chosen : (c : Bool) → HasFew (bound_to bs n).static_type → HasFew (cond c b (bound_to bs n)).static_type
    chosen true more = a.0
    chosen false more = more

few_behind : (bs : List Bound) (b : Bound) → AreFew bs → HasFew b.static_type → AreFew (bs ++ b ∷ [])
few_behind [] b a l = (l, tt)
few_behind (c ∷ bs) b a l = (a.0, few_behind bs b a.1 l)

params_few : (tree : Tree) (all : List Param) (i : ℕ) (ps : List Param) → AreKept (parts_of_params ps) → AreFew (bound_params tree all i ps)
params_few tree all i [] k = tt
params_few tree all i (p ∷ ps) k = few_behind (bound_params tree all (suc i) ps) _
    (params_few tree all (suc i) ps (kept_right (parts_of_term p.term) (parts_of_params ps) k))
    (said_few tree _ i p.term (kept_left (parts_of_term p.term) (parts_of_params ps) k))

few_types : (bs : List Bound) → AreFew bs → Each HasFew (types_in bs)
few_types [] a = tt
few_types (b ∷ bs) a = subst (Each HasFew) (sym (types_cons b bs)) (last (types_in bs) b.static_type (few_types bs a.1) a.0)
  where
    last : (ts : List StaticType) (t : StaticType) → Each HasFew ts → HasFew t → Each HasFew (ts ++ t ∷ [])
    last [] t a l = (l, tt)
    last (u ∷ ts) t a l = (a.0, last ts t a.1 l)

-- the parameters of a task that has a name
named_kept : (items : Tree) → AreKept (parts_of_items items) → (n : Name) → AreKept (parts_of_params (task_named items n).params)
named_kept [] k n = λ p h. absurd h
named_kept (i ∷ items) k n = of i.form (kept_left (parts_of_item i.form) (parts_of_items items) k) (named_kept items (kept_right (parts_of_item i.form) (parts_of_items items) k) n)
  where
    of : (form : ItemForm) → AreKept (parts_of_item form) → AreKept (parts_of_params (task_named items n).params) →
        AreKept (parts_of_params (task_named (record i { form = form } ∷ items) n).params)
    of (task_item t) k more = chosen (bytes_eq t.name n)
      where
        here : AreKept (parts_of_params t.params)
        here = kept_left (parts_of_params t.params) (parts_of_type t.result ++ parts_of_block t.body) (kept_behind _ _ k)

        chosen : (c : Bool) → AreKept (parts_of_params (cond c t (task_named items n)).params)
        chosen true = here
        chosen false = more
    of import_item k more = more
    of (alias_item a) k more = more
    of (space_item s) k more = more
    of (start_item s) k more = more

-- the names in scope, and the parameters of all tasks, have such types
record FewIn (w : Where) : Type 0 where
  names : AreFew w.scope.names
  tasks : (n : Name) → Each HasFew (param_types w.tree (task_named w.tree n))

-- ---- expressions

at_kept : (n : Name) (e : Expression) (steps : Steps) → AreKept (parts_of_expression (access_expr n (at_step e steps))) → AreKept (parts_of_expression e)
at_kept n e steps k = kept_left (parts_of_expression e) (parts_of_steps steps)
    (kept_behind node (parts_of_expression e ++ parts_of_steps steps) (kept_behind node (node ∷ (parts_of_expression e ++ parts_of_steps steps)) k))

-- what the steps of a target have
first_of_steps : (e : Expression) (rest : Steps) → AreKept (parts_of_steps (at_step e rest)) → AreKept (parts_of_expression e)
first_of_steps e rest k = kept_left (parts_of_expression e) (parts_of_steps rest) (kept_behind node (parts_of_expression e ++ parts_of_steps rest) k)

second_of_steps : (e i : Expression) (rest : Steps) → AreKept (parts_of_steps (at_step e (at_step i rest))) → AreKept (parts_of_expression i)
second_of_steps e i rest k = first_of_steps i rest
    (kept_right (parts_of_expression e) (parts_of_steps (at_step i rest)) (kept_behind node (parts_of_expression e ++ parts_of_steps (at_step i rest)) k))

second_kept : (n : Name) (e i : Expression) (rest : Steps) → AreKept (parts_of_expression (access_expr n (at_step e (at_step i rest)))) →
    AreKept (parts_of_expression i)
second_kept n e i rest k =
    let inner = parts_of_expression i ++ parts_of_steps rest in
    let own = parts_of_expression e ++ (node ∷ inner) in
    kept_left (parts_of_expression i) (parts_of_steps rest)
    (kept_behind node inner (kept_right (parts_of_expression e) (node ∷ inner) (kept_behind node own (kept_behind node (node ∷ own) k))))

mutual
  expr_few : (w : Where) → FewIn w → (e : Expression) → AreKept (parts_of_expression e) → is_whole_expression false w e ≡ true → is_whole_expression true w e ≡ true
  expr_few w few (number_expr z v) k h = refl
  expr_few w few (truth_expr b) k h = refl
  expr_few w few (chain_expr first rest) k h =
      let inner = kept_behind node (parts_of_expression first ++ parts_of_links rest) k in
      and_map (is_whole_expression false w first) (are_whole_links false w rest) _ _
      (expr_few w few first (kept_left (parts_of_expression first) (parts_of_links rest) inner))
      (links_few w few rest (kept_right (parts_of_expression first) (parts_of_links rest) inner)) h
  expr_few w few (prefix_expr signs e) k h = expr_few w few e (kept_right (nodes signs) (parts_of_expression e) (kept_behind node (nodes signs ++ parts_of_expression e) k)) h
  expr_few w few (access_expr n no_step) k h = value_few (bound w n).static_type (few_bound w.scope.names n few.names) h
  expr_few w few (access_expr n (field_step f rest)) k h = refl
  expr_few w few (access_expr n (at_step e no_step)) k h = and_map (is_region (bound w n).static_type) (is_whole_expression false w e) _ _ (λ r. r)
      (expr_few w few e (at_kept n e no_step k)) h
  expr_few w few (access_expr n (at_step e (field_step f rest))) k h = expr_few w few e (at_kept n e (field_step f rest) k) h
  expr_few w few (access_expr n (at_step e (at_step i rest))) k h = and_map (is_whole_expression false w e) (is_whole_expression false w i) _ _
      (expr_few w few e (at_kept n e (at_step i rest) k)) (expr_few w few i (second_kept n e i rest k)) h
  expr_few w few (call_expr task args) k h =
      args_few w few (param_types w.tree (task_named w.tree task)) args (few.tasks task) (kept_behind node (parts_of_expressions args) k) h
  expr_few w few (convert_expr t e) k h = expr_few w few e (kept_behind node (parts_of_expression e) k) h
  expr_few w few (space_expr c e) k h = expr_few w few e (kept_behind node (parts_of_expression e) k) h
  expr_few w few (is_null_expr e) k h = expr_few w few e (kept_behind node (parts_of_expression e) k) h
  expr_few w few (null_expr t) k h = refl
  expr_few w few (cast_expr t e) k h =
      let inner = kept_behind node (parts_of_pointer t ++ parts_of_expression e) k in
      and_map (is_value false (typed w (cast_expr t e))) (is_whole_expression false w e) _ _
      (value_few (typed w (cast_expr t e)) (written_few w.tree _ t (kept_left (parts_of_pointer t) (parts_of_expression e) inner)))
      (expr_few w few e (kept_right (parts_of_pointer t) (parts_of_expression e) inner)) h

  links_few : (w : Where) → FewIn w → (ls : Links) → AreKept (parts_of_links ls) → are_whole_links false w ls ≡ true → are_whole_links true w ls ≡ true
  links_few w few no_link k h = refl
  links_few w few (a_link o e rest) k h = and_map (is_whole_expression false w e) (are_whole_links false w rest) _ _
      (expr_few w few e (kept_left (parts_of_expression e) (parts_of_links rest) k))
      (links_few w few rest (kept_right (parts_of_expression e) (parts_of_links rest) k)) h

  part_few : (w : Where) → FewIn w → (e : Expression) → AreKept (parts_of_expression e) → takes_part false w e ≡ true → takes_part true w e ≡ true
  part_few w few (access_expr n (at_step e no_step)) k h = and_map (is_partition (bound w n).static_type) (is_whole_expression false w e) _ _ (λ r. r)
      (expr_few w few e (at_kept n e no_step k)) h
  part_few w few _ k h = absurd (false≢true h)

  args_few : (w : Where) → FewIn w → (ps : List StaticType) (es : Expressions) → Each HasFew ps → AreKept (parts_of_expressions es) →
      are_whole_arguments false w ps es ≡ true → are_whole_arguments true w ps es ≡ true
  args_few w few [] no_expr a k h = refl
  args_few w few [] (an_expr e es) a k h = absurd (false≢true h)
  args_few w few (p ∷ ps) no_expr a k h = absurd (false≢true h)
  args_few w few (p ∷ ps) (an_expr e es) a k h =
      let here = kept_left (parts_of_expression e) (parts_of_expressions es) k in
      and_map (is_partition p || ((is_region p || is_value false p) && (names_region w e || (takes_part false w e || is_whole_expression false w e))))
      (are_whole_arguments false w ps es) _ _
      (or_map (is_partition p) ((is_region p || is_value false p) && (names_region w e || (takes_part false w e || is_whole_expression false w e))) _
      (and_map (is_region p || is_value false p) (names_region w e || (takes_part false w e || is_whole_expression false w e)) _ _
      (or_map (is_region p) (is_value false p) _ (value_few p a.0))
      (or_map (names_region w e) (takes_part false w e || is_whole_expression false w e) _
      (or_maps (takes_part false w e) _ (is_whole_expression false w e) _ (part_few w few e here) (expr_few w few e here)))))
      (args_few w few ps es a.1 (kept_right (parts_of_expression e) (parts_of_expressions es) k)) h

exprs_few : (w : Where) → FewIn w → (es : Expressions) → AreKept (parts_of_expressions es) → are_whole_expressions false w es ≡ true → are_whole_expressions true w es ≡ true
exprs_few w few no_expr k h = refl
exprs_few w few (an_expr e es) k h = and_map (is_whole_expression false w e) (are_whole_expressions false w es) _ _
    (expr_few w few e (kept_left (parts_of_expression e) (parts_of_expressions es) k))
    (exprs_few w few es (kept_right (parts_of_expression e) (parts_of_expressions es) k)) h

module _ (forms : Forms) where
  -- what a variable begins with
  pointing_few : (w : Where) → FewIn w → (e : Expression) → AreKept (parts_of_expression e) → IsPointing w e → IsTyped forms w e → HasFew (typed w e)
  pointing_few w few (access_expr n no_step) k p f = few_bound w.scope.names n few.names
  pointing_few w few (access_expr n (at_step e no_step)) k p f = element_few w (bound w n).static_type e f.4
  pointing_few w few (access_expr n (at_step e (field_step l no_step))) k p f = field_few _ _ _ (any_field forms.keeps w n l _ f.3).keeps
  pointing_few w few (access_expr n (field_step l no_step)) k p f =
      ⊎_elim (λ b. field_few _ _ _ (b.0).keeps) (λ c. colours_few w (bound w n).static_type l c.partition) f.1
  pointing_few w few (null_expr t) k p f = written_few w.tree _ t (kept_behind node (parts_of_pointer t) k)
  pointing_few w few (cast_expr t e) k p f =
      written_few w.tree _ t (kept_left (parts_of_pointer t) (parts_of_expression e) (kept_behind node (parts_of_pointer t ++ parts_of_expression e) k))
  pointing_few w few (access_expr n (at_step e (field_step l (field_step g rest)))) k p f = further_few forms w rest (element_field w n e l) g f.6
  pointing_few w few (access_expr n (field_step l (field_step g rest))) k p f = further_few forms w rest (field_behind w n l) g f.3
  pointing_few w few (access_expr n (at_step e (at_step i (field_step l no_step)))) k p f = field_few _ _ _ f.4.keeps
  pointing_few w few (access_expr n (at_step e (at_step i (field_step l (field_step g rest))))) k p f =
      further_few forms w rest (type_of_field w.tree (part_element w n e i) l) g f.5
  pointing_few w few (access_expr n (at_step e (at_step i (field_step l (at_step y rest))))) k p f = absurd f.5
  pointing_few w few _ k p f = absurd p

  -- an element of a part goes into one region
  part_pointer_few : (t : StaticType) (own sp : ℕ) → IsPartPointer t own sp → HasFew t
  part_pointer_few _ _ _ (a_part_pointer k sp args own c) = omega arith

  part_element_few : (w : Where) (e : Expression) → IsPartElement e → IsTyped forms w e → HasFew (typed w e)
  part_element_few w (access_expr n (at_step e (at_step i no_step))) p f = part_pointer_few (part_element w n e i) _ _ (part_pointer w n e i f.1)
  part_element_few w _ p f = absurd p

  difference_few : (w : Where) (e : Expression) → IsDifference w e → HasFew (typed w e)
  difference_few w (chain_expr (access_expr p no_step) (a_link (Compute Subtract) (access_expr q no_step) no_link)) d =
      minus_few (bound w p).static_type (bound w q).static_type d.first.partition
  difference_few w _ d = absurd d

  begun_few : (w : Where) → FewIn w → (e : Expression) → AreKept (parts_of_expression e) → IsBegun forms.keeps w e (IsKeepable forms.keeps w e × IsTyped forms w e) (BeginsAsPart forms.takes w e (IsIndexed forms w e)) →
      HasFew (typed w e)
  begun_few w few e k f = ⊎_elim
      (λ (b : IsKeepable forms.keeps w e × IsTyped forms w e). ⊎_elim (simple_few (typed w e)) (λ p. ⊎_elim (λ q. pointing_few w few e k q b.1) (λ q. part_element_few w e q b.1) p.1) (keepable forms.keeps w e b.0))
      (⊎_elim (difference_few w e) (begun_part_few forms.takes w e (IsIndexed forms w e)))
      (begun forms.keeps w e (IsKeepable forms.keeps w e × IsTyped forms w e) (BeginsAsPart forms.takes w e (IsIndexed forms w e)) f)

  -- ---- statements

  var_few : (w : Where) → FewIn w → (n : Name) (t : Option TypeTerm) (i : Option Initializer) → AreKept (parts_of_form (var_form n t i)) → IsTypedForm forms w (var_form n t i) →
      HasFew (var_type w.tree w.scope t i)
  var_few w few n (Some t) i k f = said_few w.tree _ w.scope.next t (kept_left (parts_of_term t) (parts_of_init i) k)
  var_few w few n None (Some (plain_initializer e)) k f = owned_few w.scope.next (typed w e) (begun_few w few e k f)
  var_few w few n None (Some (region_initializer e u)) k f = omega arith
  var_few w few n None (Some (equal_initializer r e)) k f = omega arith
  var_few w few n None (Some (by_field_initializer r l e)) k f = omega arith
  var_few w few n None (Some (image_initializer s p r l)) k f = omega arith
  var_few w few n None (Some (preimage_initializer s p r l)) k f = omega arith
  var_few w few n None (Some (both_initializer p q)) k f = omega arith
  var_few w few n None (Some (either_initializer p q)) k f = omega arith
  var_few w few n None None k f = omega arith

  few_with : (w : Where) → FewIn w → (n : Name) (t : StaticType) → HasFew t → FewIn (looping w n t)
  few_with w few n t l = record { names = (l, few.names); tasks = few.tasks }

  after_few : (w : Where) → FewIn w → (form : Form) → AreKept (parts_of_form form) → IsTypedForm forms w form → FewIn (after_form w form)
  after_few w few (var_form n t i) k f = record { names = (var_few w few n t i k f, few.names); tasks = few.tasks }
  after_few w few (if_form arms other) k f = record {
    names = subst AreFew (sym (else_names w.tree (scope_after_arms w.tree w.scope arms) other ∙ arms_names w.tree w.scope arms)) few.names;
    tasks = few.tasks;
  }
  after_few w few (while_form test body) k f = record { names = few.names; tasks = few.tasks }
  after_few w few (for_in_form d n domain body) k f = record { names = few.names; tasks = few.tasks }
  after_few w few (for_to_form d n from to body) k f = record { names = few.names; tasks = few.tasks }
  after_few w few (do_form body) k f = record { names = few.names; tasks = few.tasks }
  after_few w few (fill_form r fields e) k f = few
  after_few w few (assert_form e) k f = few
  after_few w few (print_form alias format args) k f = few
  after_few w few (call_form task args) k f = few
  after_few w few (assign_form n steps h e) k f = few
  after_few w few (return_form e) k f = few

  mutual
    form_few : (w : Where) → FewIn w → (form : Form) → AreKept (parts_of_form form) → IsTypedForm forms w form → is_whole_form false w form ≡ true →
        is_whole_form true w form ≡ true
    form_few w few (var_form n None (Some (plain_initializer e))) k f h = or_map (is_partition (typed w e)) _ _
        (or_maps (takes_part false w e) _ (is_value false (owned w.scope.next (typed w e)) && is_whole_expression false w e) _ (part_few w few e k)
        (and_map (is_value false (owned w.scope.next (typed w e))) (is_whole_expression false w e) _ _
        (value_few (owned w.scope.next (typed w e)) (var_few w few n None (Some (plain_initializer e)) k f)) (expr_few w few e k))) h
    form_few w few (var_form n (Some t) (Some (plain_initializer e))) k f h =
        let u = var_type w.tree w.scope (Some t) (Some (plain_initializer e)) in
        let inside = kept_right (parts_of_term t) (parts_of_expression e) k in
        or_map (is_partition (typed w e)) _ _
        (or_maps (takes_part false w e) _ (is_value false u && is_whole_expression false w e) _ (part_few w few e inside)
        (and_map (is_value false u) (is_whole_expression false w e) _ _ (value_few u (var_few w few n (Some t) (Some (plain_initializer e)) k f))
        (expr_few w few e inside))) h
    form_few w few (var_form n None (Some (region_initializer e u))) k f h = expr_few w few e k h
    form_few w few (var_form n None (Some (equal_initializer r e))) k f h = expr_few w few e k h
    form_few w few (var_form n None (Some (by_field_initializer r l e))) k f h = expr_few w few e k h
    form_few w few (var_form n None (Some (image_initializer s p r l))) k f h = refl
    form_few w few (var_form n None (Some (preimage_initializer s p r l))) k f h = refl
    form_few w few (var_form n None (Some (both_initializer p q))) k f h = refl
    form_few w few (var_form n None (Some (either_initializer p q))) k f h = refl
    form_few w few (var_form n (Some t) None) k f h = value_few (var_type w.tree w.scope (Some t) None) (var_few w few n (Some t) None k f) h
    form_few w few (if_form arms other) k f h = and_map (are_whole_arms false w w arms) (is_whole_else false (after_arms w arms) other) _ _
        (arms_few w w few few arms (kept_left (parts_of_arms arms) (parts_of_otherwise other) k) f.0)
        (else_few (after_arms w arms) (record { names = subst AreFew (sym (arms_names w.tree w.scope arms)) few.names; tasks = few.tasks }) other
        (kept_right (parts_of_arms arms) (parts_of_otherwise other) k) f.1) h
    form_few w few (while_form test body) k f h = and_map (is_whole_expression false w test) (is_whole_block false w body) _ _
        (expr_few w few test (kept_left (parts_of_expression test) (parts_of_block body) k))
        (block_few w few body (kept_right (parts_of_expression test) (parts_of_block body) k) f.2) h
    form_few w few (for_in_form d n domain body) k f h =
        let lw = looping w n (taken_from (typed w domain)) in
        let here = kept_left (parts_of_expression domain) (parts_of_block body) k in
        and_map (is_whole_domain false w domain) (is_whole_block false lw body) _ _
        (or_map (names_region w domain) (takes_part false w domain || is_whole_expression false w domain) _
        (or_maps (takes_part false w domain) _ (is_whole_expression false w domain) _ (part_few w few domain here) (expr_few w few domain here)))
        (block_few lw (few_with w few n (taken_from (typed w domain)) (taken_few (typed w domain))) body
        (kept_right (parts_of_expression domain) (parts_of_block body) k) (looped_body forms.keeps w domain _ _ _ f)) h
    form_few w few (for_to_form d n from to body) k f h =
        let u = arithmetic_type (typed w from) (typed w to) in
        let lw = looping w n u in
        let rest = kept_right (parts_of_expression from) (parts_of_expression to ++ parts_of_block body) k in
        and_map (is_whole_expression false w from) (is_whole_expression false w to && is_whole_block false lw body) _ _
        (expr_few w few from (kept_left (parts_of_expression from) (parts_of_expression to ++ parts_of_block body) k))
        (and_map (is_whole_expression false w to) (is_whole_block false lw body) _ _
        (expr_few w few to (kept_left (parts_of_expression to) (parts_of_block body) rest))
        (block_few lw (few_with w few n u (counted_few (typed w from) (typed w to) f.0 f.1)) body (kept_right (parts_of_expression to) (parts_of_block body) rest) f.4)) h
    form_few w few (do_form body) k f h = block_few w few body k f h
    form_few w few (fill_form r fields e) k f h = expr_few w few e (kept_right (nodes fields) (parts_of_expression e) k) h
    form_few w few (assert_form e) k f h = expr_few w few e k h
    form_few w few (print_form alias format args) k f h = exprs_few w few args k h
    form_few w few (call_form task args) k f h = args_few w few (param_types w.tree (task_named w.tree task)) args (few.tasks task) k h
    form_few w few (assign_form n no_step o e) k f h = and_map (is_value false (bound w n).static_type) (is_whole_expression false w e) _ _
        (value_few (bound w n).static_type (few_bound w.scope.names n few.names)) (expr_few w few e k) h
    form_few w few (assign_form n (field_step l rest) o y) k f h = expr_few w few y (kept_right (parts_of_steps (field_step l rest)) (parts_of_expression y) k) h
    form_few w few (assign_form n (at_step e (field_step l rest)) o y) k f h =
        let steps = parts_of_steps (at_step e (field_step l rest)) in
        let inner = kept_behind node (parts_of_expression e ++ parts_of_steps (field_step l rest)) (kept_left steps (parts_of_expression y) k) in
        and_map (is_whole_expression false w e) (is_whole_expression false w y) _ _
        (expr_few w few e (kept_left (parts_of_expression e) (parts_of_steps (field_step l rest)) inner))
        (expr_few w few y (kept_right steps (parts_of_expression y) k)) h
    form_few w few (assign_form n (at_step e (at_step i rest)) o y) k f h =
        let steps = parts_of_steps (at_step e (at_step i rest)) in
        let front = kept_left steps (parts_of_expression y) k in
        and_map (is_whole_expression false w e && is_whole_expression false w i) (is_whole_expression false w y) _ _
        (and_map (is_whole_expression false w e) (is_whole_expression false w i) _ _
        (expr_few w few e (first_of_steps e (at_step i rest) front)) (expr_few w few i (second_of_steps e i rest front)))
        (expr_few w few y (kept_right steps (parts_of_expression y) k)) h
    form_few w few (return_form None) k f h = refl
    form_few w few (return_form (Some e)) k f h = expr_few w few e k h
    form_few w few (assign_form n _ o y) k f h = absurd (false≢true h)
    form_few w few (var_form n (Some t) (Some (region_initializer e u))) k f h = expr_few w few e (kept_right (parts_of_term t) (parts_of_expression e) k) h
    form_few w few (var_form n (Some t) (Some (equal_initializer r e))) k f h = expr_few w few e (kept_right (parts_of_term t) (parts_of_expression e) k) h
    form_few w few (var_form n (Some t) (Some (by_field_initializer r l e))) k f h = expr_few w few e (kept_right (parts_of_term t) (parts_of_expression e) k) h
    form_few w few (var_form n (Some t) (Some (image_initializer s p r l))) k f h = refl
    form_few w few (var_form n (Some t) (Some (preimage_initializer s p r l))) k f h = refl
    form_few w few (var_form n (Some t) (Some (both_initializer p q))) k f h = refl
    form_few w few (var_form n (Some t) (Some (either_initializer p q))) k f h = refl
    form_few w few _ k f h = absurd f

    block_few : (w : Where) → FewIn w → (b : Block) → AreKept (parts_of_block b) → IsTypedBlock forms w b → is_whole_block false w b ≡ true → is_whole_block true w b ≡ true
    block_few w few no_statement k f h = refl
    block_few w few (then_statement (a_statement line form) rest) k f h =
        let inner = kept_behind node (parts_of_form form ++ parts_of_block rest) k in
        let here = kept_left (parts_of_form form) (parts_of_block rest) inner in
        let lw = on_line w line in
        let on : FewIn lw = record { names = few.names; tasks = few.tasks } in
        let after = after_few lw on form here f.0 in
        and_map (is_whole_form false lw form) (is_whole_block false (after_form w form) rest) _ _ (form_few lw on form here f.0)
        (block_few (after_form w form) (record { names = after.names; tasks = after.tasks }) rest (kept_right (parts_of_form form) (parts_of_block rest) inner) f.1) h

    arms_few : (own w : Where) → FewIn own → FewIn w → (arms : Arms) → AreKept (parts_of_arms arms) → AreTypedArms forms own w arms → are_whole_arms false own w arms ≡ true →
        are_whole_arms true own w arms ≡ true
    arms_few own w fo few no_arm k f h = refl
    arms_few own w fo few (an_arm test body rest) k f h =
        let later = kept_right (parts_of_expression test) (parts_of_block body ++ parts_of_arms rest) k in
        and_map (is_whole_expression false own test) (is_whole_block false w body && are_whole_arms false own (after_arm w body) rest) _ _
        (expr_few own fo test (kept_left (parts_of_expression test) (parts_of_block body ++ parts_of_arms rest) k))
        (and_map (is_whole_block false w body) (are_whole_arms false own (after_arm w body) rest) _ _
        (block_few w few body (kept_left (parts_of_block body) (parts_of_arms rest) later) f.2)
        (arms_few own (after_arm w body) fo (record { names = few.names; tasks = few.tasks }) rest (kept_right (parts_of_block body) (parts_of_arms rest) later) f.3)) h

    else_few : (w : Where) → FewIn w → (other : Otherwise) → AreKept (parts_of_otherwise other) → IsTypedElse forms w other → is_whole_else false w other ≡ true →
        is_whole_else true w other ≡ true
    else_few w few no_else k f h = refl
    else_few w few (else_block body) k f h = block_few w few body k f h

-- ---- programs

module _ (tree : Tree) (kept : AreKept (parts_of_items tree)) where
  pub task_few : (forms : Forms) (t : TaskTree) → AreKept (parts_of_params t.params) → AreKept (parts_of_block t.body) → IsTypedBlock forms (place_of tree t) t.body →
      is_whole_task false tree t ≡ true → is_whole_task true tree t ≡ true
  task_few forms t params body typed h = block_few forms (place_of tree t)
      (record {
        names = params_few tree t.params 0 t.params params;
        tasks = λ n. few_types (scope_of tree (task_named tree n)).names
            (params_few tree (task_named tree n).params 0 (task_named tree n).params (named_kept tree kept n));
      }) t.body body typed h

  -- where each task is so
  pub program_few : ((k : ℕ) (t : TaskTree) → slice_get (tasks_of tree) k ≡ Some t → is_whole_task false tree t ≡ true → is_whole_task true tree t ≡ true) →
      is_whole_program false tree ≡ true → is_whole_program true tree ≡ true
  program_few each h = all (tasks_of tree) each h
    where
      all : (ts : List TaskTree) → ((k : ℕ) (t : TaskTree) → slice_get ts k ≡ Some t → is_whole_task false tree t ≡ true → is_whole_task true tree t ≡ true) →
          list_all (is_whole_task false tree) ts ≡ true → list_all (is_whole_task true tree) ts ≡ true
      all [] each h = refl
      all (t ∷ ts) each h = and_map (is_whole_task false tree t) (list_all (is_whole_task false tree) ts) _ _ (each zero t refl) (all ts (λ k u e. each (suc k) u e)) h
