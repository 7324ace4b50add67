-- Bodies that keep no pointer and no partition are typed also where none are kept.
use Rattle.std.proofs.Common.{◌≡◌, ◌⊎◌, inl, inr, List, [], ◌∷◌, ◌++◌, None, Option, Some, true, false, subst, sym, ℕ, suc, ℤ, ⊎_elim}
use Rattle.std.specs.Prelude.{slice_get, ◌&&◌}
use Rattle.std.proofs.lemmas.Bool.{and_parts}
use Rattle.regent_tree.specs.Accesses.{args_in, space_in}
use Rattle.regent_tree.specs.Scopes.{bound_params, scope_of}
use Rattle.regent_tree.specs.StaticTypes.{Looking, entry_name, field_type, task_named, type_said}
use Rattle.regent_tree.specs.Syntax.{Arms, Block, Expression, Form, Name, Otherwise, TaskTree, Tree, a_link, a_statement, access_expr, an_arm, assert_form, assign_form, at_step, both_initializer, by_field_initializer, call_expr, call_form, cast_expr, chain_expr, convert_expr, do_form, either_initializer, else_block, equal_initializer, field_step, fill_form, for_in_form, for_to_form, if_form, image_initializer, is_null_expr, no_arm, no_else, no_link, no_statement, no_step, null_expr, number_expr, plain_initializer, prefix_expr, preimage_initializer, print_form, region_initializer, return_form, space_expr, then_statement, truth_expr, var_form, while_form}
use Rattle.regent_tree.specs.Typing.{arithmetic_type, param_types, taken_from, var_type}
use Rattle.regent_tree.specs.declared.expression.Arithmetic.TheVariants.{Add, Divide, Multiply, Remainder, Subtract}
use Rattle.regent_tree.specs.declared.expression.Operator.TheVariants.{And, Compare, Compute, Or}
use Rattle.regent_tree.specs.declared.statement.How.TheVariants as how
use Rattle.regent_tree.specs.declared.types.NumberTerm.TheVariants as number
use Rattle.regent_tree.specs.declared.types.Param.{Param}
use Rattle.regent_tree.specs.declared.types.TypeTerm.{TypeTerm}
use Rattle.regent_tree.specs.declared.types.TypeTerm.TheVariants as term
use Rattle.regent_tree.specs.declared.typing.Bound.{Bound}
use Rattle.regent_tree.specs.declared.typing.StaticType.{StaticType}
use Rattle.code_rules.specs.Instructions.{place_of_task, tasks_of}
use Rattle.code_rules.specs.Slots.{Where, bound, typed}
use Rattle.code_rules.specs.Statements.{after_arm, after_arms, after_form, looping, on_line}
use Rattle.code_laws.specs.Arguments.{IsCutName}
use Rattle.code_laws.specs.Handing.{AreTypedBy, forms_by}
use Rattle.code_laws.specs.AcceptedPrograms.{IsPlainProgramRun, has_no_pointer}
use Rattle.code_laws.specs.PlainBodies.{are_plain_arms, are_plain_params, are_scalar_fields, is_plain, is_plain_block, is_plain_else, is_plain_form, is_plain_term, is_plain_type, is_scalar_type}
use Rattle.code_laws.specs.Pointers.{Assigned, Begins, Filled, IsPointer, IsWritten, assigned_plain, assigned_pointer, begins_plain, begins_pointer, filled_index, filled_plain, filled_pointer, fills_alike, fills_index}
use Rattle.code_laws.specs.Programs.{IsTypedRun}
use Rattle.code_laws.specs.Simple.{AreAlike, IsPartition, IsRegion, IsScalar, IsSimple, IsSpace, a_partition_type, a_region_type, scalar_integer, scalar_truth, simple_index, simple_integer, simple_space, simple_truth}
use Rattle.code_laws.specs.Steps.{Forms, Taking}
use Rattle.code_laws.specs.Typed.{AreFilled, AreTypedArms, BeginsAsPart, IsDifference, IsIndexed, IsNamedRegion, IsTypedBlock, IsTypedElse, IsTypedForm, LoopsOverPart, element_field}
use Rattle.code_laws.proofs.Entries.{all_of, found}
use Rattle.code_laws.proofs.LocalRuns.{local_run, local_tasks}
use Rattle.code_laws.proofs.LocalTrees.{task_stands}
use Rattle.code_laws.proofs.LocalTypes.{term_scalar}
use Rattle.code_laws.proofs.Openings.{types_cons, types_in}
use Rattle.code_laws.proofs.PlainExpressions.{ArePlainParams, IsPlainParam, call_there, field_there, from, into_there, number_there, numbers_there, passes_all, plain_is, scalar_is, there, to}
use Rattle.code_laws.proofs.Typing.{no_way_back}
use Rattle.check_laws.proofs.Entries.{begins}
use Rattle.scalar_form.specs.ScalarForm.{is_scalar_term}
use Rattle.code_rules.specs.Programs.{place_of}

-- ---- how variables begin, and over what loops go

module _ (w : Where) where
  -- with no partition
  no_cut : (n : Name) → is_plain_type (bound w n).static_type ≡ true → IsCutName w n → ⊥
  no_cut n h c = by (bound w n).static_type (plain_is (bound w n).static_type h) c.partition
    where
      by : (t : StaticType) → IsSimple t → IsPartition t → ⊥
      by _ s (a_partition_type d r p) = elim s [ ]

  no_difference : (e : Expression) → is_plain w e ≡ true → IsDifference w e → ⊥
  no_difference (chain_expr (access_expr p no_step) (a_link (Compute Subtract) (access_expr q no_step) no_link)) h d =
      no_cut p (and_parts (is_plain_type (bound w p).static_type) (is_plain_type (bound w q).static_type && true) h).0 d.first
  no_difference (chain_expr (access_expr p no_step) (a_link (Compute Subtract) (access_expr q no_step) (a_link _ _ _))) h d = d
  no_difference (chain_expr (access_expr p no_step) (a_link (Compute Subtract) (access_expr q (field_step _ _)) rest)) h d = d
  no_difference (chain_expr (access_expr p no_step) (a_link (Compute Subtract) (access_expr q (at_step _ _)) rest)) h d = d
  no_difference (chain_expr (access_expr p no_step) (a_link (Compute Subtract) (number_expr _ _) rest)) h d = d
  no_difference (chain_expr (access_expr p no_step) (a_link (Compute Subtract) (truth_expr _) rest)) h d = d
  no_difference (chain_expr (access_expr p no_step) (a_link (Compute Subtract) (chain_expr _ _) rest)) h d = d
  no_difference (chain_expr (access_expr p no_step) (a_link (Compute Subtract) (prefix_expr _ _) rest)) h d = d
  no_difference (chain_expr (access_expr p no_step) (a_link (Compute Subtract) (call_expr _ _) rest)) h d = d
  no_difference (chain_expr (access_expr p no_step) (a_link (Compute Subtract) (convert_expr _ _) rest)) h d = d
  no_difference (chain_expr (access_expr p no_step) (a_link (Compute Subtract) (is_null_expr _) rest)) h d = d
  no_difference (chain_expr (access_expr p no_step) (a_link (Compute Subtract) (null_expr _) rest)) h d = d
  no_difference (chain_expr (access_expr p no_step) (a_link (Compute Subtract) (cast_expr _ _) rest)) h d = d
  no_difference (chain_expr (access_expr p no_step) (a_link (Compute Subtract) (space_expr _ _) rest)) h d = d
  no_difference (chain_expr (access_expr p no_step) (a_link (Compute Add) e rest)) h d = d
  no_difference (chain_expr (access_expr p no_step) (a_link (Compute Multiply) e rest)) h d = d
  no_difference (chain_expr (access_expr p no_step) (a_link (Compute Divide) e rest)) h d = d
  no_difference (chain_expr (access_expr p no_step) (a_link (Compute Remainder) e rest)) h d = d
  no_difference (chain_expr (access_expr p no_step) (a_link (Compare c) e rest)) h d = d
  no_difference (chain_expr (access_expr p no_step) (a_link And e rest)) h d = d
  no_difference (chain_expr (access_expr p no_step) (a_link Or e rest)) h d = d
  no_difference (chain_expr (access_expr p no_step) no_link) h d = d
  no_difference (chain_expr (access_expr p (field_step _ _)) rest) h d = d
  no_difference (chain_expr (access_expr p (at_step _ _)) rest) h d = d
  no_difference (chain_expr (number_expr _ _) rest) h d = d
  no_difference (chain_expr (truth_expr _) rest) h d = d
  no_difference (chain_expr (chain_expr _ _) rest) h d = d
  no_difference (chain_expr (prefix_expr _ _) rest) h d = d
  no_difference (chain_expr (call_expr _ _) rest) h d = d
  no_difference (chain_expr (convert_expr _ _) rest) h d = d
  no_difference (chain_expr (is_null_expr _) rest) h d = d
  no_difference (chain_expr (null_expr _) rest) h d = d
  no_difference (chain_expr (cast_expr _ _) rest) h d = d
  no_difference (chain_expr (space_expr _ _) rest) h d = d
  no_difference (access_expr _ _) h d = d
  no_difference (number_expr _ _) h d = d
  no_difference (truth_expr _) h d = d
  no_difference (prefix_expr _ _) h d = d
  no_difference (call_expr _ _) h d = d
  no_difference (convert_expr _ _) h d = d
  no_difference (is_null_expr _) h d = d
  no_difference (null_expr _) h d = d
  no_difference (cast_expr _ _) h d = d
  no_difference (space_expr _ _) h d = d

  -- with no part
  no_part_begins : (takes : Option Taking) (e : Expression) (Part : Type 0) → is_plain w e ≡ true → BeginsAsPart takes w e Part → ⊥
  no_part_begins takes (access_expr n (at_step e no_step)) Part h b = no_way_back h
  no_part_begins takes (access_expr n no_step) Part h b = b
  no_part_begins takes (access_expr n (field_step _ _)) Part h b = b
  no_part_begins takes (access_expr n (at_step _ (field_step _ _))) Part h b = b
  no_part_begins takes (access_expr n (at_step _ (at_step _ _))) Part h b = b
  no_part_begins takes (number_expr _ _) Part h b = b
  no_part_begins takes (truth_expr _) Part h b = b
  no_part_begins takes (chain_expr _ _) Part h b = b
  no_part_begins takes (prefix_expr _ _) Part h b = b
  no_part_begins takes (call_expr _ _) Part h b = b
  no_part_begins takes (convert_expr _ _) Part h b = b
  no_part_begins takes (is_null_expr _) Part h b = b
  no_part_begins takes (null_expr _) Part h b = b
  no_part_begins takes (cast_expr _ _) Part h b = b
  no_part_begins takes (space_expr _ _) Part h b = b

  no_part_looped : (e : Expression) (Part : Type 0) → is_plain w e ≡ true → LoopsOverPart w e Part → ⊥
  no_part_looped (access_expr n (at_step e no_step)) Part h b = no_way_back h
  no_part_looped (access_expr n no_step) Part h b = b
  no_part_looped (access_expr n (field_step _ _)) Part h b = b
  no_part_looped (access_expr n (at_step _ (field_step _ _))) Part h b = b
  no_part_looped (access_expr n (at_step _ (at_step _ _))) Part h b = b
  no_part_looped (number_expr _ _) Part h b = b
  no_part_looped (truth_expr _) Part h b = b
  no_part_looped (chain_expr _ _) Part h b = b
  no_part_looped (prefix_expr _ _) Part h b = b
  no_part_looped (call_expr _ _) Part h b = b
  no_part_looped (convert_expr _ _) Part h b = b
  no_part_looped (is_null_expr _) Part h b = b
  no_part_looped (null_expr _) Part h b = b
  no_part_looped (cast_expr _ _) Part h b = b
  no_part_looped (space_expr _ _) Part h b = b

  -- over no region
  no_region_looped : (e : Expression) → IsSimple (typed w e) → IsNamedRegion w e → ⊥
  no_region_looped (access_expr n no_step) s r = by (bound w n).static_type s r.0
    where
      by : (t : StaticType) → IsSimple t → IsRegion t → ⊥
      by _ s (a_region_type k sp args r) = elim s [ ]
  no_region_looped (access_expr n (field_step _ _)) s r = r
  no_region_looped (access_expr n (at_step _ _)) s r = r
  no_region_looped (number_expr _ _) s r = r
  no_region_looped (truth_expr _) s r = r
  no_region_looped (chain_expr _ _) s r = r
  no_region_looped (prefix_expr _ _) s r = r
  no_region_looped (call_expr _ _) s r = r
  no_region_looped (convert_expr _ _) s r = r
  no_region_looped (is_null_expr _) s r = r
  no_region_looped (null_expr _) s r = r
  no_region_looped (cast_expr _ _) s r = r
  no_region_looped (space_expr _ _) s r = r

-- ---- what goes into a number or truth

assigned_there : (t u : StaticType) → IsScalar u → Assigned t u → AreAlike t u
assigned_there t u s (assigned_plain _ _ goes) = into_there t u s goes
assigned_there t u s (assigned_pointer _ _ p q) = absurd (no_pointer u s q)
  where
    no_pointer : (u : StaticType) → IsScalar u → IsPointer u → ⊥
    no_pointer _ (scalar_integer w) q = elim q [ ]
    no_pointer _ scalar_truth q = elim q [ ]

no_written : (bs : List Bound) (u : StaticType) → IsScalar u → IsWritten bs u → ⊥
no_written bs _ (scalar_integer w) q = elim q.0 [ ]
no_written bs _ scalar_truth q = elim q.0 [ ]

begins_there : (bs : List Bound) (t u : StaticType) → IsScalar u → Begins bs t u → AreAlike t u
begins_there bs t u s (begins_plain _ _ goes) = into_there t u s goes
begins_there bs t u s (begins_pointer _ _ p q) = absurd (no_written bs u s q)

filled_there : (t u : StaticType) → IsScalar u → Filled t u → AreAlike t u
filled_there t u s (filled_plain _ _ (fills_alike _ _ a)) = a
filled_there t _ s (filled_plain _ _ (fills_index _ k n)) = absurd (elim s [ ])
filled_there _ _ s (filled_index k sp args rs j) = absurd (elim s [ ])
filled_there t _ (scalar_integer w) (filled_pointer _ _ p q) = absurd (elim q [ ])
filled_there t _ scalar_truth (filled_pointer _ _ p q) = absurd (elim q [ ])

no_simple_pointer : (t : StaticType) → IsSimple t → IsPointer t → ⊥
no_simple_pointer _ (simple_integer w) q = elim q [ ]
no_simple_pointer _ simple_truth q = elim q [ ]
no_simple_pointer _ (simple_space k) q = elim q [ ]
no_simple_pointer _ (simple_index k) q = elim q [ ]

-- ---- statements

module _ (tree : Tree) (task : TaskTree) where
  abbrev HasPlainParams : Tree → Type 0
  HasPlainParams own = (n : Name) → slice_get (tasks_of own) (place_of_task own n) ≡ Some (task_named own n) → ArePlainParams (param_types own (task_named own n))

  abbrev G : Forms
  G = forms_by true true tree task

  abbrev F : Forms
  F = forms_by true false tree task

  fields_there : (w : Where) (r : Name) (t : StaticType) (fs : List Name) → are_scalar_fields w r fs ≡ true → AreFilled true w r t fs → AreFilled false w r t fs
  fields_there w r t [] h a = tt
  fields_there w r t (f ∷ fs) h a =
      let out = field_type w.tree (space_in (bound w r).static_type) (args_in (bound w r).static_type) f in
      let s = and_parts (is_scalar_type out) (are_scalar_fields w r fs) h in
      let scalar = scalar_is out s.0 in
      (filled_there t out scalar a.0, field_there w r f out scalar a.1, fields_there w r t fs s.1 a.2)

  over_there : (w : Where) (e : Expression) → IsSimple (typed w e) → IsSpace (typed w e) ⊎ IsNamedRegion w e → IsSpace (typed w e)
  over_there w e s (inl o) = o
  over_there w e s (inr r) = absurd (no_region_looped w e s r)

  mutual
    form_there : (w : Where) → HasPlainParams w.tree → (form : Form) → is_plain_form w form ≡ true → IsTypedForm G w form → IsTypedForm F w form
    form_there w ps (var_form n None (Some (plain_initializer e))) h (inl a) =
        ⊎_elim (λ s. let i = there tree task w ps e h a.1 in (i.1, i.0))
        (λ p. let i = there tree task w ps e h a.1 in absurd (no_simple_pointer (typed w e) i.1 p.0)) a.0
    form_there w ps (var_form n None (Some (plain_initializer e))) h (inr (inl d)) = absurd (no_difference w e h d)
    form_there w ps (var_form n None (Some (plain_initializer e))) h (inr (inr d)) = absurd (no_part_begins w G.takes e (IsIndexed G w e) h d)
    form_there w ps (var_form n None (Some (region_initializer e u))) h a = (a.0, a.1, (there tree task w ps e h a.2).0, a.3, a.4)
    form_there w ps (var_form n (Some t) (Some (plain_initializer e))) h (inl a) =
        let s = and_parts (is_scalar_term t) (is_plain w e) h in
        let u = var_type w.tree w.scope (Some t) (Some (plain_initializer e)) in
        (begins_there w.scope.names (typed w e) u (term_scalar t s.0 w.tree _ _) a.0, (there tree task w ps e s.1 a.1).0)
    form_there w ps (var_form n (Some t) (Some (plain_initializer e))) h (inr a) =
        let plain = (and_parts (is_scalar_term t) (is_plain w e) h).1 in
        absurd (⊎_elim (no_difference w e plain) (no_part_begins w G.takes e (IsIndexed G w e) plain) a.0)
    form_there w ps (var_form n (Some t) None) h a = term_scalar t h w.tree _ _
    form_there w ps (if_form arms other) h a =
        let s = and_parts (are_plain_arms w w arms) (is_plain_else (after_arms w arms) other) h in
        (arms_there w ps w ps arms s.0 a.0, else_there (after_arms w arms) ps other s.1 a.1)
    form_there w ps (while_form test body) h a =
        let s = and_parts (is_plain w test) (is_plain_block w body) h in (a.0, (there tree task w ps test s.0 a.1).0, block_there w ps body s.1 a.2)
    form_there w ps (do_form body) h a = block_there w ps body h a
    form_there w ps (assert_form e) h a = (a.0, (there tree task w ps e h a.1).0)
    form_there w ps (print_form alias format args) h a = (numbers_there tree task w ps args h a.0, a.1)
    form_there w ps (return_form None) h a = a
    form_there w ps (return_form (Some e)) h a = (a.0, (there tree task w ps e h a.1).0)
    form_there w ps (for_to_form demanded n from to body) h a =
        let loop = looping w n (arithmetic_type (typed w from) (typed w to)) in
        let s = and_parts (is_plain w from) (is_plain w to && is_plain_block loop body) h in
        let r = and_parts (is_plain w to) (is_plain_block loop body) s.1 in
        (a.0, a.1, (there tree task w ps from s.0 a.2).0, (there tree task w ps to r.0 a.3).0, block_there loop ps body r.1 a.4)
    form_there w ps (for_in_form demanded n domain body) h (inl a) =
        let loop = looping w n (taken_from (typed w domain)) in
        let s = and_parts (is_plain w domain) (is_plain_block loop body) h in
        let i = there tree task w ps domain s.0 a.1 in
        (over_there w domain i.1 a.0, i.0, block_there loop ps body s.1 a.2)
    form_there w ps (for_in_form demanded n domain body) h (inr a) =
        let loop = looping w n (taken_from (typed w domain)) in
        absurd (no_part_looped w domain (IsIndexed G w domain) (and_parts (is_plain w domain) (is_plain_block loop body) h).0 a.0)
    form_there w ps (assign_form n no_step how.Set e) h a =
        let s = and_parts (is_scalar_type (bound w n).static_type) (is_plain w e) h in
        (assigned_there (typed w e) (bound w n).static_type (scalar_is (bound w n).static_type s.0) a.0, (there tree task w ps e s.1 a.1).0, a.2, a.3)
    form_there w ps (assign_form n no_step (how.Reduce o) e) h a = (a.0, a.1, (there tree task w ps e h a.2).0, a.3, a.4)
    form_there w ps (assign_form n (at_step e (field_step f no_step)) how.Set y) h a =
        let t = element_field w n e f in
        let s = and_parts (is_scalar_type t) (is_plain w e && is_plain w y) h in
        let r = and_parts (is_plain w e) (is_plain w y) s.1 in
        let scalar = scalar_is t s.0 in
        let i = there tree task w ps e r.0 a.2 in
        (assigned_there (typed w y) t scalar a.0, (there tree task w ps y r.1 a.1).0, i.0, number_there (typed w e) i.1 a.3, a.4, field_there w n f t scalar a.5, a.6)
    form_there w ps (assign_form n (at_step e (field_step f no_step)) (how.Reduce o) y) h a =
        let t = element_field w n e f in
        let s = and_parts (is_scalar_type t) (is_plain w e && is_plain w y) h in
        let r = and_parts (is_plain w e) (is_plain w y) s.1 in
        let i = there tree task w ps e r.0 a.3 in
        (a.0, a.1, (there tree task w ps y r.1 a.2).0, i.0, number_there (typed w e) i.1 a.4, a.5, field_there w n f t (scalar_is t s.0) a.6, a.7)
    form_there w ps (call_form t args) h a =
        (a.0, call_there tree task w ps t args h a.1, passes_all tree task w ps _ (param_types w.tree (task_named w.tree t)) args h (ps t a.1.0) a.2)
    form_there w ps (fill_form r fields e) h a =
        let s = and_parts (are_scalar_fields w r fields) (is_plain w e) h in
        ((there tree task w ps e s.1 a.0).0, a.1, a.2, fields_there w r (typed w e) fields s.0 a.3, a.4)
    form_there w ps (var_form n None None) h a = absurd (no_way_back h)
    form_there w ps (var_form n None (Some (equal_initializer _ _))) h a = absurd (no_way_back h)
    form_there w ps (var_form n (Some t) (Some (equal_initializer _ _))) h a = absurd (no_way_back h)
    form_there w ps (var_form n None (Some (by_field_initializer _ _ _))) h a = absurd (no_way_back h)
    form_there w ps (var_form n (Some t) (Some (by_field_initializer _ _ _))) h a = absurd (no_way_back h)
    form_there w ps (var_form n None (Some (image_initializer _ _ _ _))) h a = absurd (no_way_back h)
    form_there w ps (var_form n (Some t) (Some (image_initializer _ _ _ _))) h a = absurd (no_way_back h)
    form_there w ps (var_form n None (Some (preimage_initializer _ _ _ _))) h a = absurd (no_way_back h)
    form_there w ps (var_form n (Some t) (Some (preimage_initializer _ _ _ _))) h a = absurd (no_way_back h)
    form_there w ps (var_form n None (Some (both_initializer _ _))) h a = absurd (no_way_back h)
    form_there w ps (var_form n (Some t) (Some (both_initializer _ _))) h a = absurd (no_way_back h)
    form_there w ps (var_form n None (Some (either_initializer _ _))) h a = absurd (no_way_back h)
    form_there w ps (var_form n (Some t) (Some (either_initializer _ _))) h a = absurd (no_way_back h)
    form_there w ps (var_form n (Some t) (Some (region_initializer _ _))) h a = absurd (no_way_back h)
    form_there w ps (assign_form n (field_step _ _) d y) h a = absurd (no_way_back h)
    form_there w ps (assign_form n (at_step _ no_step) d y) h a = absurd (no_way_back h)
    form_there w ps (assign_form n (at_step _ (at_step _ _)) d y) h a = absurd (no_way_back h)
    form_there w ps (assign_form n (at_step _ (field_step _ (field_step _ _))) d y) h a = absurd (no_way_back h)
    form_there w ps (assign_form n (at_step _ (field_step _ (at_step _ _))) d y) h a = absurd (no_way_back h)

    arms_there : (own : Where) → HasPlainParams own.tree → (w : Where) → HasPlainParams w.tree → (arms : Arms) → are_plain_arms own w arms ≡ true →
        AreTypedArms G own w arms → AreTypedArms F own w arms
    arms_there own os w ps no_arm h a = tt
    arms_there own os w ps (an_arm test body rest) h a =
        let s = and_parts (is_plain own test) (is_plain_block w body && are_plain_arms own (after_arm w body) rest) h in
        let r = and_parts (is_plain_block w body) (are_plain_arms own (after_arm w body) rest) s.1 in
        (a.0, (there tree task own os test s.0 a.1).0, block_there w ps body r.0 a.2, arms_there own os (after_arm w body) ps rest r.1 a.3)

    else_there : (w : Where) → HasPlainParams w.tree → (other : Otherwise) → is_plain_else w other ≡ true → IsTypedElse G w other → IsTypedElse F w other
    else_there w ps no_else h a = tt
    else_there w ps (else_block body) h a = block_there w ps body h a

    pub block_there : (w : Where) → HasPlainParams w.tree → (b : Block) → is_plain_block w b ≡ true → IsTypedBlock G w b → IsTypedBlock F w b
    block_there w ps no_statement h a = tt
    block_there w ps (then_statement (a_statement line form) rest) h a =
        let s = and_parts (is_plain_form (on_line w line) form) (is_plain_block (after_form w form) rest) h in
        (form_there (on_line w line) ps form s.0 a.0, block_there (after_form w form) ps rest s.1 a.1)

-- ---- programs

term_plain : (t : TypeTerm) → is_plain_term t ≡ true → (tree : Tree) (look : Looking) (own : ℕ) → IsPlainParam (type_said tree look own t)
term_plain (term.Region k u) e tree look own = inr (a_region_type k _ _ _)
term_plain (term.Number number.Int32) e tree look own = inl (scalar_integer _)
term_plain (term.Number number.Int64) e tree look own = inl (scalar_integer _)
term_plain (term.Number (number.Index k)) e tree look own = absurd (no_way_back e)
term_plain term.Truth e tree look own = inl scalar_truth
term_plain (term.Pointer p) e tree look own = absurd (no_way_back e)
term_plain (term.Ispace k) e tree look own = absurd (no_way_back e)
term_plain (term.Partition d r c) e tree look own = absurd (no_way_back e)

abbrev AllPlain : List Bound → Type 0
AllPlain [] = Unit {0}
AllPlain (b ∷ bs) = IsPlainParam b.static_type × AllPlain bs

plain_behind : (bs : List Bound) (b : Bound) → AllPlain bs → IsPlainParam b.static_type → AllPlain (bs ++ b ∷ [])
plain_behind [] b a i = (i, tt)
plain_behind (c ∷ bs) b a i = (a.0, plain_behind bs b a.1 i)

params_plain : (tree : Tree) (all : List Param) (i : ℕ) (ps : List Param) → are_plain_params ps ≡ true → AllPlain (bound_params tree all i ps)
params_plain tree all i [] e = tt
params_plain tree all i (p ∷ ps) e =
    let both = and_parts (is_plain_term p.term) (are_plain_params ps) e in
    plain_behind (bound_params tree all (suc i) ps) _ (params_plain tree all (suc i) ps both.1) (term_plain p.term both.0 tree _ i)

types_plain_behind : (ts : List StaticType) (t : StaticType) → ArePlainParams ts → IsPlainParam t → ArePlainParams (ts ++ t ∷ [])
types_plain_behind [] t a i = (i, tt)
types_plain_behind (u ∷ ts) t a i = (a.0, types_plain_behind ts t a.1 i)

types_plain : (bs : List Bound) → AllPlain bs → ArePlainParams (types_in bs)
types_plain [] a = tt
types_plain (b ∷ bs) a = subst ArePlainParams (sym (types_cons b bs)) (types_plain_behind (types_in bs) b.static_type (types_plain bs a.1) a.0)

-- programs without pointers and partitions are typed without kept ones
module _ (tree : Tree) (inputs : List ℤ) (p : IsPlainProgramRun tree inputs) where
  parts : (k : ℕ) (t : TaskTree) → slice_get (tasks_of tree) k ≡ Some t → (are_plain_params t.params ≡ true) × (is_plain_block (place_of tree t) t.body ≡ true)
  parts k t at =
      let s = task_stands tree k t at in
      and_parts (are_plain_params t.params) (is_plain_block (place_of tree t) t.body)
      (subst (λ form. has_no_pointer tree form ≡ true) s.2 (all_of (λ i. has_no_pointer tree i.form) tree p.plain s.0 s.1))

  all_plain : HasPlainParams tree (task_named tree (entry_name tree)) tree
  all_plain n at = let t = task_named tree n in types_plain (scope_of tree t).names (params_plain tree t.params 0 t.params (parts (place_of_task tree n) t at).0)

  pub plain_tasks : AreTypedBy true false tree
  plain_tasks k t at =
      let task = local_tasks tree inputs p.run k t at in
      record { given = task.given; typed = block_there tree t (place_of tree t) all_plain t.body (parts k t at).1 task.typed; small = task.small }

  pub plain_run : IsTypedRun (forms_by true false tree (task_named tree (entry_name tree))) tree inputs
  plain_run =
      let run = local_run tree inputs p.run in
      let main = entry_name tree in
      let t = task_named tree main in
      let f = found main tree (begins tree p.run.accepted).there in record {
        start = run.start;
        needs = run.needs;
        typed = block_there tree t (place_of tree t) all_plain t.body (parts (place_of_task tree main) t f.at).1 run.typed;
        small = run.small;
        taken = run.taken;
        count = run.count;
      }
