-- The code of a statement does what the statement means.
use Rattle.code_laws.proofs.Behind.{folds_behind, sets_behind}
use Rattle.code_laws.proofs.Moving.{assigned_runs, assigns}
use Rattle.code_laws.proofs.FurtherWrites.{behind_reduced, behind_set, element_reduced, element_set, part_reduced_further, part_set_further}
use Rattle.code_laws.proofs.PartWrites.{part_reduced, part_set}
use Rattle.code_laws.proofs.Domains.{domains_run}
use Rattle.code_laws.proofs.PointerForms.{itself_run}
use Rattle.code_laws.proofs.Wider.{any_field, assigned, counting, zeroed}
use Rattle.code_laws.proofs.Variables.{fill_runs}
use Rattle.code_laws.proofs.Begun.{begun_runs, like_itself}
use Rattle.code_laws.proofs.Elements.{folds_element, sets_element}
use Rattle.code_laws.proofs.Folds.{folds}
use Rattle.code_laws.proofs.Loops.{counting_runs, integer_kept, loop_typed, turning_runs, from_fits, to_fits}
use Rattle.code_rules.specs.Instructions.{place_of_task}
use Rattle.code_laws.proofs.Rows.{IsAlike, asserts, does_as, does_before, does_said, returns, same_scope, scoped_by, tests, then_going, then_leads, relimit, jumps_later}
use Rattle.std.proofs.Common.{◌≡◌, ℕ, suc, ◌<◌, ◌≤◌, [], ◌∷◌, ◌++◌, Some, None, refl, sym, ap, ◌∙◌, subst, arith, length-append}
use Rattle.std.specs.Prelude.{length, slice_get}
use Rattle.std.proofs.lemmas.Option.{slice_get-get_or}
use Rattle.std.proofs.lemmas.List.{get_or-set_same, get_or-set_other, append_assoc}
use Rattle.regent_tree.specs.declared.statement.How.TheVariants as how
use Rattle.regent_tree.specs.Scopes.{bound_to}
use Rattle.regent_tree.specs.Syntax.{no_step, field_step, at_step, plain_initializer, a_statement, Form, var_form, if_form, while_form, for_to_form, do_form, assert_form, assign_form, return_form, call_form, fill_form, Block, no_statement, then_statement, Arms, no_arm, an_arm, Otherwise, no_else, else_block, print_form, for_in_form}
use Rattle.regent_tree.specs.Typing.{taken_from, param_types, params_at, scope_after_block, arithmetic_type, width_of_type}
use Rattle.regent_tree.specs.Values.{number_of}
use Rattle.regent_tree.specs.Running.{State, Here, Run}
use Rattle.regent_tree.specs.Accesses.{converted}
use Rattle.regent_tree.specs.Evaluation.{called, value, values}
use Rattle.regent_tree.specs.Execution.{Going, scoped, right_side, looping, exec, exec_arms, exec_else, exec_block, on_line, after_statement, after_arm, after_arms}
use Rattle.task_code.specs.declared.instr.Instr.TheVariants as instr
use Rattle.regent_tree.specs.Numbers.{distance}
use Rattle.machine_terms.specs.declared.value.Value.TheVariants as machine
use Rattle.machine_terms.specs.declared.order.Instance.{Instance}
use Rattle.code_rules.specs.Pieces.{Piece, ◌⨟◌, op, past}
use Rattle.code_rules.specs.Slots.{typed, slot_named, counter, beside}
use Rattle.code_rules.specs.Expressions.{expr_code, exprs_code, count}
use Rattle.code_rules.specs.Statements.{put_call, form_code, arms_code, else_code, block_code}
use Rattle.code_rules.specs.Assignments.{right_code, target_code}
use Rattle.code_rules.proofs.KeptCalls.{assigned_either}
use Rattle.code_laws.specs.Steps.{Setting, placed}
use Rattle.code_laws.specs.Standing.{Stands, machine_value, blank, Aside, where_of, Agrees, SlotsFit, Does}
use Rattle.code_laws.specs.Pointers.{HasZero}
use Rattle.code_laws.specs.Typed.{CountsDown, element_field, field_behind, AreTypedArms, IsTypedBlock, IsTypedElse, IsTypedForm}
use Rattle.code_laws.proofs.Runs.{leads_by, leads_none, leads_twice, ends_by, then, comes_said}
use Rattle.code_laws.proofs.Values.{past_later}
use Rattle.code_laws.proofs.Good.{valued, Good}
use Rattle.code_laws.proofs.Counting.{into_runs}
use Rattle.code_laws.proofs.Operations.{fetch_small, truth_of_type}
use Rattle.code_laws.proofs.Expressions.{AreGiven, args_run, value_runs}
use Rattle.code_laws.proofs.CallTakes.{call_takes}
use Rattle.code_laws.proofs.Calling.{HasResult, calls_run, pending}
use Rattle.code_laws.proofs.Prints.{pushed_all}
use Rattle.regent_tree.specs.StaticTypes.{task_named}
use Rattle.code_laws.proofs.PrintRuns.{values_run, prints}
use Rattle.code_laws.proofs.Names.{form_grown, block_grown, arms_names, else_names}
use Rattle.code_laws.proofs.States.{aside_stored, ready_value, stored, stores}
use Rattle.code_laws.proofs.KeptCalls.{begins_or_calls, call_assigned_runs, said_or_calls}

module _ (x : Setting) (params slots : ℕ) (fit : SlotsFit x slots) (counts : CountsDown) where
  -- ---- statements

  mutual
    pub form_runs : (aside : Aside 0) (h : Here) (form : Form) (s : State) (pc : ℕ) (i : Instance) →
        params ≤ length h.scope.names → IsTypedForm x.forms (where_of params h) form →
        Agrees x params slots aside h s i → Stands x.body pc (form_code (where_of params h) form) →
        Does x params slots aside (placed pc [] i) (past (form_code (where_of params h) form) pc)
        (after_statement h form) (exec h form s)
    form_runs aside h (var_form n None (Some (plain_initializer e))) s pc i low fine g f =
        begins_or_calls x params slots fit counts aside h n e s pc i low fine g f
    form_runs aside h (var_form n (Some t) (Some (plain_initializer e))) s pc i low fine g f =
        said_or_calls x params slots fit counts aside h n t e s pc i low fine g f
    form_runs aside h (var_form n (Some t) None) s pc i low fine g f =
        itself_run x params slots fit counts aside h n t s pc i low (zeroed x.forms.keeps h.scope.names _ fine) g f
    form_runs aside h (assign_form n no_step how.Set e) s pc i low fine g f =
        let w = where_of params h in
        let t = typed w e in
        let u = (bound_to h.scope.names n).static_type in
        let set = right_code w n no_step how.Set e ⨟ target_code w n no_step how.Set in
        let into = assigned x.forms.keeps t u fine.0 in
        assigned_either (λ p. Stands x.body pc p → Does x params slots aside (placed pc [] i) (past p pc) h (exec h (assign_form n no_step how.Set e) s))
        w (slot_named w n) set
        (λ f. then x (does_said x params slots fit counts aside (past set pc) h) (valued (past (right_code w n no_step how.Set e) pc) [])
        (Good x params slots fit aside h u) _ (right_side h n no_step how.Set e s) _
        (then x (comes_said x _ _) _ _ _ (value h e s) _
        (value_runs x params slots fit aside h 0 low e s pc [] i fine.1 g f.0.0)
        (λ v s1 j k. assigned_runs x params slots fit aside h t u [] v s1 _ [] j into k.0 k.1 f.0.1))
        (λ v s1 j k. assigns x params slots fit counts aside h n t v s1 _ j into k.0 fine.2 fine.3 k.1 f.1)) n no_step how.Set e
        (λ task args is keeps still. subst (λ e. IsTypedForm x.forms w (assign_form n no_step how.Set e) → Stands x.body pc (put_call w (slot_named w n) task args) →
        Does x params slots aside (placed pc [] i) (past (put_call w (slot_named w n) task args) pc) h (exec h (assign_form n no_step how.Set e) s)) (sym is)
        (λ fine. call_assigned_runs x params slots fit counts aside h n task args s pc i low keeps fine g) fine) f
    form_runs aside h (assign_form n no_step (how.Reduce o) e) s pc i low fine g f =
        let w = where_of params h in
        let t = typed w e in
        let done = past (form_code w (assign_form n no_step (how.Reduce o) e)) pc in
        then x (does_said x params slots fit counts aside done h) (valued (past (expr_code w 0 e) pc) [])
        (Good x params slots fit aside h t) _ (value h e s) _
        (value_runs x params slots fit aside h 0 low e s pc [] i fine.2 g f.0)
        (λ v s1 j k. folds x params slots fit counts aside h n o t v s1 _ j low fine.0 fine.1 k.0 (fine.3, fine.4) k.1 f.1)
    form_runs aside h (assert_form e) s pc i low fine g f =
        let t = typed (where_of params h) e in
        then x (does_said x params slots fit counts aside _ h) _ _ _ (value h e s) _
        (value_runs x params slots fit aside h 0 low e s pc [] i fine.1 g f.0)
        (λ v s1 j k. asserts x params slots fit counts aside h v s1 _ j (truth_of_type x params slots fit aside t v fine.0 k.0) k.1 f.1)
    form_runs aside h (print_form alias format args) s pc i low fine g f =
        let w = where_of params h in
        then x (does_said x params slots fit counts aside _ h) _ _ _ (values h [] args s) _
        (values_run x params slots fit aside h low args s pc [] i fine.0 g f.0)
        (λ vs s1 j k. prints x params slots fit aside h format (count args) vs s1 _ j k fine.1 f.1)
    form_runs aside h (return_form None) s pc i low fine g f = (
      None,
      placed pc [] i,
      ends_by x _ _ instr.Return h.line f refl,
      refl,
      g.text,
      g.memory,
      g.framed,
      λ c q. absurd (fine c (subst HasZero (sym g.result_is) q)),
    )
    form_runs aside h (return_form (Some e)) s pc i low fine g f =
        let t = typed (where_of params h) e in
        let done = past (form_code (where_of params h) (return_form (Some e))) pc in
        then x (does_said x params slots fit counts aside done h) _ _ _ (value h e s) _
        (value_runs x params slots fit aside h 0 low e s pc [] i fine.1 g f.0)
        (λ v s1 j k. then x (does_said x params slots fit counts aside _ h) _ (Good x params slots fit aside h h.result) _ (converted h t h.result [] v s1) _
        (into_runs x params slots fit aside h t h.result [] v s1 _ [] j fine.0.0 k.0 k.1 f.1.0)
        (λ u s2 j2 k2. returns x params slots fit counts aside h h.result u s2 _ done j2
        fine.0.1 k2.1.result_is k2.0 k2.1 f.1.1))
    form_runs aside h (do_form body) s pc i low fine g f =
        does_as x params slots fit counts aside _ h (after_statement h (do_form body)) _ _ (refl, refl)
        (scoped_by x params slots fit counts aside h body s _ _ i low g (block_runs aside h body s pc i low fine g f))
    form_runs aside h (if_form arms other) s pc i low fine g f =
        let w = where_of params h in
        let e = arms_names h.tree h.scope arms in
        does_as x params slots fit counts aside _ h (after_statement h (if_form arms other)) _ _
        (sym (else_names h.tree (after_arms h arms).scope other ∙ e), refl)
        (arms_run aside h h h arms (exec_else (after_arms h arms) other)
        (else_code (where_of params (after_arms h arms)) other) s pc i low (refl, refl) (refl, refl) fine.0 g f
        (λ s1 pc1 j g1 f1. does_as x params slots fit counts aside _ (after_arms h arms) h _ _ (e, refl)
        (else_runs aside (after_arms h arms) other s1 pc1 j
        (omega (arith, low, ap length e)) fine.1
        (same_scope x params slots aside h (after_arms h arms) s1 j (sym e, refl) g1) f1)))
    form_runs aside h (while_form test body) s pc i low fine g f =
        let w = where_of params h in
        let b = past (block_code w body) (suc (suc pc)) in
        let later : pc < b = omega (arith, past_later (block_code w body) (suc (suc pc))) in
        does_before x params slots fit counts aside _ _ _ _ _ (jumps_later x params slots fit counts pc b h.line i later f.0)
        (does_as x params slots fit counts aside _ h (after_statement h (while_form test body)) _ _ (refl, refl)
        (turning_runs x params slots fit counts s.turns aside h test (scoped (exec_block h body)) (block_code w body) s pc i
        low fine.0 fine.1 g.bound (relimit x params slots fit counts aside s.turns h s i (omega arith) g) f
        (λ n s1 j k. scoped_by x params slots fit counts _ h body s1 _ _ j low k
        (block_runs (record aside { turns = n }) h body s1 (suc (suc pc)) j low fine.2 k f.2))))
    form_runs aside h (for_to_form demanded n from to body) s pc i low fine g f =
        let w = where_of params h in
        let t = typed w from in
        let u = typed w to in
        let a = arithmetic_type t u in
        let k = length h.scope.names in
        let c = counter w k in
        let l = beside w k in
        let done = past (form_code w (for_to_form demanded n from to body)) pc in
        let p = past (expr_code w 0 to) (past (expr_code w 0 from) pc) in
        let up : aside.upto ≤ k = omega (arith, g.inside, g.count) in
        let h2 = record (looping h n a) { scope = scope_after_block h.tree (looping h n a).scope body } in
        let grown = block_grown h.tree (looping h n a).scope body in
        does_as x params slots fit counts aside _ h (after_statement h (for_to_form demanded n from to body)) _ _ (refl, refl)
        (then x (does_said x params slots fit counts aside done h) _ _ _ (value h from s) _
        (value_runs x params slots fit aside h 0 low from s pc [] i fine.2 g f.0)
        (λ v s1 j k1. then x (does_said x params slots fit counts aside done h) _ _ _ (value h to s1) _
        (value_runs x params slots fit aside h 0 low to s1 _ (machine_value j.contents v ∷ []) j fine.3 k1.1 f.1.0)
        (λ v2 s2 j2 k2.
        let j3 = stored l (machine_value j2.contents v2) j2 in
        let j4 = stored c (machine_value j.contents v) j3 in
        let f2 = f.1.1.0 in
        let f3 = f.1.1.1.0 in
        let g3 = aside_stored x params slots fit aside h s2 j2 k 2 (machine_value j2.contents v2) low up (omega arith)
        (omega arith) (omega arith) (ready_value j2.contents v2) k2.1 in
        let g4 = aside_stored x params slots fit aside h s2 j3 k 1 (machine_value j.contents v) low up (omega arith)
        (omega arith) (omega arith) (ready_value j.contents v) g3 in
        let cs : slice_get j4.frame.slots c ≡ Some (machine.Number (number_of v)) =
        slice_get-get_or j4.frame.slots c blank (omega (arith, g4.slots_are, fit _ _ f3))
        ∙ ap Some (get_or-set_same j3.frame.slots c (machine_value j.contents v) blank (omega (arith, g3.slots_are, fit _ _ f3))
        ∙ integer_kept x params slots fit counts j.contents t v fine.0 k1.0) in
        let ls : slice_get j4.frame.slots l ≡ Some (machine.Number (number_of v2)) =
        slice_get-get_or j4.frame.slots l blank (omega (arith, g4.slots_are, fit _ _ f2))
        ∙ ap Some (get_or-set_other j3.frame.slots c l _ blank (λ q. omega (arith, q))
        ∙ get_or-set_same j2.frame.slots l (machine_value j2.contents v2) blank (omega (arith, k2.1.slots_are, fit _ _ f2))
        ∙ integer_kept x params slots fit counts j2.contents u v2 fine.1 k2.0) in
        does_before x params slots fit counts aside done h _ _ _
        (leads_twice x (stores x params slots fit l p h.line (machine_value j2.contents v2) (machine_value j.contents v ∷ []) j2 k2.1.slots_are f2)
        (stores x params slots fit c (suc p) h.line (machine_value j.contents v) [] j3 g3.slots_are f3))
        (counting_runs x params slots fit counts (distance (number_of v) (number_of v2)) aside h h2 n a (width_of_type a)
        (exec_block (looping h n a) body) (block_code (where_of params (looping h n a)) body)
        (number_of v) (number_of v2) s2 (suc (suc p)) j4 (λ y q. loop_typed x params slots fit counts t u y fine.0 fine.1 q)
        (from_fits x params slots fit counts t u v fine.0 fine.1 k1.0) (to_fits x params slots fit counts t u v2 fine.0 fine.1 k2.0)
        low refl g4 cs ls
        f.1.1.1.1 (record { more = grown.more ++ _ ∷ []; are = grown.are ∙ sym (append_assoc grown.more (_ ∷ []) h.scope.names) }) refl
        (λ aside2 s5 j5 g5. block_runs aside2 (looping h n a) body s5 (suc (suc (suc p))) j5
        (omega (arith, low)) fine.4 g5 f.1.1.1.1.1)))))
    form_runs aside h (var_form n None None) s pc i low fine g f = absurd fine
    form_runs aside h (var_form n None (Some start)) s pc i low fine g f =
        begun_runs x params slots fit counts aside h n None start s pc i low (like_itself x.forms (where_of params h) h.tree h.scope h.scope.next start fine) fine g f
    form_runs aside h (var_form n (Some t) (Some start)) s pc i low fine g f =
        begun_runs x params slots fit counts aside h n (Some t) start s pc i low fine.1 fine.2 g f
    form_runs aside h (for_in_form demanded n domain body) s pc i low fine g f =
        domains_run x params slots fit counts aside h demanded n domain body s pc i low fine g f
        (λ fine_body aside2 s5 p j5 g5 f5. block_runs aside2 (looping h n (taken_from (typed (where_of params h) domain))) body s5 p j5 (omega (arith, low)) fine_body g5 f5)
    form_runs aside h (assign_form n (field_step f2 no_step) how.Set e) s pc i low fine g f =
        let w = where_of params h in
        let t = typed w e in
        let u = field_behind w n f2 in
        let steps = field_step f2 no_step in
        then x (does_said x params slots fit counts aside (past (form_code w (assign_form n steps how.Set e)) pc) h)
        (valued (past (right_code w n steps how.Set e) pc) []) (Good x params slots fit aside h u) _ (right_side h n steps how.Set e s) _
        (then x (comes_said x _ _) _ _ _ (value h e s) _
        (value_runs x params slots fit aside h 0 low e s pc [] i fine.2 g f.0.0)
        (λ v s1 j k. assigned_runs x params slots fit aside h t u [] v s1 _ [] j fine.1 k.0 k.1 f.0.1))
        (λ v s1 j k. sets_behind x params slots fit aside h n f2 u v s1 _ j fine.3 fine.4 k.0 k.1 f.1)
    form_runs aside h (assign_form n (field_step f2 no_step) (how.Reduce o) e) s pc i low fine g f =
        let w = where_of params h in
        let t = typed w e in
        then x (does_said x params slots fit counts aside (past (form_code w (assign_form n (field_step f2 no_step) (how.Reduce o) e)) pc) h)
        (valued (past (expr_code w 0 e) pc) []) (Good x params slots fit aside h t) _ (value h e s) _
        (value_runs x params slots fit aside h 0 low e s pc [] i fine.3 g f.0)
        (λ v s1 j k. folds_behind x params slots fit aside o h n f2 (field_behind w n f2) t v s1 _ j fine.4 fine.5 fine.2 fine.1 k.0 k.1 f.1)
    form_runs aside h (assign_form n (field_step f2 (field_step f3 rest)) how.Set e) s pc i low fine g f = behind_set x params slots fit aside counts h n f2 f3 rest e s pc i low fine g f
    form_runs aside h (assign_form n (field_step _ (at_step _ _)) how.Set e) s pc i low fine g f = absurd fine
    form_runs aside h (assign_form n (field_step f2 (field_step f3 rest)) (how.Reduce o) e) s pc i low fine g f = behind_reduced x params slots fit aside counts o h n f2 f3 rest e s pc i low fine g f
    form_runs aside h (assign_form n (field_step _ (at_step _ _)) (how.Reduce o) e) s pc i low fine g f = absurd fine
    form_runs aside h (assign_form n (at_step y (field_step f2 no_step)) how.Set e) s pc i low fine g f =
        let w = where_of params h in
        let t = typed w e in
        let u = element_field w n y f2 in
        let form = assign_form n (at_step y (field_step f2 no_step)) how.Set e in
        then x (does_said x params slots fit counts aside (past (form_code w form) pc) h)
        (valued (past (right_code w n (at_step y (field_step f2 no_step)) how.Set e) pc) [])
        (Good x params slots fit aside h u) _ (right_side h n (at_step y (field_step f2 no_step)) how.Set e s) _
        (then x (comes_said x _ _) _ _ _ (value h e s) _
        (value_runs x params slots fit aside h 0 low e s pc [] i fine.1 g f.0.0)
        (λ v s1 j k. assigned_runs x params slots fit aside h t u [] v s1 _ [] j (assigned x.forms.keeps t u fine.0) k.0 k.1 f.0.1))
        (λ v s1 j k. sets_element x params slots fit aside h n y f2 u v s1 _ j low fine.2 (counting x.forms.keeps _ fine.3) fine.4
        (any_field x.forms.keeps w n f2 u fine.5) fine.6 k.0 k.1 f.1)
    form_runs aside h (assign_form n (at_step y (field_step f2 no_step)) (how.Reduce o) e) s pc i low fine g f =
        let w = where_of params h in
        let t = typed w e in
        let u = element_field w n y f2 in
        let form = assign_form n (at_step y (field_step f2 no_step)) (how.Reduce o) e in
        then x (does_said x params slots fit counts aside (past (form_code w form) pc) h)
        (valued (past (expr_code w 0 e) pc) []) (Good x params slots fit aside h t) _ (value h e s) _
        (value_runs x params slots fit aside h 0 low e s pc [] i fine.2 g f.0)
        (λ v s1 j k. folds_element x params slots fit aside o h n y f2 u t v s1 _ j low fine.3 (counting x.forms.keeps _ fine.4) fine.5
        (any_field x.forms.keeps w n f2 u fine.6) fine.7 fine.1 fine.0 k.0 k.1 f.1)
    form_runs aside h (assign_form n (at_step _ no_step) how.Set e) s pc i low fine g f = absurd fine
    form_runs aside h (assign_form n (at_step y (at_step y2 (field_step f2 no_step))) how.Set e) s pc i low fine g f =
        part_set x params slots fit aside counts h n y y2 f2 e s pc i low fine g f
    form_runs aside h (assign_form n (at_step y (at_step y2 (field_step f2 (field_step f3 rest)))) how.Set e) s pc i low fine g f =
        part_set_further x params slots fit aside counts h n y y2 f2 f3 rest e s pc i low fine g f
    form_runs aside h (assign_form n (at_step _ (at_step _ (field_step _ (at_step _ _)))) how.Set e) s pc i low fine g f = absurd fine
    form_runs aside h (assign_form n (at_step _ (at_step _ (at_step _ _))) how.Set e) s pc i low fine g f = absurd fine
    form_runs aside h (assign_form n (at_step _ (at_step _ no_step)) how.Set e) s pc i low fine g f = absurd fine
    form_runs aside h (assign_form n (at_step y (field_step f2 (field_step f3 rest))) how.Set e) s pc i low fine g f = element_set x params slots fit aside counts h n y f2 f3 rest e s pc i low fine g f
    form_runs aside h (assign_form n (at_step _ (field_step _ (at_step _ _))) how.Set e) s pc i low fine g f = absurd fine
    form_runs aside h (assign_form n (at_step _ no_step) (how.Reduce o) e) s pc i low fine g f = absurd fine
    form_runs aside h (assign_form n (at_step y (at_step y2 (field_step f2 no_step))) (how.Reduce o) e) s pc i low fine g f =
        part_reduced x params slots fit aside counts o h n y y2 f2 e s pc i low fine g f
    form_runs aside h (assign_form n (at_step y (at_step y2 (field_step f2 (field_step f3 rest)))) (how.Reduce o) e) s pc i low fine g f =
        part_reduced_further x params slots fit aside counts o h n y y2 f2 f3 rest e s pc i low fine g f
    form_runs aside h (assign_form n (at_step _ (at_step _ (field_step _ (at_step _ _)))) (how.Reduce o) e) s pc i low fine g f = absurd fine
    form_runs aside h (assign_form n (at_step _ (at_step _ (at_step _ _))) (how.Reduce o) e) s pc i low fine g f = absurd fine
    form_runs aside h (assign_form n (at_step _ (at_step _ no_step)) (how.Reduce o) e) s pc i low fine g f = absurd fine
    form_runs aside h (assign_form n (at_step y (field_step f2 (field_step f3 rest))) (how.Reduce o) e) s pc i low fine g f = element_reduced x params slots fit aside counts o h n y f2 f3 rest e s pc i low fine g f
    form_runs aside h (assign_form n (at_step _ (field_step _ (at_step _ _))) (how.Reduce o) e) s pc i low fine g f = absurd fine
    form_runs aside h (fill_form r fields e) s pc i low fine g f =
        let t = typed (where_of params h) e in
        then x (does_said x params slots fit counts aside _ h) _ _ _ (value h e s) _
        (value_runs x params slots fit aside h 0 low e s pc [] i fine.0 g f.0)
        (λ v s1 j k. fill_runs x params slots fit counts aside h r fields t v s1 _ j low fine.1 fine.2 fine.3 fine.4 k.0 k.1 f.1.0 f.1.1)
    form_runs aside h (call_form task args) s pc i low fine g f =
        let w = where_of params h in
        let callee = task_named h.tree task in
        let ts = params_at h.tree h.scope callee args in
        let ps = param_types h.tree callee in
        let a = past (exprs_code w 0 ts args) pc in
        let done = past (form_code w (call_form task args)) pc in
        then x (does_said x params slots fit counts aside done h) (λ vs j. placed a (pushed_all j.contents vs []) j)
        (AreGiven x params slots fit aside h ps args) _ (values h ts args s) _
        (args_run x params slots fit aside h 0 low ts ps args s pc [] i fine.2 g f.0)
        (λ vs s1 j k.
        let made = call_takes x params slots fit aside h task args vs s1 j fine.1 k.0 k.2 in
        let called_at = subst (λ n. Stands x.body a (op (instr.Call (place_of_task h.tree task) n) h.line)) (sym k.1) f.1.0 in
        then x (does_said x params slots fit counts aside done h) (pending x params slots fit aside j.frame.children (suc a) [])
        (HasResult x params slots fit aside j.frame.children h task) _ (called h task vs s1) _
        (calls_run x params slots fit aside h task vs s1 a [] j (k.2.answers fine.0)
        made.takes made.within (fetch_small x.body (suc a) _ f.1.1) k.2 called_at)
        (λ v s2 j2 k2. (j2, leads_by x _ _ instr.Drop h.line f.1.1 refl, k2.0)))

    arms_run : (aside : Aside 0) (own h h0 : Here) (arms : Arms) (other : Run Going) (oc : Piece) (s : State)
        (pc : ℕ) (i : Instance) → params ≤ length own.scope.names → IsAlike own h → IsAlike h h0 →
        AreTypedArms x.forms (where_of params own) (where_of params h) arms → Agrees x params slots aside h s i →
        Stands x.body pc (arms_code (where_of params own) (where_of params h) arms oc) →
        ((s1 : State) (pc1 : ℕ) (j : Instance) → Agrees x params slots aside h0 s1 j →
        Stands x.body pc1 oc → Does x params slots aside (placed pc1 [] j) (past oc pc1) h0 (other s1)) →
        Does x params slots aside (placed pc [] i)
        (past (arms_code (where_of params own) (where_of params h) arms oc) pc) h0 (exec_arms own h arms other s)
    arms_run aside own h h0 no_arm other oc s pc i low o e fine g f more =
        more s pc i (same_scope x params slots aside h h0 s i e g) f
    arms_run aside own h h0 (an_arm test body rest) other oc s pc i low o e fine g f more =
        let w = where_of params h in
        let t = typed (where_of params own) test in
        let p = past (expr_code (where_of params own) 0 test) pc in
        let b = past (block_code w body) (suc p) in
        let r = arms_code (where_of params own) (where_of params (after_arm h body)) rest oc in
        let far : b < past r (suc b) = omega (arith, past_later r (suc b)) in
        let near : p < suc b = omega (arith, past_later (block_code w body) (suc p)) in
        let said = does_said x params slots fit counts aside (past r (suc b)) h0 in
        then x said (valued p []) (Good x params slots fit aside own t) _ (value own test s) _
        (value_runs x params slots fit aside own 0 low test s pc [] i fine.1 (same_scope x params slots aside h own s i (sym o.0, sym o.1) g) f.0)
        (λ v s1 j k.
        let g1 = same_scope x params slots aside own h s1 j o k.1 in
        tests x params slots fit counts p (suc b) h.line j v s1 (scoped (exec_block h body)) _ _ said
        (truth_of_type x params slots fit aside t v fine.0 k.0) near f.1.0
        (then_leads x params slots fit counts aside b (past r (suc b)) h0 _ _
        (does_as x params slots fit counts aside b h h0 _ _ e (scoped_by x params slots fit counts aside h body s1 _ _ j (omega (arith, low, ap length o.0)) g1
        (block_runs aside h body s1 (suc p) j (omega (arith, low, ap length o.0)) fine.2 g1 f.1.1)))
        (λ j2. jumps_later x params slots fit counts b (past r (suc b)) h.line j2 far f.1.2))
        (arms_run aside own (after_arm h body) h0 rest other oc s1 (suc b) j low o e fine.3
        (same_scope x params slots aside h (after_arm h body) s1 j (refl, refl) g1) f.1.3 more))

    else_runs : (aside : Aside 0) (h : Here) (other : Otherwise) (s : State) (pc : ℕ) (i : Instance) →
        params ≤ length h.scope.names → IsTypedElse x.forms (where_of params h) other →
        Agrees x params slots aside h s i → Stands x.body pc (else_code (where_of params h) other) →
        Does x params slots aside (placed pc [] i) (past (else_code (where_of params h) other) pc) h
        (exec_else h other s)
    else_runs aside h no_else s pc i low fine g f = (i, leads_none x _, g)
    else_runs aside h (else_block body) s pc i low fine g f =
        scoped_by x params slots fit counts aside h body s _ _ i low g (block_runs aside h body s pc i low fine g f)

    pub block_runs : (aside : Aside 0) (h : Here) (body : Block) (s : State) (pc : ℕ) (i : Instance) →
        params ≤ length h.scope.names → IsTypedBlock x.forms (where_of params h) body →
        Agrees x params slots aside h s i → Stands x.body pc (block_code (where_of params h) body) →
        Does x params slots aside (placed pc [] i) (past (block_code (where_of params h) body) pc)
        (record h { scope = scope_after_block h.tree h.scope body }) (exec_block h body s)
    block_runs aside h no_statement s pc i low fine g f = (i, leads_none x _, g)
    block_runs aside h (then_statement (a_statement line form) rest) s pc i low fine g f =
        let h1 = on_line h line in
        let h2 = after_statement h form in
        let a = past (form_code (where_of params h1) form) pc in
        let grown = form_grown h.tree h.scope form in
        let low2 : params ≤ length h2.scope.names =
        omega (arith, low, ap length grown.are, length-append grown.more h.scope.names) in
        then_going x params slots fit counts aside aside a _ h2 _ _ _ (exec_block h2 rest)
        (does_as x params slots fit counts aside a (after_statement h1 form) h2 _ _ (refl, refl)
        (form_runs aside h1 form s pc i low fine.0 (same_scope x params slots aside h h1 s i (refl, refl) g) f.0))
        (λ s1 j g1. does_as x params slots fit counts aside _ _ _ _ _ (refl, refl) (block_runs aside h2 rest s1 a j low2 fine.1 g1 f.1))
