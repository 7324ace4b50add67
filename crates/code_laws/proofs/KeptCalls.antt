-- A call whose result is kept as it comes: a variable begins with it, or it is assigned.
use Rattle.std.proofs.Common.{◌≡◌, ℕ, suc, ◌<◌, ◌≤◌, ◌^◌, List, [], ◌∷◌, Bool, true, false, Option, Some, None, refl, sym, ap, ◌∙◌, subst, arith, ⊎_elim}
use Rattle.std.specs.Prelude.{length}
use Rattle.std.proofs.lemmas.Bool.{false≢true}
use Rattle.lane_kernels.specs.declared.numbers.Width.TheVariants.{W32, W64}
use Rattle.regent_tree.specs.Accesses.{converted}
use Rattle.regent_tree.specs.Evaluation.{called, value, values}
use Rattle.regent_tree.specs.Running.{Here, State}
use Rattle.regent_tree.specs.StaticTypes.{task_named}
use Rattle.regent_tree.specs.Syntax.{Expression, Expressions, Name, call_expr}
use Rattle.regent_tree.specs.Typing.{param_types, params_at, result_type}
use Rattle.regent_tree.specs.Values.{Region}
use Rattle.regent_tree.specs.declared.typing.StaticType.{StaticType}
use Rattle.regent_tree.specs.declared.typing.StaticType.TheVariants as type
use Rattle.task_code.specs.declared.instr.Instr.TheVariants as instr
use Rattle.machine_terms.specs.declared.order.Instance.{Instance}
use Rattle.machine_terms.specs.declared.value.Value.{Value as MachineValue}
use Rattle.code_rules.specs.Expressions.{count, exprs_code}
use Rattle.code_rules.specs.Instructions.{converted_code, keeps_number, place_of_task}
use Rattle.code_rules.specs.Pieces.{Piece, empty, op, past}
use Rattle.code_rules.specs.Slots.{typed}
use Rattle.code_laws.specs.Pointers.{HasZero}
use Rattle.code_laws.specs.Standing.{Agrees, Aside, Comes, SlotsFit, Stands, where_of}
use Rattle.code_laws.specs.Steps.{Setting, placed}
use Rattle.code_laws.specs.Typed.{IsTyped}
use Rattle.code_laws.proofs.CallTakes.{call_takes}
use Rattle.code_laws.proofs.Calling.{HasResult, calls_run, pending}
use Rattle.code_laws.proofs.Expressions.{args_at}
use Rattle.code_laws.proofs.Good.{Good, valued}
use Rattle.code_laws.proofs.Results.{kept_value}
use Rattle.code_laws.proofs.Runs.{comes_on, comes_said, leads_none, then}
use Rattle.code_laws.specs.Steps.{Leads}
use Rattle.std.proofs.Common.{◌⊎◌, inl, inr}
use Rattle.regent_tree.specs.Accesses.{regions_reached}
use Rattle.regent_tree.specs.Execution.{after_statement, bind, exec, right_side}
use Rattle.regent_tree.specs.Initializers.{initial_value}
use Rattle.regent_tree.specs.Scopes.{bound_to}
use Rattle.regent_tree.specs.Syntax.{Form, assign_form, no_step, plain_initializer, var_form}
use Rattle.regent_tree.specs.Typing.{owned, reaches_of, var_type, initializer_type}
use Rattle.regent_tree.specs.declared.statement.How.TheVariants as how
use Rattle.regent_tree.specs.declared.types.TypeTerm.{TypeTerm}
use Rattle.code_rules.proofs.KeptCalls.{kept_either}
use Rattle.code_rules.specs.Initializers.{new_place}
use Rattle.code_rules.specs.Slots.{slot, slot_named}
use Rattle.code_rules.specs.Statements.{begun_form, form_code, put_call}
use Rattle.code_laws.specs.Pointers.{Begins, BeginsWith, IsLike, IsPointed, IsPointer, begins_plain, begins_pointer, zero_index, zero_scalar}
use Rattle.code_laws.specs.Simple.{IsRegion, scalar_integer, scalar_truth}
use Rattle.code_laws.specs.Standing.{Does, IsInside, IsOf}
use Rattle.code_laws.specs.Typed.{BeginsAsPart, CountsDown, IsDifference, IsIndexed, IsKeepable, IsTypedForm}
use Rattle.code_laws.proofs.Besides.{HasNoPart, no_part_goes, simple_no_part}
use Rattle.code_laws.proofs.Counting.{into_runs}
use Rattle.code_laws.proofs.Moving.{assigned_runs, assigns}
use Rattle.code_laws.proofs.Operations.{fetch_small}
use Rattle.code_laws.proofs.PartVariables.{plain_begins, said_begins}
use Rattle.code_laws.proofs.Pointing.{simple_pointed}
use Rattle.code_laws.proofs.Rows.{does_said, owned_plain}
use Rattle.code_laws.proofs.Under.{simple_not_region, type_under}
use Rattle.code_laws.proofs.Values.{simple_inside}
use Rattle.code_laws.proofs.Variables.{binds}
use Rattle.code_laws.proofs.Wider.{assigned, begun, beginning, into_simple, said_either, zero_simple}

-- no code is wanted there
pub keeps_empty : (params : ℕ) (h : Here) (from to : StaticType) → keeps_number from to ≡ true → converted_code (where_of params h) from to ≡ empty
keeps_empty params h (type.Integer W32) (type.Integer W32) e = refl
keeps_empty params h (type.Integer W64) (type.Integer W64) e = refl
keeps_empty params h type.Truth type.Truth e = refl
keeps_empty params h (type.Integer v) (type.Index k) e = refl
keeps_empty params h (type.Index j) (type.Index k) e = refl
keeps_empty params h _ _ e = absurd (false≢true e)

module _ (x : Setting) (params slots : ℕ) (fit : SlotsFit x slots) {deep : ℕ} (aside : Aside deep) where
  -- up to the result on the stack
  pub call_comes : (h : Here) (task : Name) (args : Expressions) (s : State) (pc : ℕ) (st : List MachineValue) (i : Instance) →
      params ≤ length h.scope.names → deep ≤ 0 → IsTyped x.forms (where_of params h) (call_expr task args) → Agrees x params slots aside h s i →
      Stands x.body pc (exprs_code (where_of params h) 0 (params_at h.tree h.scope (task_named h.tree task) args) args) →
      Stands x.body (past (exprs_code (where_of params h) 0 (params_at h.tree h.scope (task_named h.tree task) args) args) pc)
      (op (instr.Call (place_of_task h.tree task) (count args)) h.line) →
      suc (past (exprs_code (where_of params h) 0 (params_at h.tree h.scope (task_named h.tree task) args) args) pc) < 2 ^ 32 →
      Comes x (placed pc st i) (valued (suc (past (exprs_code (where_of params h) 0 (params_at h.tree h.scope (task_named h.tree task) args) args) pc)) st)
      (Good x params slots fit aside h (typed (where_of params h) (call_expr task args))) (value h (call_expr task args) s)
  call_comes h task args s pc st i low none fine g f0 f1 small =
      let callee = task_named h.tree task in
      let ts = params_at h.tree h.scope callee args in
      let t = result_type h.tree callee.result in
      let a = past (exprs_code (where_of params h) 0 ts args) pc in
      then x (comes_said x (valued (suc a) st) (Good x params slots fit aside h t)) _ _ _ (values h ts args s) _
      (args_at x params slots fit aside h 0 (low, none) ts (param_types h.tree callee) args s pc st i fine.3 g f0)
      (λ vs s1 j k.
      let made = call_takes x params slots fit aside h task args vs s1 j fine.2 k.0 k.2 in
      let called_at = subst (λ n. Stands x.body a (op (instr.Call (place_of_task h.tree task) n) h.line)) (sym k.1) f1 in
      comes_on x (pending x params slots fit aside j.frame.children (suc a) st) (valued (suc a) st)
      (HasResult x params slots fit aside j.frame.children h task) (Good x params slots fit aside h t) _ (called h task vs s1)
      (calls_run x params slots fit aside h task vs s1 a st j (k.2.answers fine.0) made.takes made.within small k.2 called_at)
      (λ v s2 j2 k2.
      let o = k2.2 fine.1 in (
        j2,
        subst (λ u. Leads x (pending x params slots fit aside j.frame.children (suc a) st v j2) (placed (suc a) (u ∷ st) j2))
            (sym (kept_value j2.contents t v fine.1 o)) (leads_none x _),
        (o, k2.0),
      )))

-- no number is a pointer
zero_pointer : (t : StaticType) → HasZero t → IsPointer t → ⊥
zero_pointer _ (zero_scalar _ (scalar_integer w)) p = elim p [ ]
zero_pointer _ (zero_scalar _ scalar_truth) p = elim p [ ]
zero_pointer _ (zero_index k) p = elim p [ ]

module _ (x : Setting) (params slots : ℕ) (fit : SlotsFit x slots) (counts : CountsDown) where
  abbrev Runs : Aside 0 → Here → Form → State → ℕ → Instance → Piece → Type 0
  Runs aside h form s pc i p = Stands x.body pc p → Does x params slots aside (placed pc [] i) (past p pc) (after_statement h form) (exec h form s)

  -- `var n = f(..)`
  call_begins : (aside : Aside 0) (h : Here) (n : Name) (task : Name) (args : Expressions) (s : State) (pc : ℕ) (i : Instance) →
      params ≤ length h.scope.names → IsTyped x.forms (where_of params h) (call_expr task args) → Agrees x params slots aside h s i →
      Runs aside h (var_form n None (Some (plain_initializer (call_expr task args)))) s pc i
      (put_call (where_of params h) (slot (where_of params h) (new_place (where_of params h))) task args)
  call_begins aside h n task args s pc i low fine g f =
      let w = where_of params h in
      let e = call_expr task args in
      let form = var_form n None (Some (plain_initializer e)) in
      let t = typed w e in
      let b = suc (past (exprs_code w 0 (params_at h.tree h.scope (task_named h.tree task) args) args) pc) in
      let simple = zero_simple t fine.1 in
      let own = owned_plain h.scope.next t simple in
      then x (does_said x params slots fit counts aside (suc b) (after_statement h form)) _ _ _ (value h e s) _
      (call_comes x params slots fit aside h task args s pc [] i low (omega arith) fine g f.0 f.1.0 (fetch_small x.body b _ f.1.1))
      (λ v s1 j k1. binds x params slots fit counts aside h n None (Some (plain_initializer e)) v s1 b j low
      (subst (λ u. IsOf u v) own k1.0) (subst (λ u. IsInside x s1.store u v) own (simple_inside x s1.store t v simple))
      (subst (λ u. IsPointed h.scope.names s1.names u v) own (simple_pointed h.scope.names s1.names t v simple k1.0))
      (type_under x.forms.takes h.scope.names s1.names (owned h.scope.next t) v (subst (λ u. IsRegion u → ⊥) own (simple_not_region t simple)))
      (no_part_goes _ j.contents (length s1.store) (owned h.scope.next t) v (subst HasNoPart own (simple_no_part t simple))) k1.1 f.1.1)

  -- `var n : t = f(..)`
  call_said : (aside : Aside 0) (h : Here) (n : Name) (t : TypeTerm) (task : Name) (args : Expressions) (s : State) (pc : ℕ) (i : Instance) →
      params ≤ length h.scope.names →
      keeps_number (typed (where_of params h) (call_expr task args)) (var_type h.tree h.scope (Some t) (Some (plain_initializer (call_expr task args)))) ≡ true →
      Begins h.scope.names (typed (where_of params h) (call_expr task args)) (var_type h.tree h.scope (Some t) (Some (plain_initializer (call_expr task args)))) →
      IsTyped x.forms (where_of params h) (call_expr task args) → Agrees x params slots aside h s i →
      Runs aside h (var_form n (Some t) (Some (plain_initializer (call_expr task args)))) s pc i
      (put_call (where_of params h) (slot (where_of params h) (new_place (where_of params h))) task args)
  call_said aside h n t task args s pc i low keeps (begins_pointer _ _ p wr) fine g f = absurd (zero_pointer _ fine.1 p)
  call_said aside h n t task args s pc i low keeps (begins_plain _ _ into) fine g f =
      let w = where_of params h in
      let e = call_expr task args in
      let form = var_form n (Some t) (Some (plain_initializer e)) in
      let from = typed w e in
      let u = var_type h.tree h.scope (Some t) (Some (plain_initializer e)) in
      let b = suc (past (exprs_code w 0 (params_at h.tree h.scope (task_named h.tree task) args) args) pc) in
      let simple = into_simple from u into in
      let same = keeps_empty params h from u keeps in
      then x (does_said x params slots fit counts aside (suc b) (after_statement h form)) (valued b []) (Good x params slots fit aside h u) _
      (initial_value h (Some t) u (Some (plain_initializer e)) s) (λ v. bind v)
      (then x (comes_said x _ _) _ _ _ (value h e s) _
      (call_comes x params slots fit aside h task args s pc [] i low (omega arith) fine g f.0 f.1.0 (fetch_small x.body b _ f.1.1))
      (λ v s1 j k. subst (λ c. Comes x (valued b [] v j) (valued (past c b) []) (Good x params slots fit aside h u)
      (converted h from u (regions_reached h.scope s1.names (reaches_of u)) v s1)) same
      (into_runs x params slots fit aside h from u (regions_reached h.scope s1.names (reaches_of u)) v s1 b [] j into k.0 k.1
      (subst (λ c. Stands x.body b c) (sym same) tt))))
      (λ v s1 j k. binds x params slots fit counts aside h n (Some t) (Some (plain_initializer e)) v s1 b j low k.0
      (simple_inside x s1.store u v simple) (simple_pointed h.scope.names s1.names u v simple k.0)
      (type_under x.forms.takes h.scope.names s1.names u v (simple_not_region u simple))
      (no_part_goes _ j.contents (length s1.store) u v (simple_no_part u simple)) k.1 f.1.1)

  -- `n = f(..)`
  pub call_assigned_runs : (aside : Aside 0) (h : Here) (n : Name) (task : Name) (args : Expressions) (s : State) (pc : ℕ) (i : Instance) →
      params ≤ length h.scope.names →
      keeps_number (typed (where_of params h) (call_expr task args)) (bound_to h.scope.names n).static_type ≡ true →
      IsTypedForm x.forms (where_of params h) (assign_form n no_step how.Set (call_expr task args)) → Agrees x params slots aside h s i →
      Stands x.body pc (put_call (where_of params h) (slot_named (where_of params h) n) task args) →
      Does x params slots aside (placed pc [] i) (past (put_call (where_of params h) (slot_named (where_of params h) n) task args) pc) h
      (exec h (assign_form n no_step how.Set (call_expr task args)) s)
  call_assigned_runs aside h n task args s pc i low keeps fine g f =
      let w = where_of params h in
      let e = call_expr task args in
      let t = typed w e in
      let u = (bound_to h.scope.names n).static_type in
      let into = assigned x.forms.keeps t u fine.0 in
      let b = suc (past (exprs_code w 0 (params_at h.tree h.scope (task_named h.tree task) args) args) pc) in
      let same = keeps_empty params h t u keeps in
      then x (does_said x params slots fit counts aside (suc b) h) (valued b [])
      (Good x params slots fit aside h u) _ (right_side h n no_step how.Set e s) _
      (then x (comes_said x _ _) _ _ _ (value h e s) _
      (call_comes x params slots fit aside h task args s pc [] i low (omega arith) fine.1 g f.0 f.1.0 (fetch_small x.body b _ f.1.1))
      (λ v s1 j k. subst (λ c. Comes x (valued b [] v j) (valued (past c b) []) (Good x params slots fit aside h u) (converted h t u [] v s1)) same
      (assigned_runs x params slots fit aside h t u [] v s1 b [] j into k.0 k.1 (subst (λ c. Stands x.body b c) (sym same) tt))))
      (λ v s1 j k. assigns x params slots fit counts aside h n t v s1 b j into k.0 fine.2 fine.3 k.1 f.1.1)

  -- a variable begins with a call, or with anything else
  pub begins_or_calls : (aside : Aside 0) (h : Here) (n : Name) (e : Expression) (s : State) (pc : ℕ) (i : Instance) → params ≤ length h.scope.names →
      IsTypedForm x.forms (where_of params h) (var_form n None (Some (plain_initializer e))) → Agrees x params slots aside h s i →
      Runs aside h (var_form n None (Some (plain_initializer e))) s pc i (form_code (where_of params h) (var_form n None (Some (plain_initializer e))))
  begins_or_calls aside h n e s pc i low fine g =
      let w = where_of params h in
      kept_either (Runs aside h (var_form n None (Some (plain_initializer e))) s pc i) w (slot w (new_place w)) (begun_form w None (Some (plain_initializer e)))
      (plain_begins x params slots fit counts aside h n e s pc i low fine g) (var_type h.tree h.scope None (Some (plain_initializer e))) e
      (λ task args is keeps. subst (λ e. IsTypedForm x.forms w (var_form n None (Some (plain_initializer e))) →
      Runs aside h (var_form n None (Some (plain_initializer e))) s pc i (put_call w (slot w (new_place w)) task args)) (sym is)
      (λ fine. ⊎_elim (λ (p : IsKeepable x.forms.keeps w (call_expr task args) × IsTyped x.forms w (call_expr task args)).
      call_begins aside h n task args s pc i low p.1 g)
      (λ d. ⊎_elim (λ a. absurd a) (λ b. absurd b) d)
      (begun x.forms.keeps w (call_expr task args) (IsKeepable x.forms.keeps w (call_expr task args) × IsTyped x.forms w (call_expr task args))
      (BeginsAsPart x.forms.takes w (call_expr task args) (IsIndexed x.forms w (call_expr task args))) fine)) fine)

  pub said_or_calls : (aside : Aside 0) (h : Here) (n : Name) (t : TypeTerm) (e : Expression) (s : State) (pc : ℕ) (i : Instance) → params ≤ length h.scope.names →
      IsTypedForm x.forms (where_of params h) (var_form n (Some t) (Some (plain_initializer e))) → Agrees x params slots aside h s i →
      Runs aside h (var_form n (Some t) (Some (plain_initializer e))) s pc i (form_code (where_of params h) (var_form n (Some t) (Some (plain_initializer e))))
  said_or_calls aside h n t e s pc i low fine g =
      let w = where_of params h in
      kept_either (Runs aside h (var_form n (Some t) (Some (plain_initializer e))) s pc i) w (slot w (new_place w)) (begun_form w (Some t) (Some (plain_initializer e)))
      (said_begins x params slots fit counts aside h n t e s pc i low fine g) (var_type h.tree h.scope (Some t) (Some (plain_initializer e))) e
      (λ task args is keeps. subst (λ e. IsTypedForm x.forms w (var_form n (Some t) (Some (plain_initializer e))) →
      keeps_number (typed w (call_expr task args)) (var_type h.tree h.scope (Some t) (Some (plain_initializer e))) ≡ true →
      Runs aside h (var_form n (Some t) (Some (plain_initializer e))) s pc i (put_call w (slot w (new_place w)) task args)) (sym is)
      (λ fine keeps. let u = var_type h.tree h.scope (Some t) (Some (plain_initializer (call_expr task args))) in
      ⊎_elim (λ (p : BeginsWith x.forms.keeps h.scope.names (typed w (call_expr task args)) u × IsTyped x.forms w (call_expr task args)).
      call_said aside h n t task args s pc i low keeps (beginning x.forms.keeps h.scope.names _ _ p.0) p.1 g)
      (λ (d : (IsDifference w (call_expr task args) ⊎ BeginsAsPart x.forms.takes w (call_expr task args) (IsIndexed x.forms w (call_expr task args)))
      × IsLike u (initializer_type h.tree h.scope h.scope.next (plain_initializer (call_expr task args)))).
      ⊎_elim (λ a. absurd a) (λ b. absurd b) d.0)
      (said_either x.forms.keeps w (call_expr task args) (BeginsWith x.forms.keeps h.scope.names (typed w (call_expr task args)) u × IsTyped x.forms w (call_expr task args))
      (BeginsAsPart x.forms.takes w (call_expr task args) (IsIndexed x.forms w (call_expr task args)))
      (IsLike u (initializer_type h.tree h.scope h.scope.next (plain_initializer (call_expr task args)))) fine)) fine keeps)
