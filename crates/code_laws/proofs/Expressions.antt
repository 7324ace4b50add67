-- The code of an expression leaves its value on the stack, or ends with its fault.
use Rattle.regent_tree.specs.Laws.{SameNames}
use Rattle.code_laws.proofs.States.{stored}
use Rattle.code_laws.proofs.Prints.{pushed_all}
use Rattle.code_laws.proofs.Results.{results_run}
use Rattle.code_laws.proofs.Calling.{HasResult, calls_run, pending}
use Rattle.code_laws.proofs.Handing.{AreGivenBy, IndexRuns, IsGivenBy, Stays, arguments_keep_names, cut_passed, handed_run, part_passed, value_stays}
use Rattle.code_laws.proofs.CallTakes.{call_takes}
use Rattle.code_laws.proofs.Cuts.{colours_run}
use Rattle.code_laws.proofs.Pointing.{named_pointed}
use Rattle.code_laws.specs.Arguments.{IsCutName}
use Rattle.code_laws.proofs.Operations.{and_runs, fetch_small, named_runs, or_runs, space_runs, truth_of_type}
use Rattle.code_laws.proofs.Arguments.{given_by}
use Rattle.code_laws.proofs.Accesses.{access_reads}
use Rattle.code_laws.proofs.Behind.{behind_reads}
use Rattle.code_laws.proofs.Further.{access_further, behind_further}
use Rattle.code_laws.proofs.Comparing.{compared_runs, left_fits, operand_runs, right_fits}
use Rattle.code_laws.proofs.Signs.{prefixed_runs}
use Rattle.code_laws.proofs.PartElements.{part_points}
use Rattle.code_laws.proofs.PartReads.{part_pointer_typed, part_reads}
use Rattle.code_laws.proofs.PointerValues.{cast_runs, element_runs, null_runs, without_given}
use Rattle.code_laws.proofs.Counting.{counted_runs, number_runs, stands_runs}
use Rattle.code_laws.proofs.Passing.{passed_inside, passed_runs, passed_typed}
use Rattle.code_laws.proofs.Wider.{any_field, compared, converting, counting, passing, signed_as}
use Rattle.regent_tree.proofs.Laws.{expressions_keep_names}
use Rattle.std.proofs.Common.{◌≡◌, ℕ, suc, ◌<◌, ◌≤◌, negsuc, List, [], ◌∷◌, false, inl, inr, refl, sym, ap, subst, arith, ⊎_elim}
use Rattle.std.specs.Prelude.{get_or, length}
use Rattle.regent_tree.specs.declared.expression.Operator.TheVariants.{Or, And, Compare, Compute}
use Rattle.regent_tree.specs.declared.typing.StaticType.{StaticType}
use Rattle.regent_tree.specs.declared.typing.StaticType.TheVariants.{Truth as truth_type}
use Rattle.regent_tree.specs.Scopes.{bound_to}
use Rattle.regent_tree.specs.Syntax.{Expression, number_expr, truth_expr, chain_expr, prefix_expr, access_expr, call_expr, convert_expr, is_null_expr, null_expr, cast_expr, space_expr, Expressions, no_expr, an_expr, Links, no_link, a_link, no_step, field_step, at_step}
use Rattle.regent_tree.specs.Values.{Value, a_number, a_pointer, a_truth, kept_target, kept_truth, null_target, point_target}
use Rattle.regent_tree.specs.Typing.{reaches_of, type_of_element, linked_type, are_pointers, param_types, params_at, result_type}
use Rattle.regent_tree.specs.Running.{State, Here, and_then, given, gives}
use Rattle.regent_tree.specs.Operators.{combined, operand}
use Rattle.regent_tree.specs.Accesses.{converted, regions_reached, standing}
use Rattle.regent_tree.specs.Evaluation.{called, value, values, linked}
use Rattle.task_code.specs.declared.instr.Instr.TheVariants as instr
use Rattle.machine_terms.specs.declared.value.Value.{Value as MachineValue}
use Rattle.machine_terms.specs.declared.value.Value.TheVariants as machine
use Rattle.machine_terms.specs.declared.order.Instance.{Instance}
use Rattle.code_rules.specs.Pieces.{op, past}
use Rattle.code_rules.specs.Slots.{result, spare, typed}
use Rattle.code_rules.specs.Expressions.{count, expr_code, exprs_code, links_code}
use Rattle.code_rules.specs.Instructions.{converted_code, operand_code, place_of_task}
use Rattle.code_laws.specs.Steps.{Leads, Setting, placed}
use Rattle.code_laws.specs.Standing.{Comes, Stands, machine_value, IsInside, IsOf, of_integer, of_pointer, of_truth, nothing, Aside, SlotsFit, where_of, Agrees}
use Rattle.regent_tree.specs.StaticTypes.{task_named}
use Rattle.code_laws.specs.Typed.{ArePassed, IsIndexed, IsTyped, AreTypedLinks, element_field}
use Rattle.code_laws.proofs.Runs.{comes_on, leads_none, then, then_led, comes_said}
use Rattle.code_laws.proofs.Good.{valued, Good, Gives, pushes}
use Rattle.code_laws.proofs.Values.{past_later, named}

module _ (x : Setting) (params slots : ℕ) (fit : SlotsFit x slots) {deep : ℕ} (aside : Aside deep) where
  -- so many values, each that of its argument
  abbrev pub AreGiven : Here → List StaticType → Expressions → List Value → State → Instance → Type 0
  AreGiven h ps es vs s j = AreGivenBy x params slots fit aside h ps es vs s.names × (length vs ≡ count es) × Agrees x params slots aside h s j

-- ---- expressions

module _ (x : Setting) (params slots : ℕ) (fit : SlotsFit x slots) where
  -- a depth behind what was put aside
  abbrev pub IsLow : ℕ → Here → ℕ → Type 0
  IsLow deep h d = (params ≤ length h.scope.names) × (deep ≤ d)

  mutual
    pub value_at : {deep : ℕ} (aside : Aside deep) (h : Here) (d : ℕ) → IsLow deep h d →
        (e : Expression) (s : State) (pc : ℕ)
        (st : List MachineValue) (i : Instance) → IsTyped x.forms (where_of params h) e →
        Agrees x params slots aside h s i → Stands x.body pc (expr_code (where_of params h) d e) →
        Gives x params slots fit aside h (typed (where_of params h) e) (expr_code (where_of params h) d e) pc st st i
        (value h e s)
    value_at aside h d low (number_expr z v) s pc st i fine g f =
        pushes x params slots fit aside h _ (a_number v z) s pc st st i (instr.Num z) h.line f (of_integer v z fine) g refl
    value_at aside h d low (truth_expr b) s pc st i fine g f =
        pushes x params slots fit aside h _ (a_truth b) s pc st st i (instr.Num (kept_truth b)) h.line f (of_truth b) g refl
    value_at aside h d low (access_expr n no_step) s pc st i fine g f =
        named_runs x params slots fit aside h n s pc st i fine.0 g f.0
    value_at aside h d low (prefix_expr signs e) s pc st i fine g f =
        let t = typed (where_of params h) e in
        then x (comes_said x _ _) _ _ _ (value h e s) _ (value_at aside h d low e s pc st i fine.0 g f.0)
        (λ v s1 j k. prefixed_runs x params slots fit aside h t signs v s1 _ st j (signed_as x.forms.keeps t signs fine.1) k.0 k.1 f.1)
    value_at aside h d low (chain_expr first rest) s pc st i fine g f =
        then x (comes_said x _ _) _ _ _ (value h first s) _
        (value_at aside h d low first s pc st i fine.0 g f.0)
        (λ v s1 j k. linked_at aside h d low _ v rest s1 _ st j fine.1 k.0 k.1 f.1)
    value_at aside h d low (convert_expr t e) s pc st i fine g f =
        let w = where_of params h in
        let from = typed w e in
        let said = comes_said x (valued (past (expr_code w d (convert_expr t e)) pc) st)
        (Good x params slots fit aside h (typed w (convert_expr t e))) in
        then x said _ _ _ (value h e s) _ (value_at aside h d low e s pc st i fine.0 g f.0)
        (λ v s1 j k. then x said _ _ _ (standing h v s1) _
        (stands_runs x params slots fit aside h from v s1 _ st j (counting x.forms.keeps from fine.1) k.0 k.1 f.1.0)
        (λ u s2 j2 k2. number_runs x params slots fit aside h t from u s2 _ st j2 (converting x.forms.keeps t fine.2)
        (counting x.forms.keeps from fine.1) k2.0 k2.1 f.1.1))
    value_at aside h d low (call_expr task args) s pc st i fine g f =
        let w = where_of params h in
        let callee = task_named h.tree task in
        let ts = params_at h.tree h.scope callee args in
        let t = result_type h.tree callee.result in
        let a = past (exprs_code w d ts args) pc in
        let done = past (expr_code w d (call_expr task args)) pc in
        let said = comes_said x (valued done st) (Good x params slots fit aside h t) in
        then x said _ _ _ (values h ts args s) _
        (args_at aside h d low ts (param_types h.tree callee) args s pc st i fine.3 g f.0)
        (λ vs s1 j k.
        let made = call_takes x params slots fit aside h task args vs s1 j fine.2 k.0 k.2 in
        let called_at = subst (λ n. Stands x.body a (op (instr.Call (place_of_task h.tree task) n) h.line)) (sym k.1) f.1.0 in
        comes_on x (pending x params slots fit aside j.frame.children (suc a) st) (valued done st)
        (HasResult x params slots fit aside j.frame.children h task) (Good x params slots fit aside h t) _ (called h task vs s1)
        (calls_run x params slots fit aside h task vs s1 a st j (k.2.answers fine.0)
        made.takes made.within (fetch_small x.body (suc a) _ f.1.1.0) k.2 called_at)
        (λ v s2 j2 k2.
        let o = k2.2 fine.1 in
        let r = results_run x params slots fit aside h t d v s2 (suc a) h.line st j2 low.0 fine.1 o k2.0 f.1.1.0 f.1.1.1 in
        (stored (result w d) (machine_value j2.contents v) j2, r.0, (o, r.1))))
    value_at aside h d low (access_expr n (field_step name no_step)) s pc st i fine g f =
        ⊎_elim
        (λ behind. behind_reads x params slots fit aside h d n name _ s pc st i behind.0 behind.1 g f)
        (λ (cut : IsCutName (where_of params h) n).
        let b = bound_to h.scope.names n in
        let m = named IsOf h.scope.names s.names n g.typed cut.named in
        colours_run x params slots fit aside h d b.static_type b.place (get_or s.names b.place nothing) name s pc st i cut.partition m.holding
        (named_pointed h.scope.next h.scope.names s.names n cut.numbers g.pointed cut.named) refl (omega (arith, m.below, g.count)) g f) fine.1
    value_at aside h d low (access_expr n (field_step name (field_step more rest))) s pc st i fine g f =
        behind_further x params slots fit aside h d n name more rest s pc st i fine.1 fine.2 fine.3 g f
    value_at aside h d low (access_expr n (field_step _ (at_step _ _))) s pc st i fine g f = absurd fine
    value_at aside h d low (access_expr n (at_step e (field_step name no_step))) s pc st i fine g f =
        let w = where_of params h in
        let b = bound_to h.scope.names n in
        let field = any_field x.forms.keeps w n name (element_field w n e name) fine.3 in
        let m = named IsOf h.scope.names s.names n g.typed field.named in
        access_reads x params slots fit aside h d b.static_type b.place (get_or s.names b.place nothing) e name _ s pc st i
        field.region m.holding refl (omega (arith, m.below, g.count))
        (λ a f1. value_at aside h d low e s a st i fine.0 g f1) (counting x.forms.keeps (typed w e) fine.1) (expressions_keep_names h e s)
        fine.2 field.field field.keeps
        (λ s1 j g1. (named (IsInside x s1.store) h.scope.names s1.names n g1.inside_store field.named).holding) fine.4 f
    value_at aside h d low (access_expr n (at_step e no_step)) s pc st i fine g f =
        let b = bound_to h.scope.names n in
        let m = named IsOf h.scope.names s.names n g.typed fine.3 in
        element_runs x params slots fit aside h d b.static_type b.place (get_or s.names b.place nothing) e s pc st i
        fine.4 m.holding refl (omega (arith, m.below, g.count)) (λ a f1. value_at aside h d low e s a st i fine.1 g f1) fine.2
        (expressions_keep_names h e s)
        (λ s1 j g1. (named (IsInside x s1.store) h.scope.names s1.names n g1.inside_store fine.3).holding) f
    value_at aside h d low (access_expr n (at_step e (at_step e2 no_step))) s pc st i fine g f =
        let from = access_expr n (at_step e (at_step e2 no_step)) in
        let w = where_of params h in
        without_given x params slots fit aside (valued (past (expr_code w d from) pc) st) (Good x params slots fit aside h (typed w from)) _ (value h from s)
        (part_points x params slots fit aside (comes_said x (valued (past (expr_code w d from) pc) st) (Good x params slots fit aside h (typed w from)))
        h d n e e2 no_step s pc st i (λ v. given v) low.1 low.0 fine.1 (λ a f1. value_at aside h d low e s a st i fine.2.0 g f1) fine.2.1
        (λ more s1 j a g1 f1. value_at more h (suc d) (low.0, omega arith) e2 s1 a st j fine.3.0 g1 f1) fine.3.1 g f
        (λ m q s1 j a put b g1 code ends.
        subst (λ c. Comes x (placed a (machine.Number (kept_target (point_target m 1)) ∷ st) j) (valued c st) (Good x params slots fit aside h (typed w from))
        (gives (a_pointer (point_target m 1) (q ∷ [])) s1)) ends
        (j, leads_none x _, (part_pointer_typed h.scope (type_of_element h.scope (bound_to h.scope.names n).static_type e) e2 m q fine.1.2 (put.small m b), g1))))
    value_at aside h d low (access_expr n (at_step e (at_step e2 (field_step name rest)))) s pc st i fine g f =
        part_reads x params slots fit aside h d n e e2 name rest s pc st i low.1 low.0 fine.1
        (λ a f1. value_at aside h d low e s a st i fine.2.0 g f1) fine.2.1
        (λ more s1 j a g1 f1. value_at more h (suc d) (low.0, omega arith) e2 s1 a st j fine.3.0 g1 f1) fine.3.1 fine.4 fine.5 g f
    value_at aside h d low (access_expr n (at_step _ (at_step _ (at_step _ _)))) s pc st i fine g f = absurd fine
    value_at aside h d low (access_expr n (at_step e (field_step name (field_step more rest)))) s pc st i fine g f =
        let w = where_of params h in
        let b = bound_to h.scope.names n in
        let field = any_field x.forms.keeps w n name (element_field w n e name) fine.4 in
        let m = named IsOf h.scope.names s.names n g.typed field.named in
        access_further x params slots fit aside h d b.static_type b.place (get_or s.names b.place nothing) e name more rest s pc st i
        field.region m.holding fine.6 g
        (λ f1. access_reads x params slots fit aside h d b.static_type b.place (get_or s.names b.place nothing) e name _ s pc st i
        field.region m.holding refl (omega (arith, m.below, g.count))
        (λ a f2. value_at aside h d low e s a st i fine.1 g f2) (counting x.forms.keeps (typed w e) fine.2) (expressions_keep_names h e s)
        fine.3 field.field field.keeps
        (λ s1 j g1. (named (IsInside x s1.store) h.scope.names s1.names n g1.inside_store field.named).holding) fine.5 f1) f
    value_at aside h d low (access_expr n (at_step _ (field_step _ (at_step _ _)))) s pc st i fine g f = absurd fine
    value_at aside h d low (is_null_expr e) s pc st i fine g f =
        let w = where_of params h in
        then x (comes_said x _ _) _ _ _ (value h e s) _ (value_at aside h d low e s pc st i fine.2 g f.0)
        (λ v s1 j k. null_runs x params slots fit aside h (typed w e) v s1 _ st j fine.1 k.0 k.1 f.1)
    value_at aside h d low (null_expr t) s pc st i fine g f =
        let u = typed (where_of params h) (null_expr t) in
        let v = a_pointer null_target (regions_reached h.scope s.names (reaches_of u)) in
        pushes x params slots fit aside h u v s pc st st i (instr.Num (negsuc 0)) h.line f (of_pointer _ _ _ _ null_target _ tt) g refl
    value_at aside h d low (cast_expr t e) s pc st i fine g f =
        let w = where_of params h in
        then x (comes_said x _ _) _ _ _ (value h e s) _ (value_at aside h d low e s pc st i fine.3 g f.0)
        (λ v s1 j k. cast_runs x params slots fit aside h (typed w e) _ _ _ _ v s1 _ st j fine.2 k.0 fine.1.1 fine.4 k.1 f.1)
    value_at aside h d low (space_expr k e) s pc st i fine g f =
        let w = where_of params h in
        then x (comes_said x _ _) _ _ _ (value h e s) _ (value_at aside h d low e s pc st i fine.0 g f.0)
        (λ v s1 j k1. space_runs x params slots fit aside h k (typed w e) v s1 _ st j fine.1 k1.0 k1.1 f.1)

    -- what stands for the colour of a part
    indexed_at : {deep : ℕ} (aside : Aside deep) (h : Here) (d : ℕ) → IsLow deep h d → (e : Expression) (s : State) (st : List MachineValue) (i : Instance) →
        IsIndexed x.forms (where_of params h) e → Agrees x params slots aside h s i → IndexRuns x params slots fit aside h d e s st i
    indexed_at aside h d low (access_expr n (at_step e no_step)) s st i fine g = (λ pc f. value_at aside h d low e s pc st i fine.0 g f, fine.1)
    indexed_at aside h d low (access_expr n no_step) s st i fine g = absurd fine
    indexed_at aside h d low (access_expr n (field_step _ _)) s st i fine g = absurd fine
    indexed_at aside h d low (access_expr n (at_step _ (field_step _ _))) s st i fine g = absurd fine
    indexed_at aside h d low (access_expr n (at_step _ (at_step _ _))) s st i fine g = absurd fine
    indexed_at aside h d low (number_expr _ _) s st i fine g = absurd fine
    indexed_at aside h d low (truth_expr _) s st i fine g = absurd fine
    indexed_at aside h d low (chain_expr _ _) s st i fine g = absurd fine
    indexed_at aside h d low (prefix_expr _ _) s st i fine g = absurd fine
    indexed_at aside h d low (call_expr _ _) s st i fine g = absurd fine
    indexed_at aside h d low (convert_expr _ _) s st i fine g = absurd fine
    indexed_at aside h d low (is_null_expr _) s st i fine g = absurd fine
    indexed_at aside h d low (null_expr _) s st i fine g = absurd fine
    indexed_at aside h d low (cast_expr _ _) s st i fine g = absurd fine
    indexed_at aside h d low (space_expr _ _) s st i fine g = absurd fine

    -- arguments in a row on the stack
    pub args_at : {deep : ℕ} (aside : Aside deep) (h : Here) (d : ℕ) → IsLow deep h d → (ts ps : List StaticType) (args : Expressions)
        (s : State) (pc : ℕ) (st : List MachineValue) (i : Instance) → ArePassed x.forms (where_of params h) ts ps args →
        Agrees x params slots aside h s i → Stands x.body pc (exprs_code (where_of params h) d ts args) →
        Comes x (placed pc st i)
        (λ vs j. placed (past (exprs_code (where_of params h) d ts args) pc) (pushed_all j.contents vs st) j)
        (AreGiven x params slots fit aside h ps args) (values h ts args s)
    args_at aside h d low [] [] no_expr s pc st i fine g f = (i, leads_none x _, (tt, refl, g))
    args_at aside h d low (t ∷ ts) (p ∷ ps) (an_expr e es) s pc st i fine g f =
        let w = where_of params h in
        let a = past (converted_code w (typed w e) t) (past (expr_code w d e) pc) in
        let done = past (exprs_code w d (t ∷ ts) (an_expr e es)) pc in
        let shape : List Value → Instance → Instance = λ vs j. placed done (pushed_all j.contents vs st) j in
        let said = comes_said x shape (AreGiven x params slots fit aside h (p ∷ ps) (an_expr e es)) in
        let rest : (u : Value) (s2 : State) (j2 : Instance) → IsGivenBy x params slots fit aside h p e u s2.names →
        Stays x params slots fit aside h s2 j2 u → Agrees x params slots aside h s2 j2 →
        Comes x (valued a st u j2) shape (AreGiven x params slots fit aside h (p ∷ ps) (an_expr e es)) (and_then (values h ts es s2) (λ us. given (u ∷ us))) =
        λ u s2 j2 is stays g2. then_led x said SameNames _ _ (valued a st u j2) s2 (values h ts es s2) _ (arguments_keep_names h ts es s2)
        (args_at aside h d low ts ps es s2 a (machine_value j2.contents u ∷ st) j2 fine.1 g2 f.1.1)
        (λ us s3 j3 names led k. (
          j3,
          subst (λ m. Leads x (placed done (pushed_all j3.contents us (machine_value j2.contents u ∷ st)) j3) (placed done (pushed_all j3.contents us (m ∷ st)) j3))
              (stays s3 j3 k.2 led.own) (leads_none x _),
          ((subst (IsGivenBy x params slots fit aside h p e u) (sym names) is, k.0), ap suc k.1, k.2),
        )) in
        given_by x.forms.keeps x.forms.takes w t p e (IsTyped x.forms w e) (IsIndexed x.forms w e) (Comes x (placed pc st i) shape (AreGiven x params slots fit aside h (p ∷ ps) (an_expr e es)) (values h (t ∷ ts) (an_expr e es) s))
        (λ goes typed_e. then x said _ _ _ (value h e s) _ (value_at aside h d low e s pc st i typed_e g f.0)
        (λ v s1 j k. let passes = passing x.forms.keeps (typed w e) t p goes in
        then x said (valued a st) (Good x params slots fit aside h t) _ (converted h (typed w e) t [] v s1) _
        (passed_runs x params slots fit aside h (typed w e) t p v s1 _ st j passes k.0 k.1 f.1.0)
        (λ u s2 j2 k2. rest u s2 j2
        (inl (t, passes, passed_typed (typed w e) t p u passes k2.0))
        (value_stays x params slots fit aside h s2 j2 k2.1 t u k2.0 (passed_inside x s2.store (typed w e) t p u passes k2.0)) k2.1)))
        (λ y takes handed. handed_run x params slots fit aside said h d y t p e s pc st i _ takes handed g f.0
        (λ v j is stays g2. rest v s j (inr (inl is)) stays g2))
        (λ part. part_passed x params slots fit aside said h d t p e (IsIndexed x.forms w e) s pc st i _ part g
        (indexed_at aside h d low e s st i part.part g) f.0
        (λ v s2 j is stays g2. rest v s2 j (inr (inr (inl is))) stays g2))
        (λ cut. cut_passed x params slots fit aside said h d t p e s pc st i _ cut g f.0
        (λ v j is stays g2. rest v s j (inr (inr (inr is))) stays g2)) fine.0
    args_at aside h d low _ _ _ s pc st i fine g f = absurd fine

    pub linked_at : {deep : ℕ} (aside : Aside deep) (h : Here) (d : ℕ) → IsLow deep h d →
        (t : StaticType) (v : Value) (ls : Links) (s : State) (pc : ℕ)
        (st : List MachineValue) (i : Instance) → AreTypedLinks x.forms (where_of params h) t ls → IsOf t v →
        Agrees x params slots aside h s i → Stands x.body pc (links_code (where_of params h) d t ls) →
        Gives x params slots fit aside h (linked_type h.tree h.scope t ls) (links_code (where_of params h) d t ls) pc
        (machine_value i.contents v ∷ st) st i (linked h t v ls s)
    linked_at aside h d low t v no_link s pc st i fine o g f = (i, leads_none x _, (o, g))
    linked_at aside h d low t v (a_link Or e rest) s pc st i fine o g f =
        let o2 = truth_of_type x params slots fit aside t v fine.0 o in
        let a = expr_code (where_of params h) d e in
        let to = past a (suc pc) in
        let later : pc < to = omega (arith, past_later a (suc pc)) in
        or_runs x params slots fit aside h pc to st i v s _ _ _ _ o2 later f.0.0
        (linked_at aside h d low truth_type v rest s to st i fine.3 o2 g f.1)
        (then x (comes_said x _ _) _ _ _ (value h e s) _ (value_at aside h d low e s (suc pc) st i fine.2 g f.0.1)
        (λ u s1 j k. linked_at aside h d low truth_type u rest s1 to st j fine.3
        (truth_of_type x params slots fit aside _ u fine.1 k.0) k.1 f.1))
    linked_at aside h d low t v (a_link And e rest) s pc st i fine o g f =
        let o2 = truth_of_type x params slots fit aside t v fine.0 o in
        let a = expr_code (where_of params h) d e in
        let to = past a (suc pc) in
        let later : pc < to = omega (arith, past_later a (suc pc)) in
        and_runs x params slots fit aside h pc to st i v s _ _ _ _ o2 later f.0.0
        (then x (comes_said x _ _) _ _ _ (value h e s) _ (value_at aside h d low e s (suc pc) st i fine.2 g f.0.1)
        (λ u s1 j k. linked_at aside h d low truth_type u rest s1 to st j fine.3
        (truth_of_type x params slots fit aside _ u fine.1 k.0) k.1 f.1))
        (linked_at aside h d low truth_type v rest s to st i fine.3 o2 g f.1)
    linked_at aside h d low t v (a_link (Compute c) e rest) s pc st i fine o g f =
        let w = where_of params h in
        let u = typed w e in
        let b = false in
        let ct = counting x.forms.keeps t fine.0 in
        let cu = counting x.forms.keeps u fine.1 in
        then x (comes_said x _ _) _ _ _ (operand h b v s) _
        (stands_runs x params slots fit aside h t v s pc st i ct o g f.0)
        (λ v1 s1 j1 k1. then x (comes_said x _ _) _ _ _ (value h e s1) _
        (value_at aside h d low e s1 _ (machine_value j1.contents v1 ∷ st) j1 fine.2 k1.1 f.1.0)
        (λ v2 s2 j2 k2. then x (comes_said x _ _) _ _ _ (operand h b v2 s2) _
        (stands_runs x params slots fit aside h u v2 s2 _ (machine_value j1.contents v1 ∷ st) j2 cu k2.0 k2.1 f.1.1.0)
        (λ v3 s3 j3 k3. then x (comes_said x _ _) _ _ _ (combined h (Compute c) v1 v3 s3) _
        (counted_runs x params slots fit aside j1.contents h c t u v1 v3 s3 _ st j3 ct cu k1.0 k3.0 k3.1 f.1.1.1.0)
        (λ v4 s4 j4 k4. linked_at aside h d low _ v4 rest s4 _ st j4 fine.3 k4.0 k4.1 f.1.1.1.1))))
    linked_at aside h d low t v (a_link (Compare c) e rest) s pc st i fine o g f =
        let w = where_of params h in
        let u = typed w e in
        let b = are_pointers t u in
        let p = compared x.forms.keeps c t u fine.0 in
        let pc3 = past (operand_code w b u) (past (expr_code w d e) (past (operand_code w b t) pc)) in
        then x (comes_said x _ _) _ _ _ (operand h b v s) _
        (operand_runs x params slots fit aside h b t v s pc st i (left_fits c t u p) o g f.0)
        (λ v1 s1 j1 k1. then x (comes_said x _ _) _ _ _ (value h e s1) _
        (value_at aside h d low e s1 _ (machine_value j1.contents v1 ∷ st) j1 fine.1 k1.1 f.1.0)
        (λ v2 s2 j2 k2. then x (comes_said x _ _) _ _ _ (operand h b v2 s2) _
        (operand_runs x params slots fit aside h b u v2 s2 _ (machine_value j1.contents v1 ∷ st) j2 (right_fits c t u p) k2.0 k2.1 f.1.1.0)
        (λ v3 s3 j3 k3. then x (comes_said x _ _) (valued (suc pc3) st) (Good x params slots fit aside h truth_type) _
        (combined h (Compare c) v1 v3 s3) _ (compared_runs x params slots fit aside j1.contents h c t u v1 v3 s3 pc3 st j3 p k1.0 k3.0 k3.1 f.1.1.1.0)
        (λ v4 s4 j4 k4. linked_at aside h d low _ v4 rest s4 _ st j4 fine.2 k4.0 k4.1 f.1.1.1.1))))

-- where nothing was put aside
module _ (x : Setting) (params slots : ℕ) (fit : SlotsFit x slots) (aside : Aside 0) where
  pub value_runs : (h : Here) (d : ℕ) → params ≤ length h.scope.names →
      (e : Expression) (s : State) (pc : ℕ)
      (st : List MachineValue) (i : Instance) → IsTyped x.forms (where_of params h) e →
      Agrees x params slots aside h s i → Stands x.body pc (expr_code (where_of params h) d e) →
      Gives x params slots fit aside h (typed (where_of params h) e) (expr_code (where_of params h) d e) pc st st i
      (value h e s)
  value_runs h d low e s pc st i fine g f = value_at x params slots fit aside h d (low, omega arith) e s pc st i fine g f

  pub args_run : (h : Here) (d : ℕ) → params ≤ length h.scope.names → (ts ps : List StaticType) (args : Expressions)
      (s : State) (pc : ℕ) (st : List MachineValue) (i : Instance) → ArePassed x.forms (where_of params h) ts ps args →
      Agrees x params slots aside h s i → Stands x.body pc (exprs_code (where_of params h) d ts args) →
      Comes x (placed pc st i)
      (λ vs j. placed (past (exprs_code (where_of params h) d ts args) pc) (pushed_all j.contents vs st) j)
      (AreGiven x params slots fit aside h ps args) (values h ts args s)
  args_run h d low ts ps args s pc st i fine g f = args_at x params slots fit aside h d (low, omega arith) ts ps args s pc st i fine g f
