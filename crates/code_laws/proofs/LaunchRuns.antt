-- The code of a launch does what its loop means.
use Rattle.std.proofs.Common.{◌≡◌, ◌⊎◌, inl, inr, ℕ, suc, ◌+◌, ◌^◌, ◌<◌, ◌≤◌, List, [], ◌∷◌, Bool, true, false, Option, Some, None, refl, sym, ap, ◌∙◌, subst, arith}
use Rattle.std.specs.Prelude.{flat_map, get_or, length, nat_lt, not, slice_get, ◌&&◌, bytes_eq, cond}
use Rattle.std.specs.List.{list_all}
use Rattle.std.proofs.lemmas.Bool.{eq-eqb, false≢true, lt-ltb}
use Rattle.std.proofs.lemmas.Option.{none-some, slice_get-get_or}
use Rattle.index_launch.specs.Points.{calls_of}
use Rattle.index_launch.specs.declared.points.LaunchArg.{LaunchArg}
use Rattle.region_tree.specs.declared.tree.RootId.{RootId}
use Rattle.regent_tree.specs.Execution.{Going, exec_block, goes_on, looping, returned, rounds as rounds_over, items_of}
use Rattle.regent_tree.specs.Running.{Here, Result, State, fails, gives}
use Rattle.regent_tree.specs.declared.outcome.Fault.{Fault}
use Rattle.machine_terms.specs.Launches.{Launched, behind_launch, is_held, issue, issue_all, launch_of, launch_over, launch_task, launched, yield_calls, is_partition as is_partition_there, is_settled}
use Rattle.machine_terms.specs.Machine.{Machine, broken, stops, when}
use Rattle.machine_terms.specs.Orders.{give_all, call_all}
use Rattle.machine_terms.specs.declared.frame.Frame.{Frame}
use Rattle.machine_terms.specs.declared.order.Ended.TheVariants.{Broke}
use Rattle.machine_terms.specs.declared.order.Instance.{Instance}
use Rattle.machine_terms.specs.declared.order.Resumed.{Resumed}
use Rattle.machine_terms.specs.declared.order.Resumed.TheVariants.{GoesOn, IsOver}
use Rattle.machine_terms.specs.declared.outcome.CallOut.{CallOut}
use Rattle.machine_terms.specs.declared.outcome.Yield.TheVariants as yield
use Rattle.regent_tree.specs.Scopes.{bound_to, with_name, scope_of}
use Rattle.regent_tree.specs.StaticTypes.{task_named}
use Rattle.regent_tree.specs.Syntax.{Expression, Expressions, Name, a_statement, access_expr, an_expr, call_form, no_expr, no_statement, no_step, then_statement}
use Rattle.regent_tree.specs.Typing.{param_types, params_at}
use Rattle.regent_tree.specs.Values.{Value, a_space}
use Rattle.regent_tree.specs.declared.types.Kind.{Kind}
use Rattle.regent_tree.specs.declared.typing.Bound.{Bound}
use Rattle.regent_tree.specs.declared.typing.StaticType.{StaticType}
use Rattle.regent_tree.specs.declared.typing.StaticType.TheVariants.{Index as index_type}
use Rattle.task_code.specs.declared.instr.Instr.{Instr}
use Rattle.task_code.specs.declared.instr.Instr.TheVariants as instr
use Rattle.machine_terms.specs.Segments.{act}
use Rattle.machine_terms.specs.declared.order.Ended.{Ended}
use Rattle.machine_terms.specs.declared.value.Value.{Value as MachineValue}
use Rattle.machine_terms.specs.declared.value.Value.TheVariants as machine
use Rattle.code_rules.specs.Instructions.{place_of_task}
use Rattle.code_rules.specs.Pieces.{op, past}
use Rattle.code_laws.specs.Standing.{SlotsFit, Stands, IsOf, blank, machine_value, nothing, where_of, Agrees, Aside, Does}
use Rattle.code_laws.specs.Typed.{CountsDown, ArePassed, IsIndexed, IsPassed, IsTyped, IsTypedForm}
use Rattle.code_laws.proofs.LaunchRounds.{Outcome, calls_from, few_calls, launch_with, rounds_come}
use Rattle.code_laws.proofs.LaunchStates.{agrees_framed}
use Rattle.code_laws.proofs.Runs.{ends_by, leads_by}
use Rattle.index_launch.specs.declared.points.LaunchArg.TheVariants as launch_arg
use Rattle.regent_tree.specs.Lookup.{type_named}
use Rattle.regent_tree.specs.declared.typing.StaticType.TheVariants as typing
use Rattle.machine_terms.specs.Regions.{partition_in}
use Rattle.machine_terms.specs.declared.order.Contents.{Contents}
use Rattle.check_rules.specs.types.Declarations.{params_of}
use Rattle.check_rules.specs.types.Sorts.{is_index, type_at}
use Rattle.code_rules.specs.Launches.{arg_of, args_of, is_fixed, kept, kept_code, launch_code, varying_arg}
use Rattle.code_rules.specs.Programs.{task_code}
use Rattle.code_rules.specs.Slots.{Where, beside, slot, slot_named}
use Rattle.code_rules.specs.Used.{above_all, slots_named}
use Rattle.code_laws.specs.Arguments.{IsCutName}
use Rattle.code_laws.specs.Simple.{IsPartition}
use Rattle.code_laws.proofs.CallCuts.{partition_there}
use Rattle.code_laws.proofs.Calling.{code_there}
use Rattle.code_laws.proofs.Growing.{more_none}
use Rattle.code_laws.proofs.LaunchArguments.{child_of, no_cut_there}
use Rattle.code_laws.proofs.LaunchKept.{AreKept, Keeps, in_slots, inner, kept_runs}
use Rattle.code_laws.proofs.LaunchParams.{wanted_index}
use Rattle.code_laws.proofs.LaunchShapes.{AreForms, IsLaunched, launched_child, launched_conversion, launched_name, launched_none, launched_number, launched_so, launched_truth, launched_variable}
use Rattle.code_laws.proofs.LaunchTypes.{above_parts, cut_no_region, no_cut, unknown_no_region}
use Rattle.code_laws.proofs.LaunchValues.{bound_other, bound_own, there_other}
use Rattle.code_laws.proofs.Openings.{params_length, types_length}
use Rattle.code_laws.proofs.Rows.{does_before, greatest_least}
use Rattle.code_laws.proofs.States.{ready_value}
use Rattle.code_laws.proofs.Values.{named}
use Rattle.code_laws.specs.Steps.{Setting, due, machine_of, now_or_due, on_step, placed}

-- ---- what a step comes to that issues calls

abbrev text_of : Resumed → List ℕ
text_of (GoesOn i) = i.text
text_of (IsOver e) = []

still_goes : (i : Instance) (e : Ended) → GoesOn i ≡ IsOver e → ⊥
still_goes i e q = absurd cc

-- the machine stops for the calls, where their number and the place behind are numbers of so many bits
yields_them : (r : Launched) (m : Machine) → m.frame.children + length r.calls < 2 ^ 64 → suc m.frame.pc < 2 ^ 32 →
    yield_calls r m ≡ stops (yield.Calls r.calls) (behind_launch r m)
yields_them r m few small =
    ap (λ b. when b (when (nat_lt (suc m.frame.pc) (2 ^ 32)) (stops (yield.Calls r.calls) (behind_launch r m)) (broken (behind_launch r m))) (broken m))
    (lt-ltb (m.frame.children + length r.calls) (2 ^ 64) few)
    ∙ ap (λ b. when b (stops (yield.Calls r.calls) (behind_launch r m)) (broken (behind_launch r m))) (lt-ltb (suc m.frame.pc) (2 ^ 32) small)

-- calls are yielded, or a fault comes at once
issued : (r : Launched) (m : Machine) → m.frame.children + length r.calls < 2 ^ 64 → suc m.frame.pc < 2 ^ 32 →
    (issue_all r m ≡ stops (yield.Calls r.calls) (behind_launch r m))
    ⊎ ((r.calls ≡ []) × ((f : Fault) → r.fault ≡ Some f → issue_all r m ≡ stops (yield.Fault f) m) × ((r.fault ≡ None) → ⊥))
issued r m few small = by r.calls r.fault refl refl
  where
    by : (cs : List CallOut) (o : Option Fault) → r.calls ≡ cs → r.fault ≡ o →
        (issue_all r m ≡ stops (yield.Calls r.calls) (behind_launch r m))
        ⊎ ((r.calls ≡ []) × ((f : Fault) → r.fault ≡ Some f → issue_all r m ≡ stops (yield.Fault f) m) × ((r.fault ≡ None) → ⊥))
    by [] None c o = inl (ap (λ cs. issue cs r.fault r m) c ∙ ap (λ f. issue [] f r m) o ∙ yields_them r m few small)
    by [] (Some f) c o = inr (c, λ k e. ap (λ cs. issue cs r.fault r m) c ∙ ap (λ f. issue [] f r m) e, λ e. none-some f (sym e ∙ o))
    by (d ∷ ds) f c o = inl (ap (λ cs. issue cs r.fault r m) c ∙ yields_them r m few small)

-- ---- the outcome of the calls, as a step of the run

module _ (x : Setting) (params slots : ℕ) (fit : SlotsFit x slots) (counts : CountsDown) (aside : Aside 0) (h : Here) (i : Name) (k0 : Kind) (line : ℕ) (task : Name) (es : Expressions) where
  -- the instance behind the launch has the frame that the calls left
  stepped_by : (pc loop_line space : ℕ) (args : List LaunchArg) (j : Instance) (r : Launched) (d : Result Going) →
      Stands x.body pc (op (instr.Launch (place_of_task h.tree task) space line args) loop_line) → suc pc < 2 ^ 32 →
      j.frame.children + length r.calls < 2 ^ 64 → j.frame.depth ≡ x.depth →
      act x.code x.body (instr.Launch (place_of_task h.tree task) space line args) loop_line (machine_of (placed pc [] j)) ≡ issue_all r (machine_of (placed pc [] j)) →
      Outcome x params slots fit counts aside h i k0 line task es (behind_launch r (machine_of (placed pc [] j))).frame j.frame.slots j.frame.children r
      (call_all x.code x.turns x.child r.calls (give_all (record j { frame = (behind_launch r (machine_of (placed pc [] j))).frame }))) d →
      Does x params slots aside (placed pc [] j) (suc pc) h d
  stepped_by pc loop_line space args j r d f small few deep acts o = by_issue (issued r m few small) d o
    where
      m : Machine
      m = machine_of (placed pc [] j)

      frame : Frame
      frame = (behind_launch r m).frame

      ins : Instr
      ins = instr.Launch (place_of_task h.tree task) space line args

      end : Resumed
      end = call_all x.code x.turns x.child r.calls (give_all (record j { frame = frame }))

      -- all calls are made
      all_made : issue_all r m ≡ stops (yield.Calls r.calls) (behind_launch r m) → (d : Result Going) →
          Outcome x params slots fit counts aside h i k0 line task es frame j.frame.slots j.frame.children r end d → Does x params slots aside (placed pc [] j) (suc pc) h d
      all_made e (gives goes_on s) o =
          let k = record o.2 { frame = frame } in (
            k,
            leads_by x (placed pc [] j) (placed (suc pc) [] k) ins loop_line f
                (ap (λ z. due (on_step x (placed pc [] j) z)) (acts ∙ e) ∙ ap due o.3 ∙ ap (λ y. now_or_due y k) o.0),
            agrees_framed x params slots aside h s o.2 o.4 frame (sym o.5) (o.1 ∙ sym o.4.turns) (sym o.6) (deep ∙ sym o.4.calls.depth) (sym o.7.0) (sym o.7.1),
          )
      all_made e (gives (returned v) s) o = absurd o
      all_made e (fails q s) (inl o) = ends_by x (placed pc [] j) _ ins loop_line f (ap (λ z. due (on_step x (placed pc [] j) z)) (acts ∙ e) ∙ ap due o)
      all_made e (fails q s) (inr o) = ends_by x (placed pc [] j) _ ins loop_line f
          (ap (λ z. due (on_step x (placed pc [] j) z)) (acts ∙ e) ∙ ap due o.1 ∙ ap (λ y. now_or_due y (record o.0 { frame = frame })) o.3
          ∙ ap (λ u. IsOver (Broke (Some q) u)) o.2)

      by_issue : (issue_all r m ≡ stops (yield.Calls r.calls) (behind_launch r m))
          ⊎ ((r.calls ≡ []) × ((f : Fault) → r.fault ≡ Some f → issue_all r m ≡ stops (yield.Fault f) m) × ((r.fault ≡ None) → ⊥)) →
          (d : Result Going) → Outcome x params slots fit counts aside h i k0 line task es frame j.frame.slots j.frame.children r end d →
          Does x params slots aside (placed pc [] j) (suc pc) h d
      by_issue (inl e) d o = all_made e d o
      by_issue (inr e) (gives goes_on s) o = absurd (e.2 o.0)
      by_issue (inr e) (gives (returned v) s) o = absurd o
      by_issue (inr e) (fails q s) (inl o) = absurd (still_goes (give_all (record j { frame = frame })) _ (sym (ap (λ cs. call_all x.code x.turns x.child cs (give_all (record j { frame = frame }))) e.0) ∙ o))
      by_issue (inr e) (fails q s) (inr o) = ends_by x (placed pc [] j) _ ins loop_line f
          (ap (λ z. due (on_step x (placed pc [] j) z)) (acts ∙ e.1 q o.3)
          ∙ ap (λ u. IsOver (Broke (Some q) u)) (ap text_of (sym (ap (λ cs. call_all x.code x.turns x.child cs (give_all (record j { frame = frame }))) e.0) ∙ o.1) ∙ o.2))

  -- ---- what the slots hold

  abbrev here : Here
  here = inner x params slots fit aside h i (index_type k0) line

  abbrev within : Where
  within = where_of params here

  settled : (c : Contents) (v : Value) (xs : List MachineValue) (k : ℕ) → slice_get xs k ≡ Some (machine_value c v) → is_held xs (launch_arg.Keep k) ≡ true
  settled c v xs k e = ap is_settled e ∙ ap not (ready_value c v)

  module _ (t1 : StaticType) (s : State) (j : Instance) (g : Agrees x params slots aside h s j) where
    partition_held : (name : Name) → IsCutName within name → suc (slot_named within name) ≤ slots → is_held j.frame.slots (launch_arg.Child (slot_named within name)) ≡ true
    partition_held name cut room = by (bytes_eq name i) refl
      where
        by : (b : Bool) → bytes_eq name i ≡ b → is_held j.frame.slots (launch_arg.Child (slot_named within name)) ≡ true
        by true own = absurd (no_cut k0 (subst IsPartition (ap (λ (b : Bound). b.static_type) (bound_own h.scope i (index_type k0) name own)) cut.partition))
        by false other =
            let b = bound_to h.scope.names name in
            let same = bound_other h.scope i (index_type k0) name other in
            let there = there_other h.scope i (index_type k0) name other cut.named in
            let m = named IsOf h.scope.names s.names name g.typed there in
            let q = partition_there b.static_type (get_or s.names b.place nothing) (subst (λ (c : Bound). IsPartition c.static_type) same cut.partition) m.holding in
            ap (λ o. is_partition_there (partition_in o)) (slice_get-get_or j.frame.slots (slot_named within name) blank (omega (arith, room, g.slots_are))
            ∙ ap (λ m. Some m) (ap (λ (c : Bound). get_or j.frame.slots (slot within c.place) blank) same
            ∙ g.names b.place (omega (arith, m.below, g.count)) ∙ ap (machine_value j.contents) q.1))

    one_held : (t p wanted : StaticType) (e : Expression) (q : ℕ) (names0 : List Value) (c0 : Contents) (own0 : List RootId) →
        IsLaunched (with_name h.scope i t1 true).names i wanted e →
        (is_fixed i e ≡ true → (u : Value) × Keeps x params slots fit aside h i (index_type k0) line names0 c0 own0 t p e u
        × (get_or j.frame.slots (kept within q) blank ≡ machine_value c0 u)) →
        IsPassed x.forms within t p e (IsTyped x.forms within e) (IsIndexed x.forms within e) → above_all (slots_named (arg_of within i q e)) ≤ slots →
        is_held j.frame.slots (arg_of within i q e) ≡ true
    one_held t p wanted e q names0 c0 own0 form waits passed fits = by e (is_fixed i e) refl form waits passed fits
      where
        by : (e : Expression) (b : Bool) → is_fixed i e ≡ b → IsLaunched (with_name h.scope i t1 true).names i wanted e →
            (is_fixed i e ≡ true → (u : Value) × Keeps x params slots fit aside h i (index_type k0) line names0 c0 own0 t p e u
            × (get_or j.frame.slots (kept within q) blank ≡ machine_value c0 u)) →
            IsPassed x.forms within t p e (IsTyped x.forms within e) (IsIndexed x.forms within e) → above_all (slots_named (arg_of within i q e)) ≤ slots →
            is_held j.frame.slots (arg_of within i q e) ≡ true
        by e true still form waits passed fits =
            let k = waits still in
            let room = (greatest_least (suc (kept within q)) 0 slots
            (subst (λ b. above_all (slots_named (cond b (launch_arg.Keep (kept within q)) (varying_arg within e))) ≤ slots) still fits)).0 in
            ap (λ b. is_held j.frame.slots (cond b (launch_arg.Keep (kept within q)) (varying_arg within e))) still
            ∙ settled c0 k.0 j.frame.slots (kept within q)
            (slice_get-get_or j.frame.slots (kept within q) blank (omega (arith, room, g.slots_are)) ∙ ap (λ m. Some m) k.2)
        by _ false varying (launched_number z w) waits passed fits = absurd (false≢true (sym varying))
        by _ false varying (launched_truth b) waits passed fits = absurd (false≢true (sym varying))
        by _ false varying (launched_name n other plain) waits passed fits = absurd (false≢true (sym varying ∙ ap not other))
        by _ false varying (launched_variable n own) waits passed fits =
            ap (λ b. is_held j.frame.slots (cond b (launch_arg.Keep (kept within q)) launch_arg.Point)) varying
        by _ false varying (launched_child name n part own) waits passed fits =
            let k = child_of x params slots fit aside h i k0 line t1 t p name (access_expr n no_step)
            (cut_no_region (type_named (with_name h.scope i t1 true).names name) part) passed in
            partition_held name k.cut (greatest_least (suc (slot_named within name)) 0 slots fits).0
        by _ false varying (launched_none name f unknown) waits passed fits =
            let k = child_of x params slots fit aside h i k0 line t1 t p name f
            (unknown_no_region (type_named (with_name h.scope i t1 true).names name) unknown) passed in
            absurd (no_cut_there x params slots fit aside h i k0 line t1 name (bytes_eq name i) refl unknown k.cut.partition)
        by _ false varying (launched_conversion k n own) waits passed fits = refl

    all_held : (q : ℕ) (ts ps wanted : List StaticType) (es : Expressions) (names0 : List Value) (c0 : Contents) (own0 : List RootId) →
        AreForms (with_name h.scope i t1 true).names i wanted q es →
        AreKept x params slots fit aside h i (index_type k0) line names0 c0 own0 j.frame.slots q ts ps es → ArePassed x.forms within ts ps es →
        above_all (flat_map slots_named (args_of within i q es)) ≤ slots →
        (list_all (is_held j.frame.slots) (args_of within i q es) ≡ true) × (length (args_of within i q es) ≡ length ps)
    all_held q [] [] wanted no_expr names0 c0 own0 forms waits passed fits = (refl, refl)
    all_held q (t ∷ ts) (p ∷ ps) wanted (an_expr e es) names0 c0 own0 forms waits passed fits =
        let apart = above_parts (slots_named (arg_of within i q e)) (flat_map slots_named (args_of within i (suc q) es)) slots fits in
        let one = one_held t p (type_at wanted q) e q names0 c0 own0 (launched_so (with_name h.scope i t1 true).names i (type_at wanted q) e forms.0) waits.0 passed.0 apart.0 in
        let rest = all_held (suc q) ts ps wanted es names0 c0 own0 forms.1 waits.1 passed.1 apart.1 in
        (ap (λ b. b && list_all (is_held j.frame.slots) (args_of within i (suc q) es)) one ∙ rest.0, ap suc rest.1)
    all_held q _ _ wanted _ names0 c0 own0 forms waits passed fits = absurd passed

  -- ---- the launch

  index_there : (t : StaticType) → is_index t ≡ true → (k : Kind) × (t ≡ index_type k)
  index_there (typing.Index k) e = (k, refl)
  index_there _ e = absurd (false≢true e)

  -- from the place where the space has gone into its slot
  pub launch_runs : (t1 : StaticType) (low : params ≤ length h.scope.names) (n : ℕ) (s : State) (pc : ℕ) (j : Instance) → n ≤ 4194304 →
      AreForms (with_name h.scope i t1 true).names i (params_of h.tree task) 0 es →
      IsTypedForm x.forms within (call_form task es) → Agrees x params slots aside h s j →
      get_or j.frame.slots (beside (where_of params h) (length h.scope.names)) blank ≡ machine.Space n →
      Stands x.body pc (launch_code (where_of params h) within i (beside (where_of params h) (length h.scope.names)) (record { line = line; task = task; args = es })) →
      Does x params slots aside (placed pc [] j)
      (past (launch_code (where_of params h) within i (beside (where_of params h) (length h.scope.names)) (record { line = line; task = task; args = es })) pc) h
      (rounds_over h (items_of (a_space n)) (exec_block (looping h i (index_type k0)) (then_statement (a_statement line (call_form task es)) no_statement)) s)
  launch_runs t1 low n s pc j small forms fine g space f =
      let callee = task_named h.tree task in
      let ts = params_at h.tree here.scope callee es in
      let ps = param_types h.tree callee in
      let place = place_of_task h.tree task in
      let l = beside (where_of params h) (length h.scope.names) in
      let margs = args_of within i 0 es in
      let ran = kept_runs x params slots fit aside h i (index_type k0) line t1 (params_of h.tree task) low 0 ts ps es s pc j forms
      (λ k e. let is = index_there (type_at ps k) e in
      subst (λ m. is_index (type_at (params_of h.tree task) m) ≡ true) (none_before k) (wanted_index h.tree task k is.0 is.1)) fine.2 g f.0 in
      let xs = ran.slots_then in
      let j2 = in_slots xs j in
      let pc2 = past (kept_code within i 0 ts es) pc in
      let m = machine_of (placed pc2 [] j2) in
      let used : above_all (l ∷ flat_map slots_named margs) ≤ slots = fit pc2 _ f.1 in
      let most = greatest_least (suc l) (above_all (flat_map slots_named margs)) slots used in
      let ok = ran.agrees.answers fine.0 in
      let held = all_held t1 s j2 ran.agrees 0 ts ps (params_of h.tree task) es s.names j.contents j.frame.own forms ran.are_kept fine.2 most.1 in
      let r = launched (launch_with x params slots fit counts aside h i k0 line task es xs x.depth) (calls_from x params slots fit counts aside h i k0 line task es 0 n) s.turns in
      let frame = (behind_launch r m).frame in
      let there : slice_get x.code.tasks place ≡ Some (task_code h.tree callee) = ap (λ c. slice_get c.tasks place) ok.code_is ∙ code_there h.tree task fine.1.0 in
      let many : (task_code h.tree callee).params ≡ length margs = sym (held.1 ∙ types_length (scope_of h.tree callee).names ∙ params_length h.tree callee.params 0 callee.params) in
      let space_is : slice_get xs l ≡ Some (machine.Space n) =
      slice_get-get_or xs l blank (omega (arith, most.0, ran.agrees.slots_are)) ∙ ap (λ m. Some m) (ran.below l (omega (arith, low)) ∙ space) in
      let acts : act x.code x.body (instr.Launch place l line margs) h.line m ≡ issue_all r m =
      ap (λ o. launch_task o place l line margs h.line m) there
      ∙ ap (λ b. when (b && list_all (is_held xs) margs) (launch_over (slice_get xs l) (launch_of place line h.line m) margs m) (broken m)) (eq-eqb _ _ many)
      ∙ ap (λ b. when b (launch_over (slice_get xs l) (launch_of place line h.line m) margs m) (broken m)) held.0
      ∙ ap (λ o. launch_over o (launch_of place line h.line m) margs m) space_is
      ∙ ap (λ d. issue_all (launched (launch_with x params slots fit counts aside h i k0 line task es xs d) (calls_of n margs) j2.frame.turns) m) ran.agrees.calls.depth
      ∙ ap (λ k. issue_all (launched (launch_with x params slots fit counts aside h i k0 line task es xs x.depth) (calls_of n margs) k) m) ran.agrees.turns in
      does_before x params slots fit counts aside (suc pc2) h _ _ _ ran.leads
      (stepped_by pc2 h.line l margs j2 r _ f.1 (ok.followed pc2 place l line h.line margs f.1)
      (omega (
        arith,
        few_calls (launch_with x params slots fit counts aside h i k0 line task es xs x.depth) (calls_from x params slots fit counts aside h i k0 line task es 0 n) s.turns,
        ran.agrees.calls.few,
        ran.agrees.turns,
        ok.few,
      )) ran.agrees.calls.depth acts
      (rounds_come x params slots fit counts aside h i k0 line task es t1 low forms fine.2 fine.1 (omega (arith, most.0)) most.1 xs s.names j.contents j.frame.own ran.are_kept
      frame ran.agrees.calls.depth ok n 0 (omega (arith, small)) s j2 ran.agrees refl refl (more_none j.frame.own) (refl, refl)))
    where
      none_before : (k : ℕ) → k ≡ (0 + k)
      none_before k = omega (arith)
