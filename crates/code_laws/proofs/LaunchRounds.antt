-- The calls of a launch, one after the other, do what the rounds of its loop mean, up to the first fault.
use Rattle.std.proofs.Common.{◌≡◌, ◌⊎◌, inl, inr, ℕ, zero, suc, ◌+◌, ◌<◌, ◌≤◌, pos, List, [], ◌∷◌, ◌++◌, Bool, true, false, Option, Some, None, refl, sym, ap, ◌∙◌, subst, arith, ⊎_elim}
use Rattle.std.specs.Prelude.{cond, flat_map, length, map, nat_lt, slice_get, take}
use Rattle.std.proofs.lemmas.Bool.{cases_lt, le-leb, le-ltb, lt-ltb}
use Rattle.std.proofs.lemmas.List.{append-nil, length-map}
use Rattle.std.proofs.lemmas.Int.{ints}
use Rattle.std.proofs.Math.Seq.{take-append_seam}
use Rattle.lane_kernels.specs.Numbers.{FitsWidth}
use Rattle.lane_kernels.specs.declared.numbers.Width.TheVariants.{W64}
use Rattle.plain_values.specs.Points.{counted_from}
use Rattle.index_launch.specs.Points.{call_at}
use Rattle.index_launch.specs.declared.points.PointArg.{PointArg}
use Rattle.region_tree.specs.Requirements.{is_within}
use Rattle.region_tree.specs.declared.tree.RootId.{RootId}
use Rattle.regent_tree.specs.Evaluation.{answered, called, values}
use Rattle.regent_tree.specs.Execution.{Going, bind, exec_block, goes_on, going_on, leaving, looping, returned, rounds as rounds_over, scoped}
use Rattle.regent_tree.specs.Running.{Called, Here, Result, Run, State, and_then, fails, given, gives, pay_from, ◌>>=◌}
use Rattle.regent_tree.specs.Scopes.{with_name}
use Rattle.regent_tree.specs.StaticTypes.{task_named}
use Rattle.regent_tree.specs.Syntax.{Expressions, Name, a_statement, call_form, no_statement, then_statement}
use Rattle.regent_tree.specs.Typing.{param_types, params_at}
use Rattle.regent_tree.specs.Values.{Value, an_index}
use Rattle.regent_tree.specs.declared.outcome.FaultKind.TheVariants.{Depth}
use Rattle.regent_tree.specs.declared.types.Kind.{Kind}
use Rattle.regent_tree.specs.declared.typing.StaticType.{StaticType}
use Rattle.regent_tree.specs.declared.typing.StaticType.TheVariants.{Index as index_type}
use Rattle.machine_terms.specs.Copies.{give_parts}
use Rattle.machine_terms.specs.Contents.{closed}
use Rattle.machine_terms.specs.Launches.{Launch, Launched, arguments, behind_call, call_then, cut_off, hand_then, launched}
use Rattle.machine_terms.specs.Opening.{opening, requirements_on}
use Rattle.machine_terms.specs.Orders.{after_call, begun, breaks, call_all, call_task, call_within, give_all, on_resumed, result_of}
use Rattle.machine_terms.specs.declared.frame.Frame.{Frame}
use Rattle.machine_terms.specs.declared.order.Contents.{Contents}
use Rattle.machine_terms.specs.declared.order.Ended.{Ended}
use Rattle.machine_terms.specs.declared.order.Ended.TheVariants.{Broke}
use Rattle.machine_terms.specs.declared.order.Instance.{Instance}
use Rattle.machine_terms.specs.declared.order.Resumed.{Resumed}
use Rattle.machine_terms.specs.declared.order.Resumed.TheVariants.{GoesOn, IsOver}
use Rattle.machine_terms.specs.declared.outcome.CallOut.{CallOut}
use Rattle.machine_terms.specs.declared.value.Value.{Value as MachineValue}
use Rattle.machine_terms.specs.declared.value.Value.TheVariants as machine
use Rattle.memory_laws.proofs.Beginning.{begun_holds}
use Rattle.memory_laws.specs.Places.{numbers}
use Rattle.code_rules.specs.Instructions.{place_of_task}
use Rattle.code_rules.specs.Launches.{args_of}
use Rattle.code_rules.specs.Programs.{task_code}
use Rattle.code_rules.specs.Slots.{Where, slot}
use Rattle.code_rules.specs.Used.{above_all, slots_named}
use Rattle.check_rules.specs.types.Declarations.{params_of}
use Rattle.code_laws.specs.Standing.{Agrees, Answering, Aside, Matches, Returns, SlotsFit, Takes, both_back, both_broke, called_with, machine_value, of_index, where_of}
use Rattle.code_laws.specs.Steps.{HasMore, Setting}
use Rattle.code_laws.specs.Typed.{ArePassed, CountsDown, IsCallable}
use Rattle.code_laws.proofs.Besides.{none_there}
use Rattle.code_laws.proofs.CallTakes.{call_takes}
use Rattle.code_laws.proofs.Calling.{agrees_after, code_there, given_number, room_for, same_values}
use Rattle.code_laws.proofs.LaunchArguments.{Given, Lacking, all_at}
use Rattle.code_laws.proofs.LaunchKept.{AreKept, inner}
use Rattle.code_laws.proofs.Handing.{AreGivenBy}
use Rattle.code_laws.proofs.LaunchShapes.{AreForms}
use Rattle.code_laws.proofs.LaunchStates.{agrees_given}
use Rattle.code_laws.proofs.Rows.{fewer, same_scope}
use Rattle.code_laws.proofs.States.{bound_more}
use Rattle.code_laws.proofs.Under.{value_under}

-- a frame has the roots and the needs of another
abbrev pub HasRest : Frame → Frame → Type 0
HasRest e f = (e.own ≡ f.own) × (e.needs ≡ f.needs)

-- ---- what is launched

abbrev calls_in : Launched → List CallOut
calls_in r = r.calls

-- no more calls than turns
module _ (l : Launch) where
  pub few_calls : (calls : List (List PointArg)) (n : ℕ) → length (launched l calls n).calls ≤ n
  few_calls [] n = omega arith
  few_calls (args ∷ rest) zero = omega arith
  few_calls (args ∷ rest) (suc n) = by_arguments (arguments l.slots args) n (λ k. few_calls rest k)
    where
      by_arguments : (o : Option (List MachineValue)) (n : ℕ) → ((k : ℕ) → length (launched l rest k).calls ≤ k) →
          length (hand_then l o n (launched l rest)).calls ≤ suc n
      by_arguments None n more = omega arith
      by_arguments (Some vs) zero more = omega arith
      by_arguments (Some vs) (suc k) more = by_depth (nat_lt l.depth 64)
        where
          by_depth : (b : Bool) → length (calls_in (elim b [
            | true ↦ behind_call (record { task = l.task; args = vs }) (launched l rest k)
            | false ↦ cut_off Depth l.call_line k
          ])) ≤ suc (suc k)
          by_depth true = omega (arith, more k)
          by_depth false = omega arith

module _ (x : Setting) (params slots : ℕ) (fit : SlotsFit x slots) (counts : CountsDown) (aside : Aside 0) (h : Here) (i : Name) (k0 : Kind) (line : ℕ) (task : Name) (es : Expressions) where
  abbrev here : Here
  here = inner x params slots fit aside h i (index_type k0) line

  abbrev within : Where
  within = where_of params here

  abbrev callee_types : List StaticType
  callee_types = param_types h.tree (task_named h.tree task)

  abbrev types_here : List StaticType
  types_here = params_at h.tree here.scope (task_named h.tree task) es

  abbrev body : Run Going
  body = exec_block (looping h i (index_type k0)) (then_statement (a_statement line (call_form task es)) no_statement)

  -- What calls come to agrees with what rounds mean: all came back, or the first fault comes of a call, or behind the calls.
  abbrev pub Outcome : Frame → List MachineValue → ℕ → Launched → Resumed → Result Going → Type 0
  Outcome f xs n r d (gives goes_on s) = (r.fault ≡ None) × (r.turns ≡ s.turns) × (j : Instance) × (d ≡ GoesOn (record j { frame = f }))
      × Agrees x params slots aside h s j × (j.frame.slots ≡ xs) × (j.frame.children ≡ n + length r.calls) × HasRest j.frame f
  Outcome f xs n r d (gives (returned v) s) = ⊥
  Outcome f xs n r d (fails e s) = (d ≡ IsOver (Broke (Some e) s.text))
      ⊎ ((j : Instance) × (d ≡ GoesOn (record j { frame = f })) × (j.text ≡ s.text) × (r.fault ≡ Some e))

  -- a call more
  one_more : (f : Frame) (xs : List MachineValue) (n : ℕ) (c : CallOut) (r : Launched) (d : Resumed) (e : Result Going) →
      Outcome f xs (suc n) r d e → Outcome f xs n (behind_call c r) d e
  one_more f xs n c r d (gives goes_on s) o = (o.0, o.1, o.2, o.3, o.4, o.5, o.6 ∙ omega arith, o.7)
  one_more f xs n c r d (gives (returned v) s) o = absurd o
  one_more f xs n c r d (fails e s) o = o

  -- ---- one call

  -- a call comes to what its task comes to, whatever else the frame has
  comes_to : (f : Frame) (j : Instance) (vs : List Value) (s : State) → f.depth ≡ x.depth → Answering x h.tree h.calls →
      (takes : Takes x.forms.takes x.code h.tree task vs s.store (give_parts j.parts j.contents)) → is_within takes.needs j.needs ≡ true →
      call_task x.code x.turns x.child (record { task = place_of_task h.tree task; args = map (machine_value j.contents) vs })
      (slice_get x.code.tasks (place_of_task h.tree task)) (give_all (record j { frame = f }))
      ≡ after_call (x.child (called_with h.tree x.turns (suc x.depth) task vs takes.needs (give_parts j.parts j.contents))) (give_all (record j { frame = f }))
  comes_to f j vs s deep ok takes within =
      let place = place_of_task h.tree task in
      let t = task_code h.tree (task_named h.tree task) in
      let c = give_parts j.parts j.contents in
      let ms = map (machine_value j.contents) vs in
      let k = give_all (record j { frame = f }) in
      let out : CallOut = record { task = place; args = ms } in
      let same : ms ≡ map (machine_value c) vs = same_values j.contents c (given_number j.parts j.contents) vs in
      let room = room_for h task vs x.forms.takes x.code s.store c takes in
      let there : slice_get x.code.tasks place ≡ Some t = ap (λ c. slice_get c.tasks place) ok.code_is ∙ code_there h.tree task takes.there in
      ap (λ o. call_task x.code x.turns x.child out o k) there
      ∙ ap (λ b. cond b (call_within x.child (opening x.turns (suc f.depth) place t ms) (requirements_on x.code c t.needs ms) k) (breaks k))
      (le-leb (length ms) t.slots (subst (λ n. n ≤ t.slots) (sym (length-map vs (machine_value j.contents))) room.1))
      ∙ ap (λ us. call_within x.child (opening x.turns (suc f.depth) place t us) (requirements_on x.code c t.needs us) k) same
      ∙ ap (λ o. call_within x.child (opening x.turns (suc f.depth) place t (map (machine_value c) vs)) o k) takes.required
      ∙ ap (λ b. cond b (after_call (x.child (begun (opening x.turns (suc f.depth) place t (map (machine_value c) vs)) takes.needs c)) k) (breaks k)) within
      ∙ ap (λ d. after_call (x.child (begun (opening x.turns (suc d) place t (map (machine_value c) vs)) takes.needs c)) k) deep

  -- ---- the rounds

  -- what the calls have in common, and those from a colour on
  abbrev pub launch_with : List MachineValue → ℕ → Launch
  launch_with xs deep = record { task = place_of_task h.tree task; slots = xs; depth = deep; loop_line = h.line; call_line = line }

  abbrev pub calls_from : ℕ → ℕ → List (List PointArg)
  calls_from c left = map (call_at (args_of within i 0 es)) (counted_from c left)

  abbrev items_from : ℕ → ℕ → List Value
  items_from c left = map (λ k. an_index (pos k)) (counted_from c left)

  -- what the arguments are, and with which slots and which frame the calls are made
  module _ (t1 : StaticType) (low : params ≤ length h.scope.names) (forms : AreForms (with_name h.scope i t1 true).names i (params_of h.tree task) 0 es)
      (passed : ArePassed x.forms within types_here callee_types es) (callable : IsCallable x.forms within task es)
      (room : slot (where_of params h) (length h.scope.names) < slots) (fits : above_all (flat_map slots_named (args_of within i 0 es)) ≤ slots)
      (xs : List MachineValue) (names0 : List Value) (c0 : Contents) (own0 : List RootId)
      (waits : AreKept x params slots fit aside h i (index_type k0) line names0 c0 own0 xs 0 types_here callee_types es)
      (f : Frame) (deep : f.depth ≡ x.depth) (ok : Answering x h.tree h.calls) where
    abbrev l : Launch
    l = launch_with xs x.depth

    abbrev all_calls : List CallOut → Instance → Resumed
    all_calls cs k = call_all x.code x.turns x.child cs k

    -- what comes behind the arguments, and behind a call
    abbrev behind_values : ℕ → List Value → Result (List Value) → Result Going
    behind_values n items r = and_then (leaving n (and_then (and_then r (λ vs s. and_then (called here task vs s) (λ _. given goes_on))) (λ g. going_on (given goes_on) g)))
        (λ g. going_on (rounds_over h items body) g)

    abbrev behind_answer : ℕ → List Value → Called → State → Result Going
    behind_answer n items d s = and_then (leaving n (and_then (and_then (answered d s) (λ _. given goes_on)) (λ g. going_on (given goes_on) g)))
        (λ g. going_on (rounds_over h items body) g)

    -- the rounds that are left come to what they mean
    abbrev Comes : List Value → List (List PointArg) → State → Instance → Type 0
    Comes items calls s j = Outcome f xs j.frame.children (launched l calls s.turns) (all_calls (launched l calls s.turns).calls (give_all (record j { frame = f })))
        (rounds_over h items body s)

    abbrev Again : List Value → List (List PointArg) → Instance → Type 0
    Again items calls i0 = (s : State) (j : Instance) → Agrees x params slots aside h s j → names0 ≡ s.names → j.frame.slots ≡ xs → HasMore own0 j.frame.own → HasRest j.frame f →
        Comes items calls s j

    module _ (c : ℕ) (small : c < 4194304) (items : List Value) (calls : List (List PointArg)) (again : (i0 : Instance) → Again items calls i0) (s : State) (j : Instance)
        (g : Agrees x params slots aside h s j) (same : names0 ≡ s.names) (slots_are : j.frame.slots ≡ xs) (more : HasMore own0 j.frame.own) (own_is : HasRest j.frame f) where
      abbrev item : Value
      item = an_index (pos c)

      abbrev kept_frame : Instance
      kept_frame = give_all (record j { frame = f })

      -- the state in which the arguments are evaluated, with so many turns
      abbrev begun_with : ℕ → State
      begun_with n = record s { turns = n; names = s.names ++ item ∷ [] }

      abbrev out : List Value → CallOut
      out vs = record { task = place_of_task h.tree task; args = map (machine_value j.contents) vs }

      -- what a call came to
      matched : (k : ℕ) → s.turns ≡ suc (suc k) → (vs : List Value) (d : Called) (e : Ended) →
          Matches h.tree x.code (Returns h.tree task) s.store (numbers (give_parts j.parts j.contents)) d e →
          Outcome f xs j.frame.children (behind_call (out vs) (launched l calls k)) (on_resumed (after_call e kept_frame) (all_calls (launched l calls k).calls))
          (behind_answer (length s.names) items d (begun_with k))
      matched k q vs _ _ (both_broke e text) = inl (ap (λ u. IsOver (Broke (Some e) (u ++ text))) g.text)
      matched k q vs _ _ (both_back v after text result own c2 typed value roots kept_after stands is) =
          let s1 = record s { turns = suc k } in
          let j1 = record j { frame = record j.frame { turns = suc k } } in
          let g1 = fewer x params slots fit counts (suc k) aside h s j (omega (arith, q)) g in
          let next : Instance = record (give_all (record j1 { frame = record j1.frame { turns = k; pc = suc 0; stack = machine.Pending j1.frame.children ∷ []; children = suc j1.frame.children } })) {
            contents = closed own c2;
            results = j.results ++ result_of result ∷ [];
            text = j.text ++ text;
          } in
          let g2 : Agrees x params slots aside h (record s { turns = k; store = take (length s.store) after; text = s.text ++ text }) next =
          agrees_after x params slots fit aside h s1 j1 k 0 [] after text (result_of result) own c2 g1 refl roots kept_after stands is in
          one_more f xs j.frame.children (out vs) (launched l calls k) _ _
          (subst (λ ns. Outcome f xs (suc j.frame.children) (launched l calls k) (all_calls (launched l calls k).calls (give_all (record next { frame = f })))
          (rounds_over h items body (record s { turns = k; store = take (length s.store) after; text = s.text ++ text; names = ns })))
          (sym (take-append_seam s.names (item ∷ []))) (again j _ next g2 same slots_are more own_is))

      -- a call whose arguments have values
      with_values : (m : ℕ) → s.turns ≡ suc m → (vs : List Value) → AreGivenBy x params slots fit aside here callee_types es vs (s.names ++ item ∷ []) →
          Outcome f xs j.frame.children (call_then l (map (machine_value j.contents) vs) m (launched l calls))
          (all_calls (call_then l (map (machine_value j.contents) vs) m (launched l calls)).calls kept_frame)
          (behind_values (length s.names) items (gives vs (begun_with m)))
      with_values zero q vs are = inr (give_all j, refl, g.text, refl)
      with_values (suc k) q vs are = by_depth (cases_lt x.depth 64)
        where
          us : List MachineValue
          us = map (machine_value j.contents) vs

          Goal : Bool → Called → Type 0
          Goal b d = Outcome f xs j.frame.children (elim b [ true ↦ behind_call (out vs) (launched l calls k) | false ↦ cut_off Depth line k ])
              (all_calls (calls_in (elim b [ true ↦ behind_call (out vs) (launched l calls k) | false ↦ cut_off Depth line k ])) kept_frame)
              (behind_answer (length s.names) items d (begun_with k))

          by_depth : (x.depth < 64) ⊎ (64 ≤ x.depth) → Goal (nat_lt x.depth 64) (h.calls line task vs s.store)
          by_depth (inr high) = subst (λ b. Goal b (h.calls line task vs s.store)) (sym (le-ltb x.depth 64 high))
              (subst (Goal false) (sym (ok.at_end high line task vs s.store)) (inr (give_all j, refl, g.text ∙ sym (append-nil s.text), refl)))
          by_depth (inl shallow) =
              let s1 = record s { turns = suc k } in
              let j1 = record j { frame = record j.frame { turns = suc k } } in
              let g1 = fewer x params slots fit counts (suc k) aside h s j (omega (arith, q)) g in
              let fit_colour : FitsWidth W64 (pos c) = omega (arith, ints, small) in
              let g2 = same_scope x params slots aside (looping h i (index_type k0)) here _ _ (refl, refl)
              (bound_more x params slots fit aside h s1 j1 i (index_type k0) true item low room (of_index k0 (pos c) fit_colour) tt tt
              (value_under x.forms.takes h.scope.names s.names (index_type k0) item (λ q e. absurd cc)) (λ q goes. absurd (none_there q goes.regions)) g1) in
              let ct = call_takes x params slots fit aside here task es vs _ _ callable are g2 in
              let c1 = give_parts j.parts j.contents in
              let code = task_code h.tree (task_named h.tree task) in
              subst (λ b. Goal b (h.calls line task vs s.store)) (sym (lt-ltb x.depth 64 shallow))
              (subst (λ r. Outcome f xs j.frame.children (behind_call (out vs) (launched l calls k)) (on_resumed r (all_calls (launched l calls k).calls))
              (behind_answer (length s.names) items (h.calls line task vs s.store) (begun_with k))) (sym {b = after_call (x.child (called_with h.tree x.turns (suc x.depth) task vs ct.takes.needs c1)) kept_frame} (comes_to f j vs s deep ok ct.takes ct.within))
              (matched k q vs _ _ (ok.below shallow line task vs s.store c1 ct.takes
              (begun_holds x.code s.store j (opening x.turns (suc x.depth) (place_of_task h.tree task) code (map (machine_value c1) vs)) code.needs (map (machine_value c1) vs)
              ct.takes.needs g.memory refl ct.takes.required ct.within))))

      -- a round
      round_comes : (n : ℕ) → s.turns ≡ n →
          Outcome f xs j.frame.children (launched l (call_at (args_of within i 0 es) c ∷ calls) n)
          (all_calls (launched l (call_at (args_of within i 0 es) c ∷ calls) n).calls kept_frame)
          (and_then (and_then (pay_from n h s) (λ _. scoped (bind item >>= λ _. body))) (λ g. going_on (rounds_over h items body) g))
      round_comes zero q = inr (give_all j, refl, g.text, refl)
      round_comes (suc m) q = ⊎_elim given_so lacking_so
          (all_at x params slots fit aside h i k0 line c small s (begun_with m) j g refl t1 0 types_here callee_types (params_of h.tree task) es names0 c0 own0 same more forms
          (subst (λ ys. AreKept x params slots fit aside h i (index_type k0) line names0 c0 own0 ys 0 types_here callee_types es) (sym slots_are) waits) passed fits)
        where
          Goal : Option (List MachineValue) → Result (List Value) → Type 0
          Goal o r = Outcome f xs j.frame.children (hand_then l o m (launched l calls)) (all_calls (hand_then l o m (launched l calls)).calls kept_frame)
              (behind_values (length s.names) items r)

          given_so : Given x params slots fit aside h i k0 line c small s (begun_with m) j g refl t1 types_here callee_types es 0 →
              Goal (arguments xs (call_at (args_of within i 0 es) c)) (values here types_here es (begun_with m))
          given_so v = subst (λ o. Goal o (values here types_here es (begun_with m)))
              (sym (ap (λ ys. arguments ys (call_at (args_of within i 0 es) c)) (sym slots_are) ∙ v.arguments_are))
              (subst (Goal (Some (map (machine_value j.contents) v.have))) (sym v.evaluate) (with_values m q v.have v.are_given))

          lacking_so : Lacking x params slots fit aside h i k0 line c small s (begun_with m) j g refl t1 types_here es 0 →
              Goal (arguments xs (call_at (args_of within i 0 es) c)) (values here types_here es (begun_with m))
          lacking_so v = subst (λ o. Goal o (values here types_here es (begun_with m)))
              (sym (ap (λ ys. arguments ys (call_at (args_of within i 0 es) c)) (sym slots_are) ∙ v.none_are))
              (subst (Goal None) (sym v.fail_so) (inr (give_all j, refl, g.text, refl)))

    pub rounds_come : (left c : ℕ) → c + left ≤ 4194304 → (s : State) (j : Instance) → Agrees x params slots aside h s j → names0 ≡ s.names → j.frame.slots ≡ xs →
        HasMore own0 j.frame.own → HasRest j.frame f → Comes (items_from c left) (calls_from c left) s j
    rounds_come zero c small s j g same slots_are more own_is =
        (refl, refl, give_all j, refl, agrees_given x params slots aside h s j g, slots_are, omega arith, own_is)
    rounds_come (suc left) c small s j g same slots_are more own_is =
        round_comes c (omega (arith, small)) (items_from (suc c) left) (calls_from (suc c) left)
        (λ i0. rounds_come left (suc c) (omega (arith, small))) s j g same slots_are more own_is s.turns refl
