-- A call: its turn, its depth, the child that runs whole, and what it gives.
use Rattle.std.proofs.Common.{◌≡◌, ℕ, zero, suc, ◌^◌, ◌<◌, ◌≤◌, ℤ, pos, List, [], ◌∷◌, ◌++◌, ◌⊎◌, inl, inr, Option, Some, true, refl, sym, ap, ◌∙◌, subst, arith, length-append}
use Rattle.std.specs.Prelude.{cond, get_or, length, map, nat_lt, option_map, slice_get, take}
use Rattle.std.proofs.lemmas.Bool.{cases_lt, eq-eqb, le-leb, le-ltb, lt-ltb}
use Rattle.std.proofs.lemmas.List.{append-nil, get_or_default, length-map}
use Rattle.std.proofs.lemmas.Option.{slice_get-get_or, slice_get-map}
use Rattle.eager_laws.specs.Steps.{known, known_as, known_top, resolved}
use Rattle.std.proofs.Math.Seq.{get_or-append_seam}
use Rattle.region_tree.specs.declared.tree.RootId.{RootId}
use Rattle.regent_tree.specs.Evaluation.{answered, called}
use Rattle.regent_tree.specs.Laws.{SameRoots, shape_of}
use Rattle.regent_tree.specs.Running.{State, Here, Called, and_then, pay_from}
use Rattle.regent_tree.specs.Store.{Store, no_root}
use Rattle.regent_tree.specs.StaticTypes.{task_named}
use Rattle.regent_tree.specs.Syntax.{Name, Tree}
use Rattle.regent_tree.specs.Typing.{param_types}
use Rattle.regent_tree.specs.Values.{Value, a_number, a_partition, a_pointer, a_region, a_space, a_truth, an_index, kept_number}
use Rattle.regent_tree.specs.declared.outcome.FaultKind.TheVariants.{Depth, Turns}
use Rattle.task_code.specs.declared.code.TaskCode.{TaskCode}
use Rattle.task_code.specs.declared.instr.Instr.TheVariants as instr
use Rattle.machine_terms.specs.declared.order.Contents.{Contents}
use Rattle.machine_terms.specs.declared.order.Ended.{Ended}
use Rattle.machine_terms.specs.declared.order.Ended.TheVariants.{Broke}
use Rattle.machine_terms.specs.declared.order.Instance.{Instance}
use Rattle.machine_terms.specs.declared.order.Resumed.{Resumed}
use Rattle.machine_terms.specs.declared.order.Resumed.TheVariants as resumes
use Rattle.machine_terms.specs.declared.order.Root.{Root}
use Rattle.machine_terms.specs.declared.outcome.CallOut.{CallOut}
use Rattle.machine_terms.specs.declared.outcome.Yield.TheVariants as yield
use Rattle.machine_terms.specs.declared.value.Value.{Value as MachineValue}
use Rattle.machine_terms.specs.declared.value.Value.TheVariants as machine
use Rattle.machine_terms.specs.Calls.{call_task, calling, take_values, yield_call}
use Rattle.machine_terms.specs.Contents.{closed}
use Rattle.machine_terms.specs.Makes.{region_with}
use Rattle.region_tree.specs.Requirements.{Requirement, is_within}
use Rattle.region_tree.specs.declared.piece.Part.{Part}
use Rattle.task_code.specs.declared.code.Code.{Code}
use Rattle.machine_terms.specs.Copies.{give_parts}
use Rattle.machine_terms.specs.Machine.{Machine, broken, faults, on_turn, stops, when, with_turns}
use Rattle.machine_terms.specs.Opening.{opening, requirements_on}
use Rattle.machine_terms.specs.Orders.{after_call, begun, breaks, call_task as calls_task, call_within, give_all, on_resumed, result_of}
use Rattle.machine_terms.specs.Segments.{act}
use Rattle.code_rules.specs.Instructions.{place_of_task, tasks_of}
use Rattle.code_rules.specs.Pieces.{op}
use Rattle.code_rules.specs.Programs.{code_of, task_code}
use Rattle.memory_laws.specs.Memory.{StandFor, memory_of}
use Rattle.memory_laws.specs.Closing.{AreOwn}
use Rattle.memory_laws.specs.Places.{number_at, numbers}
use Rattle.memory_laws.proofs.Beginning.{begun_holds}
use Rattle.memory_laws.proofs.Closed.{closed_stands}
use Rattle.memory_laws.proofs.Covering.{covered_stays}
use Rattle.memory_laws.proofs.Given.{given_holds, given_keeps_numbers}
use Rattle.memory_laws.proofs.Returning.{returned_holds}
use Rattle.value_laws.specs.Shapes.{KeepsNumbers}
use Rattle.code_laws.specs.Taking.{is_asked}
use Rattle.code_laws.proofs.Shapes.{shaped_stays}
use Rattle.code_laws.specs.Standing.{Agrees, Answering, Aside, Comes, IsTaken, Matches, Returns, SlotsFit, Stands, Takes, both_back, both_broke, called_with, is_own, machine_value, where_of, blank}
use Rattle.code_laws.specs.Steps.{Setting, Taking, machine_of, placed, on_step, Leads, Ends}
use Rattle.code_laws.proofs.Making.{same_names}
use Rattle.code_laws.proofs.Openings.{least_slots, params_length, taken_length, types_length}
use Rattle.code_laws.proofs.Prints.{pushed_all, takes_all}
use Rattle.code_laws.proofs.Kept.{numbers_taken}
use Rattle.code_laws.proofs.Reaching.{all_inside}
use Rattle.code_laws.proofs.Runs.{ends_by, leads_by}
use Rattle.regent_tree.specs.Scopes.{scope_of}
use Rattle.code_rules.specs.Slots.{beside}
use Rattle.code_laws.proofs.Besides.{beside_roots}

-- ---- arguments

-- values are the same where roots have their numbers
pub same_value : (c d : Contents) → ((r : ℕ) → number_at c r ≡ number_at d r) → (v : Value) → machine_value c v ≡ machine_value d v
same_value c d same (a_number w z) = refl
same_value c d same (a_truth b) = refl
same_value c d same (an_index z) = refl
same_value c d same (a_pointer t rs) = refl
same_value c d same (a_space n) = refl
same_value c d same (a_region q) = ap (λ n. machine.Region (region_with n q.points)) (same q.root)
same_value c d same (a_partition q) = ap (λ n. machine.Partition (record {
  root = record { 0 = n };
  disjoint = q.disjoint;
  children = map (region_with n) q.sets;
})) (same q.root)

pub same_values : (c d : Contents) → ((r : ℕ) → number_at c r ≡ number_at d r) → (vs : List Value) → map (machine_value c) vs ≡ map (machine_value d) vs
same_values c d same [] = refl
same_values c d same (v ∷ vs) =
    ap (λ m. m ∷ map (machine_value c) vs) (same_value c d same v) ∙ ap (λ ms. machine_value d v ∷ ms) (same_values c d same vs)

-- roots have their numbers where parts have gone back
pub given_number : (parts : List Part) (c : Contents) (r : ℕ) → number_at c r ≡ number_at (give_parts parts c) r
given_number parts c r =
    let kept = given_keeps_numbers parts c in
    ap (λ ns. get_or ns r c.made) (sym kept.0) ∙ ap (λ m. get_or (numbers (give_parts parts c)) r m) (sym kept.1)

-- the code of a task stands at its place
pub code_there : (tree : Tree) (task : Name) → slice_get (tasks_of tree) (place_of_task tree task) ≡ Some (task_named tree task) →
    slice_get (code_of tree).tasks (place_of_task tree task) ≡ Some (task_code tree (task_named tree task))
code_there tree task e =
    slice_get-map (task_code tree) (tasks_of tree) (place_of_task tree task) ∙ ap (option_map (task_code tree)) e

-- a task has enough slots for its arguments
pub room_for : (h : Here) (task : Name) (vs : List Value) (takes : Option Taking) (code : Code) (store : Store) (c : Contents) →
    Takes takes code h.tree task vs store c →
    (length vs ≡ (task_code h.tree (task_named h.tree task)).params) × (length vs ≤ (task_code h.tree (task_named h.tree task)).slots)
room_for h task vs given code store c takes =
    let t = task_named h.tree task in
    let long : length vs ≡ length t.params = taken_length (IsTaken given code store) (param_types h.tree t) vs takes.taken
    ∙ types_length (scope_of h.tree t).names ∙ params_length h.tree t.params 0 t.params in
    (long, omega (arith, long, least_slots (length t.params) (task_code h.tree t).body))

module _ (x : Setting) (params slots : ℕ) (fit : SlotsFit x slots) {deep : ℕ} (aside : Aside deep) where
  -- the value of a child is among the results
  abbrev pub HasResult : ℕ → Here → Name → Value → State → Instance → Type 0
  HasResult n h task v s j = Agrees x params slots aside h s j × (get_or j.results n (pos 0) ≡ kept_number v)
      × Returns h.tree task v

  abbrev pub pending : ℕ → ℕ → List MachineValue → Value → Instance → Instance
  pending n pc st v j = placed pc (machine.Number (kept_number v) ∷ st) j

  -- an instance in which the child on top of the stack is resolved
  abbrev told_in : Instance → Instance
  told_in k = record k { frame = record k.frame { stack = known_top k.results k.frame.stack } }

  known_last : (rs : List ℤ) (z : ℤ) (n : ℕ) → n ≡ length rs → known (rs ++ z ∷ []) (machine.Pending n) ≡ machine.Number z
  known_last rs z n e = ap (λ o. known_as o n)
      (slice_get-get_or (rs ++ z ∷ []) n (pos 0) (omega (arith, e, length-append rs (z ∷ [])))
      ∙ ap (λ m. Some (get_or (rs ++ z ∷ []) m (pos 0))) e ∙ ap (λ y. Some y) (get_or-append_seam rs z [] (pos 0)))

  -- the machine at a call, up to the turn
  call_acts : (c : Contents) (place line : ℕ) (vs : List Value) (st : List MachineValue) (t : TaskCode) (m : Machine) →
      slice_get x.code.tasks place ≡ Some t → t.params ≡ length vs → m.frame.stack ≡ pushed_all c vs st →
      act x.code x.body (instr.Call place (length vs)) line m
      ≡ on_turn m.frame.turns line m (λ p. when (nat_lt p.frame.depth 64)
      (yield_call place (map (machine_value c) vs) st p) (faults Depth line p))
  call_acts c place line vs st t m there params e =
      ap (λ o. call_task o place (length vs) line m) there
      ∙ ap (λ b. when b (calling place line (take_values (length vs) m.frame.stack []) m) (broken m))
      (eq-eqb t.params (length vs) params)
      ∙ ap (λ us. calling place line (take_values (length vs) us []) m) e
      ∙ ap (λ u. calling place line u m) (takes_all c vs st)

  -- the instance that has called, before the child's end
  abbrev pub calls_out : ℕ → ℕ → List MachineValue → Instance → Instance
  calls_out n pc st i = record i {
    frame = record i.frame {
      turns = n;
      pc = suc pc;
      stack = machine.Pending i.frame.children ∷ st;
      children = suc i.frame.children;
    };
  }

  -- what it resumes with
  resumed : (place depth : ℕ) (t : TaskCode) (ms : List MachineValue) (ns : List Requirement) (i : Instance) → slice_get x.code.tasks place ≡ Some t →
      requirements_on x.code i.contents t.needs ms ≡ Some ns → is_within ns i.needs ≡ true → length ms ≤ t.slots → i.frame.depth ≡ depth →
      on_resumed (calls_task x.code x.turns x.child (record { task = place; args = ms }) (slice_get x.code.tasks place) i)
      (λ k. resumes.GoesOn k)
      ≡ on_resumed (after_call (x.child (begun (opening x.turns (suc depth) place t ms) ns i.contents)) i) (λ k. resumes.GoesOn k)
  resumed place depth t ms ns i there needed within room e =
      let c : CallOut = record { task = place; args = ms } in
      let f = opening x.turns (suc i.frame.depth) place t ms in
      ap (λ o. on_resumed (calls_task x.code x.turns x.child c o i) (λ k. resumes.GoesOn k)) there
      ∙ ap (λ b. on_resumed (cond b (call_within x.child f (requirements_on x.code i.contents t.needs ms) i) (breaks i))
      (λ k. resumes.GoesOn k)) (le-leb (length ms) t.slots room)
      ∙ ap (λ o. on_resumed (call_within x.child f o i) (λ k. resumes.GoesOn k)) needed
      ∙ ap (λ b. on_resumed (cond b (after_call (x.child (begun f ns i.contents)) i) (breaks i)) (λ k. resumes.GoesOn k)) within
      ∙ ap (λ d. on_resumed (after_call (x.child (begun (opening x.turns (suc d) place t ms) ns i.contents)) i) (λ k. resumes.GoesOn k)) e

  -- an instance agrees behind a call that came back
  pub agrees_after : (h : Here) (s : State) (i : Instance) (n pc : ℕ) (st : List MachineValue)
      (after : Store) (text : List ℕ) (z : ℤ) (own : List RootId) (c : Contents) →
      Agrees x params slots aside h s i → i.frame.turns ≡ suc n → SameRoots s.store (take (length s.store) after) →
      KeepsNumbers h.tree after → StandFor x.code c [] after → AreOwn (numbers (give_parts i.parts i.contents)) own c →
      Agrees x params slots aside h (record s { turns = n; store = take (length s.store) after; text = s.text ++ text })
      (record (give_all (calls_out n pc st i)) {
        contents = closed own c;
        results = i.results ++ z ∷ [];
        text = i.text ++ text;
      })
  agrees_after h s i n pc st after text z own c g e same kept_after stands is =
      let given = given_holds x.code s.store i g.memory in
      let kept = given_keeps_numbers i.parts i.contents in
      let numbers_stay : numbers (closed own c) ≡ numbers i.contents =
      (closed_stands x.code after c (numbers (give_parts i.parts i.contents)) own stands is).1 ∙ kept.0 in
      let holds = returned_holds x.code s.store after (give_all i) c own given refl stands is same in
      record {
        names = λ p l. g.names p l ∙ sym (same_names x s.store no_root i.contents (closed own c)
            (λ r low. ap (λ ns. get_or ns r (closed own c).made) numbers_stay
            ∙ get_or_default (numbers i.contents) r (closed own c).made i.contents.made
            (omega (arith, low, g.memory.stands.count, length-map i.contents.roots (λ (r : Root). r.id.0))))
            h.scope.names s.names g.typed g.inside_store p (omega (arith, l, g.count)));
        hidden = g.hidden;
        held = g.held;
        typed = g.typed;
        inside_store = all_inside x s.store (take (length s.store) after) h.scope.names s.names same g.typed g.inside_store;
        pointed = g.pointed;
        steady = g.steady;
        under = g.under;
        besides = beside_roots (λ p. get_or i.frame.slots (beside (where_of params h) p) blank) i.contents (closed own c) params (length s.store)
            (length (take (length s.store) after)) h.scope.names s.names g.typed
            (λ q low. (
              ap (λ n. machine.Region (region_with n q.points)) (ap (λ ns. get_or ns q.root (closed own c).made) numbers_stay
                  ∙ get_or_default (numbers i.contents) q.root (closed own c).made i.contents.made
                  (omega (arith, low, g.memory.stands.count, length-map i.contents.roots (λ (r : Root). r.id.0)))),
              subst (λ n. q.root < n) (sym (length-map s.store shape_of) ∙ ap length (sym same) ∙ length-map (take (length s.store) after) shape_of) low,
            )) g.besides;
        count = g.count;
        inside = g.inside;
        slots_are = g.slots_are;
        turns = refl;
        bound = omega (arith, g.bound, g.turns, e);
        text = ap (λ u. u ++ text) g.text;
        ready = g.ready;
        calls = record {
          few = omega (arith, g.calls.few, e);
          children = omega (arith, g.calls.children, length-append i.results (z ∷ []));
          depth = g.calls.depth;
        };
        result_is = g.result_is;
        answers = g.answers;
        spaces = g.spaces;
        tree_is = g.tree_is;
        memory = holds;
        framed = record {
          own_are = numbers_stay ∙ g.framed.own_are;
          none = g.framed.none;
          shaped = shaped_stays x.code.spaces (length x.before) s.store (take (length s.store) after) same g.framed.shaped;
          allows = covered_stays x.code s.store (take (length s.store) after) (memory_of i)
              (record (memory_of i) { contents = closed own c; parts = [] }) (is_own x) g.memory numbers_stay refl same g.framed.allows;
          given = λ n e. covered_stays x.code s.store (take (length s.store) after) (memory_of i)
              (record (memory_of i) { contents = closed own c; parts = [] }) (is_asked x.args n) g.memory numbers_stay refl same (g.framed.given n e);
          parts = g.framed.parts;
          kept = subst (λ t. KeepsNumbers t (take (length s.store) after)) g.tree_is (numbers_taken h.tree after kept_after (length s.store));
        };
      }

  -- a call that was paid for, by what it gives
  comes_back : (h : Here) (s : State) (i j0 : Instance) (n pc : ℕ) (st : List MachineValue) →
      Agrees x params slots aside h s i → i.frame.turns ≡ suc n → (task : Name) (d : Called) (e : Ended) →
      Matches h.tree x.code (Returns h.tree task) s.store (numbers (give_parts i.parts i.contents)) d e →
      ((r : Resumed) → on_resumed (after_call e (give_all (calls_out n pc st i))) (λ k. resumes.GoesOn k) ≡ r →
      ((k : Instance) → r ≡ resumes.GoesOn k → Leads x j0 (told_in k)) × ((b : Ended) → r ≡ resumes.IsOver b → Ends x j0 b)) →
      Comes x j0 (pending i.frame.children (suc pc) st) (HasResult i.frame.children h task)
      (answered d (record s { turns = n }))
  comes_back h s i j0 n pc st g q task _ _ (both_back v after text result own c typed value same kept_after stands is) by =
      let k = record (give_all (calls_out n pc st i)) {
        contents = closed own c;
        results = i.results ++ result_of result ∷ [];
        text = i.text ++ text;
      } in (
        k,
        subst (λ u. Leads x j0 (placed (suc pc) (u ∷ st) k))
            (known_last i.results (result_of result) i.frame.children g.calls.children ∙ ap (λ z. machine.Number z) value)
            ((by (resumes.GoesOn k) refl).0 k refl),
        (
          agrees_after h s i n pc st after text (result_of result) own c g q same kept_after stands is,
          ap (λ m. get_or (i.results ++ result_of result ∷ []) m (pos 0)) g.calls.children
              ∙ get_or-append_seam i.results (result_of result) [] (pos 0) ∙ value,
          typed,
        ),
      )
  comes_back h s i j0 n pc st g q task _ _ (both_broke f text) by =
      subst (λ u. Ends x j0 (Broke (Some f) (u ++ text))) g.text
      ((by (resumes.IsOver (Broke (Some f) (i.text ++ text))) refl).1 _ refl)

  pub calls_run : (h : Here) (task : Name) (vs : List Value) (s : State) (pc : ℕ) (st : List MachineValue)
      (i : Instance) → Answering x h.tree h.calls →
      (takes : Takes x.forms.takes x.code h.tree task vs s.store (give_parts i.parts i.contents)) → is_within takes.needs i.needs ≡ true → suc pc < 2 ^ 32 → Agrees x params slots aside h s i →
      Stands x.body pc (op (instr.Call (place_of_task h.tree task) (length vs)) h.line) →
      Comes x (placed pc (pushed_all i.contents vs st) i) (pending i.frame.children (suc pc) st)
      (HasResult i.frame.children h task) (called h task vs s)
  calls_run h task vs s pc st i ok takes within small g f = by_turns s.turns refl
    where
      code : TaskCode
      code = task_code h.tree (task_named h.tree task)

      there : slice_get x.code.tasks (place_of_task h.tree task) ≡ Some (task_code h.tree (task_named h.tree task))
      there = ap (λ c. slice_get c.tasks (place_of_task h.tree task)) ok.code_is ∙ code_there h.tree task takes.there

      by_turns : (n : ℕ) → s.turns ≡ n →
          Comes x (placed pc (pushed_all i.contents vs st) i) (pending i.frame.children (suc pc) st) (HasResult i.frame.children h task)
          (and_then (pay_from n h s) (λ _ s1. answered (h.calls h.line task vs s1.store) s1))
      by_turns zero e = ends_by x _ _ (instr.Call (place_of_task h.tree task) (length vs)) h.line f
          (ap resolved (ap (on_step x (placed pc (pushed_all i.contents vs st) i))
          (call_acts i.contents (place_of_task h.tree task) h.line vs st code (machine_of (placed pc (pushed_all i.contents vs st) i)) there (sym (room_for h task vs x.forms.takes x.code s.store (give_parts i.parts i.contents) takes).0) refl
          ∙ ap (λ n. on_turn n h.line (machine_of (placed pc (pushed_all i.contents vs st) i)) (λ p. when (nat_lt p.frame.depth 64)
          (yield_call (place_of_task h.tree task) (map (machine_value i.contents) vs) st p) (faults Depth h.line p))) (g.turns ∙ e))
          ∙ ap (λ t. resumes.IsOver (Broke (Some (record { kind = Turns; line = h.line })) t)) g.text))
      by_turns (suc n) e = by_depth (cases_lt x.depth 64)
        where
          paid : act x.code x.body (instr.Call (place_of_task h.tree task) (length vs)) h.line (machine_of (placed pc (pushed_all i.contents vs st) i))
              ≡ when (nat_lt i.frame.depth 64) (yield_call (place_of_task h.tree task) (map (machine_value i.contents) vs) st (with_turns n (machine_of (placed pc (pushed_all i.contents vs st) i))))
              (faults Depth h.line (with_turns n (machine_of (placed pc (pushed_all i.contents vs st) i))))
          paid = call_acts i.contents (place_of_task h.tree task) h.line vs st code (machine_of (placed pc (pushed_all i.contents vs st) i)) there (sym (room_for h task vs x.forms.takes x.code s.store (give_parts i.parts i.contents) takes).0) refl
              ∙ ap (λ n. on_turn n h.line (machine_of (placed pc (pushed_all i.contents vs st) i)) (λ p. when (nat_lt p.frame.depth 64)
              (yield_call (place_of_task h.tree task) (map (machine_value i.contents) vs) st p) (faults Depth h.line p))) (g.turns ∙ e)

          by_depth : (x.depth < 64) ⊎ (64 ≤ x.depth) →
              Comes x (placed pc (pushed_all i.contents vs st) i) (pending i.frame.children (suc pc) st) (HasResult i.frame.children h task)
              (answered (h.calls h.line task vs s.store) (record s { turns = n }))
          by_depth (inr deep) = subst (λ d. Comes x (placed pc (pushed_all i.contents vs st) i) (pending i.frame.children (suc pc) st)
              (HasResult i.frame.children h task) (answered d (record s { turns = n })))
              (sym (ok.at_end deep h.line task vs s.store))
              (ends_by x _ _ (instr.Call (place_of_task h.tree task) (length vs)) h.line f
              (ap resolved (ap (on_step x (placed pc (pushed_all i.contents vs st) i)) (paid ∙ ap (λ b. when b (yield_call (place_of_task h.tree task) (map (machine_value i.contents) vs) st (with_turns n (machine_of (placed pc (pushed_all i.contents vs st) i))))
              (faults Depth h.line (with_turns n (machine_of (placed pc (pushed_all i.contents vs st) i))))) (ap (λ d. nat_lt d 64) g.calls.depth ∙ le-ltb x.depth 64 deep))
              ∙ ap (λ t. resumes.IsOver (Broke (Some (record { kind = Depth; line = h.line })) t))
              (g.text ∙ sym (append-nil s.text)))))
          by_depth (inl shallow) =
              let i0 = placed pc (pushed_all i.contents vs st) i in
              let y = calls_out n pc st i in
              let c = give_parts i.parts i.contents in
              let ms = map (machine_value i.contents) vs in
              let place = place_of_task h.tree task in
              let same : map (machine_value i.contents) vs ≡ map (machine_value c) vs = same_values i.contents c (given_number i.parts i.contents) vs in
              let some : suc i.frame.children < 2 ^ 64 = omega (arith, g.calls.few, g.turns, e, ok.few) in
              let steps : on_step x i0 (act x.code x.body (instr.Call place (length vs)) h.line (machine_of i0))
              ≡ on_resumed (after_call (x.child (called_with h.tree x.turns (suc x.depth) task vs takes.needs c)) (give_all y)) (λ k. resumes.GoesOn k) =
              ap (on_step x i0) (paid ∙ ap (λ b. when b (yield_call place ms st (with_turns n (machine_of i0)))
              (faults Depth h.line (with_turns n (machine_of i0)))) (ap (λ d. nat_lt d 64) g.calls.depth ∙ lt-ltb x.depth 64 shallow)
              ∙ ap (λ b. when b (when (nat_lt (suc pc) (2 ^ 32)) (stops (yield.Calls (record { task = place; args = ms } ∷ [])) (machine_of y)) (broken (machine_of y))) (broken (with_turns n (machine_of i0))))
              (lt-ltb (suc i.frame.children) (2 ^ 64) some)
              ∙ ap (λ b. when b (stops (yield.Calls (record { task = place; args = ms } ∷ [])) (machine_of y)) (broken (machine_of y)))
              (lt-ltb (suc pc) (2 ^ 32) small))
              ∙ resumed place x.depth code ms takes.needs (give_all y) there
              (ap (requirements_on x.code c code.needs) same ∙ takes.required) within
              (subst (λ n. n ≤ code.slots) (sym (length-map vs (machine_value i.contents))) (room_for h task vs x.forms.takes x.code s.store (give_parts i.parts i.contents) takes).1) g.calls.depth
              ∙ ap (λ us. on_resumed (after_call (x.child (begun (opening x.turns (suc x.depth) place code us) takes.needs c)) (give_all y)) (λ k. resumes.GoesOn k)) same in
              comes_back h s i i0 n pc st g (g.turns ∙ e) task _ _
              (ok.below shallow h.line task vs s.store c takes
              (begun_holds x.code s.store i (opening x.turns (suc x.depth) place code (map (machine_value c) vs)) code.needs (map (machine_value c) vs) takes.needs
              g.memory refl takes.required within))
              (λ r q. (
                λ k d. leads_by x _ _ (instr.Call place (length vs)) h.line f (ap resolved (steps ∙ q ∙ d)),
                λ b d. ends_by x _ _ (instr.Call place (length vs)) h.line f (ap resolved (steps ∙ q ∙ d)),
              ))
