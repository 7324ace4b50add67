-- Pointers that go into variables: each position becomes that of its region in the other list.
use Rattle.std.proofs.Common.{◌≡◌, ◌⊎◌, inl, inr, ℕ, zero, suc, ◌+◌, ◌<◌, ◌≤◌, List, [], ◌∷◌, Bool, true, false, Some, None, refl, sym, ap, ◌∙◌, subst, arith}
use Rattle.std.specs.Prelude.{cond, get_or, length, pos}
use Rattle.std.proofs.lemmas.List.{length-map}
use Rattle.std.proofs.lemmas.Option.{slice_get-get_or}
use Rattle.regent_tree.specs.Accesses.{converted}
use Rattle.regent_tree.specs.Execution.{write_name}
use Rattle.regent_tree.specs.Facts.{is_subregion}
use Rattle.regent_tree.specs.Lookup.{is_bound}
use Rattle.regent_tree.specs.Running.{Here, State, fails, gives}
use Rattle.regent_tree.specs.Scopes.{bound_to}
use Rattle.regent_tree.specs.StaticTypes.{Reach}
use Rattle.regent_tree.specs.Syntax.{Name}
use Rattle.regent_tree.specs.Typing.{has_wild, least_above, position_of, positions}
use Rattle.regent_tree.specs.Values.{Region, Target, Value, a_pointer, an_index, kept_target, moved, null_target, point_target, regions_of}
use Rattle.regent_tree.specs.declared.facts.Known.{Known}
use Rattle.regent_tree.specs.declared.facts.Term.{Term}
use Rattle.regent_tree.specs.declared.outcome.Fault.{Fault}
use Rattle.regent_tree.specs.declared.outcome.FaultKind.TheVariants.{NullPointer}
use Rattle.regent_tree.specs.declared.statement.How.TheVariants as how
use Rattle.regent_tree.specs.declared.types.Kind.{Kind}
use Rattle.regent_tree.specs.declared.typing.StaticType.{StaticType}
use Rattle.regent_tree.specs.declared.typing.StaticType.TheVariants.{Index as index_type, Pointer as pointer_type}
use Rattle.task_code.specs.declared.instr.Instr.TheVariants as instr
use Rattle.machine_terms.specs.declared.order.Ended.TheVariants.{Broke}
use Rattle.machine_terms.specs.declared.order.Instance.{Instance}
use Rattle.machine_terms.specs.declared.order.Resumed.TheVariants.{IsOver}
use Rattle.machine_terms.specs.declared.value.Value.{Value as MachineValue}
use Rattle.machine_terms.specs.declared.value.Value.TheVariants as machine
use Rattle.machine_terms.specs.Pointers.{move, moved_to, point}
use Rattle.code_rules.specs.Instructions.{converted_code}
use Rattle.code_rules.specs.Pieces.{op, past}
use Rattle.code_rules.specs.Slots.{slot_named}
use Rattle.value_laws.specs.Shapes.{IsPosition}
use Rattle.code_laws.specs.Pointers.{Assigned, Filled, IsPointer, a_pointer_type, assigned_plain, assigned_pointer, filled_index, filled_plain, filled_pointer}
use Rattle.code_laws.specs.Standing.{Agrees, Aside, Comes, Does, IsInside, IsOf, SlotsFit, Stands, nothing, of_index, of_pointer, where_of}
use Rattle.code_laws.specs.Steps.{Ends, Leads, Setting, machine_of, on_step, placed}
use Rattle.code_laws.specs.Typed.{CountsDown}
use Rattle.code_laws.proofs.Accesses.{kept_round}
use Rattle.code_laws.proofs.Counting.{into_runs, point_fits}
use Rattle.code_laws.proofs.Good.{Gives, Good, valued}
use Rattle.code_laws.proofs.Pointing.{GoAlike, IsNoRegion}
use Rattle.code_laws.proofs.Rows.{writes_name}
use Rattle.code_laws.proofs.States.{changed, stored, stores}
use Rattle.code_laws.proofs.Runs.{ends_by, leads_by}
use Rattle.code_laws.proofs.Values.{named}
use Rattle.code_laws.proofs.Wider.{into_simple}
use Rattle.code_laws.proofs.Writes.{ConvertedAt, converted_at}
use Rattle.code_laws.proofs.Besides.{goes_alike}
use Rattle.code_laws.proofs.Pieced.{pointer_uncut}
use Rattle.code_laws.specs.Taking.{MayChange}

-- ---- positions

least_small : (known : List Known) (a : Term) (j : ℕ) (bs : List Reach) → least_above known a j bs ≤ j + length bs
least_small known a j [] = omega arith
least_small known a j (None ∷ bs) = omega (arith, least_small known a (suc j) bs)
least_small known a j (Some b ∷ bs) = by (is_subregion known a b) (least_small known a (suc j) bs)
  where
    by : (c : Bool) → least_above known a (suc j) bs ≤ suc j + length bs →
        cond c (suc j) (least_above known a (suc j) bs) ≤ j + length (Some b ∷ bs)
    by true more = omega arith
    by false more = omega (arith, more)

position_small : (known : List Known) (to : List Reach) (a : Reach) → cond (has_wild to) 0 (position_of known to a) ≤ length to
position_small known to a = by (has_wild to) a
  where
    by : (c : Bool) (a : Reach) → cond c 0 (position_of known to a) ≤ length to
    by true a = omega arith
    by false None = omega arith
    by false (Some a) = omega (arith, least_small known a 0 to)

pub positions_small : (known : List Known) (from to : List Reach) (m : ℕ) → get_or (positions known from to) m 0 ≤ length to
positions_small known [] to zero = omega arith
positions_small known [] to (suc m) = omega arith
positions_small known (a ∷ from) to zero = position_small known to a
positions_small known (a ∷ from) to (suc m) = positions_small known from to m

pub positions_many : (known : List Known) (from to : List Reach) → length (positions known from to) ≡ length from
positions_many known from to = length-map from (λ a. cond (has_wild to) 0 (position_of known to a))

pub moved_small : (js : List ℕ) (m n : ℕ) (tg : Target) → ((c : ℕ) → get_or js c 0 ≤ n) → IsPosition m tg → IsPosition n (moved js tg)
moved_small js m n null_target small o = tt
moved_small js m n (point_target p zero) small o = (o.0, omega arith)
moved_small js m n (point_target p (suc c)) small o = (o.0, small c)

module _ (x : Setting) (params slots : ℕ) (fit : SlotsFit x slots) {deep : ℕ} (aside : Aside deep) where
  -- a pointer's position is moved
  pub moves : (js : List ℕ) (m line : ℕ) (tg : Target) (pc : ℕ) (st : List MachineValue) (i : Instance) → length js ≡ m → IsPosition m tg →
      Stands x.body pc (op (instr.Move js) line) →
      Leads x (placed pc (machine.Number (kept_target tg) ∷ st) i) (placed (suc pc) (machine.Number (kept_target (moved js tg)) ∷ st) i)
  moves js m line null_target pc st i many o f = leads_by x _ _ (instr.Move js) line f refl
  moves js m line (point_target n zero) pc st i many o f =
      let j = placed pc (machine.Number (kept_target (point_target n 0)) ∷ st) i in
      leads_by x _ _ (instr.Move js) line f (ap (λ t. on_step x j (move js t st (machine_of j))) (kept_round n 0 o.0))
  moves js m line (point_target n (suc c)) pc st i many o f =
      let j = placed pc (machine.Number (kept_target (point_target n (suc c))) ∷ st) i in
      leads_by x _ _ (instr.Move js) line f
      (ap (λ t. on_step x j (move js t st (machine_of j))) (kept_round n (suc c) o.0)
      ∙ ap (λ u. on_step x j (moved_to n u st (machine_of j))) (slice_get-get_or js c 0 (omega (arith, many, o.1))))

  pub move_runs : (h : Here) (js : List ℕ) (m : ℕ) (k : Kind) (sp : ℕ) (args qs : List Reach) (tg : Target) (regions : List Region) (s : State)
      (pc : ℕ) (st : List MachineValue) (i : Instance) → length js ≡ m → ((n : ℕ) → get_or js n 0 ≤ length qs) → IsPosition m tg →
      Agrees x params slots aside h s i → Stands x.body pc (op (instr.Move js) h.line) →
      Gives x params slots fit aside h (pointer_type k sp args qs) (op (instr.Move js) h.line) pc (machine.Number (kept_target tg) ∷ st) st i
      (gives (a_pointer (moved js tg) regions) s)
  move_runs h js m k sp args qs tg regions s pc st i many small o g f =
      (i, moves js m h.line tg pc st i many o f, (of_pointer k sp args qs (moved js tg) regions (moved_small js m (length qs) tg small o), g))

  -- a pointer goes into a variable of a pointer's type
  pub pointer_into : (h : Here) (t u : StaticType) (regions : List Region) (v : Value) (s : State) (pc : ℕ) (st : List MachineValue)
      (i : Instance) → IsPointer t → IsPointer u → IsOf t v → Agrees x params slots aside h s i →
      Stands x.body pc (converted_code (where_of params h) t u) →
      Comes x (valued pc st v i) (valued (past (converted_code (where_of params h) t u) pc) st)
      (Good x params slots fit aside h u) (converted h t u regions v s)
  pointer_into h _ _ regions _ s pc st i (a_pointer_type k sp args rs ns) (a_pointer_type k2 sp2 args2 qs ms) (of_pointer _ _ _ _ tg us o) g f =
      move_runs h (positions h.scope.known rs qs) (length rs) k2 sp2 args2 qs tg regions s pc st i (positions_many h.scope.known rs qs)
      (positions_small h.scope.known rs qs) o g f

  -- a conversion that is a fault
  pub record BreaksAt (h : Here) (from t : StaticType) (v : Value) (s : State) (pc : ℕ) (st : List MachineValue) (i : Instance) : Type 0 where
    pub fault : Fault
    pub breaks_it : converted h from t [] v s ≡ fails fault s
    pub ends : Ends x (valued pc st v i) (Broke (Some fault) s.text)

  -- a pointer's point
  point_at : (h : Here) (j k : Kind) (sp : ℕ) (args rs : List Reach) (tg : Target) (us : List Region) (s : State) (pc : ℕ) (st : List MachineValue)
      (i : Instance) → i.text ≡ s.text → IsPosition (length rs) tg → Stands x.body pc (op instr.Point h.line) →
      ConvertedAt x params slots fit aside h (pointer_type k sp args rs) (index_type j) (a_pointer tg us) s pc st i
      ⊎ BreaksAt h (pointer_type k sp args rs) (index_type j) (a_pointer tg us) s pc st i
  point_at h j k sp args rs null_target us s pc st i text o f = inr (record {
    fault = record { kind = NullPointer; line = h.line };
    breaks_it = refl;
    ends = ends_by x _ _ instr.Point h.line f (ap (λ t. IsOver (Broke (Some (record { kind = NullPointer; line = h.line })) t)) text);
  })
  point_at h j k sp args rs (point_target n c) us s pc st i text o f =
      let z = placed pc (machine.Number (kept_target (point_target n c)) ∷ st) i in inl (record {
        value = an_index (pos n);
        gives_it = refl;
        leads = leads_by x _ _ instr.Point h.line f (ap (λ t. on_step x z (point t h.line st (machine_of z))) (kept_round n c o.0));
        typed = of_index j (pos n) (point_fits n o.0);
      })

  -- with what a field is filled, or the fault where it is with null and holds an index
  pub filled_at : (h : Here) (from t : StaticType) (v : Value) (s : State) (pc : ℕ) (st : List MachineValue) (i : Instance) → i.text ≡ s.text →
      Filled from t → IsOf from v → Stands x.body pc (converted_code (where_of params h) from t) →
      ConvertedAt x params slots fit aside h from t v s pc st i ⊎ BreaksAt h from t v s pc st i
  filled_at h from t v s pc st i text (filled_plain _ _ p) o f = inl (converted_at x params slots fit aside h from t v s pc st i p o f)
  filled_at h _ _ _ s pc st i text (filled_index k sp args rs j) (of_pointer _ _ _ _ tg us o) f = point_at h j k sp args rs tg us s pc st i text o f
  filled_at h _ _ _ s pc st i text (filled_pointer _ _ (a_pointer_type k sp args rs ns) (a_pointer_type k2 sp2 args2 qs ms)) (of_pointer _ _ _ _ tg us o) f =
      let js = positions h.scope.known rs qs in inl (record {
        value = a_pointer (moved js tg) [];
        gives_it = refl;
        leads = moves js (length rs) h.line tg pc st i (positions_many h.scope.known rs qs) o f;
        typed = of_pointer k2 sp2 args2 qs (moved js tg) [] (moved_small js (length rs) (length qs) tg (positions_small h.scope.known rs qs) o);
      })

  -- what is assigned
  pub assigned_runs : (h : Here) (t u : StaticType) (regions : List Region) (v : Value) (s : State) (pc : ℕ) (st : List MachineValue)
      (i : Instance) → Assigned t u → IsOf t v → Agrees x params slots aside h s i →
      Stands x.body pc (converted_code (where_of params h) t u) →
      Comes x (valued pc st v i) (valued (past (converted_code (where_of params h) t u) pc) st)
      (Good x params slots fit aside h u) (converted h t u regions v s)
  assigned_runs h t u regions v s pc st i (assigned_plain _ _ p) o g f = into_runs x params slots fit aside h t u regions v s pc st i p o g f
  assigned_runs h t u regions v s pc st i (assigned_pointer _ _ p q) o g f = pointer_into h t u regions v s pc st i p q o g f

-- ---- variables

-- a pointer's variable keeps its regions
pointer_alike : (t : StaticType) (old : Value) (tg : Target) → IsPointer t → IsOf t old → IsNoRegion old × GoAlike old (a_pointer tg (regions_of old))
pointer_alike _ _ tg (a_pointer_type k sp args rs n) (of_pointer _ _ _ _ tg0 us o) = (λ q e. absurd cc, λ bs names t p. p)

module _ (x : Setting) (params slots : ℕ) (fit : SlotsFit x slots) (counts : CountsDown) where
  writes_pointer : (aside : Aside 0) (h : Here) (n : Name) (t : StaticType) (v : Value) (s : State) (pc : ℕ) (i : Instance) →
      (bound_to h.scope.names n).static_type ≡ t → IsPointer t → IsOf t v → is_bound h.scope.names n ≡ true → MayChange x.forms.takes (bound_to h.scope.names n).by_loop → Agrees x params slots aside h s i →
      Stands x.body pc (op (instr.Store (slot_named (where_of params h) n)) h.line) →
      Does x params slots aside (valued pc [] v i) (suc pc) h (write_name h n how.Set v s)
  writes_pointer aside h n _ _ s pc i e (a_pointer_type k sp args rs ns) (of_pointer _ _ _ _ tg us o) b free g f =
      let t = pointer_type k sp args rs in
      let old = get_or s.names (bound_to h.scope.names n).place nothing in
      let slot_at = slot_named (where_of params h) n in
      let new = a_pointer tg (regions_of old) in
      let room : slot_at < slots = omega (arith, fit pc _ f) in
      let held = (named IsOf h.scope.names s.names n g.typed b).holding in
      let alike = pointer_alike t old tg (a_pointer_type k sp args rs ns) (subst (λ u. IsOf u old) e held) in (
        stored slot_at (machine.Number (kept_target tg)) i,
        stores x params slots fit slot_at pc h.line (machine.Number (kept_target tg)) [] i g.slots_are f,
        changed x params slots fit aside h s i n new b free (pointer_uncut t old (a_pointer_type k sp args rs ns) (subst (λ u. IsOf u old) e held)) room
            (subst (λ u. IsOf u new) (sym e) (of_pointer k sp args rs tg (regions_of old) o))
            (subst (λ u. IsInside x s.store u new) (sym e) tt) alike.0 alike.1 (λ t q goes. goes_alike t old tg q goes) g,
      )

  pub assigns : (aside : Aside 0) (h : Here) (n : Name) (from : StaticType) (v : Value) (s : State) (pc : ℕ) (i : Instance) →
      Assigned from (bound_to h.scope.names n).static_type → IsOf (bound_to h.scope.names n).static_type v →
      is_bound h.scope.names n ≡ true → MayChange x.forms.takes (bound_to h.scope.names n).by_loop → Agrees x params slots aside h s i →
      Stands x.body pc (op (instr.Store (slot_named (where_of params h) n)) h.line) →
      Does x params slots aside (valued pc [] v i) (suc pc) h (write_name h n how.Set v s)
  assigns aside h n from v s pc i (assigned_plain _ _ p) o b free g f =
      writes_name x params slots fit counts aside h n v s pc i (into_simple from _ p) o b free g f
  assigns aside h n from v s pc i (assigned_pointer _ _ p q) o b free g f = writes_pointer aside h n _ v s pc i refl q o b free g f
