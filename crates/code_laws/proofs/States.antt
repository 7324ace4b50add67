-- What storing a value, taking a turn and leaving a block keep.
use Rattle.std.proofs.Common.{◌≡◌, ◌≢◌, ℕ, suc, ◌+◌, ◌<◌, ◌≤◌, List, [], ◌∷◌, ◌++◌, Bool, true, false, ◌⊎◌, inl, inr, refl, sym, ap, ◌∙◌, subst, arith, ⊎_elim, length-append}
use Rattle.std.specs.Prelude.{get_or, length, map, take, slice_set, ◌==◌}
use Rattle.std.proofs.lemmas.Bool.{cases_lt, eqb-false, eqb-true, lt-ltb}
use Rattle.std.proofs.lemmas.List.{get_or-take, get_or-set_same, get_or-set_other, length-take-le, length-set}
use Rattle.std.proofs.Math.ListN.{get_or-append, get_or-eq_default}
use Rattle.std.proofs.Math.Seq.{get_or-append_seam}
use Rattle.regent_tree.specs.declared.typing.StaticType.{StaticType}
use Rattle.regent_tree.specs.Lookup.{is_bound}
use Rattle.regent_tree.specs.Scopes.{bound_to, with_name}
use Rattle.regent_tree.specs.Syntax.{Name, Tree}
use Rattle.regent_tree.specs.Values.{Region, Value, a_number, a_partition, a_pointer, a_region, a_space, a_truth, an_index}
use Rattle.regent_tree.specs.Running.{Calls, State, Here}
use Rattle.task_code.specs.declared.instr.Instr.TheVariants as instr
use Rattle.machine_terms.specs.declared.value.Value.{Value as MachineValue}
use Rattle.machine_terms.specs.Calls.{is_pending}
use Rattle.machine_terms.specs.declared.order.Contents.{Contents}
use Rattle.machine_terms.specs.Machine.{when, goes, broken, put, at}
use Rattle.machine_terms.specs.declared.order.Instance.{Instance}
use Rattle.code_rules.specs.Pieces.{op}
use Rattle.code_rules.specs.Programs.{space_code}
use Rattle.regent_tree.specs.StaticTypes.{spaces_of}
use Rattle.code_rules.specs.Slots.{slot, counter, beside}
use Rattle.code_laws.specs.Steps.{Setting, machine_of, placed, on_step, Leads}
use Rattle.code_laws.specs.Standing.{Answering, AreBeside, AreUnder, GoesToPart, program_of, Stands, machine_value, IsInside, IsOf, IsUnder, AreOf, AreReady, nothing, blank, Aside, where_of, Agrees, RegionsStay, SlotsFit}
use Rattle.code_laws.proofs.Runs.{leads_by}
use Rattle.code_laws.proofs.Values.{named}
use Rattle.code_laws.specs.Pointers.{ArePointed, IsPointed}
use Rattle.code_laws.proofs.Besides.{beside_changes, beside_cut, beside_fewer, beside_set, beside_slots}
use Rattle.code_laws.proofs.Names.{Grown, typed_more, typed_cut, typed_set, typed_fewer}
use Rattle.code_laws.proofs.Under.{alike_no_region, under_cut, under_fewer, under_more}
use Rattle.code_laws.proofs.Pointing.{GoAlike, IsNoRegion, pointed_cut, pointed_fewer, pointed_more, pointed_set, region_kept}
use Rattle.code_laws.proofs.Pieced.{IsNoPartition, under_changed}
use Rattle.code_laws.specs.Taking.{MayChange}

-- no value is a child that is pending
pub ready_value : (c : Contents) (v : Value) → is_pending (machine_value c v) ≡ false
ready_value c (a_number w z) = refl
ready_value c (a_truth b) = refl
ready_value c (an_index z) = refl
ready_value c (a_pointer t rs) = refl
ready_value c (a_space n) = refl
ready_value c (a_region r) = refl
ready_value c (a_partition p) = refl

pub ready_set : (xs : List MachineValue) (k : ℕ) (v : MachineValue) → is_pending v ≡ false → AreReady xs →
    AreReady (slice_set xs k v)
ready_set xs k v quiet r p = chosen (k == p) refl (cases_lt k (length xs))
  where
    chosen : (b : Bool) → (k == p) ≡ b → (k < length xs) ⊎ (length xs ≤ k) →
        is_pending (get_or (slice_set xs k v) p blank) ≡ false
    chosen true e (inl l) = subst (λ p. is_pending (get_or (slice_set xs k v) p blank) ≡ false) (eqb-true k p e)
        (ap is_pending (get_or-set_same xs k v blank l) ∙ quiet)
    chosen true e (inr l) = ap is_pending (get_or-eq_default (slice_set xs k v) blank {n = p}
        (subst (λ n. n ≤ p) (sym (length-set xs k v)) (subst (λ p. length xs ≤ p) (eqb-true k p e) l)))
    chosen false e l = ap is_pending (get_or-set_other xs k p v blank (λ q. eqb-false k p e (sym q))) ∙ r p

-- another value in a slot
abbrev pub stored : ℕ → MachineValue → Instance → Instance
stored s v i = record i { frame = record i.frame { slots = slice_set i.frame.slots s v } }

module _ (x : Setting) (params slots : ℕ) (fit : SlotsFit x slots) where
  -- a value goes from the stack into a slot
  pub stores : (s pc line : ℕ) (v : MachineValue) (st : List MachineValue) (i : Instance) →
      length i.frame.slots ≡ slots → Stands x.body pc (op (instr.Store s) line) →
      Leads x (placed pc (v ∷ st) i) (placed (suc pc) st (stored s v i))
  stores s pc line v st i e f =
      let there : s < length i.frame.slots = omega (arith, fit pc _ f, e) in
      leads_by x (placed pc (v ∷ st) i) _ (instr.Store s) line f
      (ap (λ b. on_step x (placed pc (v ∷ st) i) (when b
      (goes (put s v (at (suc pc) st (machine_of (placed pc (v ∷ st) i)))))
      (broken (machine_of (placed pc (v ∷ st) i))))) (lt-ltb s (length i.frame.slots) there))

  -- a slot beside another one
  set_other : (xs : List MachineValue) (a b : ℕ) (v : MachineValue) → b ≢ a →
      get_or (slice_set xs a v) b blank ≡ get_or xs b blank
  set_other xs a b v n = get_or-set_other xs a b v blank n

  -- a new name
  pub bound_more : (o : Aside 0) (h : Here) (s : State) (i : Instance) (n : Name) (t : StaticType)
      (by_loop : Bool) (v : Value) → params ≤ length h.scope.names →
      slot (where_of params h) (length h.scope.names) < slots → IsOf t v → IsInside x s.store t v →
      IsPointed h.scope.names s.names t v → IsUnder x.forms.takes h.scope.names s.names t v →
      ((q : Region) → GoesToPart t v q → (get_or i.frame.slots (beside (where_of params h) (length h.scope.names)) blank
      ≡ machine_value i.contents (a_region q)) × (q.root < length s.store)) →
      Agrees x params slots o h s i → Agrees x params slots o (record h { scope = with_name h.scope n t by_loop })
      (record s { names = s.names ++ v ∷ [] })
      (stored (slot (where_of params h) (length h.scope.names)) (machine_value i.contents v) i)
  bound_more o h s i n t by_loop v low room ty inside pointed under part g =
      let w = where_of params h in
      let k = length h.scope.names in
      let c = g.count in
      let m = machine_value i.contents v in
      let xs = i.frame.slots in
      let last : get_or (s.names ++ v ∷ []) k nothing ≡ v =
      ap (λ p. get_or (s.names ++ v ∷ []) p nothing) (sym c) ∙ get_or-append_seam s.names v [] nothing in
      let grown : length (s.names ++ v ∷ []) ≡ suc k = omega (arith, c, length-append s.names (v ∷ [])) in
      record {
        names = λ p l. ⊎_elim
            (λ e. set_other xs (slot w k) (slot w p) m (λ q. omega (arith, e, q))
            ∙ g.names p (omega (arith, e, c))
            ∙ ap (machine_value i.contents) (sym (get_or-append s.names (v ∷ []) nothing p (omega (arith, e, c)))))
            (λ e. let q : p ≡ k = omega (arith, e, l, grown) in
            subst (λ p. get_or (slice_set xs (slot w k) m) (slot w p) blank
            ≡ machine_value i.contents (get_or (s.names ++ v ∷ []) p nothing)) (sym q)
            (get_or-set_same xs (slot w k) m blank (omega (arith, room, g.slots_are)) ∙ ap (machine_value i.contents) (sym last)))
            (cases_lt p k);
        hidden = λ p a b. (
          set_other xs (slot w k) (counter w p) m (λ q. omega (arith, q, a, b, g.inside, c))
              ∙ (g.hidden p a b).0,
          set_other xs (slot w k) (beside w p) m (λ q. omega (arith, q, a, b, g.inside, c))
              ∙ (g.hidden p a b).1,
        );
        held = λ p l. absurd (omega (arith, l));
        typed = (
          refl,
          subst (IsOf t) (sym last) ty,
          typed_more IsOf h.scope.names s.names (v ∷ []) (omega (arith, c)) g.typed,
        );
        inside_store = (
          refl,
          subst (IsInside x s.store t) (sym last) inside,
          typed_more (IsInside x s.store) h.scope.names s.names (v ∷ []) (omega (arith, c)) g.inside_store,
        );
        pointed = pointed_more (record { name = n; number = h.scope.next; place = k; static_type = t; by_loop = by_loop })
            h.scope.names s.names v c refl g.typed pointed g.pointed;
        steady = λ p q l e. get_or-append s.names (v ∷ []) nothing p (omega (arith, l, g.inside)) ∙ g.steady p q l e;
        under = under_more x.forms.takes (record { name = n; number = h.scope.next; place = k; static_type = t; by_loop = by_loop })
            h.scope.names s.names v c refl g.typed under g.under;
        besides = (
          λ q goes.
              let f = part q (subst (λ u. GoesToPart t u q) last goes) in
              (low, set_other xs (slot w k) (beside w k) m (λ e. omega (arith, e)) ∙ f.0, f.1),
          beside_changes (λ p. get_or xs (beside w p) blank) (λ p. get_or (slice_set xs (slot w k) m) (beside w p) blank) i.contents i.contents params
              (length s.store) (length s.store) h.scope.names s.names (s.names ++ v ∷ []) g.typed
              (λ p l e. set_other xs (slot w k) (beside w p) m (λ q. omega (arith, q, l, e))) (λ q e. (refl, e))
              (λ p t q e goes. subst (λ u. GoesToPart t u q) (get_or-append s.names (v ∷ []) nothing p (omega (arith, e, c))) goes) g.besides,
        );
        count = grown;
        inside = omega (arith, g.inside, grown, c);
        slots_are = length-set xs (slot w k) m ∙ g.slots_are;
        turns = g.turns;
        bound = g.bound;
        text = g.text;
        ready = ready_set xs (slot w k) m (ready_value i.contents v) g.ready;
        calls = g.calls;
        result_is = g.result_is;
        answers = g.answers;
        spaces = g.spaces;
        memory = g.memory;
        tree_is = g.tree_is;
        framed = g.framed;
      }

  -- another value of a name
  pub changed : (o : Aside 0) (h : Here) (s : State) (i : Instance) (n : Name) (v : Value) →
      is_bound h.scope.names n ≡ true → MayChange x.forms.takes (bound_to h.scope.names n).by_loop → IsNoPartition (get_or s.names (bound_to h.scope.names n).place nothing) →
      slot (where_of params h) (bound_to h.scope.names n).place < slots →
      IsOf (bound_to h.scope.names n).static_type v → IsInside x s.store (bound_to h.scope.names n).static_type v →
      IsNoRegion (get_or s.names (bound_to h.scope.names n).place nothing) →
      GoAlike (get_or s.names (bound_to h.scope.names n).place nothing) v →
      ((t : StaticType) (q : Region) → GoesToPart t v q → GoesToPart t (get_or s.names (bound_to h.scope.names n).place nothing) q) →
      Agrees x params slots o h s i →
      Agrees x params slots o h (record s { names = slice_set s.names (bound_to h.scope.names n).place v })
      (stored (slot (where_of params h) (bound_to h.scope.names n).place) (machine_value i.contents v) i)
  changed o h s i n v b free uncut room ty inside none alike part g =
      let w = where_of params h in
      let k = (bound_to h.scope.names n).place in
      let c = g.count in
      let m = machine_value i.contents v in
      let xs = i.frame.slots in
      let low = (named IsOf h.scope.names s.names n g.typed b).below in
      let same = length-set s.names k v in
      record {
        names = λ p l. ⊎_elim
            (λ e. set_other xs (slot w k) (slot w p) m (λ q. omega (arith, e, q))
            ∙ g.names p (omega (arith, l, same))
            ∙ ap (machine_value i.contents) (sym (get_or-set_other s.names k p v nothing (λ q. omega (arith, e, q)))))
            (λ f. ⊎_elim
            (λ e. set_other xs (slot w k) (slot w p) m (λ q. omega (arith, e, q))
            ∙ g.names p (omega (arith, l, same))
            ∙ ap (machine_value i.contents) (sym (get_or-set_other s.names k p v nothing (λ q. omega (arith, e, q)))))
            (λ e. let q : p ≡ k = omega (arith, e, f) in
            subst (λ p. get_or (slice_set xs (slot w k) m) (slot w p) blank
            ≡ machine_value i.contents (get_or (slice_set s.names k v) p nothing)) (sym q)
            (get_or-set_same xs (slot w k) m blank (omega (arith, room, g.slots_are))
            ∙ ap (machine_value i.contents) (sym (get_or-set_same s.names k v nothing (omega (arith, low, c))))))
            (cases_lt k p))
            (cases_lt p k);
        hidden = λ p a b. (
          set_other xs (slot w k) (counter w p) m (λ q. omega (arith, q, a, b)) ∙ (g.hidden p a b).0,
          set_other xs (slot w k) (beside w p) m (λ q. omega (arith, q, a, b)) ∙ (g.hidden p a b).1,
        );
        held = λ p l. absurd (omega (arith, l));
        typed = typed_set IsOf h.scope.names s.names n v (omega (arith, c)) b ty g.typed;
        inside_store = typed_set (IsInside x s.store) h.scope.names s.names n v (omega (arith, c)) b inside g.inside_store;
        pointed = pointed_set s.names k v (omega (arith, low, c)) none alike params h.scope.names g.pointed;
        steady = λ p q l e. region_kept s.names k v none p q (g.steady p q l e);
        under = under_changed x.forms.takes h.scope.names s.names n v b free uncut (omega (arith, low, c)) none
            (alike_no_region (bound_to h.scope.names n).static_type (get_or s.names k nothing) v (named IsOf h.scope.names s.names n g.typed b).holding ty none)
            g.typed g.under;
        besides = beside_set (λ p. get_or xs (beside w p) blank) (λ p. get_or (slice_set xs (slot w k) m) (beside w p) blank) i.contents params
            (length s.store) h.scope.names s.names k v g.typed (omega (arith, low, c)) part
            (λ p l e. set_other xs (slot w k) (beside w p) m (λ q. omega (arith, q, l))) g.besides;
        count = same ∙ c;
        inside = omega (arith, g.inside, same);
        slots_are = length-set xs (slot w k) m ∙ g.slots_are;
        turns = g.turns;
        bound = g.bound;
        text = g.text;
        ready = ready_set xs (slot w k) m (ready_value i.contents v) g.ready;
        calls = g.calls;
        result_is = g.result_is;
        answers = g.answers;
        spaces = g.spaces;
        memory = g.memory;
        tree_is = g.tree_is;
        framed = g.framed;
      }

  -- a block's names are left
  pub cut : (o : Aside 0) (h : Here) (h2 : Here) (n : ℕ) (s : State) (i : Instance) →
      params ≤ length h.scope.names → Grown h.scope.names h2.scope.names → program_of h2 ≡ program_of h → n ≡ length h.scope.names → o.upto ≤ n →
      Agrees x params slots o h2 s i → Agrees x params slots o h (record s { names = take n s.names }) i
  cut o h h2 n s i least grown tree e up g =
      let w = where_of params h in
      let many : length h2.scope.names ≡ length grown.more + length h.scope.names =
      ap length grown.are ∙ length-append grown.more h.scope.names in
      let enough : n ≤ length s.names = omega (arith, g.count, many, e) in
      let len = length-take-le n s.names enough in
      record {
        names = λ p l. g.names p (omega (arith, l, len, enough))
            ∙ ap (machine_value i.contents) (sym (get_or-take n s.names p nothing (omega (arith, l, len))));
        hidden = g.hidden;
        held = λ p l. absurd (omega (arith, l));
        typed = typed_cut IsOf h.scope.names s.names n (omega (arith, e))
            (typed_fewer IsOf grown.more h.scope.names s.names (subst (λ bs. AreOf IsOf bs s.names) grown.are g.typed));
        inside_store = typed_cut (IsInside x s.store) h.scope.names s.names n (omega (arith, e))
            (typed_fewer (IsInside x s.store) grown.more h.scope.names s.names
            (subst (λ bs. AreOf (IsInside x s.store) bs s.names) grown.are g.inside_store));
        pointed = pointed_cut h.scope.names s.names n (omega (arith, e))
            (typed_fewer IsOf grown.more h.scope.names s.names (subst (λ bs. AreOf IsOf bs s.names) grown.are g.typed))
            (pointed_fewer grown.more h.scope.names s.names least (subst (ArePointed params s.names) grown.are g.pointed));
        steady = λ p q l e. get_or-take n s.names p nothing (omega (arith, l, up)) ∙ g.steady p q l e;
        under = under_cut x.forms.takes h.scope.names s.names n (omega (arith, e))
            (typed_fewer IsOf grown.more h.scope.names s.names (subst (λ bs. AreOf IsOf bs s.names) grown.are g.typed))
            (under_fewer x.forms.takes grown.more h.scope.names s.names (subst (λ bs. AreUnder x.forms.takes bs s.names) grown.are g.under));
        besides = beside_cut (λ p. get_or i.frame.slots (beside w p) blank) i.contents params (length s.store) h.scope.names s.names n (omega (arith, e))
            (typed_fewer IsOf grown.more h.scope.names s.names (subst (λ bs. AreOf IsOf bs s.names) grown.are g.typed))
            (beside_fewer (λ p. get_or i.frame.slots (beside w p) blank) i.contents params (length s.store) grown.more h.scope.names s.names
            (subst (λ bs. AreBeside (λ p. get_or i.frame.slots (beside w p) blank) i.contents params (length s.store) bs s.names) grown.are g.besides));
        count = len ∙ e;
        inside = omega (arith, len, up);
        slots_are = g.slots_are;
        turns = g.turns;
        bound = g.bound;
        text = g.text;
        ready = g.ready;
        calls = g.calls;
        result_is = sym (ap (λ (p : Tree × Calls × StaticType). p.2) tree) ∙ g.result_is;
        answers = λ c. subst (λ (p : Tree × Calls × StaticType). Answering x p.0 p.1) tree (g.answers c);
        spaces = g.spaces ∙ ap (λ (p : Tree × Calls × StaticType). map space_code (spaces_of p.0)) tree;
        memory = g.memory;
        tree_is = sym (ap (λ (p : Tree × Calls × StaticType). p.0) tree) ∙ g.tree_is;
        framed = g.framed;
      }

  -- a loop's counter, or its limit, beside the slots that are kept_number
  pub aside_stored : (o : Aside 0) (h : Here) (s : State) (i : Instance) (k d : ℕ) (v : MachineValue) →
      params ≤ k → o.upto ≤ k → length h.scope.names + d ≤ k + 2 → 0 < d → d < 3 → is_pending v ≡ false →
      Agrees x params slots o h s i →
      Agrees x params slots o h s (stored (slot (where_of params h) k + d) v i)
  aside_stored o h s i k d v low up names some few quiet g =
      let w = where_of params h in
      let xs = i.frame.slots in
      record {
        names = λ p l. set_other xs (slot w k + d) (slot w p) v
            (λ q. omega (arith, q, l, g.count, names, some, few, low)) ∙ g.names p l;
        hidden = λ p a b. (
          set_other xs (slot w k + d) (counter w p) v (λ q. omega (arith, q, a, b, up, some, few)) ∙ (g.hidden p a b).0,
          set_other xs (slot w k + d) (beside w p) v (λ q. omega (arith, q, a, b, up, some, few)) ∙ (g.hidden p a b).1,
        );
        held = λ p l. absurd (omega (arith, l));
        typed = g.typed;
        inside_store = g.inside_store;
        pointed = g.pointed;
        steady = g.steady;
        under = g.under;
        besides = beside_slots (λ p. get_or xs (beside w p) blank) (λ p. get_or (slice_set xs (slot w k + d) v) (beside w p) blank) i.contents params
            (length s.store) h.scope.names s.names g.typed
            (λ p l e. set_other xs (slot w k + d) (beside w p) v (λ q. omega (arith, q, l, e, names, some, few, low))) g.besides;
        count = g.count;
        inside = g.inside;
        slots_are = length-set xs (slot w k + d) v ∙ g.slots_are;
        turns = g.turns;
        bound = g.bound;
        text = g.text;
        ready = ready_set xs (slot w k + d) v quiet g.ready;
        calls = g.calls;
        result_is = g.result_is;
        answers = g.answers;
        spaces = g.spaces;
        memory = g.memory;
        tree_is = g.tree_is;
        framed = g.framed;
      }

  -- what is aside in a round that begins here
  abbrev pub from_here : ℕ → State → Instance → Aside 0
  from_here k s i = record { upto = k; slots = i.frame.slots; names = s.names; turns = s.turns; held = λ p. blank }

  -- a round begins: the slots are kept_number as they are now
  pub enters : (o : Aside 0) (h : Here) (s : State) (i : Instance) (k : ℕ) → k ≤ length s.names →
      Agrees x params slots o h s i →
      Agrees x params slots (from_here k s i) h s i
  enters o h s i k l g = record {
    names = g.names;
    hidden = λ p a b. (refl, refl);
    held = λ p l. absurd (omega (arith, l));
    typed = g.typed;
    inside_store = g.inside_store;
    pointed = g.pointed;
    steady = λ p q l e. e;
    under = g.under;
    besides = g.besides;
    count = g.count;
    inside = l;
    slots_are = g.slots_are;
    turns = g.turns;
    bound = omega arith;
    text = g.text;
    ready = g.ready;
    calls = g.calls;
    result_is = g.result_is;
    answers = g.answers;
    spaces = g.spaces;
    memory = g.memory;
    tree_is = g.tree_is;
    framed = g.framed;
  }

  -- and ends: the slots that were kept_number before it are those that were kept_number in it
  pub leaves_round : (o o2 : Aside 0) (h h2 : Here) (n : ℕ) (s s2 : State) (i j : Instance) →
      params ≤ length h.scope.names → o2.slots ≡ i.frame.slots → o.upto ≤ o2.upto → o2.turns ≤ o.turns →
      Grown h.scope.names h2.scope.names → program_of h2 ≡ program_of h → n ≡ length h.scope.names → o.upto ≤ n →
      ((p : ℕ) → params ≤ p → p < o.upto →
      (get_or i.frame.slots (counter (where_of params h) p) blank
      ≡ get_or o.slots (counter (where_of params h) p) blank)
      × (get_or i.frame.slots (beside (where_of params h) p) blank
      ≡ get_or o.slots (beside (where_of params h) p) blank)) →
      RegionsStay o.upto o.names o2.names → Agrees x params slots o2 h2 s2 j →
      Agrees x params slots o h (record s2 { names = take n s2.names }) j
  leaves_round o o2 h h2 n s s2 i j least e up fewer grown tree en low kept_number steady g =
      let w = where_of params h in
      let many : length h2.scope.names ≡ length grown.more + length h.scope.names =
      ap length grown.are ∙ length-append grown.more h.scope.names in
      let enough : n ≤ length s2.names = omega (arith, g.count, many, en) in
      let len = length-take-le n s2.names enough in
      record {
        names = λ p l. g.names p (omega (arith, l, len, enough))
            ∙ ap (machine_value j.contents) (sym (get_or-take n s2.names p nothing (omega (arith, l, len))));
        hidden = λ p a b. (
          (g.hidden p a (omega (arith, b, up))).0 ∙ ap (λ xs. get_or xs (counter w p) blank) e ∙ (kept_number p a b).0,
          (g.hidden p a (omega (arith, b, up))).1 ∙ ap (λ xs. get_or xs (beside w p) blank) e ∙ (kept_number p a b).1,
        );
        held = λ p l. absurd (omega (arith, l));
        typed = typed_cut IsOf h.scope.names s2.names n (omega (arith, en))
            (typed_fewer IsOf grown.more h.scope.names s2.names (subst (λ bs. AreOf IsOf bs s2.names) grown.are g.typed));
        inside_store = typed_cut (IsInside x s2.store) h.scope.names s2.names n (omega (arith, en))
            (typed_fewer (IsInside x s2.store) grown.more h.scope.names s2.names
            (subst (λ bs. AreOf (IsInside x s2.store) bs s2.names) grown.are g.inside_store));
        pointed = pointed_cut h.scope.names s2.names n (omega (arith, en))
            (typed_fewer IsOf grown.more h.scope.names s2.names (subst (λ bs. AreOf IsOf bs s2.names) grown.are g.typed))
            (pointed_fewer grown.more h.scope.names s2.names least (subst (ArePointed params s2.names) grown.are g.pointed));
        steady = λ p q l e. get_or-take n s2.names p nothing (omega (arith, l, low)) ∙ g.steady p q (omega (arith, l, up)) (steady p q l e);
        under = under_cut x.forms.takes h.scope.names s2.names n (omega (arith, en))
            (typed_fewer IsOf grown.more h.scope.names s2.names (subst (λ bs. AreOf IsOf bs s2.names) grown.are g.typed))
            (under_fewer x.forms.takes grown.more h.scope.names s2.names (subst (λ bs. AreUnder x.forms.takes bs s2.names) grown.are g.under));
        besides = beside_cut (λ p. get_or j.frame.slots (beside w p) blank) j.contents params (length s2.store) h.scope.names s2.names n (omega (arith, en))
            (typed_fewer IsOf grown.more h.scope.names s2.names (subst (λ bs. AreOf IsOf bs s2.names) grown.are g.typed))
            (beside_fewer (λ p. get_or j.frame.slots (beside w p) blank) j.contents params (length s2.store) grown.more h.scope.names s2.names
            (subst (λ bs. AreBeside (λ p. get_or j.frame.slots (beside w p) blank) j.contents params (length s2.store) bs s2.names) grown.are g.besides));
        count = len ∙ en;
        inside = omega (arith, len, low);
        slots_are = g.slots_are;
        turns = g.turns;
        bound = omega (arith, g.bound, fewer);
        text = g.text;
        ready = g.ready;
        calls = g.calls;
        result_is = sym (ap (λ (p : Tree × Calls × StaticType). p.2) tree) ∙ g.result_is;
        answers = λ c. subst (λ (p : Tree × Calls × StaticType). Answering x p.0 p.1) tree (g.answers c);
        spaces = g.spaces ∙ ap (λ (p : Tree × Calls × StaticType). map space_code (spaces_of p.0)) tree;
        memory = g.memory;
        tree_is = sym (ap (λ (p : Tree × Calls × StaticType). p.0) tree) ∙ g.tree_is;
        framed = g.framed;
      }
