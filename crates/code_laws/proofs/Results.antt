-- The result of a call is put away in a slot of its own.
use Rattle.std.proofs.Common.{◌≡◌, ℕ, suc, ◌<◌, ◌≤◌, ℤ, pos, List, [], ◌∷◌, false, Some, refl, sym, ap, ◌∙◌, subst, arith}
use Rattle.std.specs.Prelude.{cond, get_or, length, map, slice_get, slice_set}
use Rattle.std.proofs.lemmas.Bool.{eq-eqb}
use Rattle.std.proofs.lemmas.List.{get_or-set_other, get_or-set_same, length-set}
use Rattle.std.proofs.lemmas.Option.{slice_get-get_or}
use Rattle.std.proofs.Math.Seq.{map-set}
use Rattle.regent_tree.specs.Running.{State, Here}
use Rattle.regent_tree.specs.Values.{Value, kept_number}
use Rattle.regent_tree.specs.declared.typing.StaticType.{StaticType}
use Rattle.task_code.specs.declared.instr.Instr.TheVariants as instr
use Rattle.machine_terms.specs.declared.order.Contents.{Contents}
use Rattle.machine_terms.specs.declared.order.Instance.{Instance}
use Rattle.machine_terms.specs.declared.order.Resumed.TheVariants.{GoesOn}
use Rattle.machine_terms.specs.declared.value.Value.{Value as MachineValue}
use Rattle.machine_terms.specs.declared.value.Value.TheVariants as machine
use Rattle.machine_terms.specs.Calls.{is_pending}
use Rattle.machine_terms.specs.Numbers.{load}
use Rattle.machine_terms.specs.Orders.{settled}
use Rattle.code_rules.specs.Pieces.{op}
use Rattle.code_rules.specs.Slots.{beside, counter, result, slot, spare}
use Rattle.code_laws.specs.Pointers.{HasZero, zero_index, zero_scalar}
use Rattle.code_laws.specs.Simple.{scalar_integer, scalar_truth}
use Rattle.code_laws.specs.Standing.{Agrees, AreReady, Aside, IsOf, SlotsFit, Stands, blank, machine_value, of_index, of_integer, of_truth, where_of}
use Rattle.code_laws.specs.Steps.{Setting, machine_of, placed, on_step, Leads}
use Rattle.code_laws.proofs.Runs.{leads_by, leads_twice}
use Rattle.code_laws.proofs.States.{ready_set, ready_value, stored, stores}
use Rattle.code_laws.proofs.Values.{load_value, not_true}
use Rattle.code_laws.proofs.Besides.{beside_slots}

pub kept_value : (c : Contents) (t : StaticType) (v : Value) → HasZero t → IsOf t v → machine_value c v ≡ machine.Number (kept_number v)
kept_value c _ _ (zero_scalar _ (scalar_integer w)) (of_integer _ z p) = refl
kept_value c _ _ (zero_scalar _ scalar_truth) (of_truth b) = refl
kept_value c _ _ (zero_index k) (of_index _ z p) = refl

module _ (x : Setting) (params slots : ℕ) (fit : SlotsFit x slots) {deep : ℕ} (aside : Aside deep) where
  -- a spare slot is behind those of all names
  pub spare_stored : (h : Here) (s : State) (i : Instance) (d : ℕ) (v : MachineValue) →
      params ≤ length h.scope.names → deep ≤ d → is_pending v ≡ false → Agrees x params slots aside h s i →
      Agrees x params slots aside h s (stored (spare (where_of params h) d) v i)
  spare_stored h s i d v low within quiet g =
      let w = where_of params h in
      let k = spare w d in
      let xs = i.frame.slots in
      record {
        names = λ p l. get_or-set_other xs k (slot w p) v blank (λ q. omega (arith, q, l, g.count, low)) ∙ g.names p l;
        hidden = λ p a b. (
          get_or-set_other xs k (counter w p) v blank (λ q. omega (arith, q, a, b, g.inside, g.count, low)) ∙ (g.hidden p a b).0,
          get_or-set_other xs k (beside w p) v blank (λ q. omega (arith, q, a, b, g.inside, g.count, low)) ∙ (g.hidden p a b).1,
        );
        held = λ p l. get_or-set_other xs k (spare w p) v blank (λ q. omega (arith, q, l, within)) ∙ g.held p l;
        typed = g.typed;
        inside_store = g.inside_store;
        pointed = g.pointed;
        steady = g.steady;
        under = g.under;
        besides = beside_slots (λ p. get_or xs (beside w p) blank) (λ p. get_or (slice_set xs k v) (beside w p) blank) i.contents params
            (length s.store) h.scope.names s.names g.typed
            (λ p l e. get_or-set_other xs k (beside w p) v blank (λ q. omega (arith, q, l, e, low))) g.besides;
        count = g.count;
        inside = g.inside;
        slots_are = length-set xs k v ∙ g.slots_are;
        turns = g.turns;
        bound = g.bound;
        text = g.text;
        ready = ready_set xs k v quiet g.ready;
        calls = g.calls;
        result_is = g.result_is;
        answers = g.answers;
        spaces = g.spaces;
        memory = g.memory;
        tree_is = g.tree_is;
        framed = g.framed;
      }

  -- so is one for a result
  pub result_stored : (h : Here) (s : State) (i : Instance) (d : ℕ) (v : MachineValue) →
      params ≤ length h.scope.names → is_pending v ≡ false → Agrees x params slots aside h s i →
      Agrees x params slots aside h s (stored (result (where_of params h) d) v i)
  result_stored h s i d v low quiet g =
      let w = where_of params h in
      let k = result w d in
      let xs = i.frame.slots in
      record {
        names = λ p l. get_or-set_other xs k (slot w p) v blank (λ q. omega (arith, q, l, g.count, low)) ∙ g.names p l;
        hidden = λ p a b. (
          get_or-set_other xs k (counter w p) v blank (λ q. omega (arith, q, a, b, g.inside, g.count, low)) ∙ (g.hidden p a b).0,
          get_or-set_other xs k (beside w p) v blank (λ q. omega (arith, q, a, b, g.inside, g.count, low)) ∙ (g.hidden p a b).1,
        );
        held = λ p l. get_or-set_other xs k (spare w p) v blank (λ q. omega (arith, q, low)) ∙ g.held p l;
        typed = g.typed;
        inside_store = g.inside_store;
        pointed = g.pointed;
        steady = g.steady;
        under = g.under;
        besides = beside_slots (λ p. get_or xs (beside w p) blank) (λ p. get_or (slice_set xs k v) (beside w p) blank) i.contents params
            (length s.store) h.scope.names s.names g.typed
            (λ p l e. get_or-set_other xs k (beside w p) v blank (λ q. omega (arith, q, l, e, low))) g.besides;
        count = g.count;
        inside = g.inside;
        slots_are = length-set xs k v ∙ g.slots_are;
        turns = g.turns;
        bound = g.bound;
        text = g.text;
        ready = ready_set xs k v quiet g.ready;
        calls = g.calls;
        result_is = g.result_is;
        answers = g.answers;
        spaces = g.spaces;
        memory = g.memory;
        tree_is = g.tree_is;
        framed = g.framed;
      }

  -- a result is put away and loaded
  pub results_run : (h : Here) (t : StaticType) (d : ℕ) (v : Value) (s : State) (pc line : ℕ)
      (st : List MachineValue) (j : Instance) → params ≤ length h.scope.names →
      HasZero t → IsOf t v → Agrees x params slots aside h s j →
      Stands x.body pc (op (instr.Store (result (where_of params h) d)) line) →
      Stands x.body (suc pc) (op (instr.Load (result (where_of params h) d)) line) →
      Leads x (placed pc (machine.Number (kept_number v) ∷ st) j)
      (placed (suc (suc pc)) (machine_value j.contents v ∷ st) (stored (result (where_of params h) d) (machine_value j.contents v) j))
      × Agrees x params slots aside h s (stored (result (where_of params h) d) (machine_value j.contents v) j)
  results_run h t d v s pc line st j low plain o g f f2 =
      let k = result (where_of params h) d in
      let xs = j.frame.slots in
      let put = machine_value j.contents v in
      let room : k < length xs = omega (arith, fit pc _ f, g.slots_are) in
      let j2 = stored k put j in
      let now : slice_get (slice_set xs k put) k ≡ Some put =
      slice_get-get_or (slice_set xs k put) k blank (subst (λ n. k < n) (sym (length-set xs k _)) room)
      ∙ ap (λ u. Some u) (get_or-set_same xs k put blank room) in (
        leads_twice x (subst (λ u. Leads x (placed pc (u ∷ st) j) (placed (suc pc) st j2)) (kept_value j.contents t v plain o)
            (stores x params slots fit k pc line put st j g.slots_are f))
            (leads_by x (placed (suc pc) st j2) (placed (suc (suc pc)) (put ∷ st) j2) (instr.Load k) line f2
            (ap (λ u. on_step x (placed (suc pc) st j2) (load (machine_of (placed (suc pc) st j2)) u)) now
            ∙ ap (on_step x (placed (suc pc) st j2)) (load_value j.contents v (machine_of (placed (suc pc) st j2))))),
        result_stored h s j d put low (ready_value j.contents v) g,
      )
