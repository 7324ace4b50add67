-- An instance agrees still where its parts have gone back, and where its frame differs in what no name sees.
use Rattle.std.proofs.Common.{◌≡◌, ℕ, List, refl, sym, ap, ◌∙◌, subst, arith}
use Rattle.std.specs.Prelude.{get_or, length}
use Rattle.region_tree.specs.declared.needs.Needs.{Needs}
use Rattle.regent_tree.specs.Running.{Here, State}
use Rattle.regent_tree.specs.Values.{a_region}
use Rattle.machine_terms.specs.Calls.{is_pending}
use Rattle.machine_terms.specs.Copies.{give_parts}
use Rattle.machine_terms.specs.Orders.{give_all}
use Rattle.machine_terms.specs.declared.frame.Frame.{Frame}
use Rattle.machine_terms.specs.declared.order.Instance.{Instance}
use Rattle.machine_terms.specs.declared.value.Value.{Value as MachineValue}
use Rattle.memory_laws.proofs.Covering.{covered_stays}
use Rattle.memory_laws.proofs.Given.{given_holds, given_keeps_numbers}
use Rattle.memory_laws.specs.Memory.{Holds, memory_of}
use Rattle.code_rules.specs.Slots.{beside, counter, slot, spare}
use Rattle.code_laws.specs.Standing.{Agrees, AreBeside, Aside, IsFramed, blank, is_own, nothing, where_of}
use Rattle.code_laws.specs.Steps.{Setting}
use Rattle.code_laws.specs.Taking.{is_asked}
use Rattle.code_laws.proofs.Besides.{beside_roots}
use Rattle.code_laws.proofs.Calling.{given_number, same_value}

module _ (x : Setting) (params slots : ℕ) (aside : Aside 0) (h : Here) (s : State) (i : Instance) (g : Agrees x params slots aside h s i) where
  pub agrees_given : Agrees x params slots aside h s (give_all i)
  agrees_given =
      let c = give_parts i.parts i.contents in
      let kept = given_keeps_numbers i.parts i.contents in record {
        names = λ p l. g.names p l ∙ same_value i.contents c (given_number i.parts i.contents) (get_or s.names p nothing);
        hidden = g.hidden;
        held = g.held;
        typed = g.typed;
        inside_store = g.inside_store;
        pointed = g.pointed;
        steady = g.steady;
        under = g.under;
        besides = beside_roots (λ p. get_or i.frame.slots (beside (where_of params h) p) blank) i.contents c params (length s.store) (length s.store)
            h.scope.names s.names g.typed (λ q low. (sym (same_value i.contents c (given_number i.parts i.contents) (a_region q)), low)) g.besides;
        count = g.count;
        inside = g.inside;
        slots_are = g.slots_are;
        turns = g.turns;
        bound = g.bound;
        text = g.text;
        ready = g.ready;
        calls = g.calls;
        result_is = g.result_is;
        answers = g.answers;
        spaces = g.spaces;
        tree_is = g.tree_is;
        memory = given_holds x.code s.store i g.memory;
        framed = record {
          own_are = kept.0 ∙ g.framed.own_are;
          none = g.framed.none;
          shaped = g.framed.shaped;
          allows = covered_stays x.code s.store s.store (memory_of i) (memory_of (give_all i)) (is_own x) g.memory kept.0 refl refl g.framed.allows;
          given = λ n e. covered_stays x.code s.store s.store (memory_of i) (memory_of (give_all i)) (is_asked x.args n) g.memory kept.0 refl refl (g.framed.given n e);
          parts = g.framed.parts;
          kept = g.framed.kept;
        };
      }

  pub agrees_framed : (f : Frame) → f.slots ≡ i.frame.slots → f.turns ≡ i.frame.turns → f.children ≡ i.frame.children → f.depth ≡ i.frame.depth →
      f.own ≡ i.frame.own → f.needs ≡ i.frame.needs → Agrees x params slots aside h s (record i { frame = f })
  agrees_framed f same turns children depth own needs = record {
    names = λ p l. ap (λ xs. get_or xs (slot (where_of params h) p) blank) same ∙ g.names p l;
    hidden = λ p a b. (
      ap (λ xs. get_or xs (counter (where_of params h) p) blank) same ∙ (g.hidden p a b).0,
      ap (λ xs. get_or xs (beside (where_of params h) p) blank) same ∙ (g.hidden p a b).1,
    );
    held = λ k l. ap (λ xs. get_or xs (spare (where_of params h) k) blank) same ∙ g.held k l;
    typed = g.typed;
    inside_store = g.inside_store;
    pointed = g.pointed;
    steady = g.steady;
    under = g.under;
    besides = subst (λ (xs : List MachineValue). AreBeside (λ p. get_or xs (beside (where_of params h) p) blank) i.contents params (length s.store) h.scope.names s.names)
        (sym same) g.besides;
    count = g.count;
    inside = g.inside;
    slots_are = ap length same ∙ g.slots_are;
    turns = turns ∙ g.turns;
    bound = g.bound;
    text = g.text;
    ready = λ k. ap (λ xs. is_pending (get_or xs k blank)) same ∙ g.ready k;
    calls = record {
      few = omega (arith, g.calls.few, turns, children);
      children = children ∙ g.calls.children;
      depth = depth ∙ g.calls.depth;
    };
    result_is = g.result_is;
    answers = g.answers;
    spaces = g.spaces;
    tree_is = g.tree_is;
    memory = subst (λ (n : Needs). Holds x.code s.store (record (memory_of i) { items = n.items })) (sym needs) g.memory;
    framed = subst (λ (n : Needs). IsFramed x s.store f.own (record (memory_of i) { items = n.items })) (sym needs)
        (subst (λ own. IsFramed x s.store own (memory_of i)) (sym own) g.framed);
  }
