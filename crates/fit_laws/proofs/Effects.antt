-- Each instruction with an effect is safe.
use Rattle.std.proofs.Common.{◌≡◌, ℕ, suc, pos, List, ◌∷◌, Bool, true, false, not, Some, sym, subst}
use Rattle.std.specs.Prelude.{slice_get}
use Rattle.std.specs.Ordering.{int_eq}
use Rattle.lane_kernels.specs.declared.numbers.Width.{Width}
use Rattle.regent_tree.specs.declared.expression.Arithmetic.{Arithmetic}
use Rattle.regent_tree.specs.declared.expression.Arithmetic.TheVariants as operator
use Rattle.regent_tree.specs.declared.expression.Comparison.{Comparison}
use Rattle.regent_tree.specs.declared.expression.Comparison.TheVariants as relation
use Rattle.regent_tree.specs.declared.outcome.FaultKind.TheVariants.{AssertFailed}
use Rattle.regent_tree.specs.Numbers.{compared}
use Rattle.regent_tree.specs.Values.{target_kept, is_null_target}
use Rattle.task_code.specs.declared.code.Line.{Line}
use Rattle.task_code.specs.declared.code.TaskCode.{TaskCode}
use Rattle.task_code.specs.declared.instr.Instr.{Instr}
use Rattle.machine_terms.specs.declared.value.Value.{Value}
use Rattle.machine_terms.specs.Machine.{Machine, when, next, faults}
use Rattle.machine_terms.specs.Numbers.{load, discard, arithmetic, comparison}
use Rattle.machine_terms.specs.Pointers.{are_same}
use Rattle.machine_terms.specs.Segments.{act}
use Rattle.code_rules.specs.Instructions.{computing, comparing}
use Rattle.fit_rules.specs.Shapes.{Is, IsPlain, Shape, integer, truth, pointer, numeric_pointer, World, Are, are_more}
use Rattle.fit_rules.specs.Marks.{stacked}
use Rattle.fit_rules.specs.Fits.{Program, Fits}
use Rattle.fit_rules.specs.Sound.{Settled, Effect, does_num, does_load, does_load_as, does_drop, does_compute, does_compare, does_pointers_equal, does_pointers_differ, does_negate, does_wrap, does_invert, does_point, does_is_null, does_assert, does_move, does_element, does_read, does_write, does_reduce, does_fill, does_cast, does_cast_pointer, does_space, does_colors, does_child, does_print, To}
use Rattle.fit_rules.specs.Ends.{Safe, safe_stops}
use Rattle.fit_laws.proofs.Held.{over, plain_held}
use Rattle.fit_laws.proofs.Lookup.{value_at}
use Rattle.fit_laws.proofs.Numbers.{wrapped_fits, truth_is}
use Rattle.fit_laws.proofs.Straight.{safe_next, safe_number, safe_two, pushed, loads, computed_safe, point_safe}
use Rattle.fit_laws.proofs.Access.{read_safe, write_safe, reduce_safe}
use Rattle.fit_laws.proofs.Pointers.{move_safe, element_safe, cast_safe, cast_pointer_safe, space_safe, colors_safe, child_safe}
use Rattle.fit_laws.proofs.Taking.{print_safe}
use Rattle.fit_laws.proofs.Fills.{fill_safe}

module _ (g : Program) (x : World) (t : TaskCode) (k : ℕ) (m : Machine) (fit : Fits g x t k m) where
  asserted : (b : Bool) (line : ℕ) (ss : List Shape) (st : List Value) →
      To g t k (stacked (g.marks k m.frame.pc) ss) (suc m.frame.pc) → Are (over g x k m) ss st →
      Safe g x t k (when b (faults AssertFailed line m) (next st m))
  asserted true line ss st to a = safe_stops _ _ (fit.beside.parts, tt)
  asserted false line ss st to a = safe_next g x t k m fit ss st to a

  load_safe : (ss : List Shape) (i : ℕ) (s : Shape) → Settled s → IsPlain s →
      slice_get (g.marks k m.frame.pc).slots i ≡ Some s →
      To g t k (stacked (g.marks k m.frame.pc) (s ∷ ss)) (suc m.frame.pc) → Are (over g x k m) ss m.frame.stack →
      Safe g x t k (load m (slice_get m.frame.slots i))
  load_safe ss i s l p e to a =
      let v = value_at x _ _ i s fit.suits.slots e in
      subst (λ o. Safe g x t k (load m o)) (sym v.at) (loads g x t k m fit s ss v.value l to (plain_held x _ s v.value p v.of) a)

  load_as_safe : (ss : List Shape) (i : ℕ) (a s : Shape) → Settled s →
      ((v : Value) → slice_get m.frame.slots i ≡ Some v → Is (over g x k m) s v) →
      slice_get (g.marks k m.frame.pc).slots i ≡ Some a →
      To g t k (stacked (g.marks k m.frame.pc) (s ∷ ss)) (suc m.frame.pc) → Are (over g x k m) ss m.frame.stack →
      Safe g x t k (load m (slice_get m.frame.slots i))
  load_as_safe ss i b s l is e to a =
      let v = value_at x _ _ i b fit.suits.slots e in
      subst (λ o. Safe g x t k (load m o)) (sym v.at) (loads g x t k m fit s ss v.value l to (is v.value v.at) a)

  computes : (body : List Line) (o : Arithmetic) (w : Width) (line : ℕ) → Safe g x t k (arithmetic o w line m) →
      Safe g x t k (act g.code body (computing o w) line m)
  computes body operator.Add w line h = h
  computes body operator.Subtract w line h = h
  computes body operator.Multiply w line h = h
  computes body operator.Divide w line h = h
  computes body operator.Remainder w line h = h

  compares : (body : List Line) (c : Comparison) (line : ℕ) → Safe g x t k (comparison c m) →
      Safe g x t k (act g.code body (comparing c false) line m)
  compares body relation.Equal line h = h
  compares body relation.NotEqual line h = h
  compares body relation.Less line h = h
  compares body relation.AtMost line h = h
  compares body relation.Greater line h = h
  compares body relation.AtLeast line h = h

  pub effect_safe : (body : List Line) (i : Instr) (ss us : List Shape) (line : ℕ) →
      Effect g t (g.marks k m.frame.pc) i ss us →
      To g t k (stacked (g.marks k m.frame.pc) us) (suc m.frame.pc) → Are (over g x k m) ss m.frame.stack →
      Safe g x t k (act g.code body i line m)
  effect_safe body _ _ _ line (does_num z s ss h) to a = pushed g x t k m fit s ss z _ to h a
  effect_safe body _ _ _ line (does_load i s ss e l p) to a = load_safe ss i s l p e to a
  effect_safe body _ _ _ line (does_load_as i b s ss e l h) to a =
      load_as_safe ss i b s l (h x m.frame.slots m.frame.stack fit.suits) e to a
  effect_safe body _ _ _ line (does_drop s ss) to a = dropped _ a
    where
      dropped : (st : List Value) → Are (over g x k m) (s ∷ ss) st → Safe g x t k (discard st m)
      dropped _ (are_more _ v _ st h b) = safe_next g x t k m fit ss st to b
  effect_safe body _ _ _ line (does_compute o w c d ss nc nd) to a =
      computes body o w line (safe_two g x t k m fit d c ss m.frame.stack _ a nc nd
      (λ y z st hy hz b. computed_safe g x t k m fit o w ss y z line st to b))
  effect_safe body _ _ _ line (does_compare o c d ss nc nd) to a =
      compares body o line (safe_two g x t k m fit d c ss m.frame.stack _ a nc nd
      (λ y z st hy hz b. pushed g x t k m fit truth ss _ st to (truth_is (compared o y z)) b))
  effect_safe body _ _ _ line (does_pointers_equal c d ss nc nd) to a =
      safe_two g x t k m fit d c ss m.frame.stack _ a nc nd
      (λ y z st hy hz b. pushed g x t k m fit truth ss _ st to (truth_is (are_same y z)) b)
  effect_safe body _ _ _ line (does_pointers_differ c d ss nc nd) to a =
      safe_two g x t k m fit d c ss m.frame.stack _ a nc nd
      (λ y z st hy hz b. pushed g x t k m fit truth ss _ st to (truth_is (not (are_same y z))) b)
  effect_safe body _ _ _ line (does_negate w c ss n) to a = safe_number g x t k m fit c ss m.frame.stack _ n a
      (λ z st h b. pushed g x t k m fit (integer w) ss _ st to (wrapped_fits w _) b)
  effect_safe body _ _ _ line (does_wrap w c ss n) to a = safe_number g x t k m fit c ss m.frame.stack _ n a
      (λ z st h b. pushed g x t k m fit (integer w) ss _ st to (wrapped_fits w z) b)
  effect_safe body _ _ _ line (does_invert c ss n) to a = safe_number g x t k m fit c ss m.frame.stack _ n a
      (λ z st h b. pushed g x t k m fit truth ss _ st to (truth_is (int_eq z (pos 0))) b)
  effect_safe body _ _ _ line (does_point c ss n) to a = safe_number g x t k m fit c ss m.frame.stack _ n a
      (λ z st h b. point_safe g x t k m fit ss z line st to b)
  effect_safe body _ _ _ line (does_is_null c ss n) to a = safe_number g x t k m fit c ss m.frame.stack _ n a
      (λ z st h b. pushed g x t k m fit truth ss _ st to (truth_is (is_null_target (target_kept z))) b)
  effect_safe body _ _ _ line (does_assert c ss n) to a = safe_number g x t k m fit c ss m.frame.stack _ n a
      (λ z st h b. asserted (int_eq z (pos 0)) line ss st to b)
  effect_safe body _ _ _ line (does_move js n l ss h e s) to a =
      safe_number g x t k m fit (pointer n) ss m.frame.stack _ (numeric_pointer n) a
      (λ z st i b. move_safe g x t k m fit js n l ss z st h e s to b i)
  effect_safe body _ _ _ line (does_element i sp c ss h n) to a = safe_number g x t k m fit c ss m.frame.stack _ n a
      (λ z st q b. element_safe g x t k m fit i sp z line ss st h to b)
  effect_safe body _ _ _ line (does_read rs f sp n ss r) to a = read_safe g x t k m fit rs f sp n line ss r to a
  effect_safe body _ _ _ line (does_write rs f sp n ss r) to a = write_safe g x t k m fit rs f sp n line ss r to a
  effect_safe body _ _ _ line (does_reduce rs f sp n o w s ss e ns r) to a =
      reduce_safe g x t k m fit rs f sp n line o w s ss e ns r to a
  effect_safe body _ _ _ line (does_fill i f sp ss h) to a = fill_safe g x t k m fit i f sp ss h to a
  effect_safe body _ _ _ line (does_cast rs sp c ss n h l) to a = safe_number g x t k m fit c ss m.frame.stack _ n a
      (λ z st q b. cast_safe g x t k m fit sp rs z ss st h l to b)
  effect_safe body _ _ _ line (does_cast_pointer rs sp c ss n h l) to a = safe_number g x t k m fit c ss m.frame.stack _ n a
      (λ z st q b. cast_pointer_safe g x t k m fit sp rs (target_kept z) ss st h l to b)
  effect_safe body _ _ _ line (does_space c ss n) to a = safe_number g x t k m fit c ss m.frame.stack _ n a
      (λ z st q b. space_safe g x t k m fit z line ss st to b)
  effect_safe body _ _ _ line (does_colors i sp ss h) to a = colors_safe g x t k m fit i sp ss h to a
  effect_safe body _ _ _ line (does_child i sp c ss h n) to a = child_safe g x t k m fit i line sp c ss h n to a
  effect_safe body _ _ _ line (does_print ps ss args rest h n e) to a =
      print_safe g x t k m fit ps ss args rest h n e to a
