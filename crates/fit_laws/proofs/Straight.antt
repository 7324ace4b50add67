-- Instructions that go on behind themselves and change no slot.
use Rattle.std.proofs.Common.{◌≡◌, ℕ, zero, suc, ◌≤◌, sym, arith, ℤ, pos, negsuc, List, ◌∷◌, Bool, true, false, Some}
use Rattle.std.specs.Ordering.{int_eq}
use Rattle.lane_kernels.specs.declared.numbers.Width.{Width}
use Rattle.lane_kernels.specs.Numbers.{wrapped}
use Rattle.regent_tree.specs.declared.expression.Arithmetic.{Arithmetic}
use Rattle.regent_tree.specs.declared.expression.Arithmetic.TheVariants as arithmetic
use Rattle.regent_tree.specs.Numbers.{computed, unless_zero}
use Rattle.regent_tree.specs.Values.{target_kept}
use Rattle.region_tree.specs.declared.piece.Part.{Part}
use Rattle.task_code.specs.declared.code.TaskCode.{TaskCode}
use Rattle.machine_terms.specs.declared.value.Value.{Value}
use Rattle.machine_terms.specs.declared.value.Value.TheVariants.{Number}
use Rattle.machine_terms.specs.Machine.{Machine, Stepped, at, next, on_number, on_turn, on_two, with_turns}
use Rattle.machine_terms.specs.Numbers.{load, divided}
use Rattle.machine_terms.specs.Pointers.{point}
use Rattle.fit_rules.specs.Shapes.{Shape, integer, index, Numeric, numeric_integer, numeric_truth, numeric_index, numeric_pointer, NumberIs, World, Is, is_number, is_space, is_region, is_partition, is_cut, Are, are_more}
use Rattle.fit_rules.specs.Marks.{TopFact, HoldsTop, Mark, Suits, stacked, topped}
use Rattle.fit_rules.specs.Fits.{Program, Beside, Fits, PartsFit}
use Rattle.fit_rules.specs.Sound.{Settled, settled_number, settled_space, settled_region, settled_partition, settled_cut, To}
use Rattle.fit_rules.specs.Ends.{Safe, safe_goes, safe_stops}
use Rattle.fit_laws.proofs.Held.{over}
use Rattle.fit_laws.proofs.Numbers.{wrapped_fits, small_fits, point_below}

module _ (g : Program) (x : World) (t : TaskCode) (k : ℕ) (m : Machine) (fit : Fits g x t k m) where
  abbrev pub mark : Mark
  mark = g.marks k m.frame.pc

  -- the machine at another place, with other turns, slots, stack and parts
  abbrev pub moved : ℕ → ℕ → List Value → List Value → List Part → Machine
  moved pc p vs st parts = record m {
    frame = record m.frame { pc = pc; stack = st; turns = p; slots = vs };
    parts = parts;
  }

  pub beside_moved : (pc p : ℕ) (vs st : List Value) (parts : List Part) → p ≤ m.frame.turns → PartsFit g x t parts →
      Beside g x t k (moved pc p vs st parts)
  beside_moved pc p vs st parts l h = record {
    task = fit.beside.task;
    needs = fit.beside.needs;
    parts = h;
    children = fit.beside.children;
    calls = omega (arith, l, fit.beside.calls);
    own = fit.beside.own;
    roots = fit.beside.roots;
    begins = fit.beside.begins;
  }

  beside_at : (pc : ℕ) (st : List Value) → Beside g x t k (at pc st m)
  beside_at pc st = beside_moved pc m.frame.turns m.frame.slots st m.parts (omega arith) fit.beside.parts

  pub suits_at : (to : ℕ) (ss : List Shape) (st : List Value) → To g t k (stacked mark ss) to → Are (over g x k m) ss st →
      Suits x t.params (g.marks k to) m.frame.slots st
  suits_at to ss st h a = h.1 x _ st (record {
    slots = fit.suits.slots;
    stack = a;
    facts = fit.suits.facts;
    top = tt;
    args = fit.suits.args;
  })

  pub fits_at : (to : ℕ) (ss : List Shape) (st : List Value) → To g t k (stacked mark ss) to →
      Are (over g x k m) ss st → Fits g x t k (at to st m)
  fits_at to ss st h a = record { inside = h.0; suits = suits_at to ss st h a; beside = beside_at to st }

  pub fits_topped : (to : ℕ) (ss : List Shape) (st : List Value) (f : TopFact) → To g t k (topped mark ss f) to →
      Are (over g x k m) ss st → HoldsTop f m.frame.slots st → Fits g x t k (at to st m)
  fits_topped to ss st f h a y = record {
    inside = h.0;
    suits = h.1 x _ st (record {
      slots = fit.suits.slots;
      stack = a;
      facts = fit.suits.facts;
      top = (y, tt);
      args = fit.suits.args;
    });
    beside = beside_at to st;
  }

  -- a turn is taken, or the turns are used up
  pub turned : (n line : ℕ) (more : Machine → Stepped) → m.frame.turns ≡ n →
      ((p : ℕ) → suc p ≡ m.frame.turns → Safe g x t k (more (with_turns p m))) → Safe g x t k (on_turn n line m more)
  turned zero line more e h = safe_stops _ _ (fit.beside.parts, tt)
  turned (suc p) line more e h = h p (sym e)

  pub safe_next : (ss : List Shape) (st : List Value) → To g t k (stacked mark ss) (suc m.frame.pc) →
      Are (over g x k m) ss st → Safe g x t k (next st m)
  safe_next ss st h a = safe_goes _ (fits_at (suc m.frame.pc) ss st h a)

  -- a number on the stack
  pub safe_number : (s : Shape) (ss : List Shape) (st : List Value) (more : ℤ → List Value → Stepped) →
      Numeric s → Are (over g x k m) (s ∷ ss) st →
      ((z : ℤ) (rest : List Value) → NumberIs s z → Are (over g x k m) ss rest → Safe g x t k (more z rest)) →
      Safe g x t k (on_number st m more)
  safe_number _ ss _ more (numeric_integer w) (are_more _ _ _ _ (is_number _ z h) a) f = f z _ h a
  safe_number _ ss _ more numeric_truth (are_more _ _ _ _ (is_number _ z h) a) f = f z _ h a
  safe_number _ ss _ more numeric_index (are_more _ _ _ _ (is_number _ z h) a) f = f z _ h a
  safe_number _ ss _ more (numeric_pointer n) (are_more _ _ _ _ (is_number _ z h) a) f = f z _ h a

  pub safe_two : (b a : Shape) (ss : List Shape) (st : List Value) (more : ℤ → ℤ → List Value → Stepped) →
      Are (over g x k m) (b ∷ a ∷ ss) st → Numeric a → Numeric b →
      ((y z : ℤ) (rest : List Value) → NumberIs a y → NumberIs b z → Are (over g x k m) ss rest →
      Safe g x t k (more y z rest)) → Safe g x t k (on_two st m more)
  safe_two b a ss st more h na nb f = safe_number b (a ∷ ss) st _ nb h (λ z rest hz i.
      safe_number a ss rest _ na i (λ y last hy j. f y z last hy hz j))

  -- a number is pushed
  pub pushed : (s : Shape) (ss : List Shape) (z : ℤ) (st : List Value) →
      To g t k (stacked mark (s ∷ ss)) (suc m.frame.pc) → NumberIs s z → Are (over g x k m) ss st →
      Safe g x t k (next (Number z ∷ st) m)
  pushed s ss z st h i a = safe_next (s ∷ ss) _ h (are_more s _ ss st (is_number s z i) a)

  -- ---- loads

  pub loads : (s : Shape) (ss : List Shape) (v : Value) → Settled s →
      To g t k (stacked mark (s ∷ ss)) (suc m.frame.pc) → Is (over g x k m) s v → Are (over g x k m) ss m.frame.stack →
      Safe g x t k (load m (Some v))
  loads _ ss _ (settled_number _ (numeric_integer w)) h (is_number _ z i) a = pushed _ ss z _ h i a
  loads _ ss _ (settled_number _ numeric_truth) h (is_number _ z i) a = pushed _ ss z _ h i a
  loads _ ss _ (settled_number _ numeric_index) h (is_number _ z i) a = pushed _ ss z _ h i a
  loads _ ss _ (settled_number _ (numeric_pointer n)) h (is_number _ z i) a = pushed _ ss z _ h i a
  loads _ ss _ settled_space h (is_space n i) a =
      safe_next _ _ h (are_more _ _ _ _ (is_space n i) a)
  loads _ ss _ settled_space h (is_number _ z i) a = absurd i
  loads _ ss _ (settled_region sp d) h (is_region _ _ r i) a =
      safe_next _ _ h (are_more _ _ _ _ (is_region sp d r i) a)
  loads _ ss _ (settled_region sp d) h (is_number _ z i) a = absurd i
  loads _ ss _ (settled_partition sp d) h (is_partition _ _ r i) a =
      safe_next _ _ h (are_more _ _ _ _ (is_partition sp d r i) a)
  loads _ ss _ (settled_partition sp d) h (is_number _ z i) a = absurd i
  loads _ ss _ (settled_cut sp d o) h (is_cut _ _ _ r i c) a =
      safe_next _ _ h (are_more _ _ _ _ (is_cut sp d o r i c) a)
  loads _ ss _ (settled_cut sp d o) h (is_number _ z i) a = absurd i

  -- ---- arithmetic

  quotient : (w : Width) (ss : List Shape) (b : Bool) (z : ℤ) (line : ℕ) (st : List Value) →
      To g t k (stacked mark (integer w ∷ ss)) (suc m.frame.pc) → Are (over g x k m) ss st →
      Safe g x t k (divided (unless_zero b (wrapped w z)) line st m)
  quotient w ss true z line st h a = safe_stops _ _ (fit.beside.parts, tt)
  quotient w ss false z line st h a = pushed (integer w) ss _ st h (wrapped_fits w z) a

  pub computed_safe : (o : Arithmetic) (w : Width) (ss : List Shape) (y z : ℤ) (line : ℕ) (st : List Value) →
      To g t k (stacked mark (integer w ∷ ss)) (suc m.frame.pc) → Are (over g x k m) ss st →
      Safe g x t k (divided (computed o w y z) line st m)
  computed_safe arithmetic.Add w ss y z line st h a = pushed (integer w) ss _ st h (wrapped_fits w _) a
  computed_safe arithmetic.Subtract w ss y z line st h a = pushed (integer w) ss _ st h (wrapped_fits w _) a
  computed_safe arithmetic.Multiply w ss y z line st h a = pushed (integer w) ss _ st h (wrapped_fits w _) a
  computed_safe arithmetic.Divide w ss y z line st h a = quotient w ss (int_eq z (pos 0)) _ line st h a
  computed_safe arithmetic.Remainder w ss y z line st h a = quotient w ss (int_eq z (pos 0)) _ line st h a

  -- ---- pointers

  pub point_safe : (ss : List Shape) (z : ℤ) (line : ℕ) (st : List Value) →
      To g t k (stacked mark (index ∷ ss)) (suc m.frame.pc) → Are (over g x k m) ss st →
      Safe g x t k (point (target_kept z) line st m)
  point_safe ss (pos n) line st h a = pushed index ss _ st h (small_fits _ (point_below n)) a
  point_safe ss (negsuc n) line st h a = safe_stops _ _ (fit.beside.parts, tt)
