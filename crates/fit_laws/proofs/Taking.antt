-- Values that are taken from the stack, and prints.
use Rattle.std.proofs.Common.{◌≡◌, ℕ, zero, suc, List, [], ◌∷◌, true, false, Some, refl, sym, ap, ◌∙◌, subst, arith, slice_get}
use Rattle.std.specs.Prelude.{length}
use Rattle.std.specs.Fmt.{signed_decimal}
use Rattle.task_code.specs.declared.code.TaskCode.{TaskCode}
use Rattle.task_code.specs.declared.instr.PrintPart.{PrintPart}
use Rattle.task_code.specs.declared.instr.PrintPart.TheVariants as part
use Rattle.machine_terms.specs.declared.value.Value.{Value}
use Rattle.machine_terms.specs.Machine.{Machine}
use Rattle.machine_terms.specs.Calls.{Taken, few, taken, is_pending, take_values, count_numbers, text_of, before_text, writing, printing, print}
use Rattle.machine_terms.specs.Pointers.{region_in}
use Rattle.std.proofs.lemmas.Option.{none-some, same_Some}
use Rattle.fit_rules.specs.Shapes.{Each, Shape, Numeric, numeric_integer, numeric_truth, numeric_index, numeric_pointer, World, Is, is_number, is_space, is_region, is_partition, is_cut, Are, are_none, are_more}
use Rattle.fit_rules.specs.Marks.{stacked}
use Rattle.fit_rules.specs.Fits.{Program, Fits}
use Rattle.fit_rules.specs.Sound.{Settled, settled_number, settled_space, settled_region, settled_partition, settled_cut, Takes, takes_none, takes_more, To}
use Rattle.fit_rules.specs.Ends.{Safe, safe_prints}
use Rattle.fit_laws.proofs.Held.{over}
use Rattle.fit_laws.proofs.Straight.{fits_at}
use Rattle.machine_terms.specs.declared.value.RegionValue.{RegionValue}

-- what is taken is settled
pub takes_settled : (n : ℕ) (ss us args rest : List Shape) → Takes n ss us args rest → Each Settled us → Each Settled args
takes_settled _ _ _ _ _ (takes_none ss us) d = d
takes_settled _ _ _ _ _ (takes_more n s ss us args rest one more) d = takes_settled n ss (s ∷ us) args rest more (one, d)

module _ (x : World) where
  -- a settled value isn't pending
  pub at_hand : (s : Shape) (v : Value) → Settled s → Is x s v → is_pending v ≡ false
  at_hand _ _ (settled_number _ (numeric_integer w)) (is_number _ z h) = refl
  at_hand _ _ (settled_number _ numeric_truth) (is_number _ z h) = refl
  at_hand _ _ (settled_number _ numeric_index) (is_number _ z h) = refl
  at_hand _ _ (settled_number _ (numeric_pointer n)) (is_number _ z h) = refl
  at_hand _ _ settled_space (is_number _ z h) = refl
  at_hand _ _ settled_space (is_space n h) = refl
  at_hand _ _ (settled_region sp o) (is_number _ z h) = refl
  at_hand _ _ (settled_region sp o) (is_region _ _ r h) = refl
  at_hand _ _ (settled_partition sp d) (is_number _ z h) = refl
  at_hand _ _ (settled_partition sp d) (is_partition _ _ q h) = refl
  at_hand _ _ (settled_cut sp d o) (is_number _ z h) = refl
  at_hand _ _ (settled_cut sp d o) (is_cut _ _ _ q h c) = refl

  -- and a region that is at hand is of a root that is there
  pub one_there : (s : Shape) (v : Value) (r : RegionValue) → Settled s → Is x s v → region_in (Some v) ≡ Some r → x.there r.root.0 ≡ true
  one_there _ _ r (settled_number _ (numeric_integer w)) (is_number _ z h) e = absurd (none-some r e)
  one_there _ _ r (settled_number _ numeric_truth) (is_number _ z h) e = absurd (none-some r e)
  one_there _ _ r (settled_number _ numeric_index) (is_number _ z h) e = absurd (none-some r e)
  one_there _ _ r (settled_number _ (numeric_pointer n)) (is_number _ z h) e = absurd (none-some r e)
  one_there _ _ r settled_space (is_number _ z h) e = absurd (none-some r e)
  one_there _ _ r settled_space (is_space n h) e = absurd (none-some r e)
  one_there _ _ r (settled_region sp o) (is_number _ z h) e = absurd (none-some r e)
  one_there _ _ r (settled_region sp o) (is_region _ _ q h) e = subst (λ (y : RegionValue). x.there y.root.0 ≡ true) (same_Some q r e) h.there
  one_there _ _ r (settled_partition sp d) (is_number _ z h) e = absurd (none-some r e)
  one_there _ _ r (settled_partition sp d) (is_partition _ _ q h) e = absurd (none-some r e)
  one_there _ _ r (settled_cut sp d o) (is_number _ z h) e = absurd (none-some r e)
  one_there _ _ r (settled_cut sp d o) (is_cut _ _ _ q h c) e = absurd (none-some r e)

  pub all_there : (ss : List Shape) (vs : List Value) → Each Settled ss → Are x ss vs → (i : ℕ) (r : RegionValue) →
      region_in (slice_get vs i) ≡ Some r → x.there r.root.0 ≡ true
  all_there _ _ d are_none i r e = absurd (none-some r e)
  all_there _ _ d (are_more s v ss vs h a) zero r e = one_there s v r d.0 h e
  all_there _ _ d (are_more s v ss vs h a) (suc i) r e = all_there ss vs d.1 a i r e

  pub record TakenAs (args rest : List Shape) (o : Taken) : Type 0 where
    pub values : List Value
    pub below : List Value
    pub is : o ≡ taken values below
    pub args_are : Are x args values
    pub rest_are : Are x rest below

  pub takes_values : (n : ℕ) (ss us args rest : List Shape) (st vs : List Value) → Takes n ss us args rest →
      Are x ss st → Are x us vs → TakenAs args rest (take_values n st vs)
  takes_values _ _ _ _ _ st vs (takes_none ss us) a b =
      record { values = vs; below = st; is = refl; args_are = b; rest_are = a }
  takes_values _ _ _ _ _ _ vs (takes_more n s ss us args rest d more) (are_more _ v _ st h a) b =
      let w = takes_values n ss (s ∷ us) args rest st (v ∷ vs) more a (are_more s v us vs h b) in
      record {
        values = w.values;
        below = w.below;
        is = ap (λ p. elim p [ true ↦ few | false ↦ take_values n st (v ∷ vs) ]) (at_hand s v d h) ∙ w.is;
        args_are = w.args_are;
        rest_are = w.rest_are;
      }

  -- numbers have a text
  pub record TextOf (ps : List PrintPart) (vs : List Value) : Type 0 where
    pub text : List ℕ
    pub is : text_of ps vs ≡ Some text

  pub texts : (ps : List PrintPart) (ss : List Shape) (vs : List Value) → Each Numeric ss → Are x ss vs →
      length ss ≡ count_numbers ps → TextOf ps vs
  texts [] ss vs n a e = record { text = []; is = refl }
  texts (part.Text bytes ∷ ps) ss vs n a e =
      let w = texts ps ss vs n a e in record { text = _; is = ap (before_text bytes) w.is }
  texts (part.Number ∷ ps) _ _ n are_none e = absurd (omega (arith, e))
  texts (part.Number ∷ ps) _ _ n (are_more s v ss vs h a) e =
      of_number s v n.0 h (texts ps ss vs n.1 a (omega (arith, e)))
    where
      of_number : (s : Shape) (v : Value) → Numeric s → Is x s v → TextOf ps vs →
          TextOf (part.Number ∷ ps) (v ∷ vs)
      of_number _ _ (numeric_integer w) (is_number _ z h) m =
          record { text = _; is = ap (before_text (signed_decimal z)) m.is }
      of_number _ _ numeric_truth (is_number _ z h) m =
          record { text = _; is = ap (before_text (signed_decimal z)) m.is }
      of_number _ _ numeric_index (is_number _ z h) m =
          record { text = _; is = ap (before_text (signed_decimal z)) m.is }
      of_number _ _ (numeric_pointer n) (is_number _ z h) m =
          record { text = _; is = ap (before_text (signed_decimal z)) m.is }

module _ (g : Program) (x : World) (t : TaskCode) (k : ℕ) (m : Machine) (fit : Fits g x t k m) where
  pub print_safe : (ps : List PrintPart) (ss args rest : List Shape) → Takes (count_numbers ps) ss [] args rest →
      Each Numeric args → length args ≡ count_numbers ps →
      To g t k (stacked (g.marks k m.frame.pc) rest) (suc m.frame.pc) → Are (over g x k m) ss m.frame.stack →
      Safe g x t k (print ps m)
  print_safe ps ss args rest h n e to a =
      let w = takes_values (over g x k m) (count_numbers ps) ss [] args rest m.frame.stack [] h a are_none in
      let u = texts (over g x k m) ps args w.values n w.args_are e in
      subst (λ o. Safe g x t k (printing ps o m)) (sym w.is)
      (subst (λ o. Safe g x t k (writing o w.below m)) (sym u.is)
      (safe_prints u.text _ (fits_at g x t k m fit (suc m.frame.pc) rest w.below to w.rest_are)))
