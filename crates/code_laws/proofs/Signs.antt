-- Prefixes: of truths and integers, and a minus before an index or a pointer's point.
use Rattle.std.proofs.Common.{ℕ, suc, List, [], ◌∷◌, refl, subst}
use Rattle.std.proofs.lemmas.Int.{SFits-int_wrap}
use Rattle.lane_kernels.specs.Numbers.{std_width}
use Rattle.lane_kernels.specs.declared.numbers.Width.TheVariants.{W64}
use Rattle.regent_tree.specs.Accesses.{standing}
use Rattle.regent_tree.specs.Operators.{all_signed, negated}
use Rattle.regent_tree.specs.Running.{Here, State, and_then, given}
use Rattle.regent_tree.specs.Typing.{counting_as, signed_type, width_of_type}
use Rattle.regent_tree.specs.Values.{Value}
use Rattle.regent_tree.specs.declared.expression.Sign.{Sign}
use Rattle.regent_tree.specs.declared.expression.Sign.TheVariants.{Minus, Not}
use Rattle.regent_tree.specs.declared.typing.StaticType.{StaticType}
use Rattle.task_code.specs.declared.instr.Instr.TheVariants as instr
use Rattle.machine_terms.specs.declared.order.Instance.{Instance}
use Rattle.machine_terms.specs.declared.value.Value.{Value as MachineValue}
use Rattle.code_rules.specs.Instructions.{signs_code, standing_code}
use Rattle.code_rules.specs.Pieces.{op, past, ◌⨟◌}
use Rattle.code_laws.specs.Pointers.{AllMinus, HasSigns, IsCounting, counts_number, counts_pointer, signs_counted, signs_plain}
use Rattle.code_laws.specs.Simple.{number_index, number_integer}
use Rattle.code_laws.specs.Standing.{Agrees, Aside, IsOf, SlotsFit, Stands, machine_value, of_index, where_of}
use Rattle.code_laws.specs.Steps.{Leads, Setting}
use Rattle.code_laws.proofs.Counting.{stands_runs}
use Rattle.code_laws.proofs.Good.{Gives, Good, valued}
use Rattle.code_laws.proofs.Operations.{minus_runs, minus_typed, plain_signs, same_type, signs_run, signs_typed, standing_runs}
use Rattle.code_laws.proofs.Runs.{comes_said, leads_by, leads_none, leads_twice, then}

module _ (x : Setting) (params slots : ℕ) (fit : SlotsFit x slots) {deep : ℕ} (aside : Aside deep) where
  -- a minus before what stands for a number
  one_minus : (t : StaticType) (u : Value) (pc line : ℕ) (st : List MachineValue) (i : Instance) → IsCounting t → IsOf (counting_as t) u →
      Stands x.body pc (op (instr.Neg (width_of_type t)) line) →
      Leads x (valued pc st u i) (valued (suc pc) st (negated u) i) × IsOf (counting_as t) (negated u)
  one_minus _ u pc line st i (counts_number _ (number_integer w)) o f =
      (minus_runs x params slots fit aside w u pc line st i o f, minus_typed x params slots fit aside w u o)
  one_minus _ _ pc line st i (counts_number _ (number_index k)) (of_index _ z p) f =
      (leads_by x _ _ (instr.Neg W64) line f refl, of_index k _ (SFits-int_wrap (std_width W64) _))
  one_minus _ _ pc line st i (counts_pointer k sp args rs) (of_index _ z p) f =
      (leads_by x _ _ (instr.Neg W64) line f refl, of_index k _ (SFits-int_wrap (std_width W64) _))

  all_minus : (h : Here) (t : StaticType) (ss : List Sign) (u : Value) (pc : ℕ) (st : List MachineValue) (i : Instance) → IsCounting t →
      AllMinus ss → IsOf (counting_as t) u → Stands x.body pc (signs_code (where_of params h) t ss) →
      Leads x (valued pc st u i) (valued (past (signs_code (where_of params h) t ss) pc) st (all_signed ss u) i)
      × IsOf (counting_as t) (all_signed ss u)
  all_minus h t [] u pc st i c m o f = (leads_none x _, o)
  all_minus h t (Minus ∷ ss) u pc st i c m o f =
      let more = all_minus h t ss u pc st i c m o f.0 in
      let one = one_minus t (all_signed ss u) _ h.line st i c more.1 f.1 in
      (leads_twice x more.0 one.0, one.1)
  all_minus h t (Not ∷ ss) u pc st i c m o f = absurd m

  pub prefixed_runs : (h : Here) (t : StaticType) (signs : List Sign) (v : Value) (s : State) (pc : ℕ) (st : List MachineValue)
      (i : Instance) → HasSigns t signs → IsOf t v → Agrees x params slots aside h s i →
      Stands x.body pc (standing_code (where_of params h) t ⨟ signs_code (where_of params h) t signs) →
      Gives x params slots fit aside h (signed_type signs t)
      (standing_code (where_of params h) t ⨟ signs_code (where_of params h) t signs) pc (machine_value i.contents v ∷ st) st i
      (and_then (standing h v s) (λ u. given (all_signed signs u)))
  prefixed_runs h t signs v s pc st i (signs_plain _ _ p) o g f =
      then x (comes_said x _ (Good x params slots fit aside h (signed_type signs t))) _ _ _ (standing h v s) _
      (standing_runs x params slots fit aside h t v s pc st i (plain_signs x params slots fit aside t signs p) o g)
      (λ u s2 j2 k2. (
        j2,
        signs_run x params slots fit aside h t signs u _ st j2 p k2.0 f.1,
        (
          subst (λ a. IsOf a (all_signed signs u)) (same_type x params slots fit aside t signs p)
              (signs_typed x params slots fit aside t signs u p k2.0),
          k2.1,
        ),
      ))
  prefixed_runs h t _ v s pc st i (signs_counted _ ss c m) o g f =
      then x (comes_said x _ (Good x params slots fit aside h (counting_as t))) _ _ _ (standing h v s) _
      (stands_runs x params slots fit aside h t v s pc st i c o g f.0)
      (λ u s2 j2 k2.
      let r = all_minus h t (Minus ∷ ss) u _ st j2 c m k2.0 f.1 in
      (j2, r.0, (r.1, k2.1)))
