-- Comparisons: of numbers and truths, of pointers by their points, and of two pointers with each other.
use Rattle.std.proofs.Common.{◌≡◌, ℕ, suc, List, ◌∷◌, Bool, true, false, refl, ap, ◌∙◌}
use Rattle.std.specs.Prelude.{cond, not}
use Rattle.regent_tree.specs.Operators.{combined, operand}
use Rattle.regent_tree.specs.Running.{Here, State}
use Rattle.regent_tree.specs.Typing.{are_pointers, counting_as}
use Rattle.regent_tree.specs.Values.{Target, Value, a_truth, kept_target, kept_truth, null_target, point_target, same_target, target_kept}
use Rattle.regent_tree.specs.declared.expression.Comparison.{Comparison}
use Rattle.regent_tree.specs.declared.expression.Operator.TheVariants.{Compare}
use Rattle.regent_tree.specs.declared.typing.StaticType.{StaticType}
use Rattle.regent_tree.specs.declared.typing.StaticType.TheVariants.{Index as index_type, Integer as integer_type, Truth as truth_type}
use Rattle.task_code.specs.declared.instr.Instr.TheVariants as instr
use Rattle.machine_terms.specs.declared.order.Contents.{Contents}
use Rattle.machine_terms.specs.declared.order.Instance.{Instance}
use Rattle.machine_terms.specs.declared.order.Resumed.TheVariants.{GoesOn}
use Rattle.machine_terms.specs.declared.value.Value.{Value as MachineValue}
use Rattle.machine_terms.specs.declared.value.Value.TheVariants as machine
use Rattle.code_rules.specs.Instructions.{one, operand_code, operating}
use Rattle.value_laws.specs.Shapes.{IsPosition}
use Rattle.code_laws.specs.Pointers.{AreCompared, IsCounting, IsPointer, a_pointer_type, compared_different, compared_equal, compared_left, compared_plain, compared_right, counts_number, counts_pointer}
use Rattle.code_laws.specs.Simple.{compare_numbers, compare_truths, number_index, number_integer}
use Rattle.code_laws.specs.Standing.{Agrees, Aside, IsOf, SlotsFit, Stands, machine_value, of_pointer, of_truth, where_of}
use Rattle.code_laws.specs.Steps.{Setting, placed}
use Rattle.code_laws.proofs.Accesses.{kept_round}
use Rattle.code_laws.proofs.Counting.{stands_runs}
use Rattle.code_laws.proofs.Good.{Gives, pushes}
use Rattle.code_laws.proofs.Operations.{compare_runs}
use Rattle.code_laws.proofs.Runs.{leads_none}

-- an operand stays a pointer, or stands for a number
pub data FitsOperand : Bool → StaticType → Type 0 where
  stands : (t : StaticType) → IsCounting t → FitsOperand false t
  is_truth : FitsOperand false truth_type
  stays : (t : StaticType) → IsPointer t → FitsOperand true t

pub left_fits : (c : Comparison) (t u : StaticType) → AreCompared c t u → FitsOperand (are_pointers t u) t
left_fits c _ _ (compared_plain _ _ _ (compare_numbers _ _ (number_integer w) m)) = stands _ (counts_number _ (number_integer w))
left_fits c _ _ (compared_plain _ _ _ (compare_numbers _ _ (number_index k) m)) = stands _ (counts_number _ (number_index k))
left_fits c _ _ (compared_plain _ _ _ compare_truths) = is_truth
left_fits c _ _ (compared_left _ k sp args rs _ (number_integer w)) = stands _ (counts_pointer k sp args rs)
left_fits c _ _ (compared_left _ k sp args rs _ (number_index j)) = stands _ (counts_pointer k sp args rs)
left_fits c _ _ (compared_right _ _ k sp args rs (number_integer w)) = stands _ (counts_number _ (number_integer w))
left_fits c _ _ (compared_right _ _ k sp args rs (number_index j)) = stands _ (counts_number _ (number_index j))
left_fits _ _ _ (compared_equal _ _ (a_pointer_type k sp args rs n) (a_pointer_type k2 sp2 args2 rs2 n2)) = stays _ (a_pointer_type k sp args rs n)
left_fits _ _ _ (compared_different _ _ (a_pointer_type k sp args rs n) (a_pointer_type k2 sp2 args2 rs2 n2)) = stays _ (a_pointer_type k sp args rs n)

pub right_fits : (c : Comparison) (t u : StaticType) → AreCompared c t u → FitsOperand (are_pointers t u) u
right_fits c _ _ (compared_plain _ _ _ (compare_numbers _ _ (number_integer w) m)) = stands _ (counts_number _ m)
right_fits c _ _ (compared_plain _ _ _ (compare_numbers _ _ (number_index k) m)) = stands _ (counts_number _ m)
right_fits c _ _ (compared_plain _ _ _ compare_truths) = is_truth
right_fits c _ _ (compared_left _ k sp args rs _ (number_integer w)) = stands _ (counts_number _ (number_integer w))
right_fits c _ _ (compared_left _ k sp args rs _ (number_index j)) = stands _ (counts_number _ (number_index j))
right_fits c _ _ (compared_right _ _ k sp args rs (number_integer w)) = stands _ (counts_pointer k sp args rs)
right_fits c _ _ (compared_right _ _ k sp args rs (number_index j)) = stands _ (counts_pointer k sp args rs)
right_fits _ _ _ (compared_equal _ _ (a_pointer_type k sp args rs n) (a_pointer_type k2 sp2 args2 rs2 n2)) = stays _ (a_pointer_type k2 sp2 args2 rs2 n2)
right_fits _ _ _ (compared_different _ _ (a_pointer_type k sp args rs n) (a_pointer_type k2 sp2 args2 rs2 n2)) = stays _ (a_pointer_type k2 sp2 args2 rs2 n2)

-- the type of an operand where it is compared
abbrev pub operand_type : Bool → StaticType → StaticType
operand_type b t = cond b t (counting_as t)

target_round : (n : ℕ) (tg : Target) → IsPosition n tg → target_kept (kept_target tg) ≡ tg
target_round n null_target o = refl
target_round n (point_target p i) o = kept_round p i o.0

module _ (x : Setting) (params slots : ℕ) (fit : SlotsFit x slots) {deep : ℕ} (aside : Aside deep) where
  pub operand_runs : (h : Here) (b : Bool) (t : StaticType) (v : Value) (s : State) (pc : ℕ) (st : List MachineValue) (i : Instance) →
      FitsOperand b t → IsOf t v → Agrees x params slots aside h s i → Stands x.body pc (operand_code (where_of params h) b t) →
      Gives x params slots fit aside h (operand_type b t) (operand_code (where_of params h) b t) pc (machine_value i.contents v ∷ st) st i
      (operand h b v s)
  operand_runs h _ _ v s pc st i (stands t p) o g f = stands_runs x params slots fit aside h t v s pc st i p o g f
  operand_runs h _ _ _ s pc st i is_truth (of_truth b) g f = (i, leads_none x _, (of_truth b, g))
  operand_runs h _ _ v s pc st i (stays t p) o g f = (i, leads_none x _, (o, g))

  -- two pointers are compared by their points
  same_points : (a b : Target) (n m : ℕ) → IsPosition n a → IsPosition m b →
      same_target (target_kept (kept_target a)) (target_kept (kept_target b)) ≡ same_target a b
  same_points a b n m p q = ap (λ t. same_target t (target_kept (kept_target b))) (target_round n a p) ∙ ap (same_target a) (target_round m b q)

  pub compared_runs : (below : Contents) (h : Here) (c : Comparison) (t u : StaticType) (v w : Value) (s : State) (pc : ℕ)
      (st : List MachineValue) (i : Instance) → AreCompared c t u → IsOf (operand_type (are_pointers t u) t) v →
      IsOf (operand_type (are_pointers t u) u) w → Agrees x params slots aside h s i →
      Stands x.body pc (one (where_of params h) (operating (Compare c) t u)) →
      Gives x params slots fit aside h truth_type (one (where_of params h) (operating (Compare c) t u)) pc
      (machine_value i.contents w ∷ machine_value below v ∷ st) st i (combined h (Compare c) v w s)
  compared_runs below h c _ _ v w s pc st i (compared_plain _ _ _ (compare_numbers _ _ (number_integer a) (number_integer b))) p q g f =
      compare_runs x params slots fit aside below h c _ _ v w s pc st i (compare_numbers _ _ (number_integer a) (number_integer b)) p q g f
  compared_runs below h c _ _ v w s pc st i (compared_plain _ _ _ (compare_numbers _ _ (number_integer a) (number_index b))) p q g f =
      compare_runs x params slots fit aside below h c _ _ v w s pc st i (compare_numbers _ _ (number_integer a) (number_index b)) p q g f
  compared_runs below h c _ _ v w s pc st i (compared_plain _ _ _ (compare_numbers _ _ (number_index a) (number_integer b))) p q g f =
      compare_runs x params slots fit aside below h c _ _ v w s pc st i (compare_numbers _ _ (number_index a) (number_integer b)) p q g f
  compared_runs below h c _ _ v w s pc st i (compared_plain _ _ _ (compare_numbers _ _ (number_index a) (number_index b))) p q g f =
      compare_runs x params slots fit aside below h c _ _ v w s pc st i (compare_numbers _ _ (number_index a) (number_index b)) p q g f
  compared_runs below h c _ _ v w s pc st i (compared_plain _ _ _ compare_truths) p q g f =
      compare_runs x params slots fit aside below h c _ _ v w s pc st i compare_truths p q g f
  compared_runs below h c _ _ v w s pc st i (compared_left _ k sp args rs _ (number_integer b)) p q g f =
      compare_runs x params slots fit aside below h c (index_type k) (integer_type b) v w s pc st i (compare_numbers _ _ (number_index k) (number_integer b)) p q g f
  compared_runs below h c _ _ v w s pc st i (compared_left _ k sp args rs _ (number_index b)) p q g f =
      compare_runs x params slots fit aside below h c (index_type k) (index_type b) v w s pc st i (compare_numbers _ _ (number_index k) (number_index b)) p q g f
  compared_runs below h c _ _ v w s pc st i (compared_right _ _ k sp args rs (number_integer a)) p q g f =
      compare_runs x params slots fit aside below h c (integer_type a) (index_type k) v w s pc st i (compare_numbers _ _ (number_integer a) (number_index k)) p q g f
  compared_runs below h c _ _ v w s pc st i (compared_right _ _ k sp args rs (number_index a)) p q g f =
      compare_runs x params slots fit aside below h c (index_type a) (index_type k) v w s pc st i (compare_numbers _ _ (number_index a) (number_index k)) p q g f
  compared_runs below h _ _ _ _ _ s pc st i (compared_equal _ _ (a_pointer_type k sp args rs n) (a_pointer_type k2 sp2 args2 rs2 n2))
      (of_pointer _ _ _ _ a us p) (of_pointer _ _ _ _ b vs q) g f =
      pushes x params slots fit aside h truth_type (a_truth (same_target a b)) s pc _ st i instr.PtrEq h.line f (of_truth _) g
      (ap (λ e. GoesOn (placed (suc pc) (machine.Number (kept_truth e) ∷ st) i)) (same_points a b _ _ p q))
  compared_runs below h _ _ _ _ _ s pc st i (compared_different _ _ (a_pointer_type k sp args rs n) (a_pointer_type k2 sp2 args2 rs2 n2))
      (of_pointer _ _ _ _ a us p) (of_pointer _ _ _ _ b vs q) g f =
      pushes x params slots fit aside h truth_type (a_truth (not (same_target a b))) s pc _ st i instr.PtrNe h.line f (of_truth _) g
      (ap (λ e. GoesOn (placed (suc pc) (machine.Number (kept_truth (not e)) ∷ st) i)) (same_points a b _ _ p q))
