-- What counts as a number: a pointer becomes its point, and null is a fault.
use Rattle.std.proofs.Common.{ℕ, ◌^◌, ◌<◌, pos, List, ◌∷◌, Some, ap, arith}
use Rattle.std.proofs.lemmas.Int.{ints}
use Rattle.lane_kernels.specs.Numbers.{FitsWidth}
use Rattle.lane_kernels.specs.declared.numbers.Width.TheVariants.{W64}
use Rattle.regent_tree.specs.Accesses.{converted, standing}
use Rattle.regent_tree.specs.Operators.{as_number, combined}
use Rattle.regent_tree.specs.Running.{Here, State, gives}
use Rattle.regent_tree.specs.StaticTypes.{number_type}
use Rattle.regent_tree.specs.Typing.{counting_as, operated}
use Rattle.regent_tree.specs.Values.{Region, Target, Value, a_pointer, an_index, kept_target, null_target, point_target}
use Rattle.regent_tree.specs.declared.expression.Arithmetic.{Arithmetic}
use Rattle.regent_tree.specs.declared.expression.Operator.TheVariants.{Compute}
use Rattle.regent_tree.specs.declared.outcome.FaultKind.TheVariants.{NullPointer}
use Rattle.regent_tree.specs.declared.types.Kind.{Kind}
use Rattle.regent_tree.specs.declared.types.NumberTerm.{NumberTerm}
use Rattle.regent_tree.specs.declared.typing.StaticType.{StaticType}
use Rattle.regent_tree.specs.declared.typing.StaticType.TheVariants.{Index as index_type, Integer as integer_type}
use Rattle.task_code.specs.declared.instr.Instr.TheVariants as instr
use Rattle.machine_terms.specs.declared.order.Contents.{Contents}
use Rattle.machine_terms.specs.declared.order.Ended.TheVariants.{Broke}
use Rattle.machine_terms.specs.declared.order.Instance.{Instance}
use Rattle.machine_terms.specs.declared.order.Resumed.TheVariants.{IsOver}
use Rattle.machine_terms.specs.declared.value.Value.{Value as MachineValue}
use Rattle.machine_terms.specs.declared.value.Value.TheVariants as machine
use Rattle.machine_terms.specs.Pointers.{point}
use Rattle.code_rules.specs.Instructions.{as_number_code, converted_code, one, operating, standing_code}
use Rattle.code_rules.specs.Pieces.{op, past}
use Rattle.value_laws.specs.Shapes.{IsPosition}
use Rattle.code_laws.specs.Pointers.{GoesInto, IsCounting, IsNumberTerm, counts_number, counts_pointer, fills_alike, fills_index, into_index, into_plain, into_space, term_index, term_integer}
use Rattle.code_laws.specs.Simple.{number_index, number_integer}
use Rattle.code_laws.specs.Standing.{Agrees, Aside, Comes, IsOf, SlotsFit, Stands, machine_value, of_index, of_integer, of_pointer, of_space, where_of}
use Rattle.code_laws.specs.Steps.{Setting, machine_of, on_step, placed}
use Rattle.code_laws.proofs.Accesses.{index_fits, kept_round}
use Rattle.code_laws.proofs.Good.{Gives, Good, pushes, valued}
use Rattle.code_laws.proofs.Operations.{compute_runs, converted_runs, wraps_run}
use Rattle.code_laws.proofs.Runs.{ends_by, leads_none}

pub point_fits : (n : ℕ) → n < 2 ^ 32 → FitsWidth W64 (pos n)
point_fits n l = omega (arith, ints, l)

module _ (x : Setting) (params slots : ℕ) (fit : SlotsFit x slots) {deep : ℕ} (aside : Aside deep) where
  -- a pointer's point
  point_runs : (h : Here) (k : Kind) (n : ℕ) (tg : Target) (rs : List Region) (s : State) (pc : ℕ) (st : List MachineValue)
      (i : Instance) → IsPosition n tg → Agrees x params slots aside h s i → Stands x.body pc (op instr.Point h.line) →
      Gives x params slots fit aside h (index_type k) (op instr.Point h.line) pc (machine.Number (kept_target tg) ∷ st) st i
      (standing h (a_pointer tg rs) s)
  point_runs h k n null_target rs s pc st i o g f = ends_by x _ _ instr.Point h.line f
      (ap (λ t. IsOver (Broke (Some (record { kind = NullPointer; line = h.line })) t)) g.text)
  point_runs h k n (point_target p j) rs s pc st i o g f =
      let z = kept_target (point_target p j) in
      pushes x params slots fit aside h (index_type k) (an_index (pos p)) s pc (machine.Number z ∷ st) st i instr.Point h.line f
      (of_index k (pos p) (point_fits p o.0)) g
      (ap (λ t. on_step x (placed pc (machine.Number z ∷ st) i) (point t h.line st (machine_of (placed pc (machine.Number z ∷ st) i))))
      (kept_round p j o.0))

  -- what counts as a number stands for one
  pub stands_runs : (h : Here) (t : StaticType) (v : Value) (s : State) (pc : ℕ) (st : List MachineValue) (i : Instance) →
      IsCounting t → IsOf t v → Agrees x params slots aside h s i → Stands x.body pc (standing_code (where_of params h) t) →
      Gives x params slots fit aside h (counting_as t) (standing_code (where_of params h) t) pc (machine_value i.contents v ∷ st) st i
      (standing h v s)
  stands_runs h _ _ s pc st i (counts_number _ (number_integer w)) (of_integer _ z p) g f = (i, leads_none x _, (of_integer w z p, g))
  stands_runs h _ _ s pc st i (counts_number _ (number_index k)) (of_index _ z p) g f = (i, leads_none x _, (of_index k z p, g))
  stands_runs h _ _ s pc st i (counts_pointer k sp args rs) (of_pointer _ _ _ _ tg qs p) g f =
      point_runs h k _ tg qs s pc st i p g f

  -- arithmetic of two numbers for which these stand
  pub counted_runs : (c : Contents) (h : Here) (o : Arithmetic) (t u : StaticType) (v w : Value) (s : State) (pc : ℕ)
      (st : List MachineValue) (i : Instance) → IsCounting t → IsCounting u → IsOf (counting_as t) v → IsOf (counting_as u) w →
      Agrees x params slots aside h s i → Stands x.body pc (one (where_of params h) (operating (Compute o) t u)) →
      Gives x params slots fit aside h (operated (Compute o) t u) (one (where_of params h) (operating (Compute o) t u)) pc
      (machine_value i.contents w ∷ machine_value c v ∷ st) st i (combined h (Compute o) v w s)
  counted_runs c h o _ _ v w s pc st i (counts_number _ (number_integer a)) (counts_number _ (number_integer b)) p q g f =
      compute_runs x params slots fit aside c h o (integer_type a) (integer_type b) v w s pc st i (number_integer a) (number_integer b) p q g f
  counted_runs c h o _ _ v w s pc st i (counts_number _ (number_integer a)) (counts_number _ (number_index b)) p q g f =
      compute_runs x params slots fit aside c h o (integer_type a) (index_type b) v w s pc st i (number_integer a) (number_index b) p q g f
  counted_runs c h o _ _ v w s pc st i (counts_number _ (number_integer a)) (counts_pointer b sp args rs) p q g f =
      compute_runs x params slots fit aside c h o (integer_type a) (index_type b) v w s pc st i (number_integer a) (number_index b) p q g f
  counted_runs c h o _ _ v w s pc st i (counts_number _ (number_index a)) (counts_number _ (number_integer b)) p q g f =
      compute_runs x params slots fit aside c h o (index_type a) (integer_type b) v w s pc st i (number_index a) (number_integer b) p q g f
  counted_runs c h o _ _ v w s pc st i (counts_number _ (number_index a)) (counts_number _ (number_index b)) p q g f =
      compute_runs x params slots fit aside c h o (index_type a) (index_type b) v w s pc st i (number_index a) (number_index b) p q g f
  counted_runs c h o _ _ v w s pc st i (counts_number _ (number_index a)) (counts_pointer b sp args rs) p q g f =
      compute_runs x params slots fit aside c h o (index_type a) (index_type b) v w s pc st i (number_index a) (number_index b) p q g f
  counted_runs c h o _ _ v w s pc st i (counts_pointer a _ _ _) (counts_number _ (number_integer b)) p q g f =
      compute_runs x params slots fit aside c h o (index_type a) (integer_type b) v w s pc st i (number_index a) (number_integer b) p q g f
  counted_runs c h o _ _ v w s pc st i (counts_pointer a _ _ _) (counts_number _ (number_index b)) p q g f =
      compute_runs x params slots fit aside c h o (index_type a) (index_type b) v w s pc st i (number_index a) (number_index b) p q g f
  counted_runs c h o _ _ v w s pc st i (counts_pointer a _ _ _) (counts_pointer b sp args rs) p q g f =
      compute_runs x params slots fit aside c h o (index_type a) (index_type b) v w s pc st i (number_index a) (number_index b) p q g f

  -- a conversion to a number type of what stands for a number
  pub number_runs : (h : Here) (t : NumberTerm) (from : StaticType) (v : Value) (s : State) (pc : ℕ) (st : List MachineValue)
      (i : Instance) → IsNumberTerm t → IsCounting from → IsOf (counting_as from) v → Agrees x params slots aside h s i →
      Stands x.body pc (as_number_code (where_of params h) t) →
      Gives x params slots fit aside h (number_type t) (as_number_code (where_of params h) t) pc
      (machine_value i.contents v ∷ st) st i (gives (as_number t v) s)
  number_runs h t _ v s pc st i (term_integer _ q) (counts_number _ (number_integer w)) o g f =
      wraps_run x params slots fit aside h t (integer_type w) v s pc st i q (number_integer w) o g f
  number_runs h t _ v s pc st i (term_integer _ q) (counts_number _ (number_index k)) o g f =
      wraps_run x params slots fit aside h t (index_type k) v s pc st i q (number_index k) o g f
  number_runs h t _ v s pc st i (term_integer _ q) (counts_pointer k sp args rs) o g f =
      wraps_run x params slots fit aside h t (index_type k) v s pc st i q (number_index k) o g f
  number_runs h _ _ _ s pc st i (term_index j) (counts_number _ (number_integer w)) (of_integer _ z p) g f =
      (i, leads_none x _, (of_index j z (index_fits w z p), g))
  number_runs h _ _ _ s pc st i (term_index j) (counts_number _ (number_index k)) (of_index _ z p) g f =
      (i, leads_none x _, (of_index j z p, g))
  number_runs h _ _ _ s pc st i (term_index j) (counts_pointer k sp args rs) (of_index _ z p) g f =
      (i, leads_none x _, (of_index j z p, g))

  -- what goes into a variable or a field
  pub into_runs : (h : Here) (t u : StaticType) (rs : List Region) (v : Value) (s : State) (pc : ℕ) (st : List MachineValue)
      (i : Instance) → GoesInto t u → IsOf t v → Agrees x params slots aside h s i →
      Stands x.body pc (converted_code (where_of params h) t u) →
      Comes x (valued pc st v i) (valued (past (converted_code (where_of params h) t u) pc) st)
      (Good x params slots fit aside h u) (converted h t u rs v s)
  into_runs h _ _ rs v s pc st i (into_plain t u (fills_alike _ _ p)) o g f =
      converted_runs x params slots fit aside h t u rs v s pc st i p o g f
  into_runs h _ _ rs _ s pc st i (into_plain _ _ (fills_index _ j (number_integer w))) (of_integer _ z p) g f =
      (i, leads_none x _, (of_index j z (index_fits w z p), g))
  into_runs h _ _ rs _ s pc st i (into_plain _ _ (fills_index _ j (number_index k))) (of_index _ z p) g f =
      (i, leads_none x _, (of_index j z p, g))
  into_runs h _ _ rs _ s pc st i (into_index k sp args qs j) (of_pointer _ _ _ _ null_target regions p) g f =
      point_runs h j 0 null_target regions s pc st i tt g f
  into_runs h _ _ rs _ s pc st i (into_index k sp args qs j) (of_pointer _ _ _ _ (point_target n m) regions p) g f =
      point_runs h j _ (point_target n m) regions s pc st i p g f
  into_runs h _ _ rs _ s pc st i (into_space j k) (of_space _ n p) g f = (i, leads_none x _, (of_space k n p, g))
