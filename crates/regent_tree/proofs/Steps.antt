-- A relation of states that each single step keeps, kept by steps in a row and by the parts of
-- evaluation that know no expression.
use Rattle.std.specs.Prelude.{◌≡◌, ℕ, zero, suc, ℤ, pos, negsuc, List, ◌++◌, refl, Bool, true, false, Option, Some, None, length, nat_lt, nat_le}
use Rattle.lane_kernels.specs.declared.numbers.Mode.{Mode}
use Rattle.regent_tree.specs.declared.expression.Arithmetic.{Arithmetic}
use Rattle.regent_tree.specs.declared.expression.Operator.{Operator}
use Rattle.regent_tree.specs.declared.expression.Operator.TheVariants.{Or, And, Compare, Compute}
use Rattle.regent_tree.specs.declared.outcome.FaultKind.{FaultKind}
use Rattle.regent_tree.specs.declared.types.PointerTerm.{PointerTerm}
use Rattle.regent_tree.specs.Syntax.{Name}
use Rattle.plain_values.specs.Points.{has}
use Rattle.regent_tree.specs.Values.{Value, a_number, a_truth, an_index, a_pointer, a_space, a_region, a_partition, Target, null_target, point_target, Region, Partition}
use Rattle.regent_tree.specs.Store.{Store, Touch}
use Rattle.regent_tree.specs.declared.typing.StaticType.{StaticType}
use Rattle.regent_tree.specs.declared.typing.StaticType.TheVariants.{Integer as integer_type, Truth as truth_type, Index as index_type, Pointer as pointer_type, Ispace as ispace_type, Region as region_type, Partition as partition_type, Nothing as no_type, Unknown as unknown_type}
use Rattle.regent_tree.specs.Running.{State, Here, Run, Result, gives, fails, Called, came_back, broke, given, and_then, ◌>>=◌, state, fault, if_true, pay_from, pay, touch, touch_at}
use Rattle.regent_tree.specs.Accesses.{standing, standing_target, converted, regions_written, Aim, hits, misses, aimed, read_field, take_field, take_child, take_point, take_element}
use Rattle.regent_tree.specs.Operators.{operand, unless_divided, arithmetic, combined, space_of_size}
use Rattle.regent_tree.specs.Evaluation.{answered, called, named_value}
use Rattle.regent_tree.specs.Laws.{Leaves, Answers, CallsAre}

-- a relation of states that each step of an expression keeps; a call's stores are Good
pub record Law (Good : Store → Store → Type 0) (R : State → State → Type 0) : Type 0 where
  pub same : (s : State) → R s s
  pub through : (s t u : State) → R s t → R t u → R s u
  pub paid : (s : State) (n : ℕ) → s.turns ≡ suc n → R s (record s { turns = n })
  pub touched : (s : State) (more : List Touch) → R s (record s { touches = s.touches ++ more })
  pub printed : (s : State) (more : List ℕ) → R s (record s { text = s.text ++ more })
  pub answered : (s : State) (store : Store) → Good s.store store → R s (record s { store = store })

-- a run keeps the relation from every state
pub record Kept {A : Type 0} (R : State → State → Type 0) (m : Run A) : Type 0 where
  pub all : (s : State) → Leaves R s (m s)

module _ {Good : Store → Store → Type 0} {R : State → State → Type 0} (law : Law Good R) where
  pub before : {A : Type 0} (s t : State) (r : Result A) → R s t → Leaves R t r → Leaves R s r
  before s t (gives a u) e h = law.through s t u e h
  before s t (fails f u) e h = law.through s t u e h

  pub then : {A B : Type 0} (s : State) (r : Result A) (k : A → Run B) → Leaves R s r →
      ((a : A) → Kept R (k a)) → Leaves R s (and_then r k)
  then s (gives a t) k e h = before s t (k a t) e ((h a).all t)
  then s (fails f t) k e h = e

  -- one step and then the next
  pub in_turn : {A B : Type 0} (m : Run A) (k : A → Run B) → Kept R m → ((a : A) → Kept R (k a)) →
      Kept R (m >>= k)
  in_turn m k h g = record { all = λ s. then s (m s) k (h.all s) g }

  pub given_kept : {A : Type 0} (a : A) → Kept R (given a)
  given_kept a = record { all = λ s. law.same s }

  pub state_kept : Kept R state
  state_kept = record { all = λ s. law.same s }

  pub fault_kept : {A : Type 0} (h : Here) (k : FaultKind) → Kept R (fault {A = A} h k)
  fault_kept h k = record { all = λ s. law.same s }

  pub choice_kept : {A : Type 0} (b : Bool) (this that : Run A) → Kept R this → Kept R that →
      Kept R (if_true b this that)
  choice_kept true this that h g = h
  choice_kept false this that h g = g

  pub pay_from_kept : (n : ℕ) (h : Here) (s : State) → s.turns ≡ n → Leaves R s (pay_from n h s)
  pay_from_kept zero h s e = law.same s
  pay_from_kept (suc n) h s e = law.paid s n e

  pub pay_kept : (h : Here) → Kept R (pay h)
  pay_kept h = record { all = λ s. pay_from_kept s.turns h s refl }

  pub touch_kept : (more : List Touch) → Kept R (touch more)
  touch_kept more = record { all = λ s. law.touched s more }

  pub touch_at_kept : (root field point : ℕ) (access : Mode) →
      Kept R (touch_at root field point access)
  touch_at_kept root field point access = record { all = λ s. law.touched s _ }

  pub named_kept : (h : Here) (n : Name) → Kept R (named_value h n)
  named_kept h n = record { all = λ s. law.same s }

  pub standing_target_kept : (h : Here) (t : Target) → Kept R (standing_target h t)
  standing_target_kept h null_target = record { all = λ s. law.same s }
  standing_target_kept h (point_target n i) = record { all = λ s. law.same s }

  pub standing_kept : (h : Here) (v : Value) → Kept R (standing h v)
  standing_kept h (a_pointer t regions) = standing_target_kept h t
  standing_kept h (a_number w z) = given_kept _
  standing_kept h (a_truth b) = given_kept _
  standing_kept h (an_index z) = given_kept _
  standing_kept h (a_space n) = given_kept _
  standing_kept h (a_region r) = given_kept _
  standing_kept h (a_partition p) = given_kept _

  pub converted_kept : (h : Here) (from to : StaticType) (regions : List Region) (v : Value) →
      Kept R (converted h from to regions v)
  converted_kept h from (index_type k) regions v =
      in_turn (standing h v) _ (standing_kept h v) (λ u. given_kept _)
  converted_kept h from (integer_type w) regions v = given_kept _
  converted_kept h from (pointer_type k sp args reaches) regions v = given_kept _
  converted_kept h from truth_type regions v = given_kept _
  converted_kept h from (ispace_type k) regions v = given_kept _
  converted_kept h from (region_type k sp args r) regions v = given_kept _
  converted_kept h from (partition_type d r p) regions v = given_kept _
  converted_kept h from no_type regions v = given_kept _
  converted_kept h from unknown_type regions v = given_kept _

  pub written_kept : (h : Here) (t : PointerTerm) → Kept R (regions_written h t)
  written_kept h t = record { all = λ s. law.same s }

  pub read_kept : (h : Here) (t : StaticType) (f : Name) (a : Aim) → Kept R (read_field h t f a)
  read_kept h t f (misses k) = record { all = λ s. law.same s }
  read_kept h t f (hits root n) = record { all = λ s. law.touched s _ }

  pub take_field_kept : (h : Here) (t : StaticType) (f : Name) (v : Value) →
      Kept R (take_field h t f v)
  take_field_kept h t f (a_partition p) = given_kept _
  take_field_kept h t f (a_pointer u regions) = read_kept h t f (aimed (a_pointer u regions))
  take_field_kept h t f (a_number w z) = read_kept h t f (aimed (a_number w z))
  take_field_kept h t f (a_truth b) = read_kept h t f (aimed (a_truth b))
  take_field_kept h t f (an_index z) = read_kept h t f (aimed (an_index z))
  take_field_kept h t f (a_space n) = read_kept h t f (aimed (a_space n))
  take_field_kept h t f (a_region r) = read_kept h t f (aimed (a_region r))

  pub take_child_kept : (h : Here) (p : Partition) (z : ℤ) → Kept R (take_child h p z)
  take_child_kept h p (pos c) =
      choice_kept (nat_lt c (length p.sets)) _ _ (given_kept _) (fault_kept h _)
  take_child_kept h p (negsuc c) = fault_kept h _

  pub take_point_kept : (h : Here) (r : Region) (z : ℤ) → Kept R (take_point h r z)
  take_point_kept h r (pos n) = choice_kept (has r.points n) _ _ (given_kept _) (fault_kept h _)
  take_point_kept h r (negsuc n) = fault_kept h _

  pub take_element_kept : (h : Here) (z : ℤ) (v : Value) → Kept R (take_element h z v)
  take_element_kept h z (a_region r) = take_point_kept h r z
  take_element_kept h z (a_partition p) = take_child_kept h p z
  take_element_kept h z (a_pointer u regions) = given_kept _
  take_element_kept h z (a_number w y) = given_kept _
  take_element_kept h z (a_truth b) = given_kept _
  take_element_kept h z (an_index y) = given_kept _
  take_element_kept h z (a_space n) = given_kept _

  pub operand_kept : (h : Here) (b : Bool) (v : Value) → Kept R (operand h b v)
  operand_kept h true v = given_kept v
  operand_kept h false v = standing_kept h v

  pub divided_kept : (h : Here) (made : ℤ → Value) (o : Option ℤ) → Kept R (unless_divided h made o)
  divided_kept h made None = fault_kept h _
  divided_kept h made (Some z) = given_kept _

  pub arithmetic_kept : (h : Here) (o : Arithmetic) (a b : Value) → Kept R (arithmetic h o a b)
  arithmetic_kept h o (a_partition p) b = given_kept _
  arithmetic_kept h o (a_region r) b = divided_kept h _ _
  arithmetic_kept h o (a_pointer t r) b = divided_kept h _ _
  arithmetic_kept h o (a_number w z) b = divided_kept h _ _
  arithmetic_kept h o (a_truth w) b = divided_kept h _ _
  arithmetic_kept h o (an_index z) b = divided_kept h _ _
  arithmetic_kept h o (a_space n) b = divided_kept h _ _

  pub combined_kept : (h : Here) (o : Operator) (a b : Value) → Kept R (combined h o a b)
  combined_kept h (Compare c) a b = given_kept _
  combined_kept h Or a b = given_kept _
  combined_kept h And a b = given_kept _
  combined_kept h (Compute o) a b = arithmetic_kept h o a b

  pub size_kept : (h : Here) (z : ℤ) → Kept R (space_of_size h z)
  size_kept h (pos n) = choice_kept (nat_le n 4194304) _ _ (given_kept _) (fault_kept h _)
  size_kept h (negsuc n) = fault_kept h _

  pub answer_kept : (c : Called) (s : State) → Answers Good s.store c → Leaves R s (answered c s)
  answer_kept (came_back v store text) s g =
      law.through s (record s { text = s.text ++ text }) _ (law.printed s text)
      (law.answered _ store g)
  answer_kept (broke f text) s g = law.printed s text

  pub called_kept : (h : Here) → CallsAre Good h.calls → (task : Name) (vs : List Value) →
      Kept R (called h task vs)
  called_kept h g task vs = in_turn (pay h) _ (pay_kept h) (λ u. record {
    all = λ s. answer_kept (h.calls h.line task vs s.store) s (g h.line task vs s.store);
  })
