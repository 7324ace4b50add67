-- Steps in a row are alike where each is, and so are the parts of evaluation that know no expression.
use Rattle.std.proofs.Common.{◌≡◌, ℕ, zero, suc, ℤ, pos, negsuc, List, refl, ap, sym, subst, Bool, true, false, Option, Some, None, length, inl, inr}
use Rattle.std.specs.Prelude.{nat_lt, nat_le}
use Rattle.plain_values.specs.Points.{has}
use Rattle.regent_tree.specs.Accesses.{Aim, aimed, aimed_in, converted, hits, misses, read_field, regions_written, standing, standing_target, take_child, take_element, take_field, take_point}
use Rattle.regent_tree.specs.Evaluation.{answered, called, named_value}
use Rattle.regent_tree.specs.Operators.{arithmetic, combined, operand, space_of_size, unless_divided}
use Rattle.regent_tree.specs.Running.{Called, Calls, Here, Result, Run, State, and_then, broke, came_back, fails, fault, gives, given, if_true, pay, pay_from, ◌>>=◌}
use Rattle.regent_tree.specs.Syntax.{Name}
use Rattle.regent_tree.specs.Values.{Partition, Region, Target, Value, a_number, a_partition, a_pointer, a_region, a_space, a_truth, an_index, no_region, null_target, point_target}
use Rattle.std.specs.Prelude.{get_or}
use Rattle.regent_tree.specs.declared.expression.Arithmetic.{Arithmetic}
use Rattle.regent_tree.specs.declared.expression.Operator.{Operator}
use Rattle.regent_tree.specs.declared.expression.Operator.TheVariants.{And, Compare, Compute, Or}
use Rattle.regent_tree.specs.declared.outcome.FaultKind.{FaultKind}
use Rattle.regent_tree.specs.declared.outcome.FaultKind.TheVariants.{BadColor, BadSize, DivideByZero, OutOfRegion}
use Rattle.regent_tree.specs.declared.types.PointerTerm.{PointerTerm}
use Rattle.regent_tree.specs.declared.typing.StaticType.{StaticType}
use Rattle.regent_tree.specs.declared.typing.StaticType.TheVariants.{Integer as integer_type, Truth as truth_type, Index as index_type, Pointer as pointer_type, Ispace as ispace_type, Region as region_type, Partition as partition_type, Nothing as no_type, Unknown as unknown_type}
use Rattle.alike_runs.specs.Alike.{AnswersAlike, AreAlike, IsAlike, instead, renamed}

-- the same place with other calls
abbrev pub with : Calls → Here → Here
with calls h = record h { calls = calls }

-- two steps that are alike from every state
pub record Alike {A : Type 0} (other : FaultKind) (m n : Run A) : Type 0 where
  pub all : (s : State) → IsAlike other (m s) (n s)

-- a step that faults on no call's account
pub equal : {A : Type 0} {other : FaultKind} (m n : Run A) → ((s : State) → m s ≡ renamed other (n s)) → Alike other m n
equal m n h = record { all = λ s. inr (h s) }

pub then : {A B : Type 0} {other : FaultKind} (r t : Result A) (k l : A → Run B) → IsAlike other r t → ((a : A) → Alike other (k a) (l a)) →
    IsAlike other (and_then r k) (and_then t l)
then {other = other} r (gives a s) k l (inr e) h = subst (λ q. IsAlike other (and_then q k) (l a s)) (sym e) ((h a).all s)
then r (fails f s) k l (inr e) h = inr (ap (λ q. and_then q k) e)
then (gives a s) t k l (inl e) h = absurd e
then (fails f s) t k l (inl e) h = inl e

-- one step and then the next
pub in_turn : {A B : Type 0} {other : FaultKind} (m n : Run A) (k l : A → Run B) → Alike other m n → ((a : A) → Alike other (k a) (l a)) →
    Alike other (m >>= k) (n >>= l)
in_turn m n k l h g = record { all = λ s. then (m s) (n s) k l (h.all s) g }

pub given_alike : {A : Type 0} {other : FaultKind} (a : A) → Alike other (given a) (given a)
given_alike a = equal (given a) (given a) (λ s. refl)

pub choice_alike : {A : Type 0} {other : FaultKind} (b : Bool) (m k n l : Run A) → Alike other m n → Alike other k l →
    Alike other (if_true b m k) (if_true b n l)
choice_alike true m k n l h g = h
choice_alike false m k n l h g = g

module _ (other : FaultKind) (calls : Calls) where
  pay_from_alike : (n : ℕ) (h : Here) (s : State) → pay_from n h s ≡ renamed other (pay_from n (with calls h) s)
  pay_from_alike zero h s = refl
  pay_from_alike (suc n) h s = refl

  pub pay_alike : (h : Here) → Alike other (pay h) (pay (with calls h))
  pay_alike h = equal (pay h) (pay (with calls h)) (λ s. pay_from_alike s.turns h s)

  standing_target_alike : (h : Here) (t : Target) (s : State) → standing_target h t s ≡ renamed other (standing_target (with calls h) t s)
  standing_target_alike h null_target s = refl
  standing_target_alike h (point_target n i) s = refl

  standing_equal : (h : Here) (v : Value) (s : State) → standing h v s ≡ renamed other (standing (with calls h) v s)
  standing_equal h (a_pointer t regions) s = standing_target_alike h t s
  standing_equal h (a_number w z) s = refl
  standing_equal h (a_truth b) s = refl
  standing_equal h (an_index z) s = refl
  standing_equal h (a_space n) s = refl
  standing_equal h (a_region r) s = refl
  standing_equal h (a_partition p) s = refl

  pub standing_alike : (h : Here) (v : Value) → Alike other (standing h v) (standing (with calls h) v)
  standing_alike h v = equal (standing h v) (standing (with calls h) v) (standing_equal h v)

  pub converted_alike : (h : Here) (from to : StaticType) (regions : List Region) (v : Value) →
      Alike other (converted h from to regions v) (converted (with calls h) from to regions v)
  converted_alike h from (index_type k) regions v = in_turn (standing h v) (standing (with calls h) v) _ _ (standing_alike h v) (λ u. given_alike _)
  converted_alike h from (integer_type w) regions v = given_alike _
  converted_alike h from (pointer_type k sp args reaches) regions v = given_alike _
  converted_alike h from truth_type regions v = given_alike _
  converted_alike h from (ispace_type k) regions v = given_alike _
  converted_alike h from (region_type k sp args r) regions v = given_alike _
  converted_alike h from (partition_type d r p) regions v = given_alike _
  converted_alike h from no_type regions v = given_alike _
  converted_alike h from unknown_type regions v = given_alike _

  pub written_alike : (h : Here) (t : PointerTerm) → Alike other (regions_written h t) (regions_written (with calls h) t)
  written_alike h t = equal (regions_written h t) (regions_written (with calls h) t) (λ s. refl)

  pub named_alike : (h : Here) (n : Name) → Alike other (named_value h n) (named_value (with calls h) n)
  named_alike h n = equal (named_value h n) (named_value (with calls h) n) (λ s. refl)

  -- what an aim misses for is no Depth
  abbrev pub IsPlainAim : Aim → Type 0
  IsPlainAim (hits root n) = Unit {0}
  IsPlainAim (misses k) = k ≡ instead other k

  aimed_in_plain : (b : Bool) (r : Region) (n : ℕ) → IsPlainAim (aimed_in b r n)
  aimed_in_plain true r n = tt
  aimed_in_plain false r n = refl

  pub aimed_plain : (v : Value) → IsPlainAim (aimed v)
  aimed_plain (a_pointer null_target regions) = refl
  aimed_plain (a_pointer (point_target n zero) regions) = refl
  aimed_plain (a_pointer (point_target n (suc i)) regions) = aimed_in_plain (has (get_or regions i no_region).points n) (get_or regions i no_region) n
  aimed_plain (a_number w z) = refl
  aimed_plain (a_truth b) = refl
  aimed_plain (an_index z) = refl
  aimed_plain (a_space n) = refl
  aimed_plain (a_region r) = refl
  aimed_plain (a_partition p) = refl

  read_equal : (h : Here) (t : StaticType) (f : Name) (a : Aim) → IsPlainAim a → (s : State) → read_field h t f a s ≡ renamed other (read_field (with calls h) t f a s)
  read_equal h t f (misses k) e s = ap (λ kind. fails (record { kind = kind; line = h.line }) s) e
  read_equal h t f (hits root n) e s = refl

  read_alike : (h : Here) (t : StaticType) (f : Name) (v : Value) → Alike other (read_field h t f (aimed v)) (read_field (with calls h) t f (aimed v))
  read_alike h t f v = equal (read_field h t f (aimed v)) (read_field (with calls h) t f (aimed v)) (read_equal h t f (aimed v) (aimed_plain v))

  pub take_field_alike : (h : Here) (t : StaticType) (f : Name) (v : Value) → Alike other (take_field h t f v) (take_field (with calls h) t f v)
  take_field_alike h t f (a_partition p) = given_alike _
  take_field_alike h t f (a_pointer u regions) = read_alike h t f (a_pointer u regions)
  take_field_alike h t f (a_number w z) = read_alike h t f (a_number w z)
  take_field_alike h t f (a_truth b) = read_alike h t f (a_truth b)
  take_field_alike h t f (an_index z) = read_alike h t f (an_index z)
  take_field_alike h t f (a_space n) = read_alike h t f (a_space n)
  take_field_alike h t f (a_region r) = read_alike h t f (a_region r)

  pub fault_alike : {A : Type 0} (h : Here) (k : FaultKind) → k ≡ instead other k → Alike other (fault {A = A} h k) (fault (with calls h) k)
  fault_alike h k e = equal (fault h k) (fault (with calls h) k) (λ s. ap (λ kind. fails (record { kind = kind; line = h.line }) s) e)

  take_child_alike : (h : Here) (p : Partition) (z : ℤ) → Alike other (take_child h p z) (take_child (with calls h) p z)
  take_child_alike h p (pos c) = choice_alike (nat_lt c (length p.sets)) _ _ _ _ (given_alike _) (fault_alike h BadColor refl)
  take_child_alike h p (negsuc c) = fault_alike h BadColor refl

  take_point_alike : (h : Here) (r : Region) (z : ℤ) → Alike other (take_point h r z) (take_point (with calls h) r z)
  take_point_alike h r (pos n) = choice_alike (has r.points n) _ _ _ _ (given_alike _) (fault_alike h OutOfRegion refl)
  take_point_alike h r (negsuc n) = fault_alike h OutOfRegion refl

  pub take_element_alike : (h : Here) (z : ℤ) (v : Value) → Alike other (take_element h z v) (take_element (with calls h) z v)
  take_element_alike h z (a_region r) = take_point_alike h r z
  take_element_alike h z (a_partition p) = take_child_alike h p z
  take_element_alike h z (a_pointer u regions) = given_alike _
  take_element_alike h z (a_number w y) = given_alike _
  take_element_alike h z (a_truth b) = given_alike _
  take_element_alike h z (an_index y) = given_alike _
  take_element_alike h z (a_space n) = given_alike _

  pub operand_alike : (h : Here) (b : Bool) (v : Value) → Alike other (operand h b v) (operand (with calls h) b v)
  operand_alike h true v = given_alike v
  operand_alike h false v = standing_alike h v

  divided_alike : (h : Here) (made : ℤ → Value) (o : Option ℤ) → Alike other (unless_divided h made o) (unless_divided (with calls h) made o)
  divided_alike h made None = fault_alike h DivideByZero refl
  divided_alike h made (Some z) = given_alike _

  arithmetic_alike : (h : Here) (o : Arithmetic) (a b : Value) → Alike other (arithmetic h o a b) (arithmetic (with calls h) o a b)
  arithmetic_alike h o (a_partition p) b = given_alike _
  arithmetic_alike h o (a_region r) b = divided_alike h _ _
  arithmetic_alike h o (a_pointer t r) b = divided_alike h _ _
  arithmetic_alike h o (a_number w z) b = divided_alike h _ _
  arithmetic_alike h o (a_truth w) b = divided_alike h _ _
  arithmetic_alike h o (an_index z) b = divided_alike h _ _
  arithmetic_alike h o (a_space n) b = divided_alike h _ _

  pub combined_alike : (h : Here) (o : Operator) (a b : Value) → Alike other (combined h o a b) (combined (with calls h) o a b)
  combined_alike h (Compare c) a b = given_alike _
  combined_alike h Or a b = given_alike _
  combined_alike h And a b = given_alike _
  combined_alike h (Compute o) a b = arithmetic_alike h o a b

  pub size_alike : (h : Here) (z : ℤ) → Alike other (space_of_size h z) (space_of_size (with calls h) z)
  size_alike h (pos n) = choice_alike (nat_le n 4194304) _ _ _ _ (given_alike _) (fault_alike h BadSize refl)
  size_alike h (negsuc n) = fault_alike h BadSize refl

  answer_alike : (c d : Called) (s : State) → AnswersAlike other c d → IsAlike other (answered c s) (answered d s)
  answer_alike c (came_back v store text) s (inr e) = inr (ap (λ a. answered a s) e)
  answer_alike c (broke f text) s (inr e) = inr (ap (λ a. answered a s) e)
  answer_alike (came_back v store text) d s (inl e) = absurd e
  answer_alike (broke f text) d s (inl e) = inl e

  pub called_alike : (h : Here) → AreAlike other h.calls calls → (task : Name) (vs : List Value) → Alike other (called h task vs) (called (with calls h) task vs)
  called_alike h g task vs = in_turn (pay h) (pay (with calls h)) _ _ (pay_alike h) (λ u. record {
    all = λ s. answer_alike (h.calls h.line task vs s.store) (calls h.line task vs s.store) s (g h.line task vs s.store);
  })
