-- What single instructions do with values.
use Rattle.code_laws.specs.Simple.{IsScalar, IsSimple, scalar_integer, scalar_truth, simple_index, simple_integer, simple_space, simple_truth}
use Rattle.regent_tree.specs.Store.{Store}
use Rattle.std.proofs.Common.{◌≡◌, ℕ, suc, ◌<◌, ◌≤◌, ℤ, pos, List, [], ◌∷◌, Bool, true, false, Some, refl, ap, subst, arith}
use Rattle.std.specs.Ordering.{int_eq}
use Rattle.std.specs.Prelude.{get_or, length, bytes_eq, cond, ◌||◌, int_div, int_rem, ◌+ℤ◌, ◌-ℤ◌, ◌*ℤ◌}
use Rattle.std.proofs.lemmas.Bool.{lt-ltb}
use Rattle.std.proofs.lemmas.Int.{SFits-int_wrap}
use Rattle.std.proofs.lemmas.Option.{none-some, same_Some}
use Rattle.lane_kernels.specs.Numbers.{FitsWidth, std_width, wrapped}
use Rattle.lane_kernels.specs.declared.numbers.Width.{Width}
use Rattle.regent_tree.specs.declared.expression.Arithmetic.{Arithmetic}
use Rattle.regent_tree.specs.declared.expression.Arithmetic.TheVariants as arithmetic
use Rattle.regent_tree.specs.declared.expression.Comparison.{Comparison}
use Rattle.regent_tree.specs.declared.expression.Comparison.TheVariants as comparison
use Rattle.regent_tree.specs.declared.typing.Bound.{Bound}
use Rattle.regent_tree.specs.declared.typing.StaticType.{StaticType}
use Rattle.regent_tree.specs.Lookup.{is_bound}
use Rattle.regent_tree.specs.Numbers.{computed, unless_zero}
use Rattle.regent_tree.specs.Scopes.{bound_to}
use Rattle.regent_tree.specs.Syntax.{Name}
use Rattle.regent_tree.specs.Values.{Value, a_number, a_truth, an_index, a_pointer, a_space, a_region, a_partition}
use Rattle.task_code.specs.declared.code.Code.{Code}
use Rattle.task_code.specs.declared.code.Line.{Line}
use Rattle.machine_terms.specs.declared.order.Contents.{Contents}
use Rattle.machine_terms.specs.declared.value.Value.{Value as MachineValue}
use Rattle.machine_terms.specs.Machine.{Machine, goes, at, next, when, broken}
use Rattle.machine_terms.specs.Numbers.{load, arithmetic as computes, comparison as compares}
use Rattle.machine_terms.specs.Jumps.{jump, goes_back, fetch}
use Rattle.machine_terms.specs.Segments.{act}
use Rattle.code_rules.specs.Pieces.{Piece, empty, op, ◌⨟◌, over, branch, loop, rounds, past}
use Rattle.code_rules.specs.Instructions.{computing, comparing}
use Rattle.code_laws.specs.Steps.{is_issue}
use Rattle.code_laws.specs.Steps.{Setting}
use Rattle.code_laws.specs.Standing.{machine_value, AreOf, IsInside, IsOf, of_integer, nothing}

-- ---- places

pub past_later : (p : Piece) (pc : ℕ) → pc ≤ past p pc
past_later empty pc = omega arith
past_later (op i line) pc = omega arith
past_later (a ⨟ b) pc = omega (arith, past_later a pc, past_later b (past a pc))
past_later (over k line a) pc = omega (arith, past_later a (suc pc))
past_later (branch line a b) pc =
    omega (arith, past_later a (suc pc), past_later b (suc (past a (suc pc))))
past_later (loop line test a) pc =
    omega (arith, past_later a (suc (suc pc)), past_later test (past a (suc (suc pc))))
past_later (rounds k line a) pc = omega (arith, past_later a (suc pc))

-- a jump to a later place goes there
pub jump_later : (body : List Line) (to : ℕ) (st : List MachineValue) (m : Machine) →
    m.frame.pc < to → jump body to st m ≡ goes (at to st m)
jump_later body to st m h = ap
    (λ b. when (elim b [ true ↦ true | false ↦ goes_back m.frame.pc (fetch body to) ])
    (goes (at to st m)) (broken m))
    (lt-ltb m.frame.pc to h)

-- ---- loads

pub load_value : (c : Contents) (v : Value) (m : Machine) →
    load m (Some (machine_value c v)) ≡ next (machine_value c v ∷ m.frame.stack) m
load_value c (a_number w z) m = refl
load_value c (a_truth b) m = refl
load_value c (an_index z) m = refl
load_value c (a_pointer t rs) m = refl
load_value c (a_space n) m = refl
load_value c (a_region r) m = refl
load_value c (a_partition p) m = refl

abbrev IsNo : Bool → Type 0
IsNo false = Unit {0}
IsNo true = ⊥

pub not_true : false ≡ true → ⊥
not_true e = subst IsNo e tt

-- a name in scope has a value of which this holds by its type, at a place among these
pub record Named (Holding : StaticType → Value → Type 0) (bs : List Bound) (names : List Value) (b : Bound) : Type 0 where
  pub holding : Holding b.static_type (get_or names b.place nothing)
  pub below : b.place < length bs

pub named : (Holding : StaticType → Value → Type 0) (bs : List Bound) (names : List Value) (n : Name) →
    AreOf Holding bs names → is_bound bs n ≡ true → Named Holding bs names (bound_to bs n)
named Holding [] names n a h = absurd (not_true h)
named Holding (b ∷ bs) names n a h = chosen (bytes_eq b.name n) (named Holding bs names n a.2) h
  where
    chosen : (c : Bool) → (is_bound bs n ≡ true → Named Holding bs names (bound_to bs n)) →
        (c || is_bound bs n) ≡ true → Named Holding (b ∷ bs) names (cond c b (bound_to bs n))
    chosen true more e = record { holding = a.1; below = omega (arith, a.0) }
    chosen false more e =
        let m = more e in record { holding = m.holding; below = omega (arith, m.below) }

-- a number or a truth is simple
pub scalar_simple : (t : StaticType) → IsScalar t → IsSimple t
scalar_simple _ (scalar_integer w) = simple_integer w
scalar_simple _ scalar_truth = simple_truth

-- and nothing simple is a region
pub simple_inside : (x : Setting) (store : Store) (t : StaticType) (v : Value) → IsSimple t → IsInside x store t v
simple_inside x store _ v (simple_integer w) = tt
simple_inside x store _ v simple_truth = tt
simple_inside x store _ v (simple_space k) = tt
simple_inside x store _ v (simple_index k) = tt

-- a number is no region
pub number_inside : (x : Setting) (store : Store) (t : StaticType) (w : Width) (z : ℤ) → IsOf t (a_number w z) →
    IsInside x store t (a_number w z)
number_inside x store _ _ _ (of_integer w z p) = tt

-- ---- operators

pub act_computing : (code : Code) (body : List Line) (o : Arithmetic) (w : Width) (line : ℕ)
    (m : Machine) → act code body (computing o w) line m ≡ computes o w line m
act_computing code body arithmetic.Add w line m = refl
act_computing code body arithmetic.Subtract w line m = refl
act_computing code body arithmetic.Multiply w line m = refl
act_computing code body arithmetic.Divide w line m = refl
act_computing code body arithmetic.Remainder w line m = refl

pub act_comparing : (code : Code) (body : List Line) (c : Comparison) (line : ℕ) (m : Machine) →
    act code body (comparing c false) line m ≡ compares c m
act_comparing code body comparison.Equal line m = refl
act_comparing code body comparison.NotEqual line m = refl
act_comparing code body comparison.Less line m = refl
act_comparing code body comparison.AtMost line m = refl
act_comparing code body comparison.Greater line m = refl
act_comparing code body comparison.AtLeast line m = refl

-- and neither is a launch
pub computing_alone : (o : Arithmetic) (w : Width) → is_issue (computing o w) ≡ false
computing_alone arithmetic.Add w = refl
computing_alone arithmetic.Subtract w = refl
computing_alone arithmetic.Multiply w = refl
computing_alone arithmetic.Divide w = refl
computing_alone arithmetic.Remainder w = refl

pub comparing_alone : (c : Comparison) → is_issue (comparing c false) ≡ false
comparing_alone comparison.Equal = refl
comparing_alone comparison.NotEqual = refl
comparing_alone comparison.Less = refl
comparing_alone comparison.AtMost = refl
comparing_alone comparison.Greater = refl
comparing_alone comparison.AtLeast = refl

-- what arithmetic gives fits
unless_fits : (w : Width) (b : Bool) (y z : ℤ) → unless_zero b (wrapped w y) ≡ Some z → FitsWidth w z
unless_fits w true y z e = absurd (none-some z e)
unless_fits w false y z e = subst (FitsWidth w) (same_Some (wrapped w y) z e) (SFits-int_wrap (std_width w) y)

pub computed_fits : (o : Arithmetic) (w : Width) (a b z : ℤ) → computed o w a b ≡ Some z → FitsWidth w z
computed_fits arithmetic.Add w a b z e = unless_fits w false (a +ℤ b) z e
computed_fits arithmetic.Subtract w a b z e = unless_fits w false (a -ℤ b) z e
computed_fits arithmetic.Multiply w a b z e = unless_fits w false (a *ℤ b) z e
computed_fits arithmetic.Divide w a b z e = unless_fits w (int_eq b (pos 0)) (int_div a b) z e
computed_fits arithmetic.Remainder w a b z e = unless_fits w (int_eq b (pos 0)) (int_rem a b) z e
