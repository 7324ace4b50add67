-- What operators, prefixes, conversions, index spaces and casts give.
use Rattle.std.specs.Prelude.{ℤ, pos, negsuc, neg_ℤ, List, [], ◌∷◌, Bool, true, false, not, Option, Some, None, nat_le}
use Rattle.lane_kernels.specs.declared.numbers.Width.{Width}
use Rattle.lane_kernels.specs.declared.numbers.Width.TheVariants.{W32, W64}
use Rattle.regent_tree.specs.declared.expression.Arithmetic.{Arithmetic}
use Rattle.regent_tree.specs.declared.expression.Comparison.{Comparison}
use Rattle.regent_tree.specs.declared.expression.Comparison.TheVariants.{Equal, NotEqual}
use Rattle.regent_tree.specs.declared.expression.Operator.{Operator}
use Rattle.regent_tree.specs.declared.expression.Operator.TheVariants.{Compare, Compute}
use Rattle.regent_tree.specs.declared.expression.Sign.{Sign}
use Rattle.regent_tree.specs.declared.expression.Sign.TheVariants.{Minus, Not}
use Rattle.regent_tree.specs.declared.outcome.FaultKind.TheVariants.{DivideByZero, BadSize}
use Rattle.regent_tree.specs.declared.types.NumberTerm.{NumberTerm}
use Rattle.regent_tree.specs.declared.types.NumberTerm.TheVariants as number
use Rattle.regent_tree.specs.Partitions.{minus_sets, minus_flag}
use Rattle.lane_kernels.specs.Numbers.{wrapped}
use Rattle.regent_tree.specs.Numbers.{wider, computed, compared}
use Rattle.regent_tree.specs.Values.{Value, a_number, a_truth, an_index, a_pointer, a_space, a_partition, Target, null_target, point_target, Region, Partition, truth_of, number_of, partition_of, target_of, same_target, first_holding, kept_number}
use Rattle.regent_tree.specs.declared.typing.StaticType.{StaticType}
use Rattle.regent_tree.specs.Typing.{are_pointers}
use Rattle.regent_tree.specs.Running.{Here, Run, given, fault, if_true}
use Rattle.regent_tree.specs.Accesses.{standing}

-- ---- operators

-- whether the operands stay pointers: a comparison compares two pointers, while arithmetic takes the
-- point number of each
abbrev pub compares_pointers : Operator → StaticType → StaticType → Bool
compares_pointers (Compare c) t u = are_pointers t u
compares_pointers _ t u = false

-- an operand stands for its number, unless two pointers are compared
abbrev pub operand : Here → Bool → Value → Run Value
operand h true v = given v
operand h false v = standing h v

-- what arithmetic gives of two numbers is one of the wider width, and else an index
abbrev pub result_width : Value → Value → Width
result_width (a_number v x) b = width_beside b
  where
    width_beside : Value → Width
    width_beside (a_number w y) = wider v w
    width_beside _ = W64
result_width a b = W64

abbrev pub result_value : Value → Value → ℤ → Value
result_value (a_number v x) b z = value_beside b
  where
    value_beside : Value → Value
    value_beside (a_number w y) = a_number (wider v w) z
    value_beside _ = an_index z
result_value a b z = an_index z

abbrev pub unless_divided : Here → (ℤ → Value) → Option ℤ → Run Value
unless_divided h made (Some z) = given (made z)
unless_divided h made None = fault h DivideByZero

-- the difference of two partitions, which a checked program has as a whole initializer alone
abbrev pub difference : Partition → Partition → Value
difference p q = a_partition (record {
  root = p.root;
  disjoint = minus_flag p.disjoint;
  sets = minus_sets p.sets q.sets;
})

-- the result of a sum and the like; a division by 0 is a fault
abbrev pub arithmetic : Here → Arithmetic → Value → Value → Run Value
arithmetic h o (a_partition p) b = given (difference p (partition_of b))
arithmetic h o a b = unless_divided h (result_value a b)
    (computed o (result_width a b) (number_of a) (number_of b))

-- the result of a comparison: of pointers by their points, of all else by the numbers
abbrev pub comparison_of_targets : Comparison → Target → Target → Bool
comparison_of_targets Equal t u = same_target t u
comparison_of_targets NotEqual t u = not (same_target t u)
comparison_of_targets _ t u = false

abbrev pub comparison : Comparison → Value → Value → Bool
comparison c (a_pointer t regions) b = comparison_of_targets c t (target_of b)
comparison c a b = compared c (kept_number a) (kept_number b)

-- the result of an operator that evaluates both operands
abbrev pub combined : Here → Operator → Value → Value → Run Value
combined h (Compute o) a b = arithmetic h o a b
combined h (Compare c) a b = given (a_truth (comparison c a b))
combined h _ a b = given b

-- the value after a prefix, and after several, the outermost first
abbrev pub negated : Value → Value
negated (a_number w z) = a_number w (wrapped w (neg_ℤ z))
negated v = an_index (wrapped W64 (neg_ℤ (number_of v)))

abbrev pub signed : Sign → Value → Value
signed Not v = a_truth (not (truth_of v))
signed Minus v = negated v

abbrev pub all_signed : List Sign → Value → Value
all_signed [] v = v
all_signed (s ∷ signs) v = signed s (all_signed signs v)

-- a conversion to a number type, which wraps
abbrev pub as_number : NumberTerm → Value → Value
as_number number.Int32 v = a_number W32 (wrapped W32 (number_of v))
as_number number.Int64 v = a_number W64 (wrapped W64 (number_of v))
as_number (number.Index k) v = an_index (number_of v)

-- an index space of a size; one below 0 or over 4,194,304 is a fault
abbrev pub space_of_size : Here → ℤ → Run Value
space_of_size h (pos n) = if_true (nat_le n 4194304) (given (a_space n)) (fault h BadSize)
space_of_size h (negsuc n) = fault h BadSize

-- `dynamic_cast` of a pointer, which looks for its point number alone, and of any value; null stays
-- null
abbrev pub cast_target : List Region → Target → Target
cast_target regions null_target = null_target
cast_target regions (point_target n i) = first_holding 0 regions (pos n)

abbrev pub cast_to : List Region → Value → Value
cast_to regions (a_pointer t rs) = a_pointer (cast_target regions t) regions
cast_to regions v = a_pointer (first_holding 0 regions (number_of v)) regions
