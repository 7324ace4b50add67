-- Types of values: numbers, truths, indices, index spaces and pointers, by what is known of a type where it is used.
use Rattle.std.proofs.Common.{◌≡◌, List, true, false, refl}
use Rattle.regent_tree.specs.declared.expression.Comparison.{Comparison}
use Rattle.regent_tree.specs.declared.expression.Sign.{Sign}
use Rattle.regent_tree.specs.declared.typing.Bound.{Bound}
use Rattle.regent_tree.specs.declared.typing.StaticType.{StaticType}
use Rattle.check_rules.specs.types.Sorts.{is_partition, is_region}
use Rattle.code_laws.specs.Pointers.{a_pointer_type, AreCompared, Assigned, assigned_plain, assigned_pointer, Begins, begins_plain, begins_pointer, BeginsItself, compared_different, compared_equal, compared_left, compared_plain, compared_right, counts_number, counts_pointer, Filled, filled_index, filled_plain, filled_pointer, Fills, fills_alike, fills_index, GoesInto, HasSigns, into_index, into_plain, into_space, IsCounting, IsPointer, itself_null, itself_plain, Passes, passes_plain, passes_pointer, signs_counted, signs_plain}
use Rattle.code_laws.specs.Simple.{a_partition_type, a_region_type, a_space_type, a_truth_type, an_integer, AreAlike, AreRegions, compare_numbers, compare_truths, IsInteger, IsNumber, IsPartition, IsRegion, IsSimple, IsSpace, IsTruth, minus_before, not_before, number_index, number_integer, of_a_truth, of_an_integer, SignsFit, simple_index, simple_integer, simple_space, simple_truth, two_integers, two_regions, two_truths}
use Rattle.code_laws.proofs.Wider.{zero_simple}
use Rattle.sound_code.proofs.WholeTasks.{is_value}
use Rattle.sound_code.proofs.Wholes.{IsKept, kept_pointer, kept_simple}

abbrev pub IsValue : StaticType → Type 0
IsValue t = is_value false t ≡ true

pub simple_value : (t : StaticType) → IsSimple t → IsValue t
simple_value _ (simple_integer w) = refl
simple_value _ simple_truth = refl
simple_value _ (simple_space k) = refl
simple_value _ (simple_index k) = refl

pub integer_value : (t : StaticType) → IsInteger t → IsValue t
integer_value _ (an_integer w) = refl

pub truth_value : (t : StaticType) → IsTruth t → IsValue t
truth_value _ a_truth_type = refl

pub space_value : (t : StaticType) → IsSpace t → IsValue t
space_value _ (a_space_type k) = refl

pub number_value : (t : StaticType) → IsNumber t → IsValue t
number_value _ (number_integer w) = refl
number_value _ (number_index k) = refl

pub pointer_value : (t : StaticType) → IsPointer t → IsValue t
pointer_value _ (a_pointer_type k sp args rs aims) = refl

pub counting_value : (t : StaticType) → IsCounting t → IsValue t
counting_value t (counts_number _ n) = number_value t n
counting_value _ (counts_pointer k sp args rs) = refl

pub kept_value : (t : StaticType) → IsKept t → IsValue t
kept_value t (kept_simple _ s) = simple_value t s
kept_value t (kept_pointer _ p) = pointer_value t p

pub alike_values : (t u : StaticType) → AreAlike t u → IsValue t × IsValue u
alike_values _ _ (two_integers v w) = (refl, refl)
alike_values _ _ two_truths = (refl, refl)

pub fills_values : (t u : StaticType) → Fills t u → IsValue t × IsValue u
fills_values t u (fills_alike _ _ a) = alike_values t u a
fills_values t _ (fills_index _ k n) = (number_value t n, refl)

pub into_values : (t u : StaticType) → GoesInto t u → IsValue t × IsValue u
into_values t u (into_plain _ _ f) = fills_values t u f
into_values _ _ (into_index k sp args rs j) = (refl, refl)
into_values _ _ (into_space j k) = (refl, refl)

pub passed_values : (t u p : StaticType) → Passes t u p → IsValue t × IsValue p
passed_values t _ p (passes_plain _ _ g) = into_values t p g
passed_values t _ _ (passes_pointer _ k sp args brgs rs qs is same) = (pointer_value t is, refl)

pub assigned_values : (t u : StaticType) → Assigned t u → IsValue t × IsValue u
assigned_values t u (assigned_plain _ _ g) = into_values t u g
assigned_values t u (assigned_pointer _ _ p q) = (pointer_value t p, pointer_value u q)

pub begins_values : (bs : List Bound) (t u : StaticType) → Begins bs t u → IsValue t × IsValue u
begins_values bs t u (begins_plain _ _ g) = into_values t u g
begins_values bs t u (begins_pointer _ _ p q) = (pointer_value t p, pointer_value u q.0)

pub itself_value : (bs : List Bound) (t : StaticType) → BeginsItself bs t → IsValue t
itself_value bs t (itself_plain _ z) = simple_value t (zero_simple t z)
itself_value bs t (itself_null _ w) = pointer_value t w.0

pub filled_value : (t u : StaticType) → Filled t u → IsValue t
filled_value t u (filled_plain _ _ f) = (fills_values t u f).0
filled_value _ _ (filled_index k sp args rs j) = refl
filled_value t u (filled_pointer _ _ p q) = pointer_value t p

pub compared_values : (c : Comparison) (t u : StaticType) → AreCompared c t u → IsValue t × IsValue u
compared_values c t u (compared_plain _ _ _ (compare_numbers _ _ a b)) = (number_value t a, number_value u b)
compared_values c _ _ (compared_plain _ _ _ compare_truths) = (refl, refl)
compared_values c _ u (compared_left _ k sp args rs _ n) = (refl, number_value u n)
compared_values c t _ (compared_right _ _ k sp args rs n) = (number_value t n, refl)
compared_values c t u (compared_equal _ _ p q) = (pointer_value t p, pointer_value u q)
compared_values c t u (compared_different _ _ p q) = (pointer_value t p, pointer_value u q)

pub fit_value : (t : StaticType) (ss : List Sign) → SignsFit t ss → IsValue t
fit_value _ _ of_a_truth = refl
fit_value _ _ (of_an_integer w) = refl
fit_value _ _ (not_before ss h) = refl
fit_value _ _ (minus_before w ss h) = refl

pub signed_value : (t : StaticType) (ss : List Sign) → HasSigns t ss → IsValue t
signed_value t ss (signs_plain _ _ h) = fit_value t ss h
signed_value t _ (signs_counted _ ss c h) = counting_value t c

pub region_sort : (t : StaticType) → IsRegion t → is_region t ≡ true
region_sort _ (a_region_type k sp args r) = refl

pub regions_sort : (t u : StaticType) → AreRegions t u → (is_region t ≡ true) × (is_region u ≡ true)
regions_sort _ _ (two_regions k l sp args brgs r q) = (refl, refl)

pub partition_sort : (t : StaticType) → IsPartition t → is_partition t ≡ true
partition_sort _ (a_partition_type d r p) = refl
