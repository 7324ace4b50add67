-- What operators, prefixes, conversions and casts make of values that fit.
use Rattle.std.proofs.Common.{List, [], ◌∷◌, Bool, None, Option, Some, false, true, refl, ap, sym, subst, ℕ, ℤ, zero, suc, pos, negsuc, ◌≡◌, ◌≤◌, ◌+◌, not, get_or, cond, arith}
use Rattle.std.proofs.lemmas.Bool.{not-false, leb-true}
use Rattle.std.specs.List.{All}
use Rattle.std.specs.Prelude.{length, nat_le}
use Rattle.plain_values.proofs.Plain.{option_or_parts}
use Rattle.lane_kernels.specs.Numbers.{FitsWidth}
use Rattle.lane_kernels.specs.declared.numbers.Width.{Width}
use Rattle.lane_kernels.specs.declared.numbers.Width.TheVariants.{W32, W64}
use Rattle.regent_tree.specs.Accesses.{standing}
use Rattle.regent_tree.specs.Facts.{is_subregion}
use Rattle.regent_tree.specs.Laws.{Shape}
use Rattle.regent_tree.specs.Numbers.{computed, wider}
use Rattle.regent_tree.specs.Operators.{all_signed, arithmetic, as_number, cast_to, negated, operand, space_of_size, unless_divided}
use Rattle.regent_tree.specs.Running.{Here, Result, State, fault, given, if_true}
use Rattle.regent_tree.specs.Scopes.{Scope}
use Rattle.regent_tree.specs.StaticTypes.{Reach, number_type}
use Rattle.regent_tree.specs.Typing.{arithmetic_type, counting_as, has_wild, least_above, position_of, positions}
use Rattle.regent_tree.specs.Values.{Region, Target, Value, a_number, a_partition, a_pointer, a_region, a_space, a_truth, an_index, first_holding, moved, null_target, number_of, point_target}
use Rattle.regent_tree.specs.declared.expression.Arithmetic.{Arithmetic}
use Rattle.regent_tree.specs.declared.expression.Sign.{Sign}
use Rattle.regent_tree.specs.declared.expression.Sign.TheVariants.{Minus, Not}
use Rattle.regent_tree.specs.declared.facts.Known.{Known}
use Rattle.regent_tree.specs.declared.facts.Term.{Term}
use Rattle.regent_tree.specs.declared.outcome.FaultKind.TheVariants.{BadSize}
use Rattle.regent_tree.specs.declared.types.Kind.{Kind}
use Rattle.regent_tree.specs.declared.types.NumberTerm.{NumberTerm}
use Rattle.regent_tree.specs.declared.types.NumberTerm.TheVariants as number
use Rattle.regent_tree.specs.declared.typing.Bound.{Bound}
use Rattle.regent_tree.specs.declared.typing.StaticType.{StaticType}
use Rattle.regent_tree.specs.declared.typing.StaticType.TheVariants.{Index as index_type, Integer as integer_type, Ispace as ispace_type, Nothing as no_type, Partition as partition_type, Pointer as pointer_type, Region as region_type, Truth as truth_type, Unknown as unknown_type}
use Rattle.regent_tree.specs.Syntax.{Tree}
use Rattle.check_rules.proofs.Untold.{standing_none}
use Rattle.check_rules.specs.first.FirstInExpressions.{first_of_signs}
use Rattle.check_rules.specs.rules.Places.{is_value_type}
use Rattle.check_rules.specs.rules.Standing.{number_spot, stands, truth_spot}
use Rattle.check_rules.specs.types.KnownTypes.{known_type_after_signs}
use Rattle.check_rules.specs.types.Sorts.{is_number as numeric, is_truth as truthful}
use Rattle.check_laws.proofs.Parts.{after_signs, surely, unless_false}
use Rattle.check_laws.specs.SoundScopes.{IsKnown}
use Rattle.expression_laws.proofs.Operators.{counted_twice}
use Rattle.value_laws.specs.Fitting.{Fits, IsGoal, fits_index, fits_integer, fits_pointer, fits_space, fits_truth}
use Rattle.value_laws.specs.Keeping.{KeepsFit, StateFits}
use Rattle.value_laws.specs.Shapes.{AreRootsOfSpaces, IsPosition}
use Rattle.value_laws.proofs.Numbers.{IfFits, computed_fits, fits_most, point_fits, wraps_fit}
use Rattle.value_laws.proofs.Regions.{first_position}

-- ---- positions

least_position : (known : List Known) (a : Term) (j count : ℕ) (terms : List Reach) → j + length terms ≤ count → least_above known a j terms ≤ count
least_position known a j count [] l = omega (arith)
least_position known a j count (None ∷ terms) l = least_position known a (suc j) count terms (omega (arith, l))
least_position known a j count (Some b ∷ terms) l = by (is_subregion known a b) (least_position known a (suc j) count terms (omega (arith, l)))
  where
    by : (is : Bool) → least_above known a (suc j) terms ≤ count → cond is (suc j) (least_above known a (suc j) terms) ≤ count
    by true later = omega (arith, l)
    by false later = later

one_position : (known : List Known) (from : Reach) (terms : List Reach) → cond (has_wild terms) 0 (position_of known terms from) ≤ length terms
one_position known from terms = by (has_wild terms) from
  where
    by : (b : Bool) (from : Reach) → cond b 0 (position_of known terms from) ≤ length terms
    by true from = omega (arith)
    by false None = omega (arith)
    by false (Some a) = least_position known a 0 (length terms) terms (omega (arith))

positions_few : (known : List Known) (from terms : List Reach) (i : ℕ) → get_or (positions known from terms) i 0 ≤ length terms
positions_few known [] terms i = omega (arith)
positions_few known (a ∷ from) terms zero = one_position known a terms
positions_few known (a ∷ from) terms (suc i) = positions_few known from terms i

-- a pointer that is converted has a position of the new list
pub moved_position : (known : List Known) (from terms : List Reach) (count : ℕ) (t : Target) → IsPosition count t →
    IsPosition (length terms) (moved (positions known from terms) t)
moved_position known from terms count null_target is = tt
moved_position known from terms count (point_target n zero) is = (is.0, omega (arith))
moved_position known from terms count (point_target n (suc i)) is = (is.0, positions_few known from terms i)

module _ (tree : Tree) (roots : List Shape) (names : List Bound) (h : Here) where
  abbrev Keeps : (Value → Type 0) → Result Value → Type 0
  Keeps Is r = KeepsFit tree roots names Is r

  -- ---- what a value stands for

  pub standing_any : (v : Value) (u : State) → StateFits tree roots names u → Keeps (λ a. Unit {0}) (standing h v u)
  standing_any (a_pointer null_target rs) u st = st.store
  standing_any (a_pointer (point_target n i) rs) u st = (st, tt)
  standing_any (a_number w z) u st = (st, tt)
  standing_any (a_truth b) u st = (st, tt)
  standing_any (an_index z) u st = (st, tt)
  standing_any (a_space n) u st = (st, tt)
  standing_any (a_region r) u st = (st, tt)
  standing_any (a_partition p) u st = (st, tt)

  pub operand_any : (b : Bool) (v : Value) (u : State) → StateFits tree roots names u → Keeps (λ a. Unit {0}) (operand h b v u)
  operand_any true v u st = (st, tt)
  operand_any false v u st = standing_any v u st

  pub standing_fits : (t : StaticType) (v : Value) (u : State) → is_value_type t ≡ true → Fits roots names t v → StateFits tree roots names u →
      Keeps (Fits roots names (counting_as t)) (standing h v u)
  standing_fits (integer_type w) v u e (fits_integer f) st = (st, fits_integer f)
  standing_fits truth_type v u e fits_truth st = (st, fits_truth)
  standing_fits (index_type k) v u e (fits_index f) st = (st, fits_index f)
  standing_fits (pointer_type k sp args terms) v u e (fits_pointer {t = null_target} is go) st = st.store
  standing_fits (pointer_type k sp args terms) v u e (fits_pointer {t = point_target n i} is go) st = (st, fits_index (point_fits n is.0))
  standing_fits (ispace_type k) v u e is st = absurd cc
  standing_fits (region_type k sp args t) v u e is st = absurd cc
  standing_fits (partition_type d r p) v u e is st = absurd cc
  standing_fits no_type v u e is st = absurd cc
  standing_fits unknown_type v u e is st = absurd cc

  -- a number of any type, as an index
  pub index_fits : (t : StaticType) (k : Kind) (v : Value) → numeric t ≡ true → Fits roots names (counting_as t) v → Fits roots names (index_type k) (an_index (number_of v))
  index_fits (integer_type w) k v e (fits_integer {z = z} f) = fits_index (fits_most w z f)
  index_fits (index_type j) k v e (fits_index f) = fits_index f
  index_fits (pointer_type j sp args terms) k v e (fits_index f) = fits_index f
  index_fits truth_type k v e is = absurd cc
  index_fits (ispace_type j) k v e is = absurd cc
  index_fits (region_type j sp args t) k v e is = absurd cc
  index_fits (partition_type d r p) k v e is = absurd cc
  index_fits no_type k v e is = absurd cc
  index_fits unknown_type k v e is = absurd cc

  -- ---- arithmetic

  divided : (Is : Value → Type 0) (w : Width) (made : ℤ → Value) (r : Option ℤ) (u : State) → IfFits w r → ((z : ℤ) → FitsWidth w z → Is (made z)) →
      StateFits tree roots names u → Keeps Is (unless_divided h made r u)
  divided Is w made (Some z) u f is st = (st, is z f)
  divided Is w made None u f is st = st.store

  pub arithmetic_fits : (t v : StaticType) (o : Arithmetic) (a b : Value) (u : State) → numeric t ≡ true → numeric v ≡ true →
      Fits roots names (counting_as t) a → Fits roots names (counting_as v) b → StateFits tree roots names u →
      Keeps (Fits roots names (arithmetic_type (counting_as t) (counting_as v))) (arithmetic h o a b u)
  arithmetic_fits (integer_type w) (integer_type y) o a b u e f (fits_integer {z = i} l) (fits_integer {z = j} r) st =
      divided (Fits roots names (integer_type (wider w y))) (wider w y) (λ z. a_number (wider w y) z) (computed o (wider w y) i j) u
      (computed_fits o (wider w y) i j) (λ z g. fits_integer g) st
  arithmetic_fits (integer_type w) (index_type k) o a b u e f (fits_integer {z = i} l) (fits_index {z = j} r) st =
      divided (Fits roots names (index_type k)) W64 (λ z. an_index z) (computed o W64 i j) u (computed_fits o W64 i j) (λ z g. fits_index g) st
  arithmetic_fits (integer_type w) (pointer_type k sp args terms) o a b u e f (fits_integer {z = i} l) (fits_index {z = j} r) st =
      divided (Fits roots names (index_type k)) W64 (λ z. an_index z) (computed o W64 i j) u (computed_fits o W64 i j) (λ z g. fits_index g) st
  arithmetic_fits (index_type k) v o a b u e f (fits_index {z = i} l) is st =
      divided (Fits roots names (index_type k)) W64 (λ z. an_index z) (computed o W64 i (number_of b)) u (computed_fits o W64 i (number_of b)) (λ z g. fits_index g) st
  arithmetic_fits (pointer_type k sp args terms) v o a b u e f (fits_index {z = i} l) is st =
      divided (Fits roots names (index_type k)) W64 (λ z. an_index z) (computed o W64 i (number_of b)) u (computed_fits o W64 i (number_of b)) (λ z g. fits_index g) st
  arithmetic_fits (integer_type w) truth_type o a b u e f is js st = absurd cc
  arithmetic_fits (integer_type w) (ispace_type k) o a b u e f is js st = absurd cc
  arithmetic_fits (integer_type w) (region_type k sp args t) o a b u e f is js st = absurd cc
  arithmetic_fits (integer_type w) (partition_type d r p) o a b u e f is js st = absurd cc
  arithmetic_fits (integer_type w) no_type o a b u e f is js st = absurd cc
  arithmetic_fits (integer_type w) unknown_type o a b u e f is js st = absurd cc
  arithmetic_fits truth_type v o a b u e f is js st = absurd cc
  arithmetic_fits (ispace_type k) v o a b u e f is js st = absurd cc
  arithmetic_fits (region_type k sp args t) v o a b u e f is js st = absurd cc
  arithmetic_fits (partition_type d r p) v o a b u e f is js st = absurd cc
  arithmetic_fits no_type v o a b u e f is js st = absurd cc
  arithmetic_fits unknown_type v o a b u e f is js st = absurd cc

  pub size_fits : (k : Kind) (z : ℤ) (u : State) → StateFits tree roots names u → Keeps (Fits roots names (ispace_type k)) (space_of_size h z u)
  size_fits k (pos n) u st = by (nat_le n 4194304) refl
    where
      by : (b : Bool) → nat_le n 4194304 ≡ b → Keeps (Fits roots names (ispace_type k)) (if_true b (given (a_space n)) (fault h BadSize) u)
      by true e = (st, fits_space (leb-true n 4194304 e))
      by false e = st.store
  size_fits k (negsuc n) u st = st.store

  -- ---- conversions to the types of numbers, and casts

  pub as_number_fits : (t : StaticType) (n : NumberTerm) (v : Value) → numeric t ≡ true → Fits roots names (counting_as t) v → Fits roots names (number_type n) (as_number n v)
  as_number_fits t number.Int32 v e is = fits_integer (wraps_fit W32 (number_of v))
  as_number_fits t number.Int64 v e is = fits_integer (wraps_fit W64 (number_of v))
  as_number_fits t (number.Index k) v e is = index_fits t k v e is

  module _ (rooted : AreRootsOfSpaces tree roots) where
    pub cast_fits : (k : Kind) (sp : ℕ) (args terms : List Reach) (rs : List Region) (v : Value) → length rs ≡ length terms → All (IsGoal roots sp) rs →
        Fits roots names (pointer_type k sp args terms) (cast_to rs v)
    cast_fits k sp args terms rs v len go = by v
      where
        found : (z : ℤ) → Fits roots names (pointer_type k sp args terms) (a_pointer (first_holding 0 rs z) rs)
        found z = fits_pointer (first_position tree roots rooted sp rs 0 z (length terms) (omega (arith, len)) go) go

        by : (v : Value) → Fits roots names (pointer_type k sp args terms) (cast_to rs v)
        by (a_pointer null_target qs) = fits_pointer tt go
        by (a_pointer (point_target n i) qs) = found (pos n)
        by (a_number w z) = found z
        by (a_truth b) = found (pos 0)
        by (an_index z) = found z
        by (a_space n) = found (pos 0)
        by (a_region r) = found (pos 0)
        by (a_partition p) = found (pos 0)

  -- ---- prefixes

  negated_fits : (t : StaticType) (v : Value) → numeric t ≡ true → Fits roots names (counting_as t) v → Fits roots names (counting_as t) (negated v)
  negated_fits (integer_type w) v e (fits_integer f) = fits_integer (wraps_fit w _)
  negated_fits (index_type k) v e (fits_index f) = fits_index (wraps_fit W64 _)
  negated_fits (pointer_type k sp args terms) v e (fits_index f) = fits_index (wraps_fit W64 _)
  negated_fits truth_type v e is = absurd cc
  negated_fits (ispace_type k) v e is = absurd cc
  negated_fits (region_type k sp args t) v e is = absurd cc
  negated_fits (partition_type d r p) v e is = absurd cc
  negated_fits no_type v e is = absurd cc
  negated_fits unknown_type v e is = absurd cc

  pub signed_fits : (s : Scope) (signs : List Sign) (t : StaticType) (a : Value) → IsKnown s t → first_of_signs signs t ≡ None →
      Fits roots names (counting_as t) a → Fits roots names (counting_as (known_type_after_signs signs t)) (all_signed signs a)
  signed_fits s [] t a known e is = is
  signed_fits s (Not ∷ signs) t a known e is =
      let parts = option_or_parts (first_of_signs signs t) _ e in
      let sign = surely truthful (known_type_after_signs signs t) (after_signs s signs t known parts.0).known
      (not-false _ (standing_none [] (stands (known_type_after_signs signs t) truth_spot) parts.1).1) in
      subst (λ v. Fits roots names (counting_as v) (all_signed (Not ∷ signs) a))
      (sym (unless_false (not (truthful (known_type_after_signs signs t))) truth_type (ap not sign))) fits_truth
  signed_fits s (Minus ∷ signs) t a known e is =
      let parts = option_or_parts (first_of_signs signs t) _ e in
      let inner = known_type_after_signs signs t in
      let sign = surely numeric inner (after_signs s signs t known parts.0).known
      (not-false _ (standing_none [] (stands inner number_spot) parts.1).1) in
      subst (λ v. Fits roots names (counting_as v) (all_signed (Minus ∷ signs) a)) (sym (unless_false (not (numeric inner)) (counting_as inner) (ap not sign)))
      (subst (λ v. Fits roots names v (all_signed (Minus ∷ signs) a)) (sym (counted_twice inner))
      (negated_fits inner (all_signed signs a) sign (signed_fits s signs t a known parts.0 is)))

  pub as_truth_fits : (t : StaticType) (v : Value) → truthful t ≡ true → Fits roots names t v → Fits roots names truth_type v
  as_truth_fits truth_type v e is = is
  as_truth_fits (integer_type w) v e is = absurd cc
  as_truth_fits (index_type k) v e is = absurd cc
  as_truth_fits (pointer_type k sp args terms) v e is = absurd cc
  as_truth_fits (ispace_type k) v e is = absurd cc
  as_truth_fits (region_type k sp args t) v e is = absurd cc
  as_truth_fits (partition_type d r p) v e is = absurd cc
  as_truth_fits no_type v e is = absurd cc
  as_truth_fits unknown_type v e is = absurd cc
