-- A value that is converted to a type that its own fits, fits it.
use Rattle.std.proofs.Common.{List, Bool, false, true, refl, subst, ℕ, ◌≡◌, ◌||◌, not}
use Rattle.std.proofs.lemmas.Bool.{and_parts, eqb-true}
use Rattle.std.specs.List.{All}
use Rattle.regent_tree.specs.Accesses.{converted, space_in, standing}
use Rattle.regent_tree.specs.Laws.{Shape}
use Rattle.regent_tree.specs.Running.{Here, State, given}
use Rattle.regent_tree.specs.StaticTypes.{Reach}
use Rattle.regent_tree.specs.Syntax.{Tree}
use Rattle.regent_tree.specs.Values.{Partition, Region, Value, an_index, number_of}
use Rattle.regent_tree.specs.declared.facts.Known.{Known}
use Rattle.regent_tree.specs.declared.facts.Term.{Term}
use Rattle.regent_tree.specs.declared.types.Kind.{Kind}
use Rattle.regent_tree.specs.declared.typing.Bound.{Bound}
use Rattle.regent_tree.specs.declared.typing.StaticType.{StaticType}
use Rattle.regent_tree.specs.declared.typing.StaticType.TheVariants.{Index as index_type, Integer as integer_type, Ispace as ispace_type, Nothing as no_type, Partition as partition_type, Pointer as pointer_type, Region as region_type, Truth as truth_type, Unknown as unknown_type}
use Rattle.check_rules.specs.types.Fitting.{fits_known}
use Rattle.check_rules.specs.types.Sorts.{is_number as numeric, is_truth as truthful, is_unknown_type}
use Rattle.expression_laws.proofs.Operators.{value_from_number}
use Rattle.value_laws.specs.Fitting.{Fits, IsGoal, fits_integer, fits_nothing, fits_partition, fits_pointer, fits_region, fits_space, fits_unknown, space_bound}
use Rattle.value_laws.specs.Keeping.{KeepsFit, StateFits}
use Rattle.value_laws.specs.Shapes.{IsPartitionOf, IsRegionOf}
use Rattle.value_laws.proofs.Ends.{after}
use Rattle.value_laws.proofs.Numbers.{wraps_fit}
use Rattle.value_laws.proofs.Operators.{as_truth_fits, index_fits, moved_position, standing_fits}

-- ---- what fits what

numeric_into_index : (known : List Known) (from : StaticType) (k : Kind) → is_unknown_type from ≡ false → fits_known known from (index_type k) ≡ true → numeric from ≡ true
numeric_into_index known (integer_type w) k l e = refl
numeric_into_index known (index_type j) k l e = refl
numeric_into_index known (pointer_type j s args terms) k l e = refl
numeric_into_index known truth_type k l e = absurd cc
numeric_into_index known (ispace_type j) k l e = absurd cc
numeric_into_index known (region_type j s args t) k l e = absurd cc
numeric_into_index known (partition_type d r p) k l e = absurd cc
numeric_into_index known no_type k l e = absurd cc
numeric_into_index known unknown_type k l e = absurd cc

truth_into_truth : (known : List Known) (from : StaticType) → is_unknown_type from ≡ false → fits_known known from truth_type ≡ true → truthful from ≡ true
truth_into_truth known truth_type l e = refl
truth_into_truth known (integer_type w) l e = absurd cc
truth_into_truth known (index_type j) l e = absurd cc
truth_into_truth known (pointer_type j s args terms) l e = absurd cc
truth_into_truth known (ispace_type j) l e = absurd cc
truth_into_truth known (region_type j s args t) l e = absurd cc
truth_into_truth known (partition_type d r p) l e = absurd cc
truth_into_truth known no_type l e = absurd cc
truth_into_truth known unknown_type l e = absurd cc

-- a partition that is disjoint where that is asked
pub asked_partition : (roots : List Shape) (space : ℕ) (d asked : Bool) (p : Partition) → (d || not asked) ≡ true → IsPartitionOf roots space d p → IsPartitionOf roots space asked p
asked_partition roots space d asked p e is = record {
  there = is.there;
  of_space = is.of_space;
  sets = is.sets;
  few = is.few;
  flag = λ a. is.flag (by d asked e a);
  apart = is.apart;
}
  where
    by : (d asked : Bool) → (d || not asked) ≡ true → asked ≡ true → d ≡ true
    by true asked e a = refl
    by false true e a = absurd cc
    by false false e a = absurd cc

module _ (tree : Tree) (roots : List Shape) (names : List Bound) (h : Here) where
  into_pointer : (from : StaticType) (k : Kind) (space : ℕ) (args terms : List Reach) (rs : List Region) (v : Value) (u : State) → is_unknown_type from ≡ false →
      fits_known h.scope.known from (pointer_type k space args terms) ≡ true → All (IsGoal roots space) rs → Fits roots names from v →
      StateFits tree roots names u → KeepsFit tree roots names (Fits roots names (pointer_type k space args terms)) (converted h from (pointer_type k space args terms) rs v u)
  into_pointer (pointer_type j s others regions) k space args terms rs v u l e go (fits_pointer {t = t} is old) st =
      (st, fits_pointer (moved_position h.scope.known regions terms _ t is) go)
  into_pointer (integer_type w) k space args terms rs v u l e go is st = absurd cc
  into_pointer truth_type k space args terms rs v u l e go is st = absurd cc
  into_pointer (index_type j) k space args terms rs v u l e go is st = absurd cc
  into_pointer (ispace_type j) k space args terms rs v u l e go is st = absurd cc
  into_pointer (region_type j s others t) k space args terms rs v u l e go is st = absurd cc
  into_pointer (partition_type d r p) k space args terms rs v u l e go is st = absurd cc
  into_pointer no_type k space args terms rs v u l e go is st = absurd cc
  into_pointer unknown_type k space args terms rs v u l e go is st = absurd cc

  into_space : (known : List Known) (from : StaticType) (k : Kind) (v : Value) → is_unknown_type from ≡ false → fits_known known from (ispace_type k) ≡ true →
      Fits roots names from v → Fits roots names (ispace_type k) v
  into_space known (ispace_type j) k v l e (fits_space f) = fits_space f
  into_space known (integer_type w) k v l e is = absurd cc
  into_space known truth_type k v l e is = absurd cc
  into_space known (index_type j) k v l e is = absurd cc
  into_space known (pointer_type j s args terms) k v l e is = absurd cc
  into_space known (region_type j s args t) k v l e is = absurd cc
  into_space known (partition_type d r p) k v l e is = absurd cc
  into_space known no_type k v l e is = absurd cc
  into_space known unknown_type k v l e is = absurd cc

  into_region : (known : List Known) (from : StaticType) (k : Kind) (space : ℕ) (args : List Reach) (t : Term) (v : Value) → is_unknown_type from ≡ false →
      fits_known known from (region_type k space args t) ≡ true → Fits roots names from v → Fits roots names (region_type k space args t) v
  into_region known (region_type j s others q) k space args t v l e (fits_region {r = r} is) =
      fits_region (subst (λ n. IsRegionOf roots n r) (eqb-true s space (and_parts _ _ (and_parts _ _ e).0).1) is)
  into_region known (integer_type w) k space args t v l e is = absurd cc
  into_region known truth_type k space args t v l e is = absurd cc
  into_region known (index_type j) k space args t v l e is = absurd cc
  into_region known (pointer_type j s others terms) k space args t v l e is = absurd cc
  into_region known (ispace_type j) k space args t v l e is = absurd cc
  into_region known (partition_type d r p) k space args t v l e is = absurd cc
  into_region known no_type k space args t v l e is = absurd cc
  into_region known unknown_type k space args t v l e is = absurd cc

  into_partition : (known : List Known) (from : StaticType) (asked : Bool) (parent own : ℕ) (v : Value) → is_unknown_type from ≡ false →
      fits_known known from (partition_type asked parent own) ≡ true → Fits roots names from v → Fits roots names (partition_type asked parent own) v
  into_partition known (partition_type d r p) asked parent own v l e (fits_partition {p = q} is) =
      let parts = and_parts (d || not asked) _ e in
      fits_partition (subst (λ n. IsPartitionOf roots (space_bound names n) asked q) (eqb-true r parent parts.1)
      (asked_partition roots (space_bound names r) d asked q parts.0 is))
  into_partition known (integer_type w) asked parent own v l e is = absurd cc
  into_partition known truth_type asked parent own v l e is = absurd cc
  into_partition known (index_type j) asked parent own v l e is = absurd cc
  into_partition known (pointer_type j s args terms) asked parent own v l e is = absurd cc
  into_partition known (ispace_type j) asked parent own v l e is = absurd cc
  into_partition known (region_type j s args t) asked parent own v l e is = absurd cc
  into_partition known no_type asked parent own v l e is = absurd cc
  into_partition known unknown_type asked parent own v l e is = absurd cc

  -- a value is converted to a type that its type fits, with regions of the pointer's field space
  pub converted_fits : (from wanted : StaticType) (rs : List Region) (v : Value) (u : State) → is_unknown_type from ≡ false →
      fits_known h.scope.known from wanted ≡ true → All (IsGoal roots (space_in wanted)) rs → Fits roots names from v → StateFits tree roots names u →
      KeepsFit tree roots names (Fits roots names wanted) (converted h from wanted rs v u)
  converted_fits from (integer_type w) rs v u l e go is st = (st, fits_integer (wraps_fit w (number_of v)))
  converted_fits from (index_type k) rs v u l e go is st =
      let number = numeric_into_index h.scope.known from k l e in
      after (Fits roots names (index_type k)) (standing h v u) (λ a. given (an_index (number_of a)))
      (standing_fits tree roots names h from v u (value_from_number from number) is st) (λ a w st is.
      (st, index_fits tree roots names h from k a number is))
  converted_fits from (pointer_type k space args terms) rs v u l e go is st = into_pointer from k space args terms rs v u l e go is st
  converted_fits from truth_type rs v u l e go is st = (st, as_truth_fits tree roots names h from v (truth_into_truth h.scope.known from l e) is)
  converted_fits from (ispace_type k) rs v u l e go is st = (st, into_space h.scope.known from k v l e is)
  converted_fits from (region_type k space args t) rs v u l e go is st = (st, into_region h.scope.known from k space args t v l e is)
  converted_fits from (partition_type d r p) rs v u l e go is st = (st, into_partition h.scope.known from d r p v l e is)
  converted_fits from no_type rs v u l e go is st = (st, fits_nothing)
  converted_fits from unknown_type rs v u l e go is st = (st, fits_unknown)
