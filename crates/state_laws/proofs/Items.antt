-- What loops take: pointers into a region, indices of a space, and numbers between bounds.
use Rattle.check_laws.proofs.Widths.{wider_left, wider_right}
use Rattle.std.proofs.Common.{List, [], ◌∷◌, Some, false, true, refl, ℕ, zero, suc, pos, ◌≡◌, ◌<◌, ◌≤◌, ◌+◌, ◌||◌, inr, get_or, map, arith}
use Rattle.std.proofs.lemmas.List.Elements.{All-cons, All-get_or, All-map, All-nil}
use Rattle.std.specs.List.{All}
use Rattle.plain_values.specs.Points.{counted_from, points}
use Rattle.lane_kernels.specs.Numbers.{FitsWidth}
use Rattle.lane_kernels.specs.declared.numbers.Width.{Width}
use Rattle.regent_tree.specs.Execution.{items_of}
use Rattle.regent_tree.specs.Laws.{Shape}
use Rattle.regent_tree.specs.Numbers.{wider}
use Rattle.regent_tree.specs.StaticTypes.{Reach}
use Rattle.regent_tree.specs.Syntax.{Tree}
use Rattle.regent_tree.specs.Typing.{taken_from}
use Rattle.regent_tree.specs.Values.{Region, Value, a_pointer, an_index, number_of, point_target}
use Rattle.regent_tree.specs.declared.facts.Term.{Term}
use Rattle.regent_tree.specs.declared.types.Kind.{Kind}
use Rattle.regent_tree.specs.declared.typing.Bound.{Bound}
use Rattle.regent_tree.specs.declared.typing.StaticType.{StaticType}
use Rattle.regent_tree.specs.declared.typing.StaticType.TheVariants.{Index as index_type, Integer as integer_type, Ispace as ispace_type, Nothing as no_type, Partition as partition_type, Pointer as pointer_type, Region as region_type, Truth as truth_type, Unknown as unknown_type}
use Rattle.check_rules.specs.types.Sorts.{is_collection, is_region, is_space}
use Rattle.value_laws.proofs.Numbers.{point_fits}
use Rattle.value_laws.proofs.Spaced.{no_arguments}
use Rattle.value_laws.specs.Fitting.{Fits, IsGoal, fits_index, fits_integer, fits_pointer, fits_region, fits_space}
use Rattle.value_laws.specs.Shapes.{AreRootsOfSpaces, IsRegionOf, IsRootOfSpace, no_shape}
use Rattle.value_laws.specs.Spaces.{IsSpaced}

-- ---- points

pub counted_below : (first n bound : ℕ) → first + n ≤ bound → All (λ x. x < bound) (counted_from first n)
counted_below first zero bound l = All-nil (λ x. x < bound)
counted_below first (suc n) bound l =
    All-cons (λ x. x < bound) first (counted_from (suc first) n) (omega (arith, l)) (counted_below (suc first) n bound (omega (arith, l)))

module _ (tree : Tree) (roots : List Shape) (rooted : AreRootsOfSpaces tree roots) (names others : List Bound) where
  points_fit : (k : Kind) (space : ℕ) (args : List Reach) (t : Term) (r : Region) → IsRegionOf roots space r →
      All (Fits roots others (pointer_type k space args (Some t ∷ []))) (map (λ n. a_pointer (point_target n 1) (r ∷ [])) r.points)
  points_fit k space args t r is = All-map (Fits roots others (pointer_type k space args (Some t ∷ []))) (λ n. a_pointer (point_target n 1) (r ∷ [])) r.points (λ i d l.
      let below = is.points.below i d l in
      let bounded = (All-get_or (IsRootOfSpace tree) roots r.root no_shape is.there rooted).bounded in
      fits_pointer (omega (arith, below, bounded), omega (arith)) (All-cons (IsGoal roots space) r [] (inr is) (All-nil (IsGoal roots space))))

  -- what a loop over a region or a space takes fits the type of its variable
  pub items_fit : (t : StaticType) (v : Value) → (is_region t || is_space t) ≡ true → Fits roots names t v → All (Fits roots others (taken_from t)) (items_of v)
  items_fit (region_type k space args t) v e (fits_region {r = r} is) = points_fit k space args t r is
  items_fit (ispace_type k) v e (fits_space {n = n} few) = All-map (Fits roots others (index_type k)) (λ i. an_index (pos i)) (points n) (λ i d l.
      let below = counted_below 0 n n (omega (arith)) i d l in
      fits_index (point_fits (get_or (points n) i d) (omega (arith, below, few))))
  items_fit (integer_type w) v e is = absurd cc
  items_fit truth_type v e is = absurd cc
  items_fit (index_type k) v e is = absurd cc
  items_fit (pointer_type k space args terms) v e is = absurd cc
  items_fit (partition_type d r p) v e is = absurd cc
  items_fit no_type v e is = absurd cc
  items_fit unknown_type v e is = absurd cc

pub taken_spaced : (tree : Tree) (names : List Bound) (t : StaticType) → IsSpaced tree names t → IsSpaced tree names (taken_from t)
taken_spaced tree names (region_type k space args t) is = record { args = is.args; named = tt; parent = tt; few = omega (arith) }
taken_spaced tree names (ispace_type k) is = no_arguments tree names _ tt
taken_spaced tree names (integer_type w) is = no_arguments tree names _ tt
taken_spaced tree names truth_type is = no_arguments tree names _ tt
taken_spaced tree names (index_type k) is = no_arguments tree names _ tt
taken_spaced tree names (pointer_type k space args terms) is = no_arguments tree names _ tt
taken_spaced tree names (partition_type d r p) is = no_arguments tree names _ tt
taken_spaced tree names no_type is = no_arguments tree names _ tt
taken_spaced tree names unknown_type is = no_arguments tree names _ tt

-- it is no region, partition or index space
pub taken_plain : (t : StaticType) → is_collection (taken_from t) ≡ false
taken_plain (region_type k space args t) = refl
taken_plain (ispace_type k) = refl
taken_plain (integer_type w) = refl
taken_plain truth_type = refl
taken_plain (index_type k) = refl
taken_plain (pointer_type k space args terms) = refl
taken_plain (partition_type d r p) = refl
taken_plain no_type = refl
taken_plain unknown_type = refl

-- ---- bounds of counted loops

pub lower_fits : (roots : List Shape) (names : List Bound) (a b : Width) (v : Value) → Fits roots names (integer_type a) v → FitsWidth (wider a b) (number_of v)
lower_fits roots names a b v (fits_integer {z = z} f) = wider_left a b z f

pub upper_fits : (roots : List Shape) (names : List Bound) (a b : Width) (v : Value) → Fits roots names (integer_type b) v → FitsWidth (wider a b) (number_of v)
upper_fits roots names a b v (fits_integer {z = z} f) = wider_right a b z f
