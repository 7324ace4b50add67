-- Regions that names and types give, and pointers that are looked for among them.
use Rattle.std.proofs.Common.{List, [], ◌∷◌, Bool, None, Some, false, true, refl, sym, subst, ℕ, ℤ, zero, suc, pos, negsuc, ◌≡◌, ◌<◌, ◌≤◌, ◌^◌, ◌+◌, ◌==◌, get_or, cond, inl, inr, arith}
use Rattle.std.proofs.lemmas.Bool.{or_cases, eqb-true}
use Rattle.std.proofs.lemmas.List.Elements.{All-get_or, All-head, All-map, All-tail}
use Rattle.std.specs.List.{All}
use Rattle.std.specs.Prelude.{length, nat_abs}
use Rattle.plain_values.specs.Points.{has}
use Rattle.regent_tree.specs.Accesses.{region_bound, region_reached, regions_reached, space_in}
use Rattle.regent_tree.specs.Laws.{Shape}
use Rattle.regent_tree.specs.Scopes.{Scope, bound_as}
use Rattle.regent_tree.specs.StaticTypes.{Reach}
use Rattle.regent_tree.specs.Syntax.{Tree}
use Rattle.regent_tree.specs.Values.{Region, Value, a_region, a_truth, first_holding, holds, no_region, point_target, region_of}
use Rattle.regent_tree.specs.declared.facts.Term.TheVariants as term
use Rattle.regent_tree.specs.declared.typing.Bound.{Bound}
use Rattle.regent_tree.specs.declared.typing.StaticType.{StaticType}
use Rattle.regent_tree.specs.declared.typing.StaticType.TheVariants.{Index as index_type, Integer as integer_type, Ispace as ispace_type, Nothing as no_type, Partition as partition_type, Pointer as pointer_type, Region as region_type, Truth as truth_type, Unknown as unknown_type}
use Rattle.check_rules.specs.types.Sorts.{is_region}
use Rattle.check_laws.proofs.Parts.{contrary}
use Rattle.value_laws.specs.Fitting.{Fits, IsGoal, NamesFit, fits_region, space_bound}
use Rattle.value_laws.specs.Shapes.{AreRootsOfSpaces, IsPosition, IsRegionOf, IsRootOfSpace, most_points, no_shape}
use Rattle.value_laws.specs.Spaces.{NamesRegionOf}

-- ---- points

pub point_below : (bound : ℕ) (xs : List ℕ) (n : ℕ) → All (λ x. x < bound) xs → has xs n ≡ true → n < bound
point_below bound [] n a e = absurd cc
point_below bound (x ∷ xs) n a e = elim (or_cases (n == x) (has xs n) e) [
  | inl g ↦ subst (λ y. y < bound) (sym (eqb-true n x g)) (All-head (λ y. y < bound) x xs a)
  | inr g ↦ point_below bound xs n (All-tail (λ y. y < bound) x xs a) g
]

-- ---- regions of names

default_region : (vs : List Value) (i : ℕ) → region_of (get_or vs i (a_truth false)) ≡ region_of (get_or vs i (a_region no_region))
default_region [] i = refl
default_region (v ∷ vs) zero = refl
default_region (v ∷ vs) (suc i) = default_region vs i

module _ (roots : List Shape) (names : List Bound) where
  pub region_fits : (t : StaticType) (v : Value) → is_region t ≡ true → Fits roots names t v → IsRegionOf roots (space_in t) (region_of v)
  region_fits (region_type k sp args t) v e (fits_region is) = is
  region_fits (integer_type w) v e is = absurd cc
  region_fits truth_type v e is = absurd cc
  region_fits (index_type k) v e is = absurd cc
  region_fits (pointer_type k s args terms) v e is = absurd cc
  region_fits (ispace_type k) v e is = absurd cc
  region_fits (partition_type d r p) v e is = absurd cc
  region_fits no_type v e is = absurd cc
  region_fits unknown_type v e is = absurd cc

  pub region_named_fits : (vs : List Value) (i : ℕ) → NamesFit roots names vs → is_region (bound_as names i).static_type ≡ true →
      IsRegionOf roots (space_bound names i) (region_of (get_or vs (bound_as names i).place (a_region no_region)))
  region_named_fits vs i fit e = subst (IsRegionOf roots (space_bound names i)) (default_region vs (bound_as names i).place)
      (region_fits (bound_as names i).static_type _ e (fit i))

module _ (roots : List Shape) (s : Scope) (vs : List Value) (fit : NamesFit roots s.names vs) (space : ℕ) where
  goal : (r : Reach) → NamesRegionOf s.names space r → IsGoal roots space (region_reached s vs r)
  goal None n = inl refl
  goal (Some (term.Name i)) n =
      inr (subst (λ k. IsRegionOf roots k (region_bound s vs (term.Name i))) n.of_space (region_named_fits roots s.names vs i fit n.region))
  goal (Some (term.Child p c)) n = absurd n

  pub goals : (terms : List Reach) → All (NamesRegionOf s.names space) terms → All (IsGoal roots space) (regions_reached s vs terms)
  goals terms are = All-map (IsGoal roots space) (region_reached s vs) terms (λ i d l. goal (get_or terms i d) (are i d l))

-- ---- points of regions

module _ (tree : Tree) (roots : List Shape) (rooted : AreRootsOfSpaces tree roots) (space : ℕ) where
  pub few_points : (r : Region) (n : ℕ) → IsRegionOf roots space r → has r.points n ≡ true → n < most_points
  few_points r n is e =
      let below = point_below (get_or roots r.root no_shape).count r.points n is.points.below e in
      let bounded = (All-get_or (IsRootOfSpace tree) roots r.root no_shape is.there rooted).bounded in omega (arith, below, bounded)

  pub point_of_region : (r : Region) (n : ℕ) → IsRegionOf roots space r → has r.points n ≡ true → n < 2 ^ 32
  point_of_region r n is e = let l = few_points r n is e in omega (arith, l)

  held_point : (r : Region) (z : ℤ) → IsGoal roots space r → holds r.points z ≡ true → nat_abs z < 2 ^ 32
  held_point r (pos n) (inl same) e = absurd (contrary (sym (subst (λ (q : Region). has q.points n ≡ true) same e)))
  held_point r (pos n) (inr is) e = point_of_region r n is e
  held_point r (negsuc n) is e = absurd cc

  -- a pointer that is looked for has a position among those that are looked through
  pub first_position : (rs : List Region) (i : ℕ) (z : ℤ) (count : ℕ) → i + length rs ≤ count → All (IsGoal roots space) rs →
      IsPosition count (first_holding i rs z)
  first_position [] i z count l are = tt
  first_position (r ∷ rs) i z count l are = looked (first_position rs (suc i) z count (omega (arith, l)) (All-tail (IsGoal roots space) r rs are))
      (holds r.points z) refl
    where
      looked : IsPosition count (first_holding (suc i) rs z) → (b : Bool) → holds r.points z ≡ b →
          IsPosition count (cond b (point_target (nat_abs z) (suc i)) (first_holding (suc i) rs z))
      looked later true e = (held_point r z (All-head (IsGoal roots space) r rs are) e, omega (arith, l))
      looked later false e = later
