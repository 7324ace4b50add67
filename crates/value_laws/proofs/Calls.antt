-- The values of a call's arguments fit the parameters, where nothing is told of the call.
use Rattle.std.proofs.Common.{List, [], ◌∷◌, Bool, false, true, refl, ap, sym, subst, ℕ, zero, suc, ◌≡◌, ◌∙◌, ◌&&◌, ◌||◌, not, map, inl, inr}
use Rattle.std.proofs.lemmas.Bool.{and_parts, not-false, or_cases, or_parts, eqb-true}
use Rattle.std.proofs.lemmas.List.{length-map}
use Rattle.std.proofs.lemmas.List.Elements.{All-nil}
use Rattle.regent_tree.specs.Accesses.{converted, space_in}
use Rattle.regent_tree.specs.Laws.{Shape}
use Rattle.regent_tree.specs.Running.{Here, State}
use Rattle.regent_tree.specs.Scopes.{bound_as}
use Rattle.regent_tree.specs.StaticTypes.{Reach}
use Rattle.regent_tree.specs.Syntax.{Tree}
use Rattle.regent_tree.specs.Typing.{put, put_in}
use Rattle.regent_tree.specs.Values.{Value}
use Rattle.regent_tree.specs.declared.facts.Known.{Known}
use Rattle.regent_tree.specs.declared.facts.Term.TheVariants as term
use Rattle.regent_tree.specs.declared.typing.Bound.{Bound}
use Rattle.regent_tree.specs.declared.typing.StaticType.{StaticType}
use Rattle.regent_tree.specs.declared.typing.StaticType.TheVariants.{Index as index_type, Integer as integer_type, Ispace as ispace_type, Nothing as no_type, Partition as partition_type, Pointer as pointer_type, Region as region_type, Truth as truth_type, Unknown as unknown_type}
use Rattle.check_rules.specs.rules.Partitions.{is_parent, mispartitions}
use Rattle.check_rules.specs.rules.Spaces.{differs, misfit_in}
use Rattle.check_rules.specs.types.Fitting.{fits, fits_param}
use Rattle.check_rules.specs.types.Sorts.{is_partition, is_region, is_unknown_type, type_at}
use Rattle.check_laws.proofs.Parts.{contrary}
use Rattle.value_laws.specs.Fitting.{Fits, IsGoal, fits_index, fits_integer, fits_nothing, fits_partition, fits_pointer, fits_region, fits_space, fits_truth, fits_unknown, space_bound}
use Rattle.value_laws.specs.Keeping.{KeepsFit, StateFits}
use Rattle.value_laws.specs.Shapes.{IsPartitionOf, IsPosition, IsRegionOf}
use Rattle.value_laws.specs.Spaces.{HasSpaceOfName}
use Rattle.value_laws.proofs.Conversions.{asked_partition, converted_fits}
use Rattle.value_laws.proofs.Ends.{weaker}
use Rattle.value_laws.proofs.Spaced.{same_space}

-- ---- what isn't told at a place

none_there : (b c : Bool) → c ≡ false → (b && c) ≡ false
none_there true c e = e
none_there false c e = refl

pub misfit_at : (types ps ts : List StaticType) (i : ℕ) → misfit_in types ps ts ≡ false → (is_region (type_at ps i) && differs types (type_at ps i) (type_at ts i)) ≡ false
misfit_at types [] ts i e = refl
misfit_at types (p ∷ ps) [] i e = none_there (is_region (type_at (p ∷ ps) i)) (differs types (type_at (p ∷ ps) i) unknown_type) refl
misfit_at types (p ∷ ps) (t ∷ ts) zero e = (or_parts (is_region p && differs types p t) _ e).0
misfit_at types (p ∷ ps) (t ∷ ts) (suc i) e = misfit_at types ps ts i (or_parts (is_region p && differs types p t) _ e).1

-- what fits a parameter that is no region and no partition fits it in earnest
in_earnest : (known : List Known) (t wanted : StaticType) → is_region wanted ≡ false → is_partition wanted ≡ false → fits_param known t wanted ≡ true → fits known t wanted ≡ true
in_earnest known t wanted r p e = elim (or_cases (fits known t wanted || (is_region t && is_region wanted)) _ e) [
  | inl a ↦ elim (or_cases (fits known t wanted) _ a) [ inl b ↦ b | inr b ↦ absurd (contrary (sym (and_parts (is_region t) _ b).1 ∙ r)) ]
  | inr a ↦ absurd (contrary (sym (and_parts (is_partition t) _ a).1 ∙ p))
]

-- ---- a partition's parent

named_space : (names : List Bound) (parent : ℕ) (t : StaticType) → is_parent parent t ≡ true → is_unknown_type t ≡ false → HasSpaceOfName names t →
    space_bound names parent ≡ space_in t
named_space names parent (region_type k space args (term.Name i)) e l has =
    ap (λ n. space_bound names n) (eqb-true parent i e) ∙ has.of_space
named_space names parent (region_type k space args (term.Child p c)) e l has = absurd cc
named_space names parent (integer_type w) e l has = absurd cc
named_space names parent truth_type e l has = absurd cc
named_space names parent (index_type k) e l has = absurd cc
named_space names parent (pointer_type k s args terms) e l has = absurd cc
named_space names parent (ispace_type k) e l has = absurd cc
named_space names parent (partition_type d r p) e l has = absurd cc
named_space names parent no_type e l has = absurd cc
named_space names parent unknown_type e l has = absurd cc

parent_is_region : (parent : ℕ) (t : StaticType) → is_parent parent t ≡ true → is_unknown_type t ≡ false → is_region t ≡ true
parent_is_region parent (region_type k space args t) e l = refl
parent_is_region parent (integer_type w) e l = absurd cc
parent_is_region parent truth_type e l = absurd cc
parent_is_region parent (index_type k) e l = absurd cc
parent_is_region parent (pointer_type k s args terms) e l = absurd cc
parent_is_region parent (ispace_type k) e l = absurd cc
parent_is_region parent (partition_type d r p) e l = absurd cc
parent_is_region parent no_type e l = absurd cc
parent_is_region parent unknown_type e l = absurd cc

-- the parent of an argument is the argument for the parameter's parent, which has the same field space
pub parents_agree : (names others : List Bound) (types ps : List StaticType) (r parent : ℕ) → is_region (type_at ps r) ≡ true →
    (bound_as others r).static_type ≡ type_at ps r → misfit_in types ps types ≡ false → is_parent parent (type_at types r) ≡ true →
    is_unknown_type (type_at types r) ≡ false → HasSpaceOfName names (type_at types r) → space_bound names parent ≡ space_bound others r
parents_agree names others types ps r parent region bound misfit is known has =
    let differing : differs types (type_at ps r) (type_at types r) ≡ false =
    sym (λ j. region j && differs types (type_at ps r) (type_at types r)) ∙ misfit_at types ps types r misfit in
    let same = same_space types (type_at ps r) (type_at types r) (space_in (type_at ps r)) (parent_is_region parent (type_at types r) is known) differing
    (record { region = region; of_space = refl }) in
    named_space names parent (type_at types r) is known has ∙ same.of_space ∙ sym (ap space_in bound)

module _ (tree : Tree) (roots : List Shape) (names others : List Bound) (h : Here) where
  -- a value that is no partition fits whatever the names are
  pub any_names : (t : StaticType) (v : Value) → is_partition t ≡ false → Fits roots names t v → Fits roots others t v
  any_names (integer_type w) v e (fits_integer f) = fits_integer f
  any_names truth_type v e fits_truth = fits_truth
  any_names (index_type k) v e (fits_index f) = fits_index f
  any_names (pointer_type k s args terms) v e (fits_pointer is go) = fits_pointer is go
  any_names (ispace_type k) v e (fits_space f) = fits_space f
  any_names (region_type k s args t) v e (fits_region is) = fits_region is
  any_names (partition_type d r p) v e is = absurd cc
  any_names no_type v e is = fits_nothing
  any_names unknown_type v e is = fits_unknown

  region_argument : (known : List Known) (types : List StaticType) (k : _) (space : ℕ) (args : List Reach) (q : _) (t : StaticType) (v : Value) → is_unknown_type t ≡ false →
      fits_param known t (region_type k space args q) ≡ true → differs types (region_type k space args q) t ≡ false → Fits roots names t v →
      Fits roots others (region_type k space args q) v
  region_argument known types k space args q (region_type j s others_args o) v l e d (fits_region {r = r} is) =
      let same = same_space types (region_type k space args q) (region_type j s others_args o) space refl d (record { region = refl; of_space = refl }) in
      fits_region (subst (λ n. IsRegionOf roots n r) same.of_space is)
  region_argument known types k space args q (integer_type w) v l e d is = absurd cc
  region_argument known types k space args q truth_type v l e d is = absurd cc
  region_argument known types k space args q (index_type j) v l e d is = absurd cc
  region_argument known types k space args q (pointer_type j s others_args terms) v l e d is = absurd cc
  region_argument known types k space args q (ispace_type j) v l e d is = absurd cc
  region_argument known types k space args q (partition_type f r p) v l e d is = absurd cc
  region_argument known types k space args q no_type v l e d is = absurd cc
  region_argument known types k space args q unknown_type v l e d is = absurd cc

  asked_flag : (asked d : Bool) → (asked && not d) ≡ false → (d || not asked) ≡ true
  asked_flag true true e = refl
  asked_flag true false e = absurd cc
  asked_flag false true e = refl
  asked_flag false false e = refl

  partition_argument : (known : List Known) (types : List StaticType) (asked : Bool) (r own : ℕ) (t : StaticType) (v : Value) → is_unknown_type t ≡ false →
      fits_param known t (partition_type asked r own) ≡ true → mispartitions types (partition_type asked r own) t ≡ false →
      ((parent : ℕ) → is_parent parent (type_at types r) ≡ true → space_bound names parent ≡ space_bound others r) → Fits roots names t v →
      Fits roots others (partition_type asked r own) v
  partition_argument known types asked r own (partition_type d parent p) v l e m agree (fits_partition {p = q} is) =
      let parts = or_parts (asked && not d) _ m in
      fits_partition (subst (λ n. IsPartitionOf roots n asked q) (agree parent (not-false _ parts.1))
      (asked_partition roots (space_bound names parent) d asked q (asked_flag asked d parts.0) is))
  partition_argument known types asked r own (integer_type w) v l e m agree is = absurd cc
  partition_argument known types asked r own truth_type v l e m agree is = absurd cc
  partition_argument known types asked r own (index_type j) v l e m agree is = absurd cc
  partition_argument known types asked r own (pointer_type j s args terms) v l e m agree is = absurd cc
  partition_argument known types asked r own (ispace_type j) v l e m agree is = absurd cc
  partition_argument known types asked r own (region_type j s args q) v l e m agree is = absurd cc
  partition_argument known types asked r own no_type v l e m agree is = absurd cc
  partition_argument known types asked r own unknown_type v l e m agree is = absurd cc

  -- an argument that is converted to a parameter's type, read with the arguments, fits it in the called task
  pub argument_fits : (types : List StaticType) (p t : StaticType) (v : Value) (u : State) → is_unknown_type t ≡ false →
      fits_param h.scope.known t (put_in types p) ≡ true → (is_region p && differs types p t) ≡ false → mispartitions types p t ≡ false →
      ((asked : Bool) (r own parent : ℕ) → p ≡ partition_type asked r own → is_parent parent (type_at types r) ≡ true → space_bound names parent ≡ space_bound others r) →
      Fits roots names t v → StateFits tree roots names u → KeepsFit tree roots names (Fits roots others p) (converted h t (put_in types p) [] v u)
  argument_fits types (integer_type w) t v u l e d m agree is st = weaker tree roots names (converted h t (integer_type w) [] v u)
      (converted_fits tree roots names h t (integer_type w) [] v u l (in_earnest h.scope.known t (integer_type w) refl refl e) (All-nil (IsGoal roots 0)) is st)
      (λ a f. any_names (integer_type w) a refl f)
  argument_fits types truth_type t v u l e d m agree is st = weaker tree roots names (converted h t truth_type [] v u)
      (converted_fits tree roots names h t truth_type [] v u l (in_earnest h.scope.known t truth_type refl refl e) (All-nil (IsGoal roots 0)) is st)
      (λ a f. any_names truth_type a refl f)
  argument_fits types (index_type k) t v u l e d m agree is st = weaker tree roots names (converted h t (index_type k) [] v u)
      (converted_fits tree roots names h t (index_type k) [] v u l (in_earnest h.scope.known t (index_type k) refl refl e) (All-nil (IsGoal roots 0)) is st)
      (λ a f. any_names (index_type k) a refl f)
  argument_fits types (ispace_type k) t v u l e d m agree is st = weaker tree roots names (converted h t (ispace_type k) [] v u)
      (converted_fits tree roots names h t (ispace_type k) [] v u l (in_earnest h.scope.known t (ispace_type k) refl refl e) (All-nil (IsGoal roots 0)) is st)
      (λ a f. any_names (ispace_type k) a refl f)
  argument_fits types (pointer_type k space args terms) t v u l e d m agree is st =
      let wanted = put_in types (pointer_type k space args terms) in
      weaker tree roots names (converted h t wanted [] v u)
      (converted_fits tree roots names h t wanted [] v u l (in_earnest h.scope.known t wanted refl refl e) (All-nil (IsGoal roots space)) is st)
      (λ a f. unread a f)
    where
      unread : (a : Value) → Fits roots names (pointer_type k space (map (put types) args) (map (put types) terms)) a → Fits roots others (pointer_type k space args terms) a
      unread a (fits_pointer {t = t} is go) = fits_pointer (subst (λ n. IsPosition n t) (length-map terms (put types)) is) go
  argument_fits types (region_type k space args q) t v u l e d m agree is st = (st, region_argument h.scope.known types k space args q t v l e d is)
  argument_fits types (partition_type asked r own) t v u l e d m agree is st =
      (st, partition_argument h.scope.known types asked r own t v l e m (λ parent same. agree asked r own parent refl same) is)
  argument_fits types no_type t v u l e d m agree is st = (st, fits_nothing)
  argument_fits types unknown_type t v u l e d m agree is st = (st, fits_unknown)
