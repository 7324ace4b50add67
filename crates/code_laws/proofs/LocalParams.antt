-- Parameters of a task: what each takes, what its name stands for, and to which parameters its pointers go.
use Rattle.std.proofs.Common.{◌≡◌, Bool, List, [], ◌∷◌, ◌++◌, Some, None, true, refl, ap, subst, ◌∙◌, ℕ, suc, ◌+◌, ⊎_elim, arith}
use Rattle.std.specs.Prelude.{get_or, map}
use Rattle.std.specs.List.{All}
use Rattle.std.proofs.lemmas.List.Elements.{All-head, All-tail}
use Rattle.regent_tree.proofs.Members.{Has-append_cases}
use Rattle.regent_tree.specs.Accesses.{space_in}
use Rattle.regent_tree.specs.Limits.{WithinLimits}
use Rattle.regent_tree.specs.Scopes.{bound_as, bound_params, scope_of, unbound}
use Rattle.regent_tree.specs.StaticTypes.{Reach, among_params, looked_up, place_in, place_of_space, type_said}
use Rattle.regent_tree.specs.Syntax.{TaskTree, Tree}
use Rattle.regent_tree.specs.Typing.{reaches_of}
use Rattle.regent_tree.specs.declared.facts.Term.TheVariants as place
use Rattle.regent_tree.specs.declared.types.Param.{Param}
use Rattle.regent_tree.specs.declared.types.TypeTerm.{TypeTerm}
use Rattle.regent_tree.specs.declared.types.NumberTerm.TheVariants as number
use Rattle.regent_tree.specs.declared.types.TypeTerm.TheVariants as term
use Rattle.regent_tree.specs.declared.typing.Bound.{Bound}
use Rattle.regent_tree.specs.declared.typing.StaticType.{StaticType}
use Rattle.regent_tree.specs.declared.typing.StaticType.TheVariants.{Index as index_type, Integer as integer_type, Ispace as ispace_type, Nothing as no_type, Partition as partition_type, Pointer as pointer_type, Region as region_type, Truth as truth_type, Unknown as unknown_type}
use Rattle.check_laws.proofs.Parameters.{bound}
use Rattle.check_rules.specs.Breaches.{breaches}
use Rattle.check_rules.specs.scopes.Sound.{StandsIn}
use Rattle.check_rules.specs.types.Sorts.{is_region}
use Rattle.expression_laws.proofs.Params.{numbered, param_as}
use Rattle.state_laws.proofs.Declared.{HasRegions}
use Rattle.state_laws.proofs.Texts.{body_begins, body_regions}
use Rattle.value_laws.specs.Spaces.{HasParent, NamesRegionOf}
use Rattle.code_laws.specs.Pointers.{AllGoToParams, AreThere, GoToParams, GoesToParams}
use Rattle.code_laws.specs.Simple.{IsRegion, a_region_type, scalar_truth, simple_index, simple_space, term_in, simple_integer, simple_truth}
use Rattle.code_laws.proofs.LocalNames.{AllKept, AllKeptIn, IsKept, kept_partition, kept_region, kept_value}
use Rattle.code_laws.proofs.LocalPlaces.{HaveOwnTerms, numbered_among, region_numbered, regions_among}
use Rattle.code_laws.proofs.LocalTypes.{IsTakable, takable_index, takable_partition, takable_pointer, takable_region, takable_scalar, takable_space, term_scalar}
use Rattle.code_laws.proofs.LocalValues.{AreAmong, IsRegionAmong, value_pointer, value_simple, among_goals}
use Rattle.code_laws.proofs.Typing.{no_way_back}

-- ---- what is written

module _ (keeping : Bool) (keeps : keeping ≡ true) (tree : Tree) (all : List Param) where
  -- what a parameter takes, by its type
  pub term_takable : (t : TypeTerm) (own : ℕ) → IsTakable keeping (type_said tree (among_params all) own t)
  term_takable (term.Region k u) own = takable_region _ (a_region_type k _ _ _)
  term_takable (term.Number number.Int32) own = takable_scalar _ (term_scalar (term.Number number.Int32) refl tree (among_params all) own)
  term_takable (term.Number number.Int64) own = takable_scalar _ (term_scalar (term.Number number.Int64) refl tree (among_params all) own)
  term_takable (term.Number (number.Index k)) own = takable_index k keeps
  term_takable term.Truth own = takable_scalar _ scalar_truth
  term_takable (term.Pointer p) own = takable_pointer _ _ _ _ keeps
  term_takable (term.Ispace k) own = takable_space k keeps
  term_takable (term.Partition d r c) own = takable_partition _ _ _ keeps

-- ---- where pointers go

module _ (tree : Tree) (all : List Param) where
  abbrev names : List Bound
  names = bound_params tree all 0 all

  abbrev said : ℕ → TypeTerm → StaticType
  said i t = type_said tree (among_params all) i t

  -- the regions of a parameter's pointers are parameters of their field space, and the parent of one that is a partition is a
  -- parameter
  abbrev pub AreAmongParams : ℕ → List Param → Type 0
  AreAmongParams i [] = Unit {0}
  AreAmongParams i (p ∷ ps) = HasRegions names (said i p.term) × HasParent names (said i p.term) × AreAmongParams (suc i) ps

  moved : (i j : ℕ) → (suc i + j) ≡ (i + suc j)
  moved i j = omega arith

  among_from : (i : ℕ) (ps : List Param) → ((j : ℕ) → bound_as names (i + j) ≡ get_or (numbered tree all i ps) j unbound) →
      ((j : ℕ) → HasRegions names (bound_as names j).static_type) → ((j : ℕ) → HasParent names (bound_as names j).static_type) → AreAmongParams i ps
  among_from i [] has regions parents = tt
  among_from i (p ∷ ps) has regions parents = (
    subst (λ (b : Bound). HasRegions names b.static_type) (has 0) (regions (i + 0)),
    subst (λ (b : Bound). HasParent names b.static_type) (has 0) (parents (i + 0)),
    among_from (suc i) ps (λ j. ap (bound_as names) (moved i j) ∙ has (suc j)) regions parents,
  )

  -- ---- they are found

  region_is : (t : StaticType) → is_region t ≡ true → IsRegion t
  region_is (region_type k sp args r) e = a_region_type k sp args r
  region_is (integer_type w) e = absurd (no_way_back e)
  region_is truth_type e = absurd (no_way_back e)
  region_is (index_type k) e = absurd (no_way_back e)
  region_is (pointer_type k sp args rs) e = absurd (no_way_back e)
  region_is (ispace_type k) e = absurd (no_way_back e)
  region_is (partition_type d r p) e = absurd (no_way_back e)
  region_is no_type e = absurd (no_way_back e)
  region_is unknown_type e = absurd (no_way_back e)

  there_named : (bs : List Bound) (sp : ℕ) (rs : List Reach) → All (NamesRegionOf bs sp) rs → AreThere bs sp rs
  there_named bs sp [] a = tt
  there_named bs sp (None ∷ rs) a = there_named bs sp rs (All-tail (NamesRegionOf bs sp) None rs a)
  there_named bs sp (Some (place.Child p c) ∷ rs) a = absurd (All-head (NamesRegionOf bs sp) (Some (place.Child p c)) rs a)
  there_named bs sp (Some (place.Name i) ∷ rs) a =
      let h = All-head (NamesRegionOf bs sp) (Some (place.Name i)) rs a in
      ((region_numbered bs i h.region).1, region_is (bound_as bs i).static_type h.region, h.of_space, there_named bs sp rs (All-tail (NamesRegionOf bs sp) (Some (place.Name i)) rs a))

  goes_among : (t : StaticType) → HasRegions names t → HasParent names t → GoesToParams names t
  goes_among (pointer_type k sp args rs) h a = there_named names sp rs h
  goes_among (integer_type w) h a = tt
  goes_among truth_type h a = tt
  goes_among (index_type k) h a = tt
  goes_among (ispace_type k) h a = tt
  goes_among (region_type k sp args r) h a = tt
  goes_among (partition_type d r p) h a = ((region_numbered names r a).1, region_is (bound_as names r).static_type a)
  goes_among no_type h a = tt
  goes_among unknown_type h a = tt

  go_behind : (bs : List Bound) (b : Bound) → GoToParams names bs → GoesToParams names b.static_type → GoToParams names (bs ++ b ∷ [])
  go_behind [] b a g = (g, tt)
  go_behind (c ∷ bs) b a g = (a.0, go_behind bs b a.1 g)

  go_from : (i : ℕ) (ps : List Param) → AreAmongParams i ps → GoToParams names (bound_params tree all i ps)
  go_from i [] a = tt
  go_from i (p ∷ ps) a = go_behind (bound_params tree all (suc i) ps) _ (go_from (suc i) ps a.2) (goes_among (said i p.term) a.0 a.1)

-- so it is of a task of an accepted program
pub params_among : (tree : Tree) (t : TaskTree) → breaches tree ≡ [] → WithinLimits tree → StandsIn tree t → AreAmongParams tree t.params 0 t.params
params_among tree t none within stands =
    let all = t.params in
    among_from tree all 0 all (λ j. ap (bound_as (bound_params tree all 0 all)) (zeroth j) ∙ param_as tree all j)
    (body_regions tree none within t stands) (λ j. (body_begins tree none within t stands j).parent)
  where
    zeroth : (j : ℕ) → (0 + j) ≡ j
    zeroth j = omega arith

-- so the pointers of parameters go to parameters
pub pointers_among : (tree : Tree) (t : TaskTree) → breaches tree ≡ [] → WithinLimits tree → StandsIn tree t → AllGoToParams (scope_of tree t).names
pointers_among tree t none within stands = go_from tree t.params 0 t.params (params_among tree t none within stands)

-- ---- what the names of parameters stand for

module _ (keeping : Bool) (keeps : keeping ≡ true) (tree : Tree) (all : List Param) where
  abbrev bounds : List Bound
  bounds = bound_params tree all 0 all

  abbrev type_at : ℕ → TypeTerm → StaticType
  type_at i t = type_said tree (among_params all) i t

  abbrev HasParentAmong : List Bound → StaticType → Type 0
  HasParentAmong bs (partition_type d r p) = IsRegionAmong bs r
  HasParentAmong bs t = Unit {0}

  -- a parameter is a value, the region of its number, or a partition
  param_kept : (bs : List Bound) (i : ℕ) (t : TypeTerm) → AreAmong bs (space_in (type_at i t)) (reaches_of (type_at i t)) →
      HasParentAmong bs (type_at i t) → IsKept keeping bs i (type_at i t)
  param_kept bs i (term.Region k u) among parent = kept_region k (place_of_space tree u.name) (map (looked_up (among_params all)) u.args)
  param_kept bs i (term.Number number.Int32) among parent = kept_value _ (value_simple _ (simple_integer _))
  param_kept bs i (term.Number number.Int64) among parent = kept_value _ (value_simple _ (simple_integer _))
  param_kept bs i (term.Number (number.Index k)) among parent = kept_value (index_type k) (value_simple (index_type k) (simple_index k))
  param_kept bs i term.Truth among parent = kept_value _ (value_simple _ simple_truth)
  param_kept bs i (term.Pointer q) among parent =
      let t = type_at i (term.Pointer q) in
      kept_value t (value_pointer _ _ _ _ keeps (among_goals bs (space_in t) (reaches_of t) among))
  param_kept bs i (term.Ispace k) among parent = kept_value (ispace_type k) (value_simple (ispace_type k) (simple_space k))
  param_kept bs i (term.Partition d r c) among parent = kept_partition d (place_in all r) keeps parent

  -- a parameter that is a region has its own term
  own_said : (i : ℕ) (t : TypeTerm) → is_region (type_at i t) ≡ true → IsRegion (type_at i t) × (term_in (type_at i t) ≡ place.Name i)
  own_said i (term.Region k u) e = (a_region_type k _ _ _, refl)
  own_said i (term.Number number.Int32) e = absurd (no_way_back e)
  own_said i (term.Number number.Int64) e = absurd (no_way_back e)
  own_said i (term.Number (number.Index k)) e = absurd (no_way_back e)
  own_said i term.Truth e = absurd (no_way_back e)
  own_said i (term.Pointer p) e = absurd (no_way_back e)
  own_said i (term.Ispace k) e = absurd (no_way_back e)
  own_said i (term.Partition d r c) e = absurd (no_way_back e)

  own_params : (i : ℕ) (ps : List Param) → HaveOwnTerms (bound_params tree all i ps)
  own_params i [] b h e = absurd h
  own_params i (p ∷ ps) b h e = ⊎_elim
      (λ old. own_params (suc i) ps b old e)
      (λ new. ⊎_elim
      (λ same. subst (λ (b : Bound). IsRegion b.static_type × (term_in b.static_type ≡ place.Name b.number)) same
      (own_said i p.term (ap (λ (b : Bound). is_region b.static_type) same ∙ e)))
      (λ none. absurd none) new)
      (Has-append_cases (bound_params tree all (suc i) ps) (bound tree all i p ∷ []) b h)

  among_params_said : (t : StaticType) → HasRegions bounds t → AreAmong bounds (space_in t) (reaches_of t)
  among_params_said (pointer_type k sp args rs) h = regions_among bounds (own_params 0 all) sp rs h
  among_params_said (integer_type w) h = tt
  among_params_said truth_type h = tt
  among_params_said (index_type k) h = tt
  among_params_said (ispace_type k) h = tt
  among_params_said (region_type k sp args r) h = tt
  among_params_said (partition_type d r p) h = tt
  among_params_said no_type h = tt
  among_params_said unknown_type h = tt

  parent_said : (t : StaticType) → HasParent bounds t → HasParentAmong bounds t
  parent_said (partition_type d r p) h = numbered_among bounds (own_params 0 all) r h
  parent_said (pointer_type k sp args rs) h = tt
  parent_said (integer_type w) h = tt
  parent_said truth_type h = tt
  parent_said (index_type k) h = tt
  parent_said (ispace_type k) h = tt
  parent_said (region_type k sp args r) h = tt
  parent_said no_type h = tt
  parent_said unknown_type h = tt

  kept_behind : (bs : List Bound) (b : Bound) → AllKeptIn keeping bounds bs → IsKept keeping bounds b.number b.static_type →
      AllKeptIn keeping bounds (bs ++ b ∷ [])
  kept_behind [] b a k = (k, tt)
  kept_behind (c ∷ bs) b a k = (a.0, kept_behind bs b a.1 k)

  params_kept : (i : ℕ) (ps : List Param) → AreAmongParams tree all i ps → AllKeptIn keeping bounds (bound_params tree all i ps)
  params_kept i [] among = tt
  params_kept i (p ∷ ps) among =
      kept_behind (bound_params tree all (suc i) ps) (bound tree all i p) (params_kept (suc i) ps among.2)
      (param_kept bounds i p.term (among_params_said (type_at i p.term) among.0) (parent_said (type_at i p.term) among.1))

  pub all_kept : AreAmongParams tree all 0 all → AllKept keeping bounds
  all_kept among = params_kept 0 all among
