-- The steps of an access: what is read from a field fits its type, and so do elements.
use Rattle.std.proofs.Common.{List, [], ◌∷◌, Bool, None, Some, false, true, refl, sym, subst, ℕ, ℤ, zero, suc, pos, negsuc, ◌≡◌, ◌∙◌, get_or, inr, arith}
use Rattle.std.proofs.lemmas.Bool.{not-false, ltb-true, or_parts}
use Rattle.std.proofs.lemmas.List.Elements.{All-cons, All-get_or, All-nil}
use Rattle.std.specs.List.{All}
use Rattle.std.specs.Prelude.{length, nat_lt}
use Rattle.plain_values.proofs.Plain.{option_or_parts}
use Rattle.plain_values.specs.Points.{IsPoints, has}
use Rattle.regent_tree.specs.Accesses.{aimed_in, aimed_through, read_field, space_in, take_child, take_element, take_field, take_point}
use Rattle.regent_tree.specs.Laws.{Shape}
use Rattle.regent_tree.specs.Lookup.{has_field}
use Rattle.regent_tree.specs.Running.{Here, Result, State, fault, given, if_true}
use Rattle.regent_tree.specs.Scopes.{bound_as}
use Rattle.regent_tree.specs.StaticTypes.{Reach, among_args, field_place, field_term, field_type, space_at}
use Rattle.regent_tree.specs.Store.{read_at}
use Rattle.regent_tree.specs.Syntax.{Expression, Name, Tree}
use Rattle.regent_tree.specs.Typing.{child_type, colour_of, reaches_of, type_of_element, type_of_field}
use Rattle.regent_tree.specs.Values.{Partition, Region, Target, Value, a_pointer, a_region, no_region, null_target, point_target}
use Rattle.regent_tree.specs.declared.facts.Term.{Term}
use Rattle.regent_tree.specs.declared.facts.Term.TheVariants as term
use Rattle.regent_tree.specs.declared.outcome.FaultKind.TheVariants.{BadColor, OutOfRegion}
use Rattle.regent_tree.specs.declared.types.Kind.{Kind}
use Rattle.regent_tree.specs.declared.typing.StaticType.{StaticType}
use Rattle.regent_tree.specs.declared.typing.StaticType.TheVariants.{Index as index_type, Integer as integer_type, Ispace as ispace_type, Nothing as no_type, Partition as partition_type, Pointer as pointer_type, Region as region_type, Truth as truth_type, Unknown as unknown_type}
use Rattle.check_rules.proofs.Untold.{rule_none}
use Rattle.check_rules.specs.first.FirstInExpressions.{first_of_standing, first_of_taking}
use Rattle.check_rules.specs.first.Rules.{first_in}
use Rattle.check_rules.specs.rules.Names.{is_unknown_field}
use Rattle.check_rules.specs.rules.Standing.{standing_in_step}
use Rattle.check_rules.specs.rules.Types.{is_ill_typed_step}
use Rattle.check_rules.specs.types.Declarations.{is_no_field_type}
use Rattle.check_rules.specs.types.Params.{term_at}
use Rattle.check_rules.specs.types.Sorts.{is_region}
use Rattle.check_rules.specs.types.TypedForms.{Taking, element_of, field_of}
use Rattle.check_rules.specs.declared.rule.Rule.TheVariants as rule
use Rattle.check_laws.proofs.Parts.{contrary}
use Rattle.check_laws.specs.SoundScopes.{IsKnown}
use Rattle.value_laws.specs.Fitting.{Fits, IsGoal, fits_partition, fits_pointer, fits_region, fits_space, space_bound}
use Rattle.value_laws.specs.Keeping.{KeepsFit, StateFits}
use Rattle.value_laws.specs.Laws.{IsPlaceOfFit}
use Rattle.value_laws.specs.Shapes.{IsKeptOf, IsPartitionOf, IsRegionOf, no_shape}
use Rattle.value_laws.specs.Spaces.{AreArgumentsOf, IsSpaced}
use Rattle.value_laws.proofs.Kept.{goal_at, kept_value_fits, same_space_of_root}
use Rattle.value_laws.proofs.Regions.{goals, point_of_region}
use Rattle.value_laws.proofs.Spaced.{field_regions, field_spaced, no_arguments}

-- what isn't told of a step
pub taking_parts : (tree : Tree) (taking : Taking) → first_of_taking tree taking ≡ None →
    (is_unknown_field tree taking ≡ false) × (is_ill_typed_step taking ≡ false) × (first_in (first_of_standing []) (standing_in_step taking) ≡ None)
taking_parts tree taking e =
    let a = option_or_parts _ _ e in
    let b = option_or_parts _ _ a.1 in
    let c = option_or_parts _ _ b.1 in
    (rule_none (is_unknown_field tree taking) rule.Name a.0, rule_none (is_ill_typed_step taking) rule.Type b.0, c.0)

module _ (roots : List Shape) (h : Here) (place : IsPlaceOfFit roots h) where
  abbrev Keeps : StaticType → Result Value → Type 0
  Keeps t r = KeepsFit h.tree roots h.scope.names (Fits roots h.scope.names t) r

  -- a field of a field space that has it is declared with a type of values
  pub field_said : (space : ℕ) (f : Name) → has_field h.tree space f ≡ true → is_no_field_type (field_term h.tree space (field_place h.tree space f)) ≡ false
  field_said space f there = (or_parts (is_no_field_type (term_at (space_at h.tree space).fields (field_place h.tree space f))) _ (place.sound.fields space f there)).0

  -- the numbers of a field of a region are of the field's type
  pub number_kept : (space : ℕ) (r : Region) (field point : ℕ) (u : State) → IsRegionOf roots space r → StateFits h.tree roots h.scope.names u →
      IsKeptOf (field_term h.tree space field) (read_at u.store r.root field point)
  number_kept space r field point u is st =
      subst (λ n. IsKeptOf (field_term h.tree n field) (read_at u.store r.root field point))
      (sym (same_space_of_root roots u.store r.root st.store.shapes_are) ∙ is.of_space) (st.store.numbers r.root field point)

  read_fits : (k : Kind) (space : ℕ) (args terms : List Reach) (f : Name) (t : Target) (rs : List Region) (u : State) →
      has_field h.tree space f ≡ true → AreArgumentsOf h.tree h.scope.names space args → All (IsGoal roots space) rs → StateFits h.tree roots h.scope.names u →
      Keeps (field_type h.tree space args f) (read_field h (pointer_type k space args terms) f (aimed_through rs t) u)
  read_fits k space args terms f null_target rs u there are go st = st.store
  read_fits k space args terms f (point_target n zero) rs u there are go st = st.store
  read_fits k space args terms f (point_target n (suc i)) rs u there are go st = hit (has (get_or rs i no_region).points n) refl
    where
      hit : (b : Bool) → has (get_or rs i no_region).points n ≡ b →
          Keeps (field_type h.tree space args f) (read_field h (pointer_type k space args terms) f (aimed_in b (get_or rs i no_region) n) u)
      hit true e = (
        record { names = st.names; counted = st.counted; agree = st.agree; store = st.store },
        kept_value_fits roots h.scope.names h.tree (among_args (space_at h.tree space).params args) (field_term h.tree space (field_place h.tree space f)) _ _
            (field_said space f there)
            (goals roots h.scope u.names st.names (space_in (field_type h.tree space args f)) (reaches_of (field_type h.tree space args f))
            (field_regions h.tree h.scope.names space args are f place.declared there (field_said space f there)))
            (number_kept space (get_or rs i no_region) (field_place h.tree space f) n u (goal_at roots space rs i n go e) st),
      )
      hit false e = st.store

  pub field_fits : (t : StaticType) (f : Name) (v : Value) (u : State) → first_of_taking h.tree (field_of t f) ≡ None → IsKnown h.scope t →
      IsSpaced h.tree h.scope.names t → Fits roots h.scope.names t v → StateFits h.tree roots h.scope.names u → Keeps (type_of_field h.tree t f) (take_field h t f v u)
  field_fits (pointer_type k space args terms) f v u e known spaced (fits_pointer {t = t} {rs = rs} is go) st =
      read_fits k space args terms f t rs u (not-false _ (taking_parts h.tree (field_of (pointer_type k space args terms) f) e).0) spaced.args go st
  field_fits (partition_type d r p) f v u e known spaced (fits_partition is) st = let few = is.few in (st, fits_space (omega (arith, few)))
  field_fits (integer_type w) f v u e known spaced is st = absurd (contrary (taking_parts h.tree (field_of (integer_type w) f) e).1)
  field_fits truth_type f v u e known spaced is st = absurd (contrary (taking_parts h.tree (field_of truth_type f) e).1)
  field_fits (index_type k) f v u e known spaced is st = absurd (contrary (taking_parts h.tree (field_of (index_type k) f) e).1)
  field_fits (ispace_type k) f v u e known spaced is st = absurd (contrary (taking_parts h.tree (field_of (ispace_type k) f) e).1)
  field_fits (region_type k space args t) f v u e known spaced is st = absurd (contrary (taking_parts h.tree (field_of (region_type k space args t) f) e).1)
  field_fits no_type f v u e known spaced is st = absurd (contrary (taking_parts h.tree (field_of no_type f) e).1)
  field_fits unknown_type f v u e known spaced is st = absurd (contrary known.known)

  pub field_is_spaced : (t : StaticType) (f : Name) → first_of_taking h.tree (field_of t f) ≡ None → IsSpaced h.tree h.scope.names t →
      IsSpaced h.tree h.scope.names (type_of_field h.tree t f)
  field_is_spaced (pointer_type k space args terms) f e spaced =
      let there = not-false _ (taking_parts h.tree (field_of (pointer_type k space args terms) f) e).0 in
      field_spaced h.tree h.scope.names space args spaced.args f place.declared there (field_said space f there)
  field_is_spaced (partition_type d r p) f e spaced = no_arguments h.tree h.scope.names _ tt
  field_is_spaced (integer_type w) f e spaced = no_arguments h.tree h.scope.names _ tt
  field_is_spaced truth_type f e spaced = no_arguments h.tree h.scope.names _ tt
  field_is_spaced (index_type k) f e spaced = no_arguments h.tree h.scope.names _ tt
  field_is_spaced (ispace_type k) f e spaced = no_arguments h.tree h.scope.names _ tt
  field_is_spaced (region_type k space args t) f e spaced = no_arguments h.tree h.scope.names _ tt
  field_is_spaced no_type f e spaced = no_arguments h.tree h.scope.names _ tt
  field_is_spaced unknown_type f e spaced = no_arguments h.tree h.scope.names _ tt

  -- ---- elements

  point_fits : (k : Kind) (space : ℕ) (args : List Reach) (t : Term) (r : Region) (z : ℤ) (u : State) → IsRegionOf roots space r →
      StateFits h.tree roots h.scope.names u → Keeps (pointer_type k space args (Some t ∷ [])) (take_point h r z u)
  point_fits k space args t r (pos n) u is st = by (has r.points n) refl
    where
      by : (b : Bool) → has r.points n ≡ b →
          Keeps (pointer_type k space args (Some t ∷ [])) (if_true b (given (a_pointer (point_target n 1) (r ∷ []))) (fault h OutOfRegion) u)
      by true e = (
        st,
        fits_pointer (point_of_region h.tree roots place.rooted space r n is e, omega (arith))
            (All-cons (IsGoal roots space) r [] (inr is) (All-nil (IsGoal roots space))),
      )
      by false e = st.store
  point_fits k space args t r (negsuc n) u is st = st.store

  -- a child of a partition is a region of the parent's type
  child_fits : (b : StaticType) (t : Term) (r : Region) → is_region b ≡ true → IsRegionOf roots (space_in b) r → Fits roots h.scope.names (child_type b t) (a_region r)
  child_fits (region_type k space args q) t r e is = fits_region is
  child_fits (pointer_type k space args terms) t r e is = absurd cc
  child_fits (partition_type d q p) t r e is = absurd cc
  child_fits (integer_type w) t r e is = absurd cc
  child_fits truth_type t r e is = absurd cc
  child_fits (index_type k) t r e is = absurd cc
  child_fits (ispace_type k) t r e is = absurd cc
  child_fits no_type t r e is = absurd cc
  child_fits unknown_type t r e is = absurd cc

  child_of_fits : (d : Bool) (parent : ℕ) (q : Partition) (t : Term) (z : ℤ) (u : State) → is_region (bound_as h.scope.names parent).static_type ≡ true →
      IsPartitionOf roots (space_bound h.scope.names parent) d q → StateFits h.tree roots h.scope.names u →
      Keeps (child_type (bound_as h.scope.names parent).static_type t) (take_child h q z u)
  child_of_fits d parent q t (pos c) u placed is st = by (nat_lt c (length q.sets)) refl
    where
      by : (b : Bool) → nat_lt c (length q.sets) ≡ b → Keeps (child_type (bound_as h.scope.names parent).static_type t)
          (if_true b (given (a_region (record { root = q.root; points = get_or q.sets c [] }))) (fault h BadColor) u)
      by true e = (
        st,
        child_fits (bound_as h.scope.names parent).static_type t _ placed (record {
          there = is.there;
          of_space = is.of_space;
          points = All-get_or (IsPoints (get_or roots q.root no_shape).count) q.sets c [] (ltb-true c (length q.sets) e) is.sets;
        }),
      )
      by false e = st.store
  child_of_fits d parent q t (negsuc c) u placed is st = st.store

  pub element_fits : (t k : StaticType) (e : Expression) (z : ℤ) (v : Value) (u : State) → first_of_taking h.tree (element_of t k) ≡ None → IsKnown h.scope t →
      Fits roots h.scope.names t v → StateFits h.tree roots h.scope.names u → Keeps (type_of_element h.scope t e) (take_element h z v u)
  element_fits (region_type j space args t) k e z v u none known (fits_region {r = r} is) st = point_fits j space args t r z u is st
  element_fits (partition_type d r p) k e z v u none known (fits_partition {p = q} is) st =
      child_of_fits d r q (term.Child p (colour_of h.scope e)) z u known.placed.0 is st
  element_fits (integer_type w) k e z v u none known is st = absurd (contrary (taking_parts h.tree (element_of (integer_type w) k) none).1)
  element_fits truth_type k e z v u none known is st = absurd (contrary (taking_parts h.tree (element_of truth_type k) none).1)
  element_fits (index_type j) k e z v u none known is st = absurd (contrary (taking_parts h.tree (element_of (index_type j) k) none).1)
  element_fits (pointer_type j space args terms) k e z v u none known is st = absurd (contrary (taking_parts h.tree (element_of (pointer_type j space args terms) k) none).1)
  element_fits (ispace_type j) k e z v u none known is st = absurd (contrary (taking_parts h.tree (element_of (ispace_type j) k) none).1)
  element_fits no_type k e z v u none known is st = absurd (contrary (taking_parts h.tree (element_of no_type k) none).1)
  element_fits unknown_type k e z v u none known is st = absurd (contrary known.known)

  child_spaced : (b : StaticType) (p : ℕ) (c : _) → IsSpaced h.tree h.scope.names b → IsSpaced h.tree h.scope.names (child_type b (term.Child p c))
  child_spaced (region_type k space args q) p c spaced = record { args = spaced.args; named = tt; parent = tt; few = spaced.few }
  child_spaced (pointer_type k space args terms) p c spaced = no_arguments h.tree h.scope.names _ tt
  child_spaced (partition_type d q o) p c spaced = no_arguments h.tree h.scope.names _ tt
  child_spaced (integer_type w) p c spaced = no_arguments h.tree h.scope.names _ tt
  child_spaced truth_type p c spaced = no_arguments h.tree h.scope.names _ tt
  child_spaced (index_type k) p c spaced = no_arguments h.tree h.scope.names _ tt
  child_spaced (ispace_type k) p c spaced = no_arguments h.tree h.scope.names _ tt
  child_spaced no_type p c spaced = no_arguments h.tree h.scope.names _ tt
  child_spaced unknown_type p c spaced = no_arguments h.tree h.scope.names _ tt

  pub element_is_spaced : (t : StaticType) (e : Expression) → IsSpaced h.tree h.scope.names t → IsSpaced h.tree h.scope.names (type_of_element h.scope t e)
  element_is_spaced (region_type k space args t) e spaced = record { args = spaced.args; named = tt; parent = tt; few = omega (arith) }
  element_is_spaced (partition_type d r p) e spaced = child_spaced (bound_as h.scope.names r).static_type p (colour_of h.scope e) (place.spaced r)
  element_is_spaced (integer_type w) e spaced = no_arguments h.tree h.scope.names _ tt
  element_is_spaced truth_type e spaced = no_arguments h.tree h.scope.names _ tt
  element_is_spaced (index_type k) e spaced = no_arguments h.tree h.scope.names _ tt
  element_is_spaced (pointer_type k space args terms) e spaced = no_arguments h.tree h.scope.names _ tt
  element_is_spaced (ispace_type k) e spaced = no_arguments h.tree h.scope.names _ tt
  element_is_spaced no_type e spaced = no_arguments h.tree h.scope.names _ tt
  element_is_spaced unknown_type e spaced = no_arguments h.tree h.scope.names _ tt
