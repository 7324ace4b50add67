-- Names in scope, the regions that they have, and the regions that types name.
use Rattle.std.proofs.Common.{List, [], ◌∷◌, None, Some, false, true, refl, ap, subst, ℕ, zero, suc, ◌≡◌, ◌∙◌, get_or, map, not}
use Rattle.std.proofs.lemmas.Bool.{and_parts, or_parts, not-false}
use Rattle.std.specs.List.{list_any}
use Rattle.regent_tree.specs.Accesses.{region_bound, regions_reached}
use Rattle.regent_tree.specs.Lookup.{is_bound, type_named}
use Rattle.regent_tree.specs.Scopes.{Scope, bound_as, bound_to, in_scope}
use Rattle.regent_tree.specs.StaticTypes.{Looking, Reach, among_args, field_place, field_term, field_type, kind_said, looked_up, place_in, space_at, type_said}
use Rattle.regent_tree.specs.Syntax.{Name, Tree}
use Rattle.regent_tree.specs.Typing.{reaches_of}
use Rattle.regent_tree.specs.Values.{Region, Value, a_region, a_truth, meant, no_region, region_of}
use Rattle.regent_tree.specs.declared.facts.Term.TheVariants as term
use Rattle.regent_tree.specs.declared.types.NumberTerm.TheVariants as number
use Rattle.regent_tree.specs.declared.types.Param.{Param}
use Rattle.regent_tree.specs.declared.types.PointerTerm.{PointerTerm}
use Rattle.regent_tree.specs.declared.types.Ref.{Ref}
use Rattle.regent_tree.specs.declared.types.Ref.TheVariants.{Named, Wild}
use Rattle.regent_tree.specs.declared.types.TypeTerm.{TypeTerm}
use Rattle.regent_tree.specs.declared.types.TypeTerm.TheVariants as typed
use Rattle.regent_tree.specs.declared.typing.Bound.{Bound}
use Rattle.regent_tree.specs.declared.typing.StaticType.{StaticType}
use Rattle.regent_tree.specs.declared.typing.StaticType.TheVariants.{Index as index_type, Integer as integer_type, Ispace as ispace_type, Nothing as no_type, Partition as partition_type, Pointer as pointer_type, Region as region_type, Truth as truth_type, Unknown as unknown_type}
use Rattle.check_rules.specs.types.Declarations.{is_no_field_type}
use Rattle.check_rules.specs.types.Lookup.{names_a}
use Rattle.check_rules.specs.rules.Names.{unbound_name_in_type, unbound_name_in_use, misses_region}
use Rattle.check_rules.specs.types.Sorts.{is_region}
use Rattle.check_laws.specs.SoundScopes.{IsSoundScope}
use Rattle.check_laws.proofs.Parts.{surely}
use Rattle.check_laws.proofs.Scopes.{found_by_number}
use Rattle.expression_laws.specs.Kinds.{ArgumentsInScope, AreArguments, GoInto, IsArgument, IsBoundTo, IsOfType, IsNamedByOwnNumber, IsWellScopedBinding, IsWellScoped, NamesFit, is_index, is_number, is_pointer, is_region_of, is_truth}
use Rattle.fact_laws.specs.Regions.{Interpretation, StandsFor}

-- ---- names

module _ (s : Scope) (scope : IsSoundScope s) where
  pub said_named : IsWellScoped s → (n : Name) → is_bound s.names n ≡ true → IsWellScopedBinding s (bound_to s.names n).number (bound_to s.names n)
  said_named well_scoped n b = subst (IsWellScopedBinding s (bound_to s.names n).number) (found_by_number s.next s.names n scope.numbers b).0 (well_scoped (bound_to s.names n).number)

  pub named_fits : (m : Interpretation) (names : List Value) → NamesFit m s names → (n : Name) → is_bound s.names n ≡ true →
      IsBoundTo m (bound_to s.names n).number (bound_to s.names n) (get_or names (bound_to s.names n).place (a_truth false))
  named_fits m names fit n b =
      subst (λ (c : Bound). IsBoundTo m (bound_to s.names n).number c (get_or names c.place (a_truth false)))
      (found_by_number s.next s.names n scope.numbers b).0 (fit (bound_to s.names n).number)

  -- a name of a region is an argument
  pub region_arg : (n : Name) → names_a is_region s.names n ≡ true → IsArgument s (Some (term.Name (bound_to s.names n).number))
  region_arg n e =
      let both = and_parts (is_bound s.names n) _ e in
      let is = surely is_region (type_named s.names n) (scope.types n both.0).known both.1 in
      ap (λ (b : Bound). is_region b.static_type) (found_by_number s.next s.names n scope.numbers both.0).0 ∙ is

  pub refs_args : (refs : List Ref) → list_any (misses_region s.names) refs ≡ false → AreArguments s (map (looked_up (in_scope s)) refs)
  refs_args [] e = tt
  refs_args (Wild ∷ refs) e = (tt, refs_args refs e)
  refs_args (Named n ∷ refs) e =
      let parts = or_parts (not (names_a is_region s.names n)) _ e in
      (region_arg n (not-false _ parts.0), refs_args refs parts.1)

  -- a pointer type that is written in a body
  pub pointer_args : (tree : Tree) (p : PointerTerm) → unbound_name_in_type tree s.names (typed.Pointer p) ≡ false →
      AreArguments s (map (looked_up (in_scope s)) p.space.args) × AreArguments s (map (looked_up (in_scope s)) p.regions)
  pointer_args tree p e =
      let parts = or_parts (unbound_name_in_use tree s.names p.space) _ e in
      (refs_args p.space.args (or_parts _ _ parts.0).1, refs_args p.regions parts.1)

-- ---- regions of names

default_region : (names : List Value) (i : ℕ) → region_of (get_or names i (a_truth false)) ≡ region_of (get_or names i (a_region no_region))
default_region [] i = refl
default_region (v ∷ vs) zero = refl
default_region (v ∷ vs) (suc i) = default_region vs i

pub region_value : (m : Interpretation) (i : ℕ) (t : StaticType) (v : Value) → is_region t ≡ true → IsNamedByOwnNumber i t → IsOfType m t v → m.region i ≡ region_of v
region_value m i (region_type k s args t) v e own (is_region_of {r = r} stands) = subst (λ u. StandsFor m u r) own stands
region_value m i (integer_type w) v e own is = absurd cc
region_value m i truth_type v e own is = absurd cc
region_value m i (index_type k) v e own is = absurd cc
region_value m i (pointer_type k s args terms) v e own is = absurd cc
region_value m i (ispace_type k) v e own is = absurd cc
region_value m i (partition_type d r p) v e own is = absurd cc
region_value m i no_type v e own is = absurd cc
region_value m i unknown_type v e own is = absurd cc

pub region_there : (m : Interpretation) (s : Scope) (names : List Value) (i : ℕ) → IsWellScoped s → NamesFit m s names →
    is_region (bound_as s.names i).static_type ≡ true → m.region i ≡ region_bound s names (term.Name i)
region_there m s names i well_scoped fit e =
    region_value m i (bound_as s.names i).static_type _ e (well_scoped i).own (fit i).is_of ∙ default_region names (bound_as s.names i).place

-- the regions that a type's arguments have now are those that they stand for
pub reached : (m : Interpretation) (s : Scope) (names : List Value) → IsWellScoped s → NamesFit m s names →
    (terms : List Reach) → AreArguments s terms → GoInto m terms (regions_reached s names terms)
reached m s names well_scoped fit [] are = tt
reached m s names well_scoped fit (None ∷ terms) are = reached m s names well_scoped fit terms are.1
reached m s names well_scoped fit (Some (term.Name i) ∷ terms) are =
    (region_there m s names i well_scoped fit are.0, reached m s names well_scoped fit terms are.1)
reached m s names well_scoped fit (Some (term.Child p c) ∷ terms) are = absurd are.0

-- ---- types of fields

pub got_arg : (s : Scope) (args : List Reach) (i : ℕ) → AreArguments s args → IsArgument s (get_or args i None)
got_arg s [] i are = tt
got_arg s (a ∷ args) zero are = are.0
got_arg s (a ∷ args) (suc i) are = got_arg s args i are.1

looked_args : (s : Scope) (params : List Param) (args : List Reach) (refs : List Ref) → AreArguments s args →
    AreArguments s (map (looked_up (among_args params args)) refs)
looked_args s params args [] are = tt
looked_args s params args (Wild ∷ refs) are = (tt, looked_args s params args refs are)
looked_args s params args (Named n ∷ refs) are = (got_arg s args (place_in params n) are, looked_args s params args refs are)

-- of a field's type, its arguments and the regions of its list are arguments of the field space
said_args : (s : Scope) (tree : Tree) (params : List Param) (args : List Reach) (t : TypeTerm) → is_no_field_type t ≡ false → AreArguments s args →
    ArgumentsInScope s (type_said tree (among_args params args) 0 t) × AreArguments s (reaches_of (type_said tree (among_args params args) 0 t))
said_args s tree params args (typed.Number number.Int32) e are = (tt, tt)
said_args s tree params args (typed.Number number.Int64) e are = (tt, tt)
said_args s tree params args (typed.Number (number.Index k)) e are = (tt, tt)
said_args s tree params args typed.Truth e are = (tt, tt)
said_args s tree params args (typed.Pointer p) e are = (looked_args s params args p.space.args are, looked_args s params args p.regions are)
said_args s tree params args (typed.Ispace k) e are = absurd cc
said_args s tree params args (typed.Region k u) e are = absurd cc
said_args s tree params args (typed.Partition d r c) e are = absurd cc

pub field_args : (s : Scope) (tree : Tree) (sp : ℕ) (args : List Reach) (f : Name) →
    is_no_field_type (field_term tree sp (field_place tree sp f)) ≡ false → AreArguments s args →
    ArgumentsInScope s (field_type tree sp args f) × AreArguments s (reaches_of (field_type tree sp args f))
field_args s tree sp args f e are =
    said_args s tree (space_at tree sp).params args (field_term tree sp (field_place tree sp f)) e are

-- the value that a kept number means is of the field's type
pub kept_is : (m : Interpretation) (tree : Tree) (look : Looking) (t : TypeTerm) (rs : List Region) (z : _) → is_no_field_type t ≡ false →
    GoInto m (reaches_of (type_said tree look 0 t)) rs → IsOfType m (type_said tree look 0 t) (meant (kind_said t) rs z)
kept_is m tree look (typed.Number number.Int32) rs z e go = is_number
kept_is m tree look (typed.Number number.Int64) rs z e go = is_number
kept_is m tree look (typed.Number (number.Index k)) rs z e go = is_index
kept_is m tree look typed.Truth rs z e go = is_truth
kept_is m tree look (typed.Pointer p) rs z e go = is_pointer go
kept_is m tree look (typed.Ispace k) rs z e go = absurd cc
kept_is m tree look (typed.Region k u) rs z e go = absurd cc
kept_is m tree look (typed.Partition d r c) rs z e go = absurd cc
