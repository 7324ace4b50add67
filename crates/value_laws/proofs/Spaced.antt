-- Types whose field space arguments are as declared: those of fields, and those that are written in a body.
use Rattle.std.proofs.Common.{List, [], ◌∷◌, None, Some, false, true, refl, sym, subst, ℕ, zero, suc, ◌≡◌, ◌∙◌, ◌≤◌, ◌||◌, ◌==◌, get_or, map, not, arith}
use Rattle.std.proofs.lemmas.Bool.{and_parts, or_parts, not-false, eqb-true}
use Rattle.std.proofs.lemmas.List.{length-map}
use Rattle.std.proofs.lemmas.List.Elements.{All-cons, All-head, All-nil}
use Rattle.std.specs.List.{All, list_any}
use Rattle.std.specs.Prelude.{length}
use Rattle.plain_values.proofs.Plain.{option_or_parts}
use Rattle.regent_tree.specs.Accesses.{space_in}
use Rattle.regent_tree.specs.Limits.{KeepsLimit, counted, most, parts_of_pointer}
use Rattle.regent_tree.specs.Lookup.{has_field, has_space, is_bound, type_named}
use Rattle.regent_tree.specs.Scopes.{Scope, bound_as, bound_to, in_scope}
use Rattle.regent_tree.specs.StaticTypes.{Reach, among_args, field_place, field_term, field_type, looked_up, place_in, place_of_space, space_at, type_said, written_pointer}
use Rattle.regent_tree.specs.Syntax.{Name, Tree}
use Rattle.regent_tree.specs.Typing.{reaches_of}
use Rattle.regent_tree.specs.declared.limits.Counted.TheVariants.{Regions}
use Rattle.regent_tree.specs.declared.types.NumberTerm.TheVariants as number
use Rattle.regent_tree.specs.declared.types.Param.{Param}
use Rattle.regent_tree.specs.declared.types.PointerTerm.{PointerTerm}
use Rattle.regent_tree.specs.declared.types.Ref.{Ref}
use Rattle.regent_tree.specs.declared.types.Ref.TheVariants.{Named, Wild}
use Rattle.regent_tree.specs.declared.types.SpaceUse.{SpaceUse}
use Rattle.regent_tree.specs.declared.types.TypeTerm.{TypeTerm}
use Rattle.regent_tree.specs.declared.types.TypeTerm.TheVariants as typed
use Rattle.regent_tree.specs.declared.typing.Bound.{Bound}
use Rattle.regent_tree.specs.declared.typing.StaticType.{StaticType}
use Rattle.regent_tree.specs.declared.typing.StaticType.TheVariants.{Index as index_type, Integer as integer_type, Ispace as ispace_type, Nothing as no_type, Partition as partition_type, Pointer as pointer_type, Region as region_type, Truth as truth_type, Unknown as unknown_type}
use Rattle.check_rules.proofs.Untold.{rule_none}
use Rattle.check_rules.specs.first.FirstInExpressions.{first_in_type}
use Rattle.check_rules.specs.rules.Names.{misses_region, unbound_name_in_type, unbound_name_in_use}
use Rattle.check_rules.specs.rules.Pointers.{is_region_in, is_wrong_region_of_pointer, wrong_region_in_type}
use Rattle.check_rules.specs.rules.Spaces.{differ_in, differs, misfits_in_type, misfits_use, space_params, type_of_ref}
use Rattle.check_rules.specs.types.Declarations.{is_no_field_type}
use Rattle.check_rules.specs.types.Lookup.{names_a}
use Rattle.check_rules.specs.types.Sorts.{is_region, type_at}
use Rattle.check_rules.specs.declared.rule.Rule.TheVariants as rule
use Rattle.check_laws.proofs.Parts.{contrary, surely}
use Rattle.check_laws.proofs.Scopes.{found_by_number}
use Rattle.check_laws.specs.SoundScopes.{IsSoundScope}
use Rattle.value_laws.specs.Spaces.{AreArgumentsOf, AreParamsSaid, HasSpacedDeclarations, IsRegionTypeOf, IsSpaced, IsSpacedField, NamesRegionOf, space_of_param}

-- ---- types of numbers, truths and index spaces

abbrev pub HasNoArguments : StaticType → Type 0
HasNoArguments (pointer_type k space args terms) = ⊥
HasNoArguments (region_type k space args t) = ⊥
HasNoArguments (partition_type d r p) = ⊥
HasNoArguments t = Unit {0}

pub no_arguments : (tree : Tree) (names : List Bound) (t : StaticType) → HasNoArguments t → IsSpaced tree names t
no_arguments tree names (integer_type w) n = record { args = λ i k e. tt; named = tt; parent = tt; few = omega (arith) }
no_arguments tree names truth_type n = record { args = λ i k e. tt; named = tt; parent = tt; few = omega (arith) }
no_arguments tree names (index_type j) n = record { args = λ i k e. tt; named = tt; parent = tt; few = omega (arith) }
no_arguments tree names (ispace_type j) n = record { args = λ i k e. tt; named = tt; parent = tt; few = omega (arith) }
no_arguments tree names (partition_type d r p) n = absurd n
no_arguments tree names no_type n = record { args = λ i k e. tt; named = tt; parent = tt; few = omega (arith) }
no_arguments tree names unknown_type n = record { args = λ i k e. tt; named = tt; parent = tt; few = omega (arith) }
no_arguments tree names (pointer_type k space args terms) n = absurd n
no_arguments tree names (region_type k space args t) n = absurd n

-- ---- types of fields

module _ (tree : Tree) (names : List Bound) (space : ℕ) (args : List Reach) (are : AreArgumentsOf tree names space args) where
  abbrev params : List Param
  params = (space_at tree space).params

  -- what a field's type names
  named_regions : (refs : List Ref) (inner : ℕ) →
      ((i : ℕ) (n : Name) → get_or refs i Wild ≡ Named n → space_of_param tree space (place_in params n) ≡ Some inner) →
      All (NamesRegionOf names inner) (map (looked_up (among_args params args)) refs)
  named_regions [] inner h = All-nil (NamesRegionOf names inner)
  named_regions (Wild ∷ refs) inner h =
      All-cons (NamesRegionOf names inner) None (map (looked_up (among_args params args)) refs) tt (named_regions refs inner (λ i. h (suc i)))
  named_regions (Named n ∷ refs) inner h = All-cons (NamesRegionOf names inner) (get_or args (place_in params n) None)
      (map (looked_up (among_args params args)) refs) (are (place_in params n) inner (h 0 n refl)) (named_regions refs inner (λ i. h (suc i)))

  named_argument : (refs : List Ref) (i k : ℕ) →
      ((n : Name) → get_or refs i Wild ≡ Named n → space_of_param tree space (place_in params n) ≡ Some k) →
      NamesRegionOf names k (get_or (map (looked_up (among_args params args)) refs) i None)
  named_argument [] i k h = tt
  named_argument (Wild ∷ refs) zero k h = tt
  named_argument (Named n ∷ refs) zero k h = are (place_in params n) k (h n refl)
  named_argument (r ∷ refs) (suc i) k h = named_argument refs i k h

  said_spaced : (t : TypeTerm) → is_no_field_type t ≡ false → ((p : PointerTerm) → t ≡ typed.Pointer p → IsSpacedField tree space p) →
      IsSpaced tree names (type_said tree (among_args params args) 0 t)
  said_spaced (typed.Number number.Int32) e h = no_arguments tree names _ tt
  said_spaced (typed.Number number.Int64) e h = no_arguments tree names _ tt
  said_spaced (typed.Number (number.Index k)) e h = no_arguments tree names _ tt
  said_spaced typed.Truth e h = no_arguments tree names _ tt
  said_spaced (typed.Pointer p) e h =
      let spaced = h p refl in record {
        args = λ i k same. named_argument p.space.args i k (λ n at. spaced.args i k n at same);
        named = tt;
        parent = tt;
        few = subst (λ n. n ≤ most Regions) (sym (length-map p.regions (looked_up (among_args params args)))) spaced.few;
      }
  said_spaced (typed.Ispace k) e h = absurd cc
  said_spaced (typed.Region k u) e h = absurd cc
  said_spaced (typed.Partition d r c) e h = absurd cc

  said_regions : (t : TypeTerm) → is_no_field_type t ≡ false → ((p : PointerTerm) → t ≡ typed.Pointer p → IsSpacedField tree space p) →
      All (NamesRegionOf names (space_in (type_said tree (among_args params args) 0 t))) (reaches_of (type_said tree (among_args params args) 0 t))
  said_regions (typed.Number number.Int32) e h = All-nil (NamesRegionOf names 0)
  said_regions (typed.Number number.Int64) e h = All-nil (NamesRegionOf names 0)
  said_regions (typed.Number (number.Index k)) e h = All-nil (NamesRegionOf names 0)
  said_regions typed.Truth e h = All-nil (NamesRegionOf names 0)
  said_regions (typed.Pointer p) e h = named_regions p.regions (place_of_space tree p.space.name) (h p refl).regions
  said_regions (typed.Ispace k) e h = absurd cc
  said_regions (typed.Region k u) e h = absurd cc
  said_regions (typed.Partition d r c) e h = absurd cc

  pub field_spaced : (f : Name) → HasSpacedDeclarations tree → has_field tree space f ≡ true →
      is_no_field_type (field_term tree space (field_place tree space f)) ≡ false → IsSpaced tree names (field_type tree space args f)
  field_spaced f fields there is = said_spaced (field_term tree space (field_place tree space f)) is (λ p e. fields.fields space f p there e)

  pub field_regions : (f : Name) → HasSpacedDeclarations tree → has_field tree space f ≡ true →
      is_no_field_type (field_term tree space (field_place tree space f)) ≡ false →
      All (NamesRegionOf names (space_in (field_type tree space args f))) (reaches_of (field_type tree space args f))
  field_regions f fields there is = said_regions (field_term tree space (field_place tree space f)) is (λ p e. fields.fields space f p there e)

-- ---- types that are written in a body

-- a region that doesn't differ from a parameter has its field space
pub same_space : (types : List StaticType) (p t : StaticType) (k : ℕ) → is_region t ≡ true → differs types p t ≡ false → IsRegionTypeOf k p → IsRegionTypeOf k t
same_space types (region_type j sp args r) (region_type i other others q) k e d is =
    let same = and_parts _ _ (and_parts _ _ (not-false _ d)).0 in
    record { region = refl; of_space = sym (eqb-true sp other same.1) ∙ is.of_space }
same_space types p (integer_type w) k e d is = absurd cc
same_space types p truth_type k e d is = absurd cc
same_space types p (index_type j) k e d is = absurd cc
same_space types p (pointer_type j s args terms) k e d is = absurd cc
same_space types p (ispace_type j) k e d is = absurd cc
same_space types p (partition_type f q r) k e d is = absurd cc
same_space types p no_type k e d is = absurd cc
same_space types p unknown_type k e d is = absurd cc
same_space types (integer_type w) (region_type i other others q) k e d is = absurd (contrary (sym is.region))
same_space types truth_type (region_type i other others q) k e d is = absurd (contrary (sym is.region))
same_space types (index_type j) (region_type i other others q) k e d is = absurd (contrary (sym is.region))
same_space types (pointer_type j s args terms) (region_type i other others q) k e d is = absurd (contrary (sym is.region))
same_space types (ispace_type j) (region_type i other others q) k e d is = absurd (contrary (sym is.region))
same_space types (partition_type f p r) (region_type i other others q) k e d is = absurd (contrary (sym is.region))
same_space types no_type (region_type i other others q) k e d is = absurd (contrary (sym is.region))
same_space types unknown_type (region_type i other others q) k e d is = absurd (contrary (sym is.region))

module _ (tree : Tree) (s : Scope) (scope : IsSoundScope s) where
  -- a name is bound by its number
  pub by_number : (P : StaticType → Type 0) (n : Name) → is_bound s.names n ≡ true → P (type_named s.names n) →
      P (bound_as s.names (bound_to s.names n).number).static_type
  by_number P n b is = subst (λ (c : Bound). P c.static_type) (sym (found_by_number s.next s.names n scope.numbers b).0) is

  region_of_pointer : (p : PointerTerm) (t : StaticType) → has_space tree p.space.name ≡ true → is_region_in tree p t ≡ true →
      IsRegionTypeOf (place_of_space tree p.space.name) t
  region_of_pointer p (region_type k sp args r) there e =
      let last = (and_parts _ _ e).1 in
      let same : (place_of_space tree p.space.name == sp) ≡ true =
      sym (λ j. not (there j) || (place_of_space tree p.space.name == sp)) ∙ last in
      record { region = refl; of_space = sym (eqb-true (place_of_space tree p.space.name) sp same) }
  region_of_pointer p (integer_type w) there e = absurd cc
  region_of_pointer p truth_type there e = absurd cc
  region_of_pointer p (index_type j) there e = absurd cc
  region_of_pointer p (pointer_type j sp args terms) there e = absurd cc
  region_of_pointer p (ispace_type j) there e = absurd cc
  region_of_pointer p (partition_type d q r) there e = absurd cc
  region_of_pointer p no_type there e = absurd cc
  region_of_pointer p unknown_type there e = absurd cc

  pointer_regions : (p : PointerTerm) (refs : List Ref) → has_space tree p.space.name ≡ true →
      list_any (is_wrong_region_of_pointer tree s.names p) refs ≡ false →
      All (NamesRegionOf s.names (place_of_space tree p.space.name)) (map (looked_up (in_scope s)) refs)
  pointer_regions p [] there e = All-nil (NamesRegionOf s.names (place_of_space tree p.space.name))
  pointer_regions p (Wild ∷ refs) there e = absurd cc
  pointer_regions p (Named n ∷ refs) there e =
      let parts = or_parts (not (names_a (is_region_in tree p) s.names n)) _ e in
      let both = and_parts (is_bound s.names n) _ (not-false _ parts.0) in
      let is = surely (is_region_in tree p) (type_named s.names n) (scope.types n both.0).known both.1 in
      All-cons (NamesRegionOf s.names (place_of_space tree p.space.name)) _ (map (looked_up (in_scope s)) refs)
      (by_number (IsRegionTypeOf (place_of_space tree p.space.name)) n both.0 (region_of_pointer p (type_named s.names n) there is))
      (pointer_regions p refs there parts.1)

  use_argument : (all ps : List StaticType) (refs : List Ref) (i k : ℕ) → differ_in all ps (map (type_of_ref s.names) refs) ≡ false →
      list_any (misses_region s.names) refs ≡ false → IsRegionTypeOf k (type_at ps i) → NamesRegionOf s.names k (get_or (map (looked_up (in_scope s)) refs) i None)
  use_argument all ps [] i k d m is = tt
  use_argument all [] (r ∷ refs) i k d m is = absurd (contrary (sym is.region))
  use_argument all (p ∷ ps) (Wild ∷ refs) zero k d m is = tt
  use_argument all (p ∷ ps) (Named n ∷ refs) zero k d m is =
      let both = and_parts (is_bound s.names n) _ (not-false _ (or_parts _ _ m).0) in
      let region = surely is_region (type_named s.names n) (scope.types n both.0).known both.1 in
      by_number (IsRegionTypeOf k) n both.0 (same_space all p (type_named s.names n) k region (or_parts _ _ d).0 is)
  use_argument all (p ∷ ps) (r ∷ refs) (suc i) k d m is = use_argument all ps refs i k (or_parts _ _ d).1 (or_parts _ _ m).1 is

  -- the arguments of a field space use of which nothing is told
  pub use_arguments : (u : SpaceUse) → AreParamsSaid tree → unbound_name_in_use tree s.names u ≡ false → misfits_use tree s.names u ≡ false →
      AreArgumentsOf tree s.names (place_of_space tree u.name) (map (looked_up (in_scope s)) u.args)
  use_arguments u params unbound misfit i k e =
      let parts = or_parts (not (has_space tree u.name)) _ unbound in
      use_argument (map (type_of_ref s.names) u.args) (space_params tree u) u.args i k misfit parts.1 (params u i k (not-false _ parts.0) e)

  -- a pointer type that is written in a body
  pub record IsWrittenPointer (p : PointerTerm) : Type 0 where
    pub spaced : IsSpaced tree s.names (written_pointer tree (in_scope s) p)
    pub regions : All (NamesRegionOf s.names (place_of_space tree p.space.name)) (map (looked_up (in_scope s)) p.regions)

  pub pointer_spaced : (p : PointerTerm) → AreParamsSaid tree → length p.regions ≤ most Regions → unbound_name_in_type tree s.names (typed.Pointer p) ≡ false →
      wrong_region_in_type tree s.names (typed.Pointer p) ≡ false → misfits_in_type tree s.names (typed.Pointer p) ≡ false → IsWrittenPointer p
  pointer_spaced p params few unbound wrong misfit =
      let named = or_parts (unbound_name_in_use tree s.names p.space) _ unbound in
      let there = not-false _ (or_parts _ _ named.0).0 in record {
        spaced = record {
          args = use_arguments p.space params named.0 (or_parts _ _ misfit).0;
          named = tt;
          parent = tt;
          few = subst (λ n. n ≤ most Regions) (sym (length-map p.regions (looked_up (in_scope s)))) few;
        };
        regions = pointer_regions p p.regions there wrong;
      }

  pub written_spaced : (p : PointerTerm) → HasSpacedDeclarations tree → All KeepsLimit (parts_of_pointer p) → first_in_type tree s.names (typed.Pointer p) ≡ None →
      IsWrittenPointer p
  written_spaced p declared limits told =
      let a = option_or_parts _ _ told in
      let b = option_or_parts _ _ a.1 in
      let c = option_or_parts _ _ b.1 in
      let d = option_or_parts _ _ c.1 in
      pointer_spaced p declared.params (All-head KeepsLimit (counted Regions (length p.regions)) [] limits)
      (rule_none (unbound_name_in_type tree s.names (typed.Pointer p)) rule.Name a.0)
      (rule_none (wrong_region_in_type tree s.names (typed.Pointer p)) rule.Pointer c.0)
      (rule_none (misfits_in_type tree s.names (typed.Pointer p)) rule.Spaces d.0)
