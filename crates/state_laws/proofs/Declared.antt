-- Parameters of which nothing is told: their types are as field spaces declare, and each name in them stands for the
-- parameter at its place.
use Rattle.std.proofs.Common.{List, [], ◌∷◌, ◌++◌, None, Option, Some, false, true, refl, ap, sym, subst, ℕ, zero, suc, ◌+◌, ◌≡◌, ◌∙◌, get_or, length, map, not, arith}
use Rattle.std.proofs.lemmas.Bool.{and_parts, not-false, or_parts}
use Rattle.std.proofs.lemmas.List.Elements.{All-head, All-nil, All-tail}
use Rattle.std.specs.List.{All, list_any}
use Rattle.regent_tree.specs.Limits.{KeepsLimit, counted, parts_of_params, parts_of_term}
use Rattle.regent_tree.specs.Lookup.{is_bound}
use Rattle.regent_tree.specs.Scopes.{Scope, bound_as, bound_params, bound_to, in_scope, unbound}
use Rattle.regent_tree.specs.StaticTypes.{Reach, among_params, looked_up, place_in, place_of_space, space_at, type_said, written_pointer}
use Rattle.regent_tree.specs.Syntax.{Name, Tree}
use Rattle.regent_tree.specs.declared.facts.Term.TheVariants as term
use Rattle.regent_tree.specs.declared.limits.Counted.TheVariants.{Regions}
use Rattle.regent_tree.specs.declared.types.NumberTerm.TheVariants as number
use Rattle.regent_tree.specs.declared.types.Param.{Param}
use Rattle.regent_tree.specs.declared.types.PointerTerm.{PointerTerm}
use Rattle.regent_tree.specs.declared.types.Ref.{Ref}
use Rattle.regent_tree.specs.declared.types.Ref.TheVariants.{Named, Wild}
use Rattle.regent_tree.specs.declared.types.TypeTerm.{TypeTerm}
use Rattle.regent_tree.specs.declared.types.TypeTerm.TheVariants as typed
use Rattle.regent_tree.specs.declared.typing.Bound.{Bound}
use Rattle.regent_tree.specs.declared.typing.StaticType.{StaticType}
use Rattle.regent_tree.specs.declared.typing.StaticType.TheVariants.{Pointer as pointer_type}
use Rattle.check_rules.proofs.Written.{all_sound, beside_written}
use Rattle.check_rules.specs.first.FirstInItems.{first_declared, first_of_said, first_of_saying}
use Rattle.check_rules.specs.first.Rules.{first_in}
use Rattle.check_rules.specs.rules.Names.{misses_region, misses_space, unbound_name_in_type, unbound_name_in_use}
use Rattle.check_rules.specs.rules.Pointers.{wrong_region_in_type}
use Rattle.check_rules.specs.rules.Repeats.{given_by, repeats}
use Rattle.check_rules.specs.rules.Spaces.{misfits_in_type}
use Rattle.check_rules.specs.scopes.Visits.{declarations_in}
use Rattle.check_rules.specs.types.Declarations.{is_flawed_type}
use Rattle.check_rules.specs.types.Lookup.{names_a}
use Rattle.check_rules.specs.types.Params.{params_beside, term_at, types_in_order}
use Rattle.check_rules.specs.types.Sorts.{is_region, type_at}
use Rattle.check_laws.proofs.Parameters.{AreWrittenParams, begins_soundly, number_is_place, region_placed}
use Rattle.check_laws.proofs.Parts.{contrary}
use Rattle.check_laws.proofs.Trees.{unbound_none}
use Rattle.check_laws.specs.SoundScopes.{IsSoundScope}
use Rattle.expression_laws.proofs.Params.{numbered, param_as}
use Rattle.value_laws.proofs.Limits.{all_left, all_right}
use Rattle.value_laws.proofs.Parameters.{param_at}
use Rattle.value_laws.proofs.Spaced.{no_arguments, pointer_spaced, use_arguments}
use Rattle.value_laws.specs.Spaces.{AreParamsSaid, IsRegionTypeOf, IsSpaced, IsSpacedField, NamesRegionOf, space_declared}

-- ---- a list of parameters

-- no two share a name, and no type has a breach
pub record AreSoundParams (tree : Tree) (all : List Param) : Type 0 where
  pub written : AreWrittenParams tree all
  pub beside : params_beside tree all ≡ bound_params tree all 0 all
  pub flawless : list_any (λ (p : Param). is_flawed_type tree (bound_params tree all 0 all) p.term) all ≡ false

-- there may be more in the list, as the fields of a field space
pub sound_params : (tree : Tree) (all more : List Param) → first_in (first_declared tree) tree ≡ None → repeats (given_by all) ≡ [] →
    first_in (first_of_saying tree) (declarations_in tree all (all ++ more)) ≡ None →
    first_in (first_of_said tree) (declarations_in tree all (all ++ more)) ≡ None → AreSoundParams tree all
sound_params tree all more declared once saying said =
    let names = bound_params tree all 0 all in
    let beside = beside_written tree all more saying in
    let flawless = subst (λ ns. list_any (λ (p : Param). is_flawed_type tree ns p.term) all ≡ false) beside (all_sound tree all more saying said).0 in record {
      written = record { once = once; named = unbound_none tree declared all names flawless };
      beside = beside;
      flawless = flawless;
    }

pub no_params : (tree : Tree) → AreSoundParams tree []
no_params tree = record { written = record { once = refl; named = refl }; beside = refl; flawless = refl }

-- what isn't flawed of a type
pub record IsFlawless (tree : Tree) (names : List Bound) (t : TypeTerm) : Type 0 where
  pub unbound : unbound_name_in_type tree names t ≡ false
  pub wrong : wrong_region_in_type tree names t ≡ false
  pub misfit : misfits_in_type tree names t ≡ false

pub flawless_parts : (tree : Tree) (names : List Bound) (t : TypeTerm) → is_flawed_type tree names t ≡ false → IsFlawless tree names t
flawless_parts tree names t e =
    let a = or_parts _ _ e in
    let b = or_parts _ _ a.0 in
    let c = or_parts _ _ b.0 in
    let d = or_parts (unbound_name_in_type tree names t) _ c.0 in
    record { unbound = d.0; wrong = c.1; misfit = b.1 }

pub term_limit : (ps : List Param) (i : ℕ) → All KeepsLimit (parts_of_params ps) → All KeepsLimit (parts_of_term (term_at ps i))
term_limit [] i l = All-nil KeepsLimit
term_limit (p ∷ ps) zero l = all_left KeepsLimit (parts_of_term p.term) (parts_of_params ps) l
term_limit (p ∷ ps) (suc i) l = term_limit ps i (all_right KeepsLimit (parts_of_term p.term) (parts_of_params ps) l)

abbrev space_or : Option ℕ → ℕ
space_or None = 0
space_or (Some k) = k

abbrev name_of : Ref → Name
name_of Wild = []
name_of (Named n) = n

-- the regions that a pointer goes into are of its field space
abbrev pub HasRegions : List Bound → StaticType → Type 0
HasRegions names (pointer_type k space args terms) = All (NamesRegionOf names space) terms
HasRegions names t = Unit {0}

module _ (tree : Tree) (all : List Param) (sound : AreSoundParams tree all) where
  abbrev names : List Bound
  names = bound_params tree all 0 all

  abbrev s : Scope
  s = record { names = names; known = []; next = length all }

  scope : IsSoundScope s
  scope = begins_soundly tree all s refl refl sound.written.once sound.written.named

  -- ---- names

  -- a name's number is its place
  number_at : (n : Name) → is_bound names n ≡ true → (bound_to names n).number ≡ place_in all n
  number_at n b =
      let zeroth : (0 + place_in all n) ≡ place_in all n = omega (arith) in
      number_is_place tree all 0 all [] sound.written.once n b ∙ zeroth

  looked_same : (refs : List Ref) → list_any (misses_region names) refs ≡ false → map (looked_up (among_params all)) refs ≡ map (looked_up (in_scope s)) refs
  looked_same [] e = refl
  looked_same (Wild ∷ refs) e = ap (λ rs. None ∷ rs) (looked_same refs e)
  looked_same (Named n ∷ refs) e =
      let parts = or_parts (not (names_a is_region names n)) _ e in
      let bound = (and_parts (is_bound names n) _ (not-false _ parts.0)).0 in
      λ j. Some (term.Name (sym (number_at n bound) j)) ∷ looked_same refs parts.1 j

  -- ---- field spaces of parameters

  region_said : (i : ℕ) (t : TypeTerm) (k : ℕ) → IsRegionTypeOf k (type_said tree (among_params all) i t) → space_declared tree t ≡ Some k
  region_said i (typed.Number number.Int32) k is = absurd (contrary (sym is.region))
  region_said i (typed.Number number.Int64) k is = absurd (contrary (sym is.region))
  region_said i (typed.Number (number.Index kind)) k is = absurd (contrary (sym is.region))
  region_said i typed.Truth k is = absurd (contrary (sym is.region))
  region_said i (typed.Pointer p) k is = absurd (contrary (sym is.region))
  region_said i (typed.Ispace kind) k is = absurd (contrary (sym is.region))
  region_said i (typed.Region kind u) k is = ap Some is.of_space
  region_said i (typed.Partition d r c) k is = absurd (contrary (sym is.region))

  said_region : (i : ℕ) (t : TypeTerm) (k : ℕ) → space_declared tree t ≡ Some k → IsRegionTypeOf k (type_said tree (among_params all) i t)
  said_region i (typed.Region kind u) k e = record { region = refl; of_space = ap space_or e }
  said_region i (typed.Number n) k e = absurd cc
  said_region i typed.Truth k e = absurd cc
  said_region i (typed.Pointer p) k e = absurd cc
  said_region i (typed.Ispace kind) k e = absurd cc
  said_region i (typed.Partition d r c) k e = absurd cc

  numbered_said : (i : ℕ) (ps : List Param) (j k : ℕ) → IsRegionTypeOf k (get_or (numbered tree all i ps) j unbound).static_type → space_declared tree (term_at ps j) ≡ Some k
  numbered_said i [] zero k is = absurd (contrary (sym is.region))
  numbered_said i [] (suc j) k is = absurd (contrary (sym is.region))
  numbered_said i (p ∷ ps) zero k is = region_said i p.term k is
  numbered_said i (p ∷ ps) (suc j) k is = numbered_said (suc i) ps j k is

  said_numbered : (i : ℕ) (ps : List Param) (j k : ℕ) → space_declared tree (term_at ps j) ≡ Some k → IsRegionTypeOf k (get_or (numbered tree all i ps) j unbound).static_type
  said_numbered i [] zero k e = absurd cc
  said_numbered i [] (suc j) k e = absurd cc
  said_numbered i (p ∷ ps) zero k e = said_region i p.term k e
  said_numbered i (p ∷ ps) (suc j) k e = said_numbered (suc i) ps j k e

  -- where the parameters are used, their types say what is written
  pub params_said : (i k : ℕ) → space_declared tree (term_at all i) ≡ Some k → IsRegionTypeOf k (type_at (types_in_order (params_beside tree all)) i)
  params_said i k e =
      let zeroth : (0 + i) ≡ i = omega (arith) in
      let at = subst (λ n. (bound_as names n).static_type ≡ type_at (types_in_order names) i) zeroth (param_at tree all 0 all i) in
      subst (λ ns. IsRegionTypeOf k (type_at (types_in_order ns) i)) (sym sound.beside)
      (subst (IsRegionTypeOf k) at (subst (λ (b : Bound). IsRegionTypeOf k b.static_type) (sym (param_as tree all i)) (said_numbered 0 all i k e)))

  -- ---- fields

  named_at : (k : ℕ) (rs : List Reach) (i : ℕ) → All (NamesRegionOf names k) rs → NamesRegionOf names k (get_or rs i None)
  named_at k [] zero are = tt
  named_at k [] (suc i) are = tt
  named_at k (r ∷ rs) zero are = All-head (NamesRegionOf names k) r rs are
  named_at k (r ∷ rs) (suc i) are = named_at k rs i (All-tail (NamesRegionOf names k) r rs are)

  reach_said : (refs : List Ref) (i : ℕ) (n : Name) (k : ℕ) → get_or refs i Wild ≡ Named n → list_any (misses_region names) refs ≡ false →
      NamesRegionOf names k (get_or (map (looked_up (in_scope s)) refs) i None) → space_declared tree (term_at all (place_in all n)) ≡ Some k
  reach_said [] zero n k at e is = absurd cc
  reach_said [] (suc i) n k at e is = absurd cc
  reach_said (Wild ∷ refs) zero n k at e is = absurd cc
  reach_said (Named m ∷ refs) zero n k at e is =
      let parts = or_parts (not (names_a is_region names m)) _ e in
      let bound = (and_parts (is_bound names m) _ (not-false _ parts.0)).0 in
      subst (λ w. space_declared tree (term_at all (place_in all w)) ≡ Some k) (ap name_of at)
      (numbered_said 0 all (place_in all m) k (subst (λ (b : Bound). IsRegionTypeOf k b.static_type) (ap (bound_as names) (number_at m bound) ∙ param_as tree all (place_in all m)) is))
  reach_said (r ∷ refs) (suc i) n k at e is = reach_said refs i n k at (or_parts (misses_region names r) _ e).1 is

  -- the pointers of a field whose type has no breach beside these parameters
  pub field_said : (space : ℕ) (p : PointerTerm) → (space_at tree space).params ≡ all → AreParamsSaid tree → is_flawed_type tree names (typed.Pointer p) ≡ false →
      All KeepsLimit (parts_of_term (typed.Pointer p)) → IsSpacedField tree space p
  field_said space p same params flawless limits =
      let parts = flawless_parts tree names (typed.Pointer p) flawless in
      let few = All-head KeepsLimit (counted Regions (length p.regions)) [] limits in
      let pointer = pointer_spaced tree s scope p params few parts.unbound parts.wrong parts.misfit in
      let named = or_parts (unbound_name_in_use tree names p.space) (list_any (misses_region names) p.regions) parts.unbound in record {
        regions = λ i n at. subst (λ ps. space_declared tree (term_at ps (place_in ps n)) ≡ Some (place_of_space tree p.space.name)) (sym same)
            (reach_said p.regions i n (place_of_space tree p.space.name) at named.1 (named_at (place_of_space tree p.space.name) (map (looked_up (in_scope s)) p.regions) i pointer.regions));
        args = λ i k n at e. subst (λ ps. space_declared tree (term_at ps (place_in ps n)) ≡ Some k) (sym same)
            (reach_said p.space.args i n k at (or_parts _ _ named.0).1 (pointer.spaced.args i k e));
        few = few;
      }

  -- ---- types of the parameters themselves

  module _ (params : AreParamsSaid tree) where
    abbrev pub IsFine : StaticType → Type 0
    IsFine t = IsSpaced tree names t × HasRegions names t

    said_fine : (i : ℕ) (t : TypeTerm) → (bound_as names i).static_type ≡ type_said tree (among_params all) i t → is_flawed_type tree names t ≡ false →
        All KeepsLimit (parts_of_term t) → IsFine (type_said tree (among_params all) i t)
    said_fine i (typed.Number number.Int32) at e l = (no_arguments tree names _ tt, tt)
    said_fine i (typed.Number number.Int64) at e l = (no_arguments tree names _ tt, tt)
    said_fine i (typed.Number (number.Index k)) at e l = (no_arguments tree names _ tt, tt)
    said_fine i typed.Truth at e l = (no_arguments tree names _ tt, tt)
    said_fine i (typed.Ispace k) at e l = (no_arguments tree names _ tt, tt)
    said_fine i (typed.Pointer p) at e l =
        let parts = flawless_parts tree names (typed.Pointer p) e in
        let pointer = pointer_spaced tree s scope p params (All-head KeepsLimit (counted Regions (length p.regions)) [] l) parts.unbound parts.wrong parts.misfit in
        let named = or_parts (unbound_name_in_use tree names p.space) (list_any (misses_region names) p.regions) parts.unbound in
        let args = looked_same p.space.args (or_parts _ _ named.0).1 in
        let regions = looked_same p.regions named.1 in
        let same : written_pointer tree (among_params all) p ≡ written_pointer tree (in_scope s) p =
        λ j. pointer_type p.kind (place_of_space tree p.space.name) (args j) (regions j) in
        subst IsFine (sym same) (pointer.spaced, pointer.regions)
    said_fine i (typed.Region k u) at e l =
        let parts = flawless_parts tree names (typed.Region k u) e in
        let space = place_of_space tree u.name in (
          record {
            args = λ i k d. subst (λ rs. NamesRegionOf names k (get_or rs i None)) (sym (looked_same u.args (or_parts _ _ parts.unbound).1))
                (use_arguments tree s scope u params parts.unbound (or_parts _ _ parts.misfit).0 i k d);
            named = subst (IsRegionTypeOf space) (sym at) (record { region = refl; of_space = refl });
            parent = tt;
            few = omega (arith);
          },
          tt,
        )
    said_fine i (typed.Partition d r c) at e l =
        let parts = flawless_parts tree names (typed.Partition d r c) e in (
          record {
            args = λ i k d. tt;
            named = tt;
            parent = (region_placed tree all s refl refl sound.written.once sound.written.named r (or_parts (not (names_a is_region names r)) (misses_space names c) parts.unbound).0).0;
            few = omega (arith);
          },
          tt,
        )

    numbered_fine : (i : ℕ) (ps : List Param) → list_any (λ (p : Param). is_flawed_type tree names p.term) ps ≡ false → All KeepsLimit (parts_of_params ps) →
        ((j : ℕ) → bound_as names (i + j) ≡ get_or (numbered tree all i ps) j unbound) → (j : ℕ) → IsFine (get_or (numbered tree all i ps) j unbound).static_type
    numbered_fine i [] e l at zero = (no_arguments tree names _ tt, tt)
    numbered_fine i [] e l at (suc j) = (no_arguments tree names _ tt, tt)
    numbered_fine i (p ∷ ps) e l at zero =
        let none_more : i ≡ (i + 0) = omega (arith) in
        said_fine i p.term (ap (λ (b : Bound). b.static_type) (ap (bound_as names) none_more ∙ at 0)) (or_parts (is_flawed_type tree names p.term) _ e).0 (all_left KeepsLimit (parts_of_term p.term) (parts_of_params ps) l)
    numbered_fine i (p ∷ ps) e l at (suc j) =
        numbered_fine (suc i) ps (or_parts (is_flawed_type tree names p.term) _ e).1 (all_right KeepsLimit (parts_of_term p.term) (parts_of_params ps) l) (λ j. ap (bound_as names) (moved i j) ∙ at (suc j)) j
      where
        moved : (i j : ℕ) → (suc i + j) ≡ (i + suc j)
        moved i j = omega (arith)

    pub names_fine : All KeepsLimit (parts_of_params all) → (i : ℕ) → IsFine (bound_as names i).static_type
    names_fine l i = subst (λ (b : Bound). IsFine b.static_type) (sym (param_as tree all i))
        (numbered_fine 0 all sound.flawless l (λ j. ap (bound_as names) (zeroth j) ∙ param_as tree all j) i)
      where
        zeroth : (j : ℕ) → (0 + j) ≡ j
        zeroth j = omega (arith)
