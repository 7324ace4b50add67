-- Fields of regions and of what pointers go to.
use Rattle.std.proofs.Common.{◌≡◌, inl, inr, Bool, List, [], ◌∷◌, None, false, true, refl, ap, sym, subst, ℕ, ◌<◌, ◌∙◌, cond, not}
use Rattle.std.specs.Prelude.{Some, bytes_eq, length, ◌||◌}
use Rattle.std.proofs.lemmas.Bool.{not-false, or_parts}
use Rattle.plain_values.proofs.Plain.{option_or_parts}
use Rattle.regent_tree.specs.Accesses.{args_in, space_in}
use Rattle.regent_tree.specs.Lookup.{has_field, is_bound}
use Rattle.regent_tree.specs.Scopes.{bound_as, bound_to}
use Rattle.regent_tree.proofs.Members.{Has}
use Rattle.regent_tree.specs.StaticTypes.{Reach, among_args, field_place, field_term, field_type, space_at}
use Rattle.regent_tree.specs.Syntax.{Expression, Name, Tree}
use Rattle.regent_tree.specs.Typing.{child_type, colour_of, has_wild, type_of_element, type_of_field}
use Rattle.regent_tree.specs.declared.facts.Term.{Term}
use Rattle.regent_tree.specs.declared.facts.Term.TheVariants as place
use Rattle.regent_tree.specs.declared.types.Kind.{Kind}
use Rattle.regent_tree.specs.declared.types.Param.{Param}
use Rattle.regent_tree.specs.declared.typing.Bound.{Bound}
use Rattle.regent_tree.specs.declared.typing.StaticType.{StaticType}
use Rattle.regent_tree.specs.declared.typing.StaticType.TheVariants.{Index as index_type, Integer as integer_type, Ispace as ispace_type, Partition as partition_type, Pointer as pointer_type, Region as region_type, Truth as truth_type}
use Rattle.check_rules.specs.first.FirstInExpressions.{first_of_standing, first_of_taking}
use Rattle.check_rules.specs.first.Rules.{first_in}
use Rattle.check_rules.specs.rules.Names.{is_unknown_field}
use Rattle.check_rules.specs.rules.Standing.{standing_in_step}
use Rattle.check_rules.specs.rules.Types.{is_ill_typed_step}
use Rattle.check_rules.specs.scopes.Sound.{IsSound}
use Rattle.check_rules.specs.types.Declarations.{is_flawed_field, known_field}
use Rattle.check_rules.specs.types.Lookup.{region_has}
use Rattle.check_rules.specs.types.KnownTypes.{known_type_after_step}
use Rattle.check_rules.specs.types.Params.{type_unless}
use Rattle.check_rules.specs.types.Sorts.{is_number, is_partition, is_region, may_be}
use Rattle.check_rules.specs.types.TypedForms.{Taking, element_of, field_of}
use Rattle.check_rules.specs.declared.rule.Rule.TheVariants as rule
use Rattle.check_rules.proofs.Untold.{rule_none}
use Rattle.check_laws.proofs.Scopes.{found_by_number}
use Rattle.check_laws.specs.SoundScopes.{Falls, IsSoundScope}
use Rattle.code_rules.specs.Slots.{Where, bound, slot, slot_bound, slot_named, slots_of}
use Rattle.code_laws.specs.Simple.{IsPartition, IsRegion, a_partition_type, a_region_type, simple_index, simple_integer, simple_space, simple_truth, term_in}
use Rattle.code_laws.specs.Typed.{GoesThrough, IsFieldOf, element_field}
use Rattle.code_laws.specs.Pointers.{IsPointer, a_pointer_type}
use Rattle.code_laws.proofs.LocalFields.{IsHeld, field_term_is, held_field, term_held}
use Rattle.code_laws.proofs.LocalValues.{AreAmong, IsRegionAmong, IsValue, names_among, value_is_no_region, value_pointer, value_simple, AreGoals, goals_aims}
use Rattle.code_laws.proofs.Typing.{no_way, no_way_back}
use Rattle.code_laws.proofs.Typing.{first_below}
use Rattle.std.specs.List.{All}
use Rattle.std.proofs.lemmas.Bool.{eqb-true}
use Rattle.std.proofs.lemmas.List.Elements.{All-head, All-tail}
use Rattle.std.specs.Prelude.{◌==◌}
use Rattle.regent_tree.specs.Typing.{reaches_of}
use Rattle.check_rules.specs.first.Rules.{rule_if}
use Rattle.check_rules.specs.rules.Pointers.{takes_of_wild}
use Rattle.check_rules.specs.types.Declarations.{is_no_field_type}
use Rattle.value_laws.specs.Spaces.{AreArgumentsOf, AreSpaced, IsSpaced, NamesRegionOf}
use Rattle.value_laws.proofs.Spaced.{field_regions, field_spaced}
use Rattle.code_laws.proofs.LocalNames.{AllKept, AllKeptIn, IsKept, IsLocalTree, kept_partition, kept_region, kept_value, region_of_number, value_no_region}

-- ---- the regions of fields' pointers

-- a region that is bound with a number
pub region_numbered : (bs : List Bound) (i : ℕ) → is_region (bound_as bs i).static_type ≡ true → Has bs (bound_as bs i) × ((bound_as bs i).number ≡ i)
region_numbered [] i e = absurd (no_way_back e)
region_numbered (b ∷ bs) i e = chosen (b.number == i) refl (region_numbered bs i) e
  where
    chosen : (c : Bool) → (b.number == i) ≡ c → (is_region (bound_as bs i).static_type ≡ true → Has bs (bound_as bs i) × ((bound_as bs i).number ≡ i)) →
        is_region (cond c b (bound_as bs i)).static_type ≡ true → Has (b ∷ bs) (cond c b (bound_as bs i)) × ((cond c b (bound_as bs i)).number ≡ i)
    chosen true q more e = (inl refl, eqb-true b.number i q)
    chosen false q more e = let f = more e in (inr f.0, f.1)

value_plain : (bs : List Bound) (t : StaticType) → IsValue true bs t → is_region t ≡ false
value_plain bs _ (value_simple _ (simple_integer w)) = refl
value_plain bs _ (value_simple _ simple_truth) = refl
value_plain bs _ (value_simple _ (simple_space k)) = refl
value_plain bs _ (value_simple _ (simple_index k)) = refl
value_plain bs _ (value_pointer k sp args j q r) = refl

-- a region that is bound has its own term
abbrev pub HaveOwnTerms : List Bound → Type 0
HaveOwnTerms bs = (b : Bound) → Has bs b → is_region b.static_type ≡ true → IsRegion b.static_type × (term_in b.static_type ≡ place.Name b.number)

module _ (bs : List Bound) (own : HaveOwnTerms bs) where
  -- a region that is named by its number
  pub numbered_among : (i : ℕ) → is_region (bound_as bs i).static_type ≡ true → IsRegionAmong bs i
  numbered_among i e =
      let f = region_numbered bs i e in
      let is = own (bound_as bs i) f.0 e in
      record { named = bound_as bs i; among = f.0; number = f.1; region = is.0; term = is.1 ∙ ap (λ k. place.Name k) f.1 }

  -- regions that are named by their numbers, of a field space
  pub regions_among : (sp : ℕ) (rs : List Reach) → All (NamesRegionOf bs sp) rs → AreAmong bs sp rs
  unfolding numbered_among
  regions_among sp [] a = tt
  regions_among sp (None ∷ rs) a = regions_among sp rs (All-tail (NamesRegionOf bs sp) None rs a)
  regions_among sp (Some (place.Child p c) ∷ rs) a = absurd (All-head (NamesRegionOf bs sp) (Some (place.Child p c)) rs a)
  regions_among sp (Some (place.Name i) ∷ rs) a =
      let h = All-head (NamesRegionOf bs sp) (Some (place.Name i)) rs a in (
        numbered_among i h.region,
        h.of_space,
        regions_among sp rs (All-tail (NamesRegionOf bs sp) (Some (place.Name i)) rs a),
      )

module _ (all : List Bound) where
  -- what is kept and is a region has its own term
  own_term : (i : ℕ) (t : StaticType) → IsKept true all i t → is_region t ≡ true → IsRegion t × (term_in t ≡ place.Name i)
  own_term i t (kept_value _ a) e = absurd (no_way (sym e ∙ value_plain all t a))
  own_term i _ (kept_region k sp args) e = (a_region_type k sp args (place.Name i), refl)
  own_term i _ (kept_partition d r q a) e = absurd (no_way_back e)

  kept_own : (bs : List Bound) → AllKeptIn true all bs → HaveOwnTerms bs
  kept_own [] a b h e = absurd h
  kept_own (d ∷ bs) a b (inl same) e =
      subst (λ (b : Bound). IsRegion b.static_type × (term_in b.static_type ≡ place.Name b.number)) same
      (own_term d.number d.static_type a.0 (ap (λ (b : Bound). is_region b.static_type) same ∙ e))
  kept_own (d ∷ bs) a b (inr h) e = kept_own bs a.1 b h e

-- what a field holds, and to which regions its pointers go
pub record IsFound (tree : Tree) (bs : List Bound) (sp : ℕ) (args : List Reach) (f : Name) : Type 0 where
  pub held : IsHeld true (field_term tree sp (field_place tree sp f)) (field_type tree sp args f)
  pub among : AreAmong bs (space_in (field_type tree sp args f)) (reaches_of (field_type tree sp args f))
  pub spaced : IsSpaced tree bs (field_type tree sp args f)

module _ (tree : Tree) (sound : IsSound tree) (local : IsLocalTree tree) (bs : List Bound)
    (names : AllKept true bs) where
  pub field_found : (sp : ℕ) (args : List Reach) (f : Name) → AreArgumentsOf tree bs sp args → has_field tree sp f ≡ true →
      IsFound tree bs sp args f
  field_found sp args f are there =
      let term = field_term tree sp (field_place tree sp f) in
      let t = field_type tree sp args f in
      let flawless = (or_parts (is_no_field_type term) _ (sound.fields sp f there)).0 in
      let among = regions_among bs (kept_own bs bs names) (space_in t) (reaches_of t)
      (field_regions tree bs sp args are f local.declared there flawless) in
      let spaced = field_spaced tree bs sp args are f local.declared there flawless in record {
        held = term_held true term (field_term_is term flawless) refl tree (among_args (space_at tree sp).params args) 0
            (names_among bs (space_in t) (reaches_of t) among) spaced.few;
        among = among;
        spaced = spaced;
      }

-- the type of what a name is bound to, where all types are so
pub spaced_name : (tree : Tree) (next : ℕ) (bs : List Bound) (n : Name) → Falls next bs → is_bound bs n ≡ true → AreSpaced tree bs →
    IsSpaced tree bs (bound_to bs n).static_type
spaced_name tree next bs n falls there spaced =
    subst (λ (b : Bound). IsSpaced tree bs b.static_type) (found_by_number next bs n falls there).0 (spaced (bound_to bs n).number)

-- ---- fields at points

-- a field at a point of something of a type that is bound with a number
pub record IsPlace (w : Where) (i : ℕ) (t : StaticType) (e : Expression) (f : Name) : Type 0 where
  pub region : IsRegion t
  pub there : has_field w.tree (space_in t) f ≡ true
  pub through : (own : ℕ) → slots_of w own (type_of_element w.scope t e) ≡ slot_bound w i ∷ []
  pub field : field_place w.tree (space_in t) f < length (space_at w.tree (space_in t)).fields
  pub held : IsHeld true (field_term w.tree (space_in t) (field_place w.tree (space_in t) f)) (type_of_field w.tree (type_of_element w.scope t e) f)
  pub among : AreAmong w.scope.names (space_in (type_of_field w.tree (type_of_element w.scope t e) f)) (reaches_of (type_of_field w.tree (type_of_element w.scope t e) f))
  pub spaced : IsSpaced w.tree w.scope.names (type_of_field w.tree (type_of_element w.scope t e) f)
  pub known : known_type_after_step w.tree (field_of (type_of_element w.scope t e) f) (type_of_field w.tree (type_of_element w.scope t e) f)
      ≡ type_of_field w.tree (type_of_element w.scope t e) f

-- what is not told of a step
pub taking_told : (tree : Tree) (taking : Taking) → first_of_taking tree taking ≡ None →
    (is_unknown_field tree taking ≡ false) × (is_ill_typed_step taking ≡ false)
    × (first_in (first_of_standing []) (standing_in_step taking) ≡ None)
taking_told tree taking e =
    let a = option_or_parts _ _ e in
    let b = option_or_parts _ _ a.1 in
    let c = option_or_parts _ _ b.1 in
    (rule_none (is_unknown_field tree taking) rule.Name a.0, rule_none (is_ill_typed_step taking) rule.Type b.0, c.0)

wild_told : (tree : Tree) (taking : Taking) → first_of_taking tree taking ≡ None → takes_of_wild taking ≡ false
wild_told tree taking e =
    let a = option_or_parts (rule_if (is_unknown_field tree taking) rule.Name) _ e in
    let b = option_or_parts (rule_if (is_ill_typed_step taking) rule.Type) _ a.1 in
    let c = option_or_parts (first_in (first_of_standing []) (standing_in_step taking)) _ b.1 in
    rule_none (takes_of_wild taking) rule.Pointer (option_or_parts (rule_if (takes_of_wild taking) rule.Pointer) _ c.1).0

module _ (w : Where) (sound : IsSound w.tree) (local : IsLocalTree w.tree) where
  abbrev Kept : ℕ → StaticType → Type 0
  Kept i t = IsKept true w.scope.names i t

  -- what is no region
  abbrev none_taken : (t : StaticType) → IsValue true w.scope.names t → may_be (λ u. is_region u || is_partition u) t ≡ true → ⊥
  none_taken t a e = no_way (sym e ∙ value_no_region true w.scope.names t a)

  -- an element is taken of a region
  taken : (n : Name) (i : ℕ) (t at : StaticType) → Kept i t → first_of_taking w.tree (element_of t at) ≡ None →
      may_be (λ u. is_region u || is_partition u) t ≡ true
  taken n i t at a e = not-false _ (taking_told w.tree (element_of t at) e).1

  pub element_known : (n : Name) (i : ℕ) (t at : StaticType) (e : Expression) → Kept i t → is_number at ≡ true →
      first_of_taking w.tree (element_of t at) ≡ None →
      known_type_after_step w.tree (element_of t at) (type_of_element w.scope t e) ≡ type_of_element w.scope t e
  element_known n i t at e (kept_value _ a) num told = absurd (none_taken t a (taken n i t at (kept_value t a) told))
  element_known n i _ at e (kept_partition d r q among) num told =
      ap (λ b. type_unless (not b || false || false || false) (type_of_element w.scope (partition_type d r i) e)) num
  element_known n i _ at e (kept_region k sp args) num told =
      ap (λ b. type_unless (not b || false || false || false) (type_of_element w.scope (region_type k sp args (place.Name i)) e)) num

  -- no field is taken of a part
  part_taken : (t : StaticType) (r : Term) (f : Name) → IsRegion t → first_of_taking w.tree (field_of (child_type t r) f) ≡ None → ⊥
  part_taken _ r f (a_region_type k sp args u) e = no_way (taking_told w.tree (field_of (region_type k sp args r) f) e).1

  pub place_is : AllKept true w.scope.names → Falls w.scope.next w.scope.names → (n : Name) (i : ℕ) (t at : StaticType) (e : Expression) (f : Name) →
      IsSpaced w.tree w.scope.names t → Kept i t →
      first_of_taking w.tree (element_of t at) ≡ None → first_of_taking w.tree (field_of (type_of_element w.scope t e) f) ≡ None →
      IsPlace w i t e f
  place_is names falls n i _ at e f spaced (kept_partition d r q among) told field =
      absurd (part_taken (bound_as w.scope.names r).static_type (place.Child i (colour_of w.scope e)) f (region_of_number w.scope.next w.scope.names r falls among).0 field)
  place_is names falls n i t at e f spaced (kept_value _ a) told field = absurd (none_taken t a (taken n i t at (kept_value t a) told))
  place_is names falls n i _ at e f spaced (kept_region k sp args) told field =
      let t = region_type k sp args (place.Name i) in
      let there = not-false (has_field w.tree sp f) (taking_told w.tree (field_of (type_of_element w.scope t e) f) field).0 in
      let holds = field_found w.tree sound local w.scope.names names sp args f spaced.args there in record {
        region = a_region_type k sp args (place.Name i);
        there = there;
        through = λ own. refl;
        field = first_below (λ (p : Param). bytes_eq p.name f) (space_at w.tree sp).fields there;
        held = holds.held;
        among = holds.among;
        spaced = holds.spaced;
        known = ap (λ b. type_unless (b || not (has_field w.tree sp f) || false || false) (type_of_field w.tree (type_of_element w.scope t e) f)) (sound.fields sp f there)
            ∙ ap (λ b. type_unless (not b || false || false) (type_of_field w.tree (type_of_element w.scope t e) f)) there;
      }

  -- so it is where a name has the region
  pub named_place : (n : Name) (e : Expression) (f : Name) → IsSoundScope w.scope → is_bound w.scope.names n ≡ true →
      IsPlace w (bound w n).number (bound w n).static_type e f → GoesThrough w n e × IsFieldOf true w n f (element_field w n e f)
  named_place n e f scope b p = (
    p.through (slot_named w n) ∙ ap (λ (c : Bound). slot w c.place ∷ []) (found_by_number w.scope.next w.scope.names n scope.numbers b).0,
    held_field true w n f (element_field w n e f) b p.region p.field p.held,
  )

-- ---- fields of what pointers go to

-- a field of what a pointer of a type goes to
pub record IsAimed (tree : Tree) (bs : List Bound) (t : StaticType) (f : Name) : Type 0 where
  pub keeps : true ≡ true
  pub pointer : IsPointer t
  pub kind : Kind
  pub args : List Reach
  pub reaches : List Reach
  pub is : t ≡ pointer_type kind (space_in t) args reaches
  pub there : has_field tree (space_in t) f ≡ true
  pub among : AreGoals bs (space_in t) reaches
  pub certain : has_wild reaches ≡ false
  pub field : field_place tree (space_in t) f < length (space_at tree (space_in t)).fields
  pub held : IsHeld true (field_term tree (space_in t) (field_place tree (space_in t) f)) (type_of_field tree t f)
  pub holds : AreAmong bs (space_in (type_of_field tree t f)) (reaches_of (type_of_field tree t f))
  pub spaced : IsSpaced tree bs (type_of_field tree t f)
  pub known : known_type_after_step tree (field_of t f) (type_of_field tree t f) ≡ type_of_field tree t f

module _ (tree : Tree) (sound : IsSound tree) (local : IsLocalTree tree) (bs : List Bound)
    (names : AllKept true bs) (i : ℕ) where
  -- a field is taken of a pointer
  pub aimed_value : (t : StaticType) (f : Name) → IsSpaced tree bs t → IsValue true bs t → first_of_taking tree (field_of t f) ≡ None → IsAimed tree bs t f
  aimed_value _ f spaced (value_simple _ (simple_integer w)) e = absurd (no_way (taking_told tree (field_of (integer_type w) f) e).1)
  aimed_value _ f spaced (value_simple _ simple_truth) e = absurd (no_way (taking_told tree (field_of truth_type f) e).1)
  aimed_value _ f spaced (value_simple _ (simple_space k)) e = absurd (no_way (taking_told tree (field_of (ispace_type k) f) e).1)
  aimed_value _ f spaced (value_simple _ (simple_index k)) e = absurd (no_way (taking_told tree (field_of (index_type k) f) e).1)
  aimed_value _ f spaced (value_pointer k sp args rs q r) e =
      let t = pointer_type k sp args rs in
      let there = not-false (has_field tree sp f) (taking_told tree (field_of t f) e).0 in
      let found = field_found tree sound local bs names sp args f spaced.args there in
      let certain = wild_told tree (field_of t f) e in record {
        keeps = q;
        pointer = a_pointer_type k sp args rs (goals_aims bs sp rs r);
        kind = k;
        args = args;
        reaches = rs;
        is = refl;
        there = there;
        among = r;
        certain = certain;
        field = first_below (λ (p : Param). bytes_eq p.name f) (space_at tree sp).fields there;
        held = found.held;
        holds = found.among;
        spaced = found.spaced;
        known = ap (λ b. type_unless (b || not (has_field tree sp f) || false || has_wild rs) (type_of_field tree t f)) (sound.fields sp f there)
            ∙ ap (λ b. type_unless (not b || false || has_wild rs) (type_of_field tree t f)) there
            ∙ ap (λ b. type_unless b (type_of_field tree t f)) certain;
      }

  pub aimed_at : (t : StaticType) (f : Name) → IsSpaced tree bs t → IsKept true bs i t → (IsPartition t → ⊥) → first_of_taking tree (field_of t f) ≡ None →
      IsAimed tree bs t f
  aimed_at t f spaced (kept_value _ a) other e = aimed_value t f spaced a e
  aimed_at _ f spaced (kept_partition d r q a) other e = absurd (other (a_partition_type d r i))
  aimed_at _ f spaced (kept_region k sp args) other e = absurd (no_way (taking_told tree (field_of (region_type k sp args (place.Name i)) f) e).1)

-- ---- regions and their fields

-- a field of a region of a type
pub record IsRegionField (tree : Tree) (t : StaticType) (f : Name) : Type 0 where
  pub region : IsRegion t
  pub there : has_field tree (space_in t) f ≡ true
  pub field : field_place tree (space_in t) f < length (space_at tree (space_in t)).fields
  pub held : IsHeld true (field_term tree (space_in t) (field_place tree (space_in t) f)) (field_type tree (space_in t) (args_in t) f)
  pub known : known_field tree t f ≡ field_type tree (space_in t) (args_in t) f

module _ (tree : Tree) (sound : IsSound tree) (local : IsLocalTree tree) (bs : List Bound)
    (names : AllKept true bs) (i : ℕ) where
  pub region_is : (t : StaticType) → IsKept true bs i t → may_be is_region t ≡ true → IsRegion t
  region_is t (kept_value _ a) e = absurd (no_way (sym e ∙ value_is_no_region true bs t a))
  region_is _ (kept_region k sp args) e = a_region_type k sp args (place.Name i)
  region_is _ (kept_partition d r q a) e = absurd (no_way_back e)

  pub field_is : (t : StaticType) (f : Name) → IsSpaced tree bs t → IsKept true bs i t → may_be is_region t ≡ true → region_has tree t f ≡ true → IsRegionField tree t f
  field_is t f spaced (kept_value _ a) e has = absurd (no_way (sym e ∙ value_is_no_region true bs t a))
  field_is _ f spaced (kept_partition d r q a) e has = absurd (no_way_back e)
  field_is _ f spaced (kept_region k sp args) e has =
      record {
        region = a_region_type k sp args (place.Name i);
        there = has;
        field = first_below (λ (p : Param). bytes_eq p.name f) (space_at tree sp).fields has;
        held = (field_found tree sound local bs names sp args f spaced.args has).held;
        known = ap (λ b. type_unless (not b || is_flawed_field tree sp f) (field_type tree sp args f)) has
            ∙ ap (λ b. type_unless b (field_type tree sp args f)) (sound.fields sp f has);
      }
