-- Null, casts and written types, of which no breach is told.
use Rattle.std.proofs.Common.{◌≡◌, ◌⊎◌, inl, inr, Bool, List, [], ◌∷◌, None, Some, false, true, ap, refl, sym, ◌∙◌, not, map}
use Rattle.std.specs.Prelude.{◌||◌, ◌&&◌}
use Rattle.std.specs.List.{list_any}
use Rattle.std.proofs.lemmas.Bool.{and_parts, eqb-true, not-false, or_parts}
use Rattle.plain_values.proofs.Plain.{option_or_parts}
use Rattle.regent_tree.specs.Accesses.{space_in}
use Rattle.regent_tree.specs.Lookup.{has_space, is_bound, type_named}
use Rattle.regent_tree.specs.Scopes.{Scope, bound_to, in_scope}
use Rattle.regent_tree.specs.StaticTypes.{looked_up, place_of_space, type_said, written_pointer}
use Rattle.regent_tree.specs.Syntax.{Expression, Name, TaskTree, Tree, cast_expr, is_null_expr, null_expr}
use Rattle.regent_tree.specs.Typing.{has_wild, is_pointer, reaches_of}
use Rattle.regent_tree.specs.declared.facts.Known.{Known}
use Rattle.regent_tree.specs.declared.facts.Term.TheVariants as place
use Rattle.regent_tree.specs.declared.types.Kind.{Kind}
use Rattle.regent_tree.specs.declared.types.NumberTerm.TheVariants as number
use Rattle.regent_tree.specs.declared.types.PointerTerm.{PointerTerm}
use Rattle.regent_tree.specs.declared.types.Ref.{Ref}
use Rattle.regent_tree.specs.declared.types.Ref.TheVariants.{Named, Wild}
use Rattle.regent_tree.specs.declared.types.TypeTerm.{TypeTerm}
use Rattle.regent_tree.specs.declared.types.TypeTerm.TheVariants as term
use Rattle.regent_tree.specs.declared.typing.Bound.{Bound}
use Rattle.regent_tree.specs.declared.typing.StaticType.{StaticType}
use Rattle.regent_tree.specs.declared.typing.StaticType.TheVariants.{Index as index_type, Ispace as ispace_type}
use Rattle.check_laws.proofs.Parts.{unless_false}
use Rattle.check_laws.specs.SoundScopes.{IsSoundScope}
use Rattle.check_rules.proofs.Untold.{rule_none}
use Rattle.check_rules.proofs.Written.{names_known}
use Rattle.check_rules.specs.declared.rule.Rule.TheVariants as rule
use Rattle.check_rules.specs.first.FirstInExpressions.{first_in_expression, first_in_type}
use Rattle.check_rules.specs.rules.Counts.{miscounts_in_type}
use Rattle.check_rules.specs.rules.Names.{misses_region, unbound_name_in_type}
use Rattle.check_rules.specs.rules.Pointers.{is_region_in, is_wrong_region_of_pointer, wrong_region_in_type}
use Rattle.check_rules.specs.rules.Spaces.{misfits_in_type}
use Rattle.check_rules.specs.scopes.Sound.{IsSound, IsSoundTask}
use Rattle.check_rules.specs.scopes.Variables.{declared_type}
use Rattle.check_rules.specs.types.Declarations.{is_flawed_type}
use Rattle.check_rules.specs.types.Fitting.{fits}
use Rattle.check_rules.specs.types.Lookup.{names_a}
use Rattle.check_rules.specs.types.Sorts.{may_be, same_kind}
use Rattle.code_rules.specs.Slots.{Where, typed}
use Rattle.code_laws.specs.Handing.{forms_by}
use Rattle.code_laws.specs.Pointers.{AreThere, BeginsAs, BeginsWith, GoesInto, IsPointer, IsWritten, a_pointer_type, begins_plain, begins_pointer, into_space, itself_null, itself_plain, zero_index}
use Rattle.code_laws.specs.Simple.{IsScalar, scalar_truth, simple_index, simple_integer, simple_space, simple_truth}
use Rattle.code_laws.specs.Steps.{Forms}
use Rattle.code_laws.proofs.KnownHeads.{KnowsHead}
use Rattle.code_laws.proofs.LocalElements.{region_among, region_found, region_of_space, region_typed}
use Rattle.code_laws.proofs.LocalNames.{AllKept, IsKept, IsLocalTree, kept_partition, kept_region, kept_value, named_kept}
use Rattle.code_laws.proofs.LocalPoints.{IsWell, scalar_well, IsNumbered}
use Rattle.code_laws.proofs.LocalTypes.{term_scalar}
use Rattle.code_laws.proofs.LocalValues.{AreAmong, IsRegionAmong, IsValue, alike_begins, index_goes, names_among, pointer_fitting, scalar_begins, value_fitting, value_pointer, value_simple, names_aims, goals_aims, among_goals}
use Rattle.code_laws.proofs.Typing.{no_way, no_way_back}
use Rattle.code_laws.proofs.Values.{scalar_simple}
use Rattle.code_laws.proofs.Wider.{counting}
use Rattle.code_laws.proofs.LocalTaken.{IsCollection, collects_partition, collects_region}

-- no value is a region
value_not_in : (bs : List Bound) (tree : Tree) (p : PointerTerm) (t : StaticType) → IsValue true bs t → may_be (is_region_in tree p) t ≡ false
value_not_in bs tree p _ (value_simple _ (simple_integer w)) = refl
value_not_in bs tree p _ (value_simple _ simple_truth) = refl
value_not_in bs tree p _ (value_simple _ (simple_space k)) = refl
value_not_in bs tree p _ (value_simple _ (simple_index k)) = refl
value_not_in bs tree p _ (value_pointer k sp args i q r) = refl

-- where the field space is there, a region's is the pointer's
space_same : (a b c : Bool) → a ≡ true → (b && (not a || c)) ≡ true → c ≡ true
space_same true b c h e = (and_parts b c e).1
space_same false b c h e = absurd (no_way_back h)

-- ---- written types

module _ (tree : Tree) (s : Scope) (scope : IsSoundScope s) (names : AllKept true s.names) where
  -- a pointer's type that is written, and may be kept
  pub record IsSaid (u : StaticType) : Type 0 where
    pub value : IsValue true s.names u
    pub written : IsWritten s.names u
    pub certain : has_wild (reaches_of u) ≡ false

  -- a name in the type's list is bound to a region of the pointer's field space
  record IsNamed (p : PointerTerm) (n : Name) : Type 0 where
    among : IsRegionAmong s.names (bound_to s.names n).number
    in_space : space_in among.named.static_type ≡ place_of_space tree p.space.name
    there : AreThere s.names (place_of_space tree p.space.name) (Some (place.Name (bound_to s.names n).number) ∷ [])

  named_of : (p : PointerTerm) (n : Name) → is_bound s.names n ≡ true → has_space tree p.space.name ≡ true →
      (t : StaticType) → type_named s.names n ≡ t → IsKept true s.names (bound_to s.names n).number t → may_be (is_region_in tree p) t ≡ true →
      IsNamed p n
  named_of p n there space t same (kept_value _ a) e = absurd (no_way (sym e ∙ value_not_in s.names tree p t a))
  named_of p n there space _ same (kept_partition d r q a) e = absurd (no_way_back e)
  named_of p n there space _ same (kept_region k sp args) e =
      let found = region_found s.next s.names scope.numbers n there k sp args same in
      let place_same : place_of_space tree p.space.name ≡ sp =
      eqb-true (place_of_space tree p.space.name) sp (space_same (has_space tree p.space.name) (same_kind p.kind k) _ space e) in record {
        among = region_among s.next s.names scope.numbers n there k sp args same;
        in_space = region_of_space s.next s.names scope.numbers n there k sp args same ∙ sym place_same;
        there = (
          ap (λ (c : Bound). c.number) found,
          region_typed s.next s.names scope.numbers n there k sp args same,
          ap (λ (c : Bound). space_in c.static_type) found ∙ ap space_in same ∙ sym place_same,
          tt,
        );
      }

  -- so each name of a list
  named_all : (p : PointerTerm) (rs : List Ref) → has_space tree p.space.name ≡ true →
      list_any (is_wrong_region_of_pointer tree s.names p) rs ≡ false →
      AreAmong s.names (place_of_space tree p.space.name) (map (looked_up (in_scope s)) rs)
      × AreThere s.names (place_of_space tree p.space.name) (map (looked_up (in_scope s)) rs)
      × (has_wild (map (looked_up (in_scope s)) rs) ≡ false)
  named_all p [] space right = (tt, tt, refl)
  named_all p (Named n ∷ rs) space right =
      let apart = or_parts (not (names_a (is_region_in tree p) s.names n)) (list_any (is_wrong_region_of_pointer tree s.names p) rs) right in
      let named = and_parts (is_bound s.names n) (may_be (is_region_in tree p) (type_named s.names n))
      (not-false (names_a (is_region_in tree p) s.names n) apart.0) in
      let is = named_of p n named.0 space (type_named s.names n) refl (named_kept true s.names n names named.0) named.1 in
      let more = named_all p rs space apart.1 in
      ((is.among, is.in_space, more.0), (is.there.0, is.there.1, is.there.2, more.1), more.2)
  named_all p (Wild ∷ rs) space right = absurd (no_way right)

  pub pointer_said : (p : PointerTerm) → first_in_type tree s.names (term.Pointer p) ≡ None → IsSaid (written_pointer tree (in_scope s) p)
  pointer_said p e =
      let a = option_or_parts _ _ e in
      let b = option_or_parts _ _ a.1 in
      let c = option_or_parts _ _ b.1 in
      let bound = or_parts (not (has_space tree p.space.name) || list_any (misses_region s.names) p.space.args) (list_any (misses_region s.names) p.regions)
      (rule_none (unbound_name_in_type tree s.names (term.Pointer p)) rule.Name a.0) in
      let space = not-false (has_space tree p.space.name) (or_parts (not (has_space tree p.space.name)) (list_any (misses_region s.names) p.space.args) bound.0).0 in
      let named = named_all p p.regions space (rule_none (wrong_region_in_type tree s.names (term.Pointer p)) rule.Pointer c.0) in
      let reaches = map (looked_up (in_scope s)) p.regions in record {
        value = value_pointer p.kind (place_of_space tree p.space.name) _ reaches refl (among_goals s.names (place_of_space tree p.space.name) reaches named.0);
        written = (a_pointer_type _ _ _ reaches (names_aims reaches (names_among s.names (place_of_space tree p.space.name) reaches named.0)), named.1);
        certain = named.2;
      }

  -- a type of which nothing is told is as it is written
  pub type_flawless : (t : TypeTerm) → first_in_type tree s.names t ≡ None → declared_type tree s t ≡ type_said tree (in_scope s) s.next t
  type_flawless t e =
      let a = option_or_parts _ _ e in
      let b = option_or_parts _ _ a.1 in
      let c = option_or_parts _ _ b.1 in
      let d = option_or_parts _ _ c.1 in
      let named = rule_none (unbound_name_in_type tree s.names t) rule.Name a.0 in
      let counted = rule_none (miscounts_in_type tree t) rule.Count b.0 in
      let points = rule_none (wrong_region_in_type tree s.names t) rule.Pointer c.0 in
      let right = rule_none (misfits_in_type tree s.names t) rule.Spaces d.0 in
      let known = names_known tree s.names (λ n b. (scope.types n b).known) t named in
      unless_false (is_flawed_type tree s.names t) (type_said tree (in_scope s) s.next t) (λ j. named j || counted j || points j || right j || known j)

-- what fits an index space's variable, and begins it
space_goes : (b : Bool) (bs : List Bound) (known : List Known) (from : StaticType) (k : Kind) → IsValue b bs from → fits known from (ispace_type k) ≡ true →
    GoesInto from (ispace_type k)
space_goes b bs known _ k (value_simple _ (simple_space j)) e = into_space j k
space_goes b bs known _ k (value_simple _ (simple_integer w)) e = absurd (no_way_back e)
space_goes b bs known _ k (value_simple _ (simple_index j)) e = absurd (no_way_back e)
space_goes b bs known _ k (value_simple _ simple_truth) e = absurd (no_way_back e)
space_goes b bs known _ k (value_pointer j sp args i h r) e = absurd (no_way_back e)

-- whether a variable of a written type that is no region's and no partition's may begin by itself
abbrev pub begins_alone : TypeTerm → Bool
begins_alone (term.Ispace k) = false
begins_alone (term.Region k u) = false
begins_alone (term.Partition d r c) = false
begins_alone t = true

module _ (tree : Tree) (s : Scope) (scope : IsSoundScope s) (names : AllKept true s.names) where
  -- a variable of a written type that is no region's and no partition's: what it is, and how it begins, by itself where it may, or
  -- with what fits
  pub record IsVariable (t : TypeTerm) (u : StaticType) : Type 0 where
    pub value : IsValue true s.names u
    pub itself : begins_alone t ≡ true → BeginsAs true s.names u
    pub begins : (from : StaticType) → IsValue true s.names from → fits s.known from u ≡ true → BeginsWith true s.names from u

  scalar_variable : (t : TypeTerm) (u : StaticType) → IsScalar u → IsVariable t u
  scalar_variable t u a = record {
    value = value_simple u (scalar_simple u a);
    itself = λ h. scalar_begins true s.names u a;
    begins = λ from v e. alike_begins true s.names from u (value_fitting true s.names s.known from u v a e);
  }

  pub variable_said : (t : TypeTerm) → first_in_type tree s.names t ≡ None →
      IsVariable t (type_said tree (in_scope s) s.next t) ⊎ IsCollection (type_said tree (in_scope s) s.next t)
  variable_said (term.Number number.Int32) e = inl (scalar_variable _ _ (term_scalar (term.Number number.Int32) refl tree (in_scope s) s.next))
  variable_said (term.Number number.Int64) e = inl (scalar_variable _ _ (term_scalar (term.Number number.Int64) refl tree (in_scope s) s.next))
  variable_said term.Truth e = inl (scalar_variable _ _ scalar_truth)
  variable_said (term.Number (number.Index k)) e = inl (record {
    value = value_simple (index_type k) (simple_index k);
    itself = λ h. (itself_plain (index_type k) (zero_index k));
    begins = λ from v fit. (begins_plain from (index_type k) (index_goes true s.names s.known from k v fit));
  })
  variable_said (term.Pointer p) e =
      let u = written_pointer tree (in_scope s) p in
      let is = pointer_said tree s scope names p e in inl (record {
        value = is.value;
        itself = λ h. (itself_null u is.written);
        begins = λ from v fit. (begins_pointer from u (pointer_fitting true s.names s.known from u v is.written.0 fit) is.written);
      })
  variable_said (term.Ispace k) e = inl (record {
    value = value_simple (ispace_type k) (simple_space k);
    itself = λ h. absurd (no_way_back h);
    begins = λ from v fit. (begins_plain from (ispace_type k) (space_goes true s.names s.known from k v fit));
  })
  variable_said (term.Region k u) e = inr (collects_region k _ _ _)
  variable_said (term.Partition d r c) e = inr (collects_partition d _ _)

-- ---- expressions

module _ (task : TaskTree) (w : Where) (sound : IsSound w.tree) (sound_task : IsSoundTask w.tree task)
    (local : IsLocalTree w.tree) (scope : IsSoundScope w.scope) (names : AllKept true w.scope.names) (head : KnowsHead w.tree task w.scope) where
  abbrev forms : Forms
  forms = forms_by true true w.tree task

  abbrev Well : Expression → Type 0
  Well e = IsWell task w sound sound_task local scope names head e

  abbrev Numbered : Expression → Type 0
  Numbered e = IsNumbered task w sound sound_task local scope names head e

  pub null_well : (p : PointerTerm) → first_in_expression w.tree task w.scope (null_expr p) ≡ None → Well (null_expr p)
  null_well p none =
      let is = pointer_said w.tree w.scope scope names p none in
      record { is = (refl, is.written); value = is.value; points = λ q. refl }

  pub cast_well : (p : PointerTerm) (e : Expression) → Numbered e → first_in_type w.tree w.scope.names (term.Pointer p) ≡ None → Well (cast_expr p e)
  cast_well p e a told =
      let is = pointer_said w.tree w.scope scope names p told in
      record { is = (refl, is.written, counting true (typed w e) a.counts, a.well.is, is.certain); value = is.value; points = λ q. refl }

  -- what may be a pointer is one, where pointers are kept
  pointer_value : (t : StaticType) → IsValue true w.scope.names t → may_be is_pointer t ≡ true → (true ≡ true) × IsPointer t
  pointer_value _ (value_simple _ (simple_integer v)) e = absurd (no_way_back e)
  pointer_value _ (value_simple _ simple_truth) e = absurd (no_way_back e)
  pointer_value _ (value_simple _ (simple_space k)) e = absurd (no_way_back e)
  pointer_value _ (value_simple _ (simple_index k)) e = absurd (no_way_back e)
  pointer_value _ (value_pointer k sp args i q r) e = (q, a_pointer_type k sp args i (goals_aims w.scope.names sp i r))

  pub is_null_well : (e : Expression) → Well e → may_be is_pointer (typed w e) ≡ true → Well (is_null_expr e)
  is_null_well e a may =
      let is = pointer_value (typed w e) a.value may in
      scalar_well task w sound sound_task local scope names head (is_null_expr e) (is.0, is.1, a.is) scalar_truth
