-- Arguments of calls of which no breach is told are typed, and the calls may be made.
use Rattle.std.proofs.Common.{◌≡◌, ℕ, Bool, List, [], None, false, true, refl, ap, sym, subst, ◌∙◌, ◌⊎◌, inl, inr, not}
use Rattle.std.proofs.lemmas.List.{length-map}
use Rattle.std.specs.Prelude.{length, map, ◌&&◌, ◌==◌}
use Rattle.std.specs.List.{list_any}
use Rattle.std.proofs.lemmas.Bool.{eqb-true, not-false}
use Rattle.plain_values.proofs.Plain.{option_or_parts}
use Rattle.regent_tree.specs.Lookup.{has_task, is_bound}
use Rattle.regent_tree.specs.Scopes.{bound_as, scope_of}
use Rattle.regent_tree.specs.StaticTypes.{Reach, task_named}
use Rattle.regent_tree.specs.Syntax.{Expression, Expressions, Name, TaskTree, access_expr, at_step, no_step}
use Rattle.regent_tree.specs.Typing.{child_type, colour_of, param_types, params_at, put, put_in, type_of_element, is_disjoint, parent_of}
use Rattle.regent_tree.specs.declared.facts.Term.{Term}
use Rattle.regent_tree.specs.declared.facts.Term.TheVariants as term
use Rattle.regent_tree.specs.declared.types.Kind.{Kind}
use Rattle.regent_tree.specs.declared.typing.StaticType.{StaticType}
use Rattle.regent_tree.specs.declared.typing.StaticType.TheVariants.{Index as index_type, Ispace as ispace_type, Partition as partition_type, Pointer as pointer_type}
use Rattle.check_laws.specs.SoundScopes.{IsSoundScope}
use Rattle.check_rules.specs.first.FirstInExpressions.{first_in_args, first_in_expression, first_of_call, first_of_standing, first_of_step, first_of_taking}
use Rattle.check_rules.specs.first.Rules.{rule_if}
use Rattle.check_rules.specs.rules.Spaces.{differs, misfit_in}
use Rattle.check_rules.specs.rules.Standing.{number_spot, param_spot, stand_at, stands}
use Rattle.check_rules.specs.rules.Types.{is_ill_typed_at_place, may_stand}
use Rattle.check_rules.specs.scopes.Sound.{IsSound, IsSoundTask}
use Rattle.check_rules.specs.types.Declarations.{params_of}
use Rattle.check_rules.specs.types.KnownTypes.{known_type, known_types}
use Rattle.check_rules.specs.types.Params.{types_in_order}
use Rattle.check_rules.specs.types.Sorts.{is_number, is_region, may_be}
use Rattle.check_rules.specs.types.TypedForms.{calling, element_of}
use Rattle.check_rules.specs.declared.rule.Rule.TheVariants as rule
use Rattle.check_rules.proofs.Untold.{rule_none}
use Rattle.code_rules.specs.Slots.{Where, bound, typed}
use Rattle.code_laws.specs.Handing.{forms_by}
use Rattle.code_laws.specs.Pointers.{IsCounting, PassesInto, passes_pointer}
use Rattle.code_laws.specs.Simple.{AreAlike, AreRegions, IsPartition, IsRegion, a_partition_type, a_region_type}
use Rattle.code_laws.specs.Steps.{Forms}
use Rattle.code_laws.specs.Arguments.{IsCutName}
use Rattle.code_laws.specs.Typed.{ArePassed, IsCallable, IsIndexed, IsPassed, IsTyped, IsOwnCut}
use Rattle.expression_laws.proofs.Calls.{IsFlawless, call_parts}
use Rattle.code_laws.proofs.KnownHeads.{KnowsHead}
use Rattle.code_laws.proofs.LocalDivided.{may_call}
use Rattle.code_laws.proofs.LocalParts.{and_then, put_region, put_scalar}
use Rattle.code_laws.proofs.LocalNames.{AllKept, IsKept, IsLocalTree, kept_partition, kept_region, named_kept, kept_value, region_of_number, value_no_region}
use Rattle.code_laws.proofs.LocalPlaces.{taking_told}
use Rattle.code_laws.proofs.LocalTypes.{IsTakable, regions_alike, takable_index, takable_partition, takable_pointer, takable_region, takable_scalar, takable_space}
use Rattle.code_laws.proofs.Openings.{params_length, types_length}
use Rattle.code_laws.proofs.Typing.{no_way, stands_well}
use Rattle.code_laws.proofs.LocalValues.{IsValue, alike_passes, value_counts, value_for_region, value_param, value_read}
use Rattle.code_laws.proofs.LocalElements.{of_region}
use Rattle.code_laws.proofs.LocalPoints.{IsWell, local_known, IsNumbered}
use Rattle.code_laws.proofs.LocalGoals.{IsRegionAmong}
use Rattle.code_laws.proofs.LocalTaken.{IsCollection, collects_partition, collects_region, collected_index, collected_number, collected_pointer, collected_scalar, collected_space, cut_for_region, region_for_cut, index_param, space_param, pointer_param, passes_into, goes_passes, value_no_cut}

pub child_region : (t : StaticType) (r : Term) → IsRegion t → IsRegion (child_type t r)
child_region _ r (a_region_type k sp args q) = a_region_type k sp args r

module _ (task : TaskTree) (w : Where) (sound : IsSound w.tree) (sound_task : IsSoundTask w.tree task)
    (local : IsLocalTree w.tree) (scope : IsSoundScope w.scope) (names : AllKept true w.scope.names) (head : KnowsHead w.tree task w.scope) where
  abbrev forms : Forms
  forms = forms_by true true w.tree task

  abbrev Well : Expression → Type 0
  Well e = IsWell task w sound sound_task local scope names head e

  abbrev known : (e : Expression) → first_in_expression w.tree task w.scope e ≡ None → known_type w.tree w.scope e ≡ typed w e
  known e told = local_known task w sound sound_task local scope names head e told

  -- what is told of no call: its task is there, has as many parameters, and what is given stands well and is of the
  -- field space that is asked
  pub record IsCallTold (n : Name) (args : Expressions) : Type 0 where
    pub there : has_task w.tree n ≡ true
    pub standing : list_any (is_ill_typed_at_place w.scope.known)
        (stand_at (known_types w.tree w.scope args) (param_types w.tree (task_named w.tree n)) (known_types w.tree w.scope args)) ≡ false
    pub many : length (known_types w.tree w.scope args) ≡ length (param_types w.tree (task_named w.tree n))
    pub fits : misfit_in (known_types w.tree w.scope args) (param_types w.tree (task_named w.tree n)) (known_types w.tree w.scope args) ≡ false
    pub parts : IsFlawless w.tree task w.scope (calling n (known_types w.tree w.scope args))

  call_told : (n : Name) (args : Expressions) → first_of_call w.tree task w.scope (calling n (known_types w.tree w.scope args)) ≡ None → IsCallTold n args
  call_told n args e =
      let c = calling n (known_types w.tree w.scope args) in
      let t = task_named w.tree n in
      let ps = param_types w.tree t in
      let parts = call_parts w.tree task w.scope c e in
      let there = not-false (has_task w.tree n) parts.named in
      let many = and_then (has_task w.tree n) (not (length c.args == length t.params)) there parts.counted in
      let long : length ps ≡ length t.params = types_length (scope_of w.tree t).names ∙ params_length w.tree t.params 0 t.params in
      let order : params_of w.tree n ≡ ps = ap types_in_order (sound.params n) in record {
        there = there;
        standing = subst (λ ts. list_any (is_ill_typed_at_place w.scope.known) (stand_at c.args ts c.args) ≡ false) order parts.stand;
        many = eqb-true (length c.args) (length t.params) (not-false (length c.args == length t.params) many) ∙ sym long;
        fits = subst (λ ts. misfit_in c.args ts c.args ≡ false) order parts.fits;
        parts = parts;
      }

  -- what a call is given, and that its task may be called so
  pub record IsCallWell (n : Name) (args : Expressions) : Type 0 where
    pub there : has_task w.tree n ≡ true
    pub callable : IsCallable forms w n args
    pub passed : ArePassed forms w (params_at w.tree w.scope (task_named w.tree n) args) (param_types w.tree (task_named w.tree n)) args

  -- a name that stands for a number or truth, an index, an index space or a pointer
  pub name_well : (n : Name) → is_bound w.scope.names n ≡ true → IsValue true w.scope.names (bound w n).static_type → Well (access_expr n no_step)
  name_well n there value =
      record { is = (there, value_read true w.scope.names (bound w n).static_type value); value = value; points = λ q. refl }

  -- an expression has a value, or it is a region that has a name, a part, or a partition that has a name
  pub record IsRegionName (e : Expression) : Type 0 where
    pub name : Name
    pub is : e ≡ access_expr name no_step
    pub there : is_bound w.scope.names name ≡ true
    pub region : IsRegion (bound w name).static_type

  pub record IsPartName (e : Expression) : Type 0 where
    pub name : Name
    pub index : Expression
    pub is : e ≡ access_expr name (at_step index no_step)
    pub cut : IsCutName w name
    pub own : IsOwnCut w name
    pub parent : IsRegionAmong w.scope.names (parent_of (bound w name).static_type)
    pub region : IsRegion (typed w (access_expr name (at_step index no_step)))
    pub indexed : IsTyped forms w index
    pub counts : IsCounting (typed w index)

  -- a partition that has a name
  pub record IsCutArg (e : Expression) : Type 0 where
    pub name : Name
    pub is : e ≡ access_expr name no_step
    pub cut : IsCutName w name

  abbrev pub IsCollected : Expression → Type 0
  IsCollected e = IsRegionName e ⊎ (IsPartName e ⊎ IsCutArg e)

  abbrev pub IsArgument : Expression → Type 0
  IsArgument e = Well e ⊎ IsCollected e

  -- what has no value is a region or a partition
  region_collected : (t : StaticType) → IsRegion t → IsCollection t
  region_collected _ (a_region_type k sp args r) = collects_region k sp args r

  cut_collected : (t : StaticType) → IsPartition t → IsCollection t
  cut_collected _ (a_partition_type d r p) = collects_partition d r p

  pub collected : (e : Expression) → IsCollected e → IsCollection (typed w e)
  collected e (inl r) = subst (λ y. IsCollection (typed w y)) (sym r.is) (region_collected (bound w r.name).static_type r.region)
  collected e (inr (inl p)) =
      subst (λ y. IsCollection (typed w y)) (sym p.is) (region_collected (typed w (access_expr p.name (at_step p.index no_step))) p.region)
  collected e (inr (inr c)) = subst (λ y. IsCollection (typed w y)) (sym c.is) (cut_collected (bound w c.name).static_type c.cut.partition)

  -- so what isn't one has a value
  pub well_of : (e : Expression) → IsArgument e → (IsCollection (typed w e) → ⊥) → Well e
  well_of e (inl a) none = a
  well_of e (inr c) none = absurd (none (collected e c))

  -- and what stands where a number does counts as one
  pub number_of : (e : Expression) → IsArgument e → may_be is_number (typed w e) ≡ true → IsNumbered task w sound sound_task local scope names head e
  number_of e a may =
      let well = well_of e a (λ c. collected_number (typed w e) c may) in
      record { well = well; counts = value_counts true w.scope.names (typed w e) well.value may }

  -- as at a place where something is taken
  pub placed : (t : StaticType) (e : Expression) → IsArgument e → first_in_expression w.tree task w.scope e ≡ None →
      first_of_taking w.tree (element_of t (known_type w.tree w.scope e)) ≡ None → IsNumbered task w sound sound_task local scope names head e
  placed t e a told taking =
      let at = known_type w.tree w.scope e in
      let stood = (option_or_parts (first_of_standing [] (stands at number_spot)) _ (taking_told w.tree (element_of t at) taking).2).0 in
      number_of e a (subst (λ u. may_be is_number u ≡ true) (known e told) (stands_well [] at number_spot stood))

  -- a pointer where one is taken, by its type at the call
  pointer_given : (all types : List StaticType) (e : Expression) (k : Kind) (sp : ℕ) (args rs : List Reach) → true ≡ true → Well e →
      may_stand w.scope.known (stands (typed w e) (param_spot (put_in all (pointer_type k sp args rs)))) ≡ true →
      PassesInto true (typed w e) (put_in types (pointer_type k sp args rs)) (pointer_type k sp args rs)
  pointer_given all types e k sp args rs q a may =
      passes_into w true (typed w e) (put_in types (pointer_type k sp args rs)) (pointer_type k sp args rs) q
      (passes_pointer (typed w e) k sp args (map (put types) args) rs (map (put types) rs) (pointer_param w true (typed w e) k sp (map (put all) args) (map (put all) rs) q a.value may)
      (length-map rs (put types)))

  pub name_argument : (n : Name) → is_bound w.scope.names n ≡ true → (t : StaticType) → (bound w n).static_type ≡ t → IsKept true w.scope.names (bound w n).number t →
      IsArgument (access_expr n no_step)
  name_argument n there t same (kept_value _ a) = inl (name_well n there (subst (IsValue true w.scope.names) (sym same) a))
  name_argument n there _ same (kept_region k sp args) =
      inr (inl (record { name = n; is = refl; there = there; region = subst IsRegion (sym same) (a_region_type k sp args (term.Name (bound w n).number)) }))
  name_argument n there _ same (kept_partition d r q among) = inr (inr (inr (record {
    name = n;
    is = refl;
    cut = record { named = there; numbers = scope.numbers; partition = subst IsPartition (sym same) (a_partition_type d r (bound w n).number) };
  })))

  -- what is taken of a name at a place
  part_argument : (n : Name) (e : Expression) → (there : is_bound w.scope.names n ≡ true) → (t : StaticType) → (bound w n).static_type ≡ t →
      IsKept true w.scope.names (bound w n).number t → first_of_taking w.tree (element_of t (known_type w.tree w.scope e)) ≡ None →
      IsNumbered task w sound sound_task local scope names head e → IsArgument (access_expr n (at_step e no_step))
  part_argument n e there t same (kept_value _ a) taking place =
      absurd (no_way (sym (not-false _ (taking_told w.tree (element_of t (known_type w.tree w.scope e)) taking).1) ∙ value_no_region true w.scope.names t a))
  part_argument n e there _ same (kept_region k sp args) taking place =
      inl (of_region task w sound sound_task local scope names head n e there refl k sp args same place.well.is
      place.counts)
  part_argument n e there _ same (kept_partition d r keeps among) taking place =
      let parent = region_of_number w.scope.next w.scope.names r scope.numbers among in
      inr (inr (inl (record {
        name = n;
        index = e;
        is = refl;
        cut = record { named = there; numbers = scope.numbers; partition = subst IsPartition (sym same) (a_partition_type d r (bound w n).number) };
        own = same ∙ sym (ap (λ t. partition_type (is_disjoint t) (parent_of t) (bound w n).number) same);
        parent = subst (λ t. IsRegionAmong w.scope.names (parent_of t)) (sym same) among;
        region = subst (λ t. IsRegion (type_of_element w.scope t e)) (sym same)
            (child_region (bound_as w.scope.names r).static_type (term.Child (bound w n).number (colour_of w.scope e)) parent.0);
        indexed = place.well.is;
        counts = place.counts;
      })))

  -- it is passed to a parameter of its type
  module _ (all types : List StaticType) (e : Expression) (told : first_in_expression w.tree task w.scope e ≡ None) where
    abbrev Stood : StaticType → Type 0
    Stood p = may_stand w.scope.known (stands (known_type w.tree w.scope e) (param_spot (put_in all p))) ≡ true

    abbrev Passed : StaticType → Type 0
    Passed p = IsPassed forms w (put_in types p) p e (IsTyped forms w e) (IsIndexed forms w e)

    -- by what is known of it
    stood_as : (p q : StaticType) → put_in all p ≡ q → Stood p → may_stand w.scope.known (stands (typed w e) (param_spot q)) ≡ true
    stood_as p q same may =
        subst (λ u. may_stand w.scope.known (stands u (param_spot q)) ≡ true) (known e told)
        (subst (λ q. may_stand w.scope.known (stands (known_type w.tree w.scope e) (param_spot q)) ≡ true) same may)

    value_given : (p : StaticType) → Well e → IsTakable true p → Stood p → Passed p
    value_given p a (takable_scalar _ s) may =
        let same = put_scalar types p s in
        let alike = value_param true w.scope.names w.scope.known (typed w e) p a.value s (stood_as p p (put_scalar all p s) may) in
        inl (alike_passes true (typed w e) (put_in types p) p (subst (AreAlike (typed w e)) (sym same) alike) same, a.is)
    value_given p a (takable_region _ r) may =
        absurd (value_for_region true w.scope.names w.scope.known (typed w e) p a.value r (stood_as p p (put_region all p r) may))
    value_given p a (takable_index k q) may =
        inl (goes_passes w true (typed w e) (index_type k) q (index_param w true (typed w e) k q a.value (stood_as p p refl may)), a.is)
    value_given p a (takable_space k q) may =
        inl (goes_passes w true (typed w e) (ispace_type k) q (space_param w true (typed w e) k q a.value (stood_as p p refl may)), a.is)
    value_given p a (takable_partition d r u q) may = absurd (value_no_cut w true (typed w e) d r u a.value (stood_as p p refl may))
    value_given p a (takable_pointer k sp args rs q) may =
        inl (pointer_given all types e k sp args rs q a (stood_as p (put_in all p) refl may), a.is)

    abbrev Fits : StaticType → Type 0
    Fits p = (is_region p && differs all p (known_type w.tree w.scope e)) ≡ false

    -- a region that has a name, where one is taken
    region_given : (p : StaticType) → IsRegionName e → IsRegion p → Fits p → Passed p
    region_given p n r fits =
        subst (λ y. IsPassed forms w (put_in types p) p y (IsTyped forms w y) (IsIndexed forms w y)) (sym n.is) (inr (inl (n.there, put_region types p r, regions)))
      where
        regions : AreRegions (bound w n.name).static_type p
        regions = regions_alike all p (bound w n.name).static_type r n.region
            (subst (λ y. (is_region p && differs all p (known_type w.tree w.scope y)) ≡ false) n.is fits)

    -- or a part
    part_given : (p : StaticType) → IsPartName e → IsRegion p → Fits p → Passed p
    part_given p r region fits =
        subst (λ y. IsPassed forms w (put_in types p) p y (IsTyped forms w y) (IsIndexed forms w y)) (sym r.is)
        (inr (inr (r.cut, put_region types p region, regions, (r.indexed, r.counts))))
      where
        from : Expression
        from = access_expr r.name (at_step r.index no_step)

        regions : AreRegions (typed w from) p
        regions = regions_alike all p (typed w from) region r.region
            (subst (λ u. (is_region p && differs all p u) ≡ false) (known e told ∙ ap (typed w) r.is) fits)

    -- a partition that has a name, where one is taken
    cut_given : (d : Bool) (r u : ℕ) → IsCutArg e → Passed (partition_type d r u)
    cut_given d r u n =
        let p = partition_type d r u in
        subst (λ y. IsPassed forms w (put_in types p) p y (IsTyped forms w y) (IsIndexed forms w y)) (sym n.is)
        (inr (inr (n.cut, refl, a_partition_type d r u)))

    pub given_one : (p : StaticType) → IsArgument e → IsTakable true p → Stood p → Fits p → Passed p
    given_one p (inl a) takable may fits = value_given p a takable may
    given_one p (inr c) (takable_scalar _ s) may fits = absurd (collected_scalar w (typed w e) p (collected e c) s (stood_as p p (put_scalar all p s) may))
    given_one p (inr c) (takable_index k q) may fits = absurd (collected_index w (typed w e) k (collected e c) (stood_as p p refl may))
    given_one p (inr c) (takable_space k q) may fits = absurd (collected_space w (typed w e) k (collected e c) (stood_as p p refl may))
    given_one p (inr c) (takable_pointer k sp args rs q) may fits =
        absurd (collected_pointer w (typed w e) k sp (map (put all) args) (map (put all) rs) (collected e c) (stood_as p (put_in all p) refl may))
    given_one p (inr (inl n)) (takable_region _ r) may fits = region_given p n r fits
    given_one p (inr (inr (inl n))) (takable_region _ r) may fits = part_given p n r fits
    given_one p (inr (inr (inr n))) (takable_region _ r) may fits =
        absurd (cut_for_region w (typed w e) p (subst (λ y. IsPartition (typed w y)) (sym n.is) n.cut.partition) r (stood_as p p (put_region all p r) may))
    given_one p (inr (inl n)) (takable_partition d r u q) may fits =
        absurd (region_for_cut w (typed w e) d r u (subst (λ y. IsRegion (typed w y)) (sym n.is) n.region) (stood_as p p refl may))
    given_one p (inr (inr (inl n))) (takable_partition d r u q) may fits =
        absurd (region_for_cut w (typed w e) d r u (subst (λ y. IsRegion (typed w y)) (sym n.is) n.region) (stood_as p p refl may))
    given_one p (inr (inr (inr n))) (takable_partition d r u q) may fits = cut_given d r u n

  -- what is taken of a name, by what is told of it
  pub part_of_name : (n : Name) (e : Expression) → first_in_expression w.tree task w.scope (access_expr n (at_step e no_step)) ≡ None →
      (first_in_expression w.tree task w.scope e ≡ None → IsArgument e) → IsArgument (access_expr n (at_step e no_step))
  part_of_name n e told own =
      let t = (bound w n).static_type in
      let named = option_or_parts (rule_if (not (is_bound w.scope.names n)) rule.Name) _ told in
      let there = not-false (is_bound w.scope.names n) (rule_none (not (is_bound w.scope.names n)) rule.Name named.0) in
      let index = option_or_parts (first_in_expression w.tree task w.scope e) _ named.1 in
      let step = option_or_parts (first_of_step w.tree task w.scope (element_of t (known_type w.tree w.scope e))) _ index.1 in
      let taking = (option_or_parts (first_of_taking w.tree (element_of t (known_type w.tree w.scope e))) _ step.0).0 in
      part_argument n e there t refl (named_kept true w.scope.names n names there) taking (placed t e (own index.0) index.0 taking)

  -- a call that is given its arguments
  pub call_well : (n : Name) (args : Expressions) → first_in_args w.tree task w.scope args ≡ None →
      first_of_call w.tree task w.scope (calling n (known_types w.tree w.scope args)) ≡ None →
      (IsCallTold n args → ArePassed forms w (params_at w.tree w.scope (task_named w.tree n) args) (param_types w.tree (task_named w.tree n)) args) →
      IsCallWell n args
  call_well n args told e given =
      let t = call_told n args e in
      let passed = given t in record {
        there = t.there;
        callable = may_call task w sound sound_task local scope names head n args (local.tasks n t.there) told t.parts passed;
        passed = passed;
      }
