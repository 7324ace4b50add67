-- Elements of parts that have no name, and fields behind them, of which no breach is told.
use Rattle.std.proofs.Common.{◌≡◌, ℕ, List, [], ◌∷◌, None, Some, true, false, refl, ap, sym, subst, ◌∙◌, not}
use Rattle.plain_values.proofs.Plain.{option_or_parts}
use Rattle.lane_kernels.specs.declared.numbers.Mode.TheVariants as mode
use Rattle.regent_tree.specs.Limits.{parts_of_expression}
use Rattle.regent_tree.specs.Lookup.{is_bound}
use Rattle.regent_tree.specs.Scopes.{bound_as}
use Rattle.regent_tree.specs.Syntax.{Expression, Name, Steps, TaskTree, access_expr, at_step, field_step, no_step}
use Rattle.regent_tree.specs.Typing.{colour_of, is_disjoint, parent_of, type_of_element, type_of_field}
use Rattle.regent_tree.specs.declared.facts.Term.TheVariants as place
use Rattle.regent_tree.specs.declared.rights.Access.{Access}
use Rattle.regent_tree.specs.declared.rights.Access.TheVariants as access
use Rattle.regent_tree.specs.declared.facts.Colour.{Colour}
use Rattle.regent_tree.specs.declared.types.Kind.{Kind}
use Rattle.regent_tree.specs.StaticTypes.{Reach}
use Rattle.regent_tree.specs.declared.typing.StaticType.{StaticType}
use Rattle.regent_tree.specs.declared.typing.StaticType.TheVariants.{Partition as partition_type, Region as region_type}
use Rattle.check_laws.specs.SoundScopes.{IsSoundScope}
use Rattle.check_rules.specs.first.FirstInExpressions.{first_in_expression, first_in_steps, first_of_step, first_of_taking}
use Rattle.check_rules.specs.first.Rules.{rule_if}
use Rattle.check_rules.specs.rules.Privileges.{lacks, wanted_of_step}
use Rattle.check_rules.specs.scopes.Sound.{IsSound, IsSoundTask}
use Rattle.check_rules.specs.types.KnownTypes.{known_type}
use Rattle.check_rules.specs.types.TypedForms.{element_of, field_of}
use Rattle.check_rules.specs.declared.rule.Rule.TheVariants as rule
use Rattle.check_rules.proofs.Untold.{rule_none}
use Rattle.code_rules.specs.Slots.{Where, bound, typed}
use Rattle.code_laws.specs.Handing.{forms_by}
use Rattle.code_laws.specs.Simple.{IsPartition, IsRegion, a_partition_type}
use Rattle.code_laws.specs.Steps.{Forms}
use Rattle.code_laws.specs.Typed.{IsPiece, MayUse, part_element}
use Rattle.code_laws.proofs.KnownGoals.{aimed_reach}
use Rattle.code_laws.proofs.KnownHeads.{KnowsHead}
use Rattle.code_laws.proofs.LocalArguments.{child_region}
use Rattle.code_laws.proofs.LocalElements.{part_goal}
use Rattle.code_laws.proofs.LocalFields.{held_keeps, held_value}
use Rattle.code_laws.proofs.LocalNames.{AllKept, IsKept, IsLocalTree, kept_partition, kept_region, kept_value, named_kept, region_of_number}
use Rattle.code_laws.proofs.LocalPlaces.{IsAimed, aimed_value, taking_told}
use Rattle.code_laws.proofs.LocalPoints.{IsNumbered, IsWell, held_well, local_known, name_there}
use Rattle.code_laws.proofs.LocalPrefixes.{access_told, kept_access, read_element}
use Rattle.code_laws.proofs.LocalShapes.{no_element, no_index}
use Rattle.code_laws.proofs.LocalSpaced.{expression_spaced}
use Rattle.code_laws.proofs.LocalSteps.{steps_well}
use Rattle.code_laws.proofs.LocalValues.{IsCutAmong, IsRegionAmong, value_pointer, IsValue}
use Rattle.code_laws.proofs.Privileges.{mode_in}
use Rattle.code_laws.proofs.PartTypes.{part_is}
use Rattle.code_laws.proofs.Typing.{AreKept, no_way}

module _ (task : TaskTree) (w : Where) (sound : IsSound w.tree) (sound_task : IsSoundTask w.tree task)
    (local : IsLocalTree w.tree) (scope : IsSoundScope w.scope) (names : AllKept true w.scope.names) (head : KnowsHead w.tree task w.scope) where
  abbrev forms : Forms
  forms = forms_by true true w.tree task

  abbrev Well : Expression → Type 0
  Well e = IsWell task w sound sound_task local scope names head e

  abbrev Numbered : Expression → Type 0
  Numbered e = IsNumbered task w sound sound_task local scope names head e

  abbrev element : Name → Expression → Expression → Expression
  element n e i = access_expr n (at_step e (at_step i no_step))

  -- a part, of which an element is taken
  record IsPartOf (n : Name) (e : Expression) : Type 0 where
    piece : IsPiece w n e
    parent : IsRegionAmong w.scope.names (parent_of (bound w n).static_type)

  -- it is one of a partition: of a region's element no element is taken
  part_taken : (n : Name) (e : Expression) (at next : StaticType) → is_bound w.scope.names n ≡ true → (t : StaticType) → (bound w n).static_type ≡ t →
      IsKept true w.scope.names (bound w n).number t → first_of_taking w.tree (element_of t at) ≡ None →
      first_of_taking w.tree (element_of (type_of_element w.scope t e) next) ≡ None → IsPartOf n e
  part_taken n e at next there t same (kept_value _ a) first second = absurd (no_element w.tree task sound local w.scope names t at a first)
  part_taken n e at next there _ same (kept_region k sp args) first second =
      absurd (no_way (taking_told w.tree (element_of (type_of_element w.scope (region_type k sp args (place.Name (bound w n).number)) e) next) second).1)
  part_taken n e at next there _ same (kept_partition d r keeps among) first second =
      let parent = region_of_number w.scope.next w.scope.names r scope.numbers among in record {
        piece = (
          record { named = there; numbers = scope.numbers; partition = subst IsPartition (sym same) (a_partition_type d r (bound w n).number) },
          same ∙ sym (ap (λ t. partition_type (is_disjoint t) (parent_of t) (bound w n).number) same),
          subst (λ t. IsRegion (type_of_element w.scope t e)) (sym same)
              (child_region (bound_as w.scope.names r).static_type (place.Child (bound w n).number (colour_of w.scope e)) parent.0),
        );
        parent = subst (λ t. IsRegionAmong w.scope.names (parent_of t)) (sym same) among;
      }

  -- an element of it, and what stands for its colour and its point
  pub record IsPartPoint (n : Name) (e i : Expression) : Type 0 where
    pub piece : IsPiece w n e
    pub first : Numbered e
    pub second : Numbered i
    pub well : Well (element n e i)

  abbrev pub Indexed : Expression → StaticType → Type 0
  Indexed e t = first_in_expression w.tree task w.scope e ≡ None → first_of_taking w.tree (element_of t (known_type w.tree w.scope e)) ≡ None → Numbered e

  -- a pointer into it
  part_value : (t : StaticType) (i : Expression) (k : Kind) (sp : ℕ) (args : List Reach) (p : ℕ) (c : Colour) → t ≡ region_type k sp args (place.Child p c) →
      IsCutAmong w.scope.names sp p → IsValue true w.scope.names (type_of_element w.scope t i)
  part_value t i k sp args p c is goal =
      subst (λ t. IsValue true w.scope.names (type_of_element w.scope t i)) (sym is) (value_pointer k sp args (Some (place.Child p c) ∷ []) refl (goal, refl))

  -- `p[e][i]`
  pub part_point : (n : Name) (e i : Expression) → first_in_expression w.tree task w.scope (element n e i) ≡ None → Indexed e (bound w n).static_type →
      ((t : StaticType) → Indexed i t) → IsPartPoint n e i
  part_point n e i none own own2 =
      let from = access_expr n (at_step e no_step) in
      let t = (bound w n).static_type in
      let told = access_told w.tree task w.scope n (at_step e no_step) (at_step i no_step) none in
      let named = option_or_parts (rule_if (not (is_bound w.scope.names n)) rule.Name) (first_in_steps w.tree task w.scope t (at_step e no_step)) told.0 in
      let there = name_there task w sound sound_task local scope names head n named.0 in
      let first = read_element w.tree task w.scope t e no_step named.1 in
      let second = read_element w.tree task w.scope (typed w from) i no_step
      (subst (λ u. first_in_steps w.tree task w.scope u (at_step i no_step) ≡ None) (local_known task w sound sound_task local scope names head from told.0) told.1) in
      let a = own first.0 first.1 in
      let b = own2 (typed w from) second.0 second.1 in
      let part = part_taken n e (known_type w.tree w.scope e) (known_type w.tree w.scope i) there t refl (named_kept true w.scope.names n names there) first.1 second.1 in
      let kind = part_is w n e part.piece.1 part.piece.2 in
      let goal = part_goal w scope.numbers n e there part.piece.1 part.parent part.piece.2 in record {
        piece = part.piece;
        first = a;
        second = b;
        well = record {
          is = (refl, part.piece, (a.well.is, a.counts), (b.well.is, b.counts));
          value = part_value (typed w from) i kind.kind kind.space kind.args (bound w n).number (colour_of w.scope e) kind.is goal;
          points = λ q. refl;
        };
      }

  -- ---- fields

  -- a field of such an element, of which nothing is told
  pub record IsPartField (n : Name) (e i : Expression) (f : Name) : Type 0 where
    pub aimed : IsAimed w.tree w.scope.names (part_element w n e i) f
    pub may : (a : Access) → lacks w.tree task w.scope (wanted_of_step w.tree a (field_of (part_element w n e i) f)) ≡ false →
        MayUse forms w (part_element w n e i) f (mode_in a)

  pub part_field : (n : Name) (e i : Expression) (f : Name) → AreKept (parts_of_expression (element n e i)) →
      first_in_expression w.tree task w.scope (element n e i) ≡ None → Well (element n e i) →
      first_of_taking w.tree (field_of (part_element w n e i) f) ≡ None → IsPartField n e i f
  part_field n e i f k none a told =
      let u = part_element w n e i in
      let p = aimed_value w.tree sound local w.scope.names names 0 u f
      (expression_spaced w.tree task sound sound_task local.declared w.scope (element n e i) scope head k none) a.value told in record {
        aimed = p;
        may = λ b lacking. record {
          field = p.field;
          keeps = held_keeps true _ _ p.held;
          may = aimed_reach task w sound_task head scope.numbers u f b p lacking;
        };
      }

  -- `p[e][i].f`, and what comes behind it
  pub part_fields : (n : Name) (e i : Expression) (f : Name) (rest : Steps) → AreKept (parts_of_expression (access_expr n (at_step e (at_step i (field_step f rest))))) →
      first_in_expression w.tree task w.scope (access_expr n (at_step e (at_step i (field_step f rest)))) ≡ None → Indexed e (bound w n).static_type →
      ((t : StaticType) → Indexed i t) → Well (access_expr n (at_step e (at_step i (field_step f rest))))
  part_fields n e i f rest k none own own2 =
      let u = part_element w n e i in
      let told = access_told w.tree task w.scope n (at_step e (at_step i no_step)) (field_step f rest) none in
      let p = part_point n e i told.0 own own2 in
      let behind = subst (λ v. first_in_steps w.tree task w.scope v (field_step f rest) ≡ None)
      (local_known task w sound sound_task local scope names head (element n e i) told.0) told.1 in
      let step = option_or_parts (first_of_step w.tree task w.scope (field_of u f)) _ behind in
      let reading = option_or_parts (first_of_taking w.tree (field_of u f)) _ step.0 in
      let field = part_field n e i f (kept_access n (at_step e (at_step i no_step)) (field_step f rest) k) told.0 p.well reading.0 in
      let next = subst (λ v. first_in_steps w.tree task w.scope v rest ≡ None) field.aimed.known step.1 in
      by rest p field (field.may access.Read (rule_none _ rule.Read reading.1)) next
    where
      by : (rest : Steps) → IsPartPoint n e i → (field : IsPartField n e i f) → MayUse forms w (part_element w n e i) f mode.Read →
          first_in_steps w.tree task w.scope (type_of_field w.tree (part_element w n e i) f) rest ≡ None → Well (access_expr n (at_step e (at_step i (field_step f rest))))
      by no_step p field may next =
          held_well task w sound sound_task local scope names head (access_expr n (at_step e (at_step i (field_step f no_step)))) _
          (refl, p.piece, (p.first.well.is, p.first.counts), (p.second.well.is, p.second.counts), may, tt) field.aimed.held field.aimed.holds refl
      by (field_step g rest) p field may next =
          let more = steps_well task w sound sound_task local scope names head rest _ (type_of_field w.tree (part_element w n e i) f) g
          field.aimed.spaced field.aimed.held field.aimed.holds next in
          held_well task w sound sound_task local scope names head (access_expr n (at_step e (at_step i (field_step f (field_step g rest))))) more.term
          (refl, p.piece, (p.first.well.is, p.first.counts), (p.second.well.is, p.second.counts), may, more.are) more.held more.among refl
      by (at_step g rest) p field may next =
          absurd (no_index w.tree task sound local w.scope names (type_of_field w.tree (part_element w n e i) f) g rest
          (held_value true w.scope.names _ _ field.aimed.held field.aimed.holds) next)
