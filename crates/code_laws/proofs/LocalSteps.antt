-- Fields of what fields go to, of which no breach is told.
use Rattle.std.proofs.Common.{◌≡◌, None, true, ap, subst, ◌∙◌, not, ⊎_elim, refl}
use Rattle.std.specs.Option.{option_or}
use Rattle.plain_values.proofs.Plain.{option_or_parts}
use Rattle.regent_tree.specs.Accesses.{space_in}
use Rattle.regent_tree.specs.Lookup.{is_bound}
use Rattle.regent_tree.specs.Syntax.{Expression, Name, Steps, TaskTree, Tree, access_expr, at_step, field_step, no_step}
use Rattle.regent_tree.specs.Typing.{has_wild, reaches_of, stepped_type, type_of_element, type_of_field}
use Rattle.regent_tree.specs.declared.rights.Access.TheVariants as access
use Rattle.regent_tree.specs.declared.types.Kind.TheVariants.{Int1d}
use Rattle.regent_tree.specs.declared.types.TypeTerm.{TypeTerm}
use Rattle.regent_tree.specs.declared.typing.StaticType.{StaticType}
use Rattle.regent_tree.specs.declared.typing.StaticType.TheVariants.{Ispace as ispace_type}
use Rattle.lane_kernels.specs.declared.numbers.Mode.TheVariants as mode
use Rattle.check_laws.specs.SoundScopes.{IsSoundScope}
use Rattle.check_rules.specs.first.FirstInExpressions.{first_in_expression, first_in_steps, first_of_step, first_of_taking}
use Rattle.check_rules.specs.first.Rules.{rule_if}
use Rattle.check_rules.specs.scopes.Sound.{IsSound, IsSoundTask}
use Rattle.check_rules.specs.types.KnownTypes.{known_type, known_type_after_step}
use Rattle.check_rules.specs.types.TypedForms.{element_of, field_of}
use Rattle.check_rules.specs.declared.rule.Rule.TheVariants as rule
use Rattle.check_rules.proofs.Untold.{rule_none}
use Rattle.code_rules.specs.Slots.{Where, bound}
use Rattle.value_laws.specs.Spaces.{IsSpaced}
use Rattle.code_laws.specs.Handing.{forms_by}
use Rattle.code_laws.specs.Simple.{IsPartition, a_partition_type}
use Rattle.code_laws.specs.Steps.{Forms}
use Rattle.code_laws.specs.Typed.{AreFurther, IsFurther}
use Rattle.code_laws.proofs.KnownGoals.{aimed_reach}
use Rattle.code_laws.proofs.KnownHeads.{KnowsHead}
use Rattle.code_laws.proofs.LocalFields.{IsHeld, held_keeps, held_value}
use Rattle.code_laws.proofs.LocalGoals.{among_there}
use Rattle.code_laws.proofs.LocalNames.{AllKept, IsLocalTree, named_kept, partition_or}
use Rattle.code_laws.proofs.LocalPlaces.{IsAimed, aimed_value, named_place, taking_told}
use Rattle.code_laws.proofs.LocalPoints.{IsWell, at_point, behind_name, gone, held_well, is_behind, local_known, name_there, touched, IsNumbered}
use Rattle.code_laws.proofs.LocalShapes.{no_index}
use Rattle.code_laws.proofs.LocalValues.{AreAmong}
use Rattle.code_laws.proofs.Typing.{no_way}

-- the colours of a partition have no field
no_field_of_colours : (tree : Tree) (t : StaticType) (f g : Name) → IsPartition t → first_of_taking tree (field_of (type_of_field tree t f) g) ≡ None → ⊥
no_field_of_colours tree _ f g (a_partition_type d r p) e = no_way (taking_told tree (field_of (ispace_type Int1d) g) e).1

module _ (task : TaskTree) (w : Where) (sound : IsSound w.tree) (sound_task : IsSoundTask w.tree task)
    (local : IsLocalTree w.tree) (scope : IsSoundScope w.scope) (names : AllKept true w.scope.names) (head : KnowsHead w.tree task w.scope) where
  abbrev forms : Forms
  forms = forms_by true true w.tree task

  abbrev Well : Expression → Type 0
  Well e = IsWell task w sound sound_task local scope names head e

  abbrev Numbered : Expression → Type 0
  Numbered e = IsNumbered task w sound sound_task local scope names head e

  -- a step behind what a field gives, of which nothing is told
  record IsNext (t : StaticType) (g : Name) : Type 0 where
    aimed : IsAimed w.tree w.scope.names t g
    further : IsFurther forms w t g mode.Read

  next_well : (d : TypeTerm) (t : StaticType) (g : Name) → IsSpaced w.tree w.scope.names t → IsHeld true d t →
      AreAmong w.scope.names (space_in t) (reaches_of t) → first_of_step w.tree task w.scope (field_of t g) ≡ None → IsNext t g
  next_well d t g spaced held among told =
      let reading = option_or_parts (first_of_taking w.tree (field_of t g)) _ told in
      let p = aimed_value w.tree sound local w.scope.names names 0 t g spaced
      (held_value true w.scope.names d t held among) reading.0 in record {
        aimed = p;
        further = record {
          pointer = p.pointer;
          reachable = among_there w.scope.next w.scope.names (space_in t) (reaches_of t) scope.numbers among;
          certain = ap (λ t. has_wild (reaches_of t)) p.is ∙ p.certain;
          field = p.field;
          keeps = held_keeps true _ _ p.held;
          may = aimed_reach task w sound_task head scope.numbers t g access.Read p (rule_none _ rule.Read reading.1);
        };
      }

  -- what the last of such steps gives
  pub record AreWellSteps (t : StaticType) (g : Name) (rest : Steps) : Type 0 where
    pub keeps : true ≡ true
    pub are : AreFurther forms w t (field_step g rest)
    pub term : TypeTerm
    pub held : IsHeld true term (stepped_type w.tree w.scope t (field_step g rest))
    pub among : AreAmong w.scope.names (space_in (stepped_type w.tree w.scope t (field_step g rest))) (reaches_of (stepped_type w.tree w.scope t (field_step g rest)))

  pub steps_well : (rest : Steps) (d : TypeTerm) (t : StaticType) (g : Name) → IsSpaced w.tree w.scope.names t →
      IsHeld true d t → AreAmong w.scope.names (space_in t) (reaches_of t) →
      first_in_steps w.tree task w.scope t (field_step g rest) ≡ None → AreWellSteps t g rest
  steps_well no_step d t g spaced held among told =
      let one = next_well d t g spaced held among (option_or_parts (first_of_step w.tree task w.scope (field_of t g)) _ told).0 in
      record { keeps = one.aimed.keeps; are = (one.further, tt); term = _; held = one.aimed.held; among = one.aimed.holds }
  steps_well (field_step e rest) d t g spaced held among told =
      let both = option_or_parts (first_of_step w.tree task w.scope (field_of t g)) _ told in
      let one = next_well d t g spaced held among both.0 in
      let more = steps_well rest _ (type_of_field w.tree t g) e one.aimed.spaced one.aimed.held one.aimed.holds
      (subst (λ u. first_in_steps w.tree task w.scope u (field_step e rest) ≡ None) one.aimed.known both.1) in
      record { keeps = more.keeps; are = (one.further, more.are); term = more.term; held = more.held; among = more.among }
  steps_well (at_step e rest) d t g spaced held among told =
      let both = option_or_parts (first_of_step w.tree task w.scope (field_of t g)) _ told in
      let one = next_well d t g spaced held among both.0 in
      absurd (no_index w.tree task sound local w.scope names (type_of_field w.tree t g) e rest (held_value true w.scope.names _ _ one.aimed.held one.aimed.holds)
      (subst (λ u. first_in_steps w.tree task w.scope u (at_step e rest) ≡ None) one.aimed.known both.1))

  -- `p.f.g`
  pub further_behind : (n f g : Name) (rest : Steps) →
      first_in_expression w.tree task w.scope (access_expr n (field_step f (field_step g rest))) ≡ None → Well (access_expr n (field_step f (field_step g rest)))
  further_behind n f g rest none =
      let t = (bound w n).static_type in
      let told = option_or_parts (rule_if (not (is_bound w.scope.names n)) rule.Name) _ none in
      let there = name_there task w sound sound_task local scope names head n told.0 in
      let step = option_or_parts (first_of_step w.tree task w.scope (field_of t f)) _ told.1 in
      let reading = option_or_parts (first_of_taking w.tree (field_of t f)) _ step.0 in
      let alone : first_in_expression w.tree task w.scope (access_expr n (field_step f no_step)) ≡ None =
      ap (λ o. option_or o (option_or (first_of_step w.tree task w.scope (field_of t f)) None)) told.0 ∙ ap (λ o. option_or o None) step.0 in
      let known = local_known task w sound sound_task local scope names head (access_expr n (field_step f no_step)) alone in
      let next : first_in_steps w.tree task w.scope (type_of_field w.tree t f) (field_step g rest) ≡ None =
      subst (λ u. first_in_steps w.tree task w.scope u (field_step g rest) ≡ None) known step.1 in
      ⊎_elim
      (λ cut. absurd (no_field_of_colours w.tree t f g cut
      (option_or_parts (first_of_taking w.tree (field_of (type_of_field w.tree t f) g)) _
      (option_or_parts (first_of_step w.tree task w.scope (field_of (type_of_field w.tree t f) g)) _ next).0).0))
      (λ other.
      let p = behind_name task w sound sound_task local scope names head n f there other reading.0 in
      let may = gone task w sound sound_task local scope names head n f access.Read p (rule_none _ rule.Read reading.1) in
      let more = steps_well rest _ (type_of_field w.tree t f) g p.spaced p.held p.holds next in
      held_well task w sound sound_task local scope names head (access_expr n (field_step f (field_step g rest))) more.term
      (p.keeps, is_behind task w sound sound_task local scope names head n f there p, may, more.are) more.held more.among refl)
      (partition_or true w.scope.names (bound w n).number t (named_kept true w.scope.names n names there))

  -- `r[e].f.g`
  pub further_at : (n : Name) (e : Expression) (f g : Name) (rest : Steps) →
      first_in_expression w.tree task w.scope (access_expr n (at_step e (field_step f (field_step g rest)))) ≡ None →
      (first_in_expression w.tree task w.scope e ≡ None → first_of_taking w.tree (element_of (bound w n).static_type (known_type w.tree w.scope e)) ≡ None → Numbered e) →
      Well (access_expr n (at_step e (field_step f (field_step g rest))))
  further_at n e f g rest none own =
      let t = (bound w n).static_type in
      let told = option_or_parts (rule_if (not (is_bound w.scope.names n)) rule.Name) _ none in
      let there = name_there task w sound sound_task local scope names head n told.0 in
      let index = option_or_parts (first_in_expression w.tree task w.scope e) _ told.1 in
      let taking = element_of t (known_type w.tree w.scope e) in
      let step = option_or_parts (first_of_step w.tree task w.scope taking) _ index.1 in
      let element = type_of_element w.scope t e in
      let fields = option_or_parts (first_of_step w.tree task w.scope (field_of (known_type_after_step w.tree taking element) f)) _ step.1 in
      let first = (option_or_parts (first_of_taking w.tree taking) _ step.0).0 in
      let a = own index.0 first in
      let reading = option_or_parts _ _ fields.0 in
      let p = at_point task w sound sound_task local scope names head n e f there index.0 a first reading.0 in
      let is = named_place w sound local n e f scope there p.place in
      let may = touched task w sound sound_task local scope names head n e f access.Read there p (rule_none _ rule.Read reading.1) in
      let next : first_in_steps w.tree task w.scope (type_of_field w.tree element f) (field_step g rest) ≡ None =
      subst (λ u. first_in_steps w.tree task w.scope u (field_step g rest) ≡ None)
      (ap (λ u. known_type_after_step w.tree (field_of u f) (type_of_field w.tree u f)) p.element ∙ p.place.known) fields.1 in
      let more = steps_well rest _ (type_of_field w.tree element f) g p.place.spaced p.place.held p.place.among next in
      held_well task w sound sound_task local scope names head (access_expr n (at_step e (field_step f (field_step g rest)))) more.term
      (more.keeps, a.well.is, p.number, is.0, is.1, may, more.are) more.held more.among refl
