-- What is known of an expression of which no breach is told: fields at points of regions
-- that have names, and of what pointers go to.
use Rattle.std.proofs.Common.{◌≡◌, None, false, true, ap, subst, ◌∙◌, not, sym, refl, inl, inr, ⊎_elim}
use Rattle.std.proofs.lemmas.Bool.{not-false}
use Rattle.plain_values.proofs.Plain.{option_or_parts}
use Rattle.regent_tree.specs.Accesses.{space_in}
use Rattle.regent_tree.specs.Lookup.{is_bound}
use Rattle.regent_tree.specs.StaticTypes.{field_place}
use Rattle.regent_tree.specs.Syntax.{Expression, Name, TaskTree, Tree, access_expr, at_step, field_step, no_step}
use Rattle.regent_tree.specs.Typing.{has_wild, reaches_of, type_of_element, is_pointer, type_of_field}
use Rattle.regent_tree.specs.declared.rights.Access.{Access}
use Rattle.regent_tree.specs.declared.rights.Access.TheVariants as access
use Rattle.regent_tree.specs.declared.types.Kind.TheVariants.{Int1d}
use Rattle.regent_tree.specs.declared.typing.StaticType.{StaticType}
use Rattle.regent_tree.specs.declared.typing.StaticType.TheVariants.{Ispace as ispace_type}
use Rattle.check_laws.proofs.Blocks.{head_known}
use Rattle.check_laws.specs.SoundScopes.{IsSoundScope}
use Rattle.check_rules.specs.first.FirstInExpressions.{first_in_expression, first_of_step, first_of_taking}
use Rattle.check_rules.specs.first.Rules.{rule_if}
use Rattle.check_rules.specs.rules.Privileges.{lacks, wanted_of_step}
use Rattle.check_rules.specs.scopes.Sound.{IsSound, IsSoundTask}
use Rattle.check_rules.specs.types.KnownTypes.{known_type, known_type_after_step}
use Rattle.check_rules.specs.types.Sorts.{is_number}
use Rattle.check_rules.specs.types.TypedForms.{element_of, field_of}
use Rattle.check_rules.specs.declared.rule.Rule.TheVariants as rule
use Rattle.check_rules.proofs.Untold.{rule_none}
use Rattle.regent_tree.specs.declared.types.TypeTerm.{TypeTerm}
use Rattle.code_rules.specs.Slots.{Where, bound, typed}
use Rattle.code_laws.specs.Handing.{forms_by}
use Rattle.code_laws.specs.Arguments.{IsCutName}
use Rattle.code_laws.specs.Simple.{IsPartition, IsScalar, IsSimple, a_partition_type, simple_space}
use Rattle.code_laws.specs.Steps.{Forms}
use Rattle.code_laws.specs.Typed.{IsTyped, MayTouch, IsBehind, MayGo, field_behind}
use Rattle.code_laws.proofs.KnownHeads.{KnowsHead, granted_at, kept_may}
use Rattle.code_laws.proofs.KnownGoals.{aimed_may}
use Rattle.code_laws.proofs.LocalFields.{IsHeld, held_keeps, held_value}
use Rattle.code_laws.proofs.LocalNames.{AllKept, IsLocalTree, named_kept, partition_or}
use Rattle.code_laws.proofs.LocalPlaces.{spaced_name, IsPlace, element_known, named_place, place_is, IsAimed, aimed_at}
use Rattle.code_laws.proofs.Privileges.{mode_in}
use Rattle.code_laws.proofs.Typing.{no_way}
use Rattle.code_laws.proofs.Values.{scalar_simple}
use Rattle.code_laws.proofs.LocalValues.{AreAmong, IsValue, counts_is, value_simple, simple_no_pointer}
use Rattle.code_laws.specs.Pointers.{CountsAs}
use Rattle.code_laws.proofs.LocalParts.{is_pointing}

module _ (task : TaskTree) (w : Where) (sound : IsSound w.tree) (sound_task : IsSoundTask w.tree task)
    (local : IsLocalTree w.tree) (scope : IsSoundScope w.scope) (names : AllKept true w.scope.names) (head : KnowsHead w.tree task w.scope) where
  abbrev forms : Forms
  forms = forms_by true true w.tree task

  abbrev Value : StaticType → Type 0
  Value t = IsValue true w.scope.names t

  -- an expression is typed, and what it gives; and where it gives a pointer, it is such as a variable may begin with
  pub record IsWell (e : Expression) : Type 0 where
    pub is : IsTyped forms w e
    pub value : Value (typed w e)
    pub points : is_pointer (typed w e) ≡ true → is_pointing e ≡ true

  -- of a number, truth, index or index space
  pub simple_well : (e : Expression) → IsTyped forms w e → IsSimple (typed w e) → IsWell e
  simple_well e is simple =
      record { is = is; value = value_simple (typed w e) simple; points = λ q. absurd (no_way (sym q ∙ simple_no_pointer (typed w e) simple)) }

  -- of a number or truth
  pub scalar_well : (e : Expression) → IsTyped forms w e → IsScalar (typed w e) → IsWell e
  scalar_well e is scalar = simple_well e is (scalar_simple (typed w e) scalar)

  -- of what a field holds
  pub held_well : (e : Expression) (d : TypeTerm) → IsTyped forms w e → IsHeld true d (typed w e) →
      AreAmong w.scope.names (space_in (typed w e)) (reaches_of (typed w e)) → is_pointing e ≡ true → IsWell e
  held_well e d is held among pointing =
      record { is = is; value = held_value true w.scope.names d (typed w e) held among; points = λ q. pointing }

  -- one that counts as a number
  pub record IsNumbered (e : Expression) : Type 0 where
    pub well : IsWell e
    pub counts : CountsAs true (typed w e)

  -- the checker's type is the meaning's
  pub local_known : (e : Expression) → first_in_expression w.tree task w.scope e ≡ None → known_type w.tree w.scope e ≡ typed w e
  local_known e none = (head_known w.tree task sound w.scope scope e none).1

  -- a name that is bound
  pub name_there : (n : Name) → rule_if (not (is_bound w.scope.names n)) rule.Name ≡ None → is_bound w.scope.names n ≡ true
  name_there n told = not-false (is_bound w.scope.names n) (rule_none (not (is_bound w.scope.names n)) rule.Name told)

  -- an index at which a field is taken, and what is taken there
  pub record IsAt (n : Name) (e : Expression) (f : Name) : Type 0 where
    pub number : CountsAs true (typed w e)
    pub place : IsPlace w (bound w n).number (bound w n).static_type e f
    pub element : known_type_after_step w.tree (element_of (bound w n).static_type (known_type w.tree w.scope e)) (type_of_element w.scope (bound w n).static_type e)
        ≡ type_of_element w.scope (bound w n).static_type e

  pub at_point : (n : Name) (e : Expression) (f : Name) → is_bound w.scope.names n ≡ true → first_in_expression w.tree task w.scope e ≡ None → IsNumbered e →
      first_of_taking w.tree (element_of (bound w n).static_type (known_type w.tree w.scope e)) ≡ None →
      first_of_taking w.tree (field_of (known_type_after_step w.tree (element_of (bound w n).static_type (known_type w.tree w.scope e)) (type_of_element w.scope (bound w n).static_type e)) f) ≡ None →
      IsAt n e f
  at_point n e f b told a first field =
      let t = (bound w n).static_type in
      let i = (bound w n).number in
      let at = known_type w.tree w.scope e in
      let kept = named_kept true w.scope.names n names b in
      let element = element_known w sound local n i t at e kept (ap is_number (local_known e told) ∙ counts_is true (typed w e) a.counts) first in record {
        number = a.counts;
        place = place_is w sound local names scope.numbers n i t at e f (spaced_name w.tree w.scope.next w.scope.names n scope.numbers b head.spaced) kept first (subst (λ u. first_of_taking w.tree (field_of u f) ≡ None) element field);
        element = element;
      }

  -- an access to it may be made where nothing is told
  pub touched : (n : Name) (e : Expression) (f : Name) (a : Access) → is_bound w.scope.names n ≡ true → IsAt n e f →
      lacks w.tree task w.scope (wanted_of_step w.tree a (field_of (known_type_after_step w.tree (element_of (bound w n).static_type (known_type w.tree w.scope e)) (type_of_element w.scope (bound w n).static_type e)) f)) ≡ false →
      MayTouch forms w n (field_place w.tree (space_in (bound w n).static_type) f) (mode_in a)
  touched n e f a there p lacking =
      let t = (bound w n).static_type in
      kept_may w.tree task w.scope sound_task head w.scope.names (bound w n).number t (named_kept true w.scope.names n names there) p.place.region
      (field_place w.tree (space_in t) f) a
      (granted_at w.tree task w.scope t e f a p.place.region p.place.there
      (subst (λ u. lacks w.tree task w.scope (wanted_of_step w.tree a (field_of u f)) ≡ false) p.element lacking))

  -- a field of what a name's pointer goes to
  pub behind_name : (n f : Name) → is_bound w.scope.names n ≡ true → (IsPartition (bound w n).static_type → ⊥) →
      first_of_taking w.tree (field_of (bound w n).static_type f) ≡ None → IsAimed w.tree w.scope.names (bound w n).static_type f
  behind_name n f there other told = aimed_at w.tree sound local w.scope.names names (bound w n).number (bound w n).static_type f
      (spaced_name w.tree w.scope.next w.scope.names n scope.numbers there head.spaced) (named_kept true w.scope.names n names there) other told

  -- or the colours of its partition
  pub cut_name : (n : Name) → is_bound w.scope.names n ≡ true → IsPartition (bound w n).static_type → IsCutName w n
  cut_name n there p = record { named = there; numbers = scope.numbers; partition = p }

  pub is_behind : (n f : Name) → is_bound w.scope.names n ≡ true → IsAimed w.tree w.scope.names (bound w n).static_type f → IsBehind w n f (field_behind w n f)
  is_behind n f there p = record { named = there; numbers = scope.numbers; pointer = p.pointer; certain = ap (λ t. has_wild (reaches_of t)) p.is ∙ p.certain; field = p.field; keeps = held_keeps true _ _ p.held }

  pub gone : (n f : Name) (a : Access) → IsAimed w.tree w.scope.names (bound w n).static_type f →
      lacks w.tree task w.scope (wanted_of_step w.tree a (field_of (bound w n).static_type f)) ≡ false → MayGo forms w n f (mode_in a)
  gone n f a p lacking = aimed_may task w sound_task head scope.numbers n f a p lacking

  -- ---- one field

  colours_typed : (tree : Tree) (t : StaticType) (f : Name) → IsPartition t → type_of_field tree t f ≡ ispace_type Int1d
  colours_typed tree _ f (a_partition_type d r p) = refl

  -- the colours of a partition are an index space
  colours_well : (n f : Name) → is_bound w.scope.names n ≡ true → IsPartition (bound w n).static_type → IsWell (access_expr n (field_step f no_step))
  colours_well n f there cut = simple_well (access_expr n (field_step f no_step)) (refl, inr (cut_name n there cut))
      (subst IsSimple (sym (colours_typed w.tree (bound w n).static_type f cut)) (simple_space Int1d))

  -- `p.f`
  pub field_well : (n f : Name) → first_in_expression w.tree task w.scope (access_expr n (field_step f no_step)) ≡ None → IsWell (access_expr n (field_step f no_step))
  field_well n f none =
      let t = (bound w n).static_type in
      let told = option_or_parts (rule_if (not (is_bound w.scope.names n)) rule.Name) _ none in
      let there = name_there n told.0 in
      let step = (option_or_parts (first_of_step w.tree task w.scope (field_of t f)) _ told.1).0 in
      let reading = option_or_parts (first_of_taking w.tree (field_of t f)) _ step in
      ⊎_elim
      (λ cut. colours_well n f there cut)
      (λ other.
      let p = behind_name n f there other reading.0 in
      let may = gone n f access.Read p (rule_none _ rule.Read reading.1) in
      held_well (access_expr n (field_step f no_step)) _ (p.keeps, inl (is_behind n f there p, may)) p.held p.holds refl)
      (partition_or true w.scope.names (bound w n).number t (named_kept true w.scope.names n names there))

  -- `r[e].f`
  pub point_well : (n : Name) (e : Expression) (f : Name) → first_in_expression w.tree task w.scope (access_expr n (at_step e (field_step f no_step))) ≡ None →
      (first_in_expression w.tree task w.scope e ≡ None → first_of_taking w.tree (element_of (bound w n).static_type (known_type w.tree w.scope e)) ≡ None → IsNumbered e) →
      IsWell (access_expr n (at_step e (field_step f no_step)))
  point_well n e f none own =
      let t = (bound w n).static_type in
      let told = option_or_parts (rule_if (not (is_bound w.scope.names n)) rule.Name) _ none in
      let there = name_there n told.0 in
      let index = option_or_parts (first_in_expression w.tree task w.scope e) _ told.1 in
      let taking = element_of t (known_type w.tree w.scope e) in
      let step = option_or_parts (first_of_step w.tree task w.scope taking) _ index.1 in
      let first = (option_or_parts (first_of_taking w.tree taking) _ step.0).0 in
      let field = (option_or_parts (first_of_step w.tree task w.scope (field_of (known_type_after_step w.tree taking (type_of_element w.scope t e)) f)) _ step.1).0 in
      let a = own index.0 first in
      let reading = option_or_parts _ _ field in
      let p = at_point n e f there index.0 a first reading.0 in
      let is = named_place w sound local n e f scope there p.place in
      let may = touched n e f access.Read there p (rule_none _ rule.Read reading.1) in
      held_well (access_expr n (at_step e (field_step f no_step))) _ (a.well.is, p.number, is.0, is.1, may) p.place.held p.place.among refl
