-- Which steps stand behind one another where no breach is told: behind a field stand fields alone.
use Rattle.std.proofs.Common.{◌≡◌, ◌⊎◌, ◌||◌, Bool, ℕ, ap, inl, inr, None, true, false, refl, subst, sym, ◌∙◌}
use Rattle.std.proofs.lemmas.Bool.{not-false}
use Rattle.plain_values.proofs.Plain.{option_or_parts}
use Rattle.regent_tree.specs.Scopes.{Scope}
use Rattle.regent_tree.specs.Syntax.{Expression, Name, Steps, TaskTree, Tree, at_step, field_step, no_step}
use Rattle.regent_tree.specs.Typing.{type_of_field}
use Rattle.regent_tree.specs.declared.types.Kind.TheVariants.{Int1d}
use Rattle.regent_tree.specs.declared.typing.StaticType.{StaticType}
use Rattle.regent_tree.specs.declared.typing.StaticType.TheVariants.{Ispace as ispace_type, Partition as partition_type, Region as region_type}
use Rattle.check_rules.specs.first.FirstInExpressions.{first_in_steps, first_in_target_steps, first_of_step, first_of_taking}
use Rattle.check_rules.specs.scopes.Sound.{IsSound}
use Rattle.check_rules.specs.types.KnownTypes.{known_type, known_type_after_step}
use Rattle.check_rules.specs.types.Params.{type_unless}
use Rattle.check_rules.specs.types.TypedForms.{element_of, field_of}
use Rattle.value_laws.specs.Spaces.{IsSpaced}
use Rattle.code_laws.specs.Typed.{are_fields}
use Rattle.code_laws.proofs.LocalFields.{held_value}
use Rattle.code_laws.proofs.LocalNames.{AllKept, IsLocalTree, value_no_region}
use Rattle.code_laws.proofs.LocalPlaces.{IsAimed, aimed_value, taking_told}
use Rattle.code_laws.proofs.LocalPrefixes.{read_element, told_element, told_field}
use Rattle.code_laws.proofs.LocalTaken.{IsCollection, collects_partition, collects_region}
use Rattle.code_laws.proofs.LocalValues.{IsValue}
use Rattle.code_laws.proofs.Typing.{no_way}

module _ (tree : Tree) (task : TaskTree) (sound : IsSound tree) (local : IsLocalTree tree) (s : Scope) (names : AllKept true s.names) where
  abbrev Value : StaticType → Type 0
  Value t = IsValue true s.names t

  abbrev Told : StaticType → Steps → Type 0
  Told t steps = first_in_target_steps tree task s t steps ≡ None

  -- no element is taken of a value
  pub no_element : (t at : StaticType) → Value t → first_of_taking tree (element_of t at) ≡ None → ⊥
  no_element t at a e = no_way (sym (not-false _ (taking_told tree (element_of t at) e).1) ∙ value_no_region true s.names t a)

  -- so no index step is read behind one
  pub no_index : (t : StaticType) (e : Expression) (rest : Steps) → Value t → first_in_steps tree task s t (at_step e rest) ≡ None → ⊥
  no_index t e rest a none = no_element t (known_type tree s e) a (read_element tree task s t e rest none).1

  -- what is told behind a field
  next_field : (t : StaticType) (f g : Name) (rest : Steps) → Told t (field_step f (field_step g rest)) →
      Told (known_type_after_step tree (field_of t f) (type_of_field tree t f)) (field_step g rest)
  next_field t f g rest none =
      let next = known_type_after_step tree (field_of t f) (type_of_field tree t f) in
      (option_or_parts (first_of_step tree task s (field_of t f)) (first_in_target_steps tree task s next (field_step g rest)) none).1

  next_element : (t : StaticType) (f : Name) (e : Expression) (rest : Steps) → Told t (field_step f (at_step e rest)) →
      Told (known_type_after_step tree (field_of t f) (type_of_field tree t f)) (at_step e rest)
  next_element t f e rest none =
      let next = known_type_after_step tree (field_of t f) (type_of_field tree t f) in
      (option_or_parts (first_of_step tree task s (field_of t f)) (first_in_target_steps tree task s next (at_step e rest)) none).1

  -- behind a field of a value
  value_fields : (more : Steps) (t : StaticType) (f : Name) → IsSpaced tree s.names t → Value t → Told t (field_step f more) → are_fields more ≡ true
  value_fields no_step t f spaced a none = refl
  value_fields (field_step g rest) t f spaced a none =
      let p : IsAimed tree s.names t f = aimed_value tree sound local s.names names 0 t f spaced a (told_field tree task s t f (field_step g rest) none) in
      value_fields rest (type_of_field tree t f) g p.spaced (held_value true s.names _ _ p.held p.holds)
      (subst (λ u. Told u (field_step g rest)) p.known (next_field t f g rest none))
  value_fields (at_step e rest) t f spaced a none =
      let p : IsAimed tree s.names t f = aimed_value tree sound local s.names names 0 t f spaced a (told_field tree task s t f (at_step e rest) none) in
      absurd (no_element (type_of_field tree t f) (known_type tree s e) (held_value true s.names _ _ p.held p.holds)
      (told_element tree task s (type_of_field tree t f) e rest
      (subst (λ u. Told u (at_step e rest)) p.known (next_element t f e rest none))))

  -- the colours of a partition
  colours_known : (d : Bool) (r p : ℕ) (f : Name) → first_of_taking tree (field_of (partition_type d r p) f) ≡ None →
      known_type_after_step tree (field_of (partition_type d r p) f) (ispace_type Int1d) ≡ ispace_type Int1d
  colours_known d r p f e =
      ap (λ b. type_unless (false || b || false || false) (ispace_type Int1d)) (taking_told tree (field_of (partition_type d r p) f) e).0

  colours_told : (d : Bool) (r p : ℕ) (f : Name) (more : Steps) → Told (partition_type d r p) (field_step f more) →
      Told (known_type_after_step tree (field_of (partition_type d r p) f) (ispace_type Int1d)) more → Told (ispace_type Int1d) more
  colours_told d r p f more none next =
      subst (λ t. Told t more) (colours_known d r p f (told_field tree task s (partition_type d r p) f more none)) next

  -- no field is taken of a region, and nothing of these colours
  collected_fields : (more : Steps) (t : StaticType) (f : Name) → IsCollection t → Told t (field_step f more) → are_fields more ≡ true
  collected_fields more _ f (collects_region k sp args r) none =
      absurd (no_way (taking_told tree (field_of (region_type k sp args r) f) (told_field tree task s (region_type k sp args r) f more none)).1)
  collected_fields no_step _ f (collects_partition d r p) none = refl
  collected_fields (field_step g rest) _ f (collects_partition d r p) none =
      absurd (no_way (taking_told tree (field_of (ispace_type Int1d) g)
      (told_field tree task s (ispace_type Int1d) g rest (colours_told d r p f (field_step g rest) none (next_field (partition_type d r p) f g rest none)))).1)
  collected_fields (at_step e rest) _ f (collects_partition d r p) none =
      absurd (no_way (taking_told tree (element_of (ispace_type Int1d) (known_type tree s e))
      (told_element tree task s (ispace_type Int1d) e rest (colours_told d r p f (at_step e rest) none (next_element (partition_type d r p) f e rest none)))).1)

  -- so behind a field in a target
  pub target_fields : (more : Steps) (t : StaticType) (f : Name) → IsSpaced tree s.names t → Value t ⊎ IsCollection t → Told t (field_step f more) →
      are_fields more ≡ true
  target_fields more t f spaced (inl a) none = value_fields more t f spaced a none
  target_fields more t f spaced (inr c) none = collected_fields more t f c none
