-- Fields of what fields go to: what is told of such an access is told of the fields before the last one, what the rules allow of
-- each is allowed in the regions of the pointer before it, and the code that reads one after the other has marks.
use Rattle.std.proofs.Common.{◌≡◌, ℕ, List, ◌∷◌, true, None, ap, ◌∙◌, subst}
use Rattle.std.specs.Prelude.{not}
use Rattle.std.specs.Option.{option_or}
use Rattle.plain_values.proofs.Plain.{option_or_parts}
use Rattle.lane_kernels.specs.declared.numbers.Mode.TheVariants as mode
use Rattle.regent_tree.specs.Accesses.{space_in}
use Rattle.regent_tree.specs.Lookup.{is_bound, type_named}
use Rattle.regent_tree.specs.Scopes.{Scope}
use Rattle.regent_tree.specs.StaticTypes.{field_place}
use Rattle.regent_tree.specs.Syntax.{access_expr, at_step, Expression, field_step, Name, no_step, Steps, TaskTree, Tree}
use Rattle.regent_tree.specs.Typing.{stepped_type, type_of, type_of_element, type_of_field}
use Rattle.regent_tree.specs.declared.rights.Access.TheVariants.{Read}
use Rattle.regent_tree.specs.declared.typing.StaticType.{StaticType}
use Rattle.task_code.specs.declared.code.TaskCode.{TaskCode}
use Rattle.check_rules.specs.first.FirstInExpressions.{first_in_expression, first_in_steps, first_of_step, first_of_taking}
use Rattle.check_rules.specs.first.Rules.{rule_if}
use Rattle.check_rules.specs.scopes.Sound.{IsSound}
use Rattle.check_rules.specs.types.KnownTypes.{known_type, known_type_after_step}
use Rattle.check_rules.specs.types.TypedForms.{element_of, field_of}
use Rattle.check_rules.specs.declared.rule.Rule.TheVariants as rule
use Rattle.check_rules.proofs.Untold.{rule_none}
use Rattle.check_laws.specs.SoundScopes.{IsKnown, IsSoundScope}
use Rattle.check_laws.proofs.Blocks.{head_known}
use Rattle.check_laws.proofs.Forms.{unflawed}
use Rattle.check_laws.proofs.Parts.{field_known}
use Rattle.code_rules.specs.Expressions.{expr_code, steps_code}
use Rattle.code_rules.specs.Instructions.{field_code}
use Rattle.code_rules.specs.Pieces.{Piece}
use Rattle.code_rules.specs.Slots.{typed, Where}
use Rattle.code_laws.specs.Steps.{Forms}
use Rattle.code_laws.specs.Typed.{AreFurther, element_field, field_behind, IsBehind, IsFurther}
use Rattle.fit_rules.specs.Shapes.{Shape}
use Rattle.fit_rules.specs.Marks.{Mark, stacked}
use Rattle.fit_rules.specs.Fits.{Program}
use Rattle.sound_code.specs.Ways.{Tops, all_made, by_rules, shape_of, Way}
use Rattle.sound_code.proofs.Asked.{AskedAt, ruled, Ruled}
use Rattle.sound_code.proofs.Combining.{both, Marked, nothing_done}
use Rattle.sound_code.proofs.Pointing.{behind_marked}
use Rattle.sound_code.proofs.Through.{allowed_reached, field_read, may_each}
use Rattle.sound_code.proofs.Told.{Told}

-- ---- what is told

module _ (tree : Tree) (s : Scope) where
  -- of the first field
  pub told_field : (way : Way) (n f : Name) (rest : Steps) → Told way tree s (access_expr n (field_step f rest)) →
      Told way tree s (access_expr n (field_step f no_step))
  told_field all_made n f rest h = tt
  told_field (by_rules tops task) n f rest h =
      let one = first_of_step tree task s (field_of (type_named s.names n) f) in
      let a = option_or_parts (rule_if (not (is_bound s.names n)) rule.Name) _ h.1 in
      let b = option_or_parts one _ a.1 in
      (h.0, ap (λ o. option_or o (option_or one None)) a.0 ∙ ap (λ o. option_or o None) b.0)

  pub told_point : (way : Way) (n : Name) (e : Expression) (f : Name) (rest : Steps) → Told way tree s (access_expr n (at_step e (field_step f rest))) →
      Told way tree s (access_expr n (at_step e (field_step f no_step)))
  told_point all_made n e f rest h = tt
  told_point (by_rules tops task) n e f rest h =
      let t = type_named s.names n in
      let taking = element_of t (known_type tree s e) in
      let own = first_in_expression tree task s e in
      let taken = first_of_step tree task s taking in
      let one = first_of_step tree task s (field_of (known_type_after_step tree taking (type_of_element s t e)) f) in
      let a = option_or_parts (rule_if (not (is_bound s.names n)) rule.Name) _ h.1 in
      let b = option_or_parts own _ a.1 in
      let c = option_or_parts taken _ b.1 in
      let d = option_or_parts one _ c.1 in (
        h.0,
        ap (λ o. option_or o (option_or own (option_or taken (option_or one None)))) a.0 ∙ ap (λ o. option_or o (option_or taken (option_or one None))) b.0
            ∙ ap (λ o. option_or o (option_or one None)) c.0 ∙ ap (λ o. option_or o None) d.0,
      )

module _ (tree : Tree) (task : TaskTree) (s : Scope) (sound : IsSound tree) where
  -- nothing is told of the steps behind something of a type, of which all is known
  pub record AreTold (t : StaticType) (steps : Steps) : Type 0 where
    pub known : IsKnown s t
    pub none : first_in_steps tree task s t steps ≡ None

  -- of the fields behind the first one
  pub rest_told : (e : Expression) (steps : Steps) → IsSoundScope s → first_in_expression tree task s e ≡ None →
      first_in_steps tree task s (known_type tree s e) steps ≡ None → AreTold (type_of tree s e) steps
  rest_told e steps scope none told =
      let known = head_known tree task sound s scope e none in
      record { known = subst (IsKnown s) known.1 known.0; none = subst (λ t. first_in_steps tree task s t steps ≡ None) known.1 told }

  pub behind_told : (tops : Tops) (n f : Name) (rest : Steps) → Told (by_rules tops task) tree s (access_expr n (field_step f rest)) →
      AreTold (type_of_field tree (type_named s.names n) f) rest
  behind_told tops n f rest h =
      let a = option_or_parts (rule_if (not (is_bound s.names n)) rule.Name) _ h.1 in
      rest_told (access_expr n (field_step f no_step)) rest h.0 (told_field tree s (by_rules tops task) n f rest h).1
      (option_or_parts (first_of_step tree task s (field_of (type_named s.names n) f)) _ a.1).1

  pub point_told : (tops : Tops) (n : Name) (e : Expression) (f : Name) (rest : Steps) → Told (by_rules tops task) tree s (access_expr n (at_step e (field_step f rest))) →
      AreTold (type_of_field tree (type_of_element s (type_named s.names n) e) f) rest
  point_told tops n e f rest h =
      let taking = element_of (type_named s.names n) (known_type tree s e) in
      let a = option_or_parts (rule_if (not (is_bound s.names n)) rule.Name) _ h.1 in
      let b = option_or_parts (first_in_expression tree task s e) _ a.1 in
      let c = option_or_parts (first_of_step tree task s taking) _ b.1 in
      rest_told (access_expr n (at_step e (field_step f no_step))) rest h.0 (told_point tree s (by_rules tops task) n e f rest h).1
      (option_or_parts (first_of_step tree task s (field_of (known_type_after_step tree taking (type_of_element s (type_named s.names n) e)) f)) _ c.1).1

  -- one field after the other
  pub field_told : (t : StaticType) (f : Name) (rest : Steps) → AreTold t (field_step f rest) →
      (first_of_step tree task s (field_of t f) ≡ None) × AreTold (type_of_field tree t f) rest
  field_told t f rest h =
      let told = option_or_parts (first_of_step tree task s (field_of t f)) _ h.none in
      let next = field_known tree s t f sound h.known (option_or_parts (first_of_taking tree (field_of t f)) _ told.0).0 in
      let same = unflawed _ (type_of_field tree t f) next.known in
      (told.0, record { known = subst (IsKnown s) same next; none = subst (λ u. first_in_steps tree task s u rest ≡ None) same told.1 })

-- ---- code

module _ (g : Program) (t : TaskCode) (k slots : ℕ) (forms : Forms) (way : Way) (w : Where) (m : Mark) {deep : ℕ} (asked : AskedAt g t k slots deep forms way w m)
    (keeps : forms.keeps ≡ true) where
  abbrev Goes : List Shape → Piece → List Shape → Type 0
  Goes us p vs = Marked g t k (stacked m us) p (stacked m vs)

  abbrev pub ways : Ruled g t k slots way w m
  ways = ruled g t k slots forms way w m asked keeps

  -- what a pointer on the stack goes to
  field_marked : (u : StaticType) (f : Name) (us : List Shape) → IsFurther forms w u f mode.Read → first_of_step w.tree ways.task w.scope (field_of u f) ≡ None →
      Goes (shape_of u ∷ us) (field_code w u 0 f) (shape_of (type_of_field w.tree u f) ∷ us)
  field_marked u f us far told =
      let reading = option_or_parts (first_of_taking w.tree (field_of u f)) _ told in
      let may = may_each w ways.task u f Read far.pointer far.certain far.field (rule_none _ rule.Read reading.1) in
      field_read g t k ways.tops ways.task w m ways.known f (type_of_field w.tree u f) u 0 us far.pointer far.keeps
      (λ vs. allowed_reached w ways.task ways.tops g t m asked.params ways.known ways.kept ways.facts ways.named ways.scoped u
      (field_place w.tree (space_in u) f) 0 Read vs far.pointer far.reachable far.certain may far.field)

  -- fields that are read one after the other
  pub fields_marked : (d : ℕ) (steps : Steps) (u : StaticType) (us : List Shape) → AreFurther forms w u steps →
      AreTold w.tree ways.task w.scope ways.kept.sound u steps → Goes (shape_of u ∷ us) (steps_code w d u 0 steps) (shape_of (stepped_type w.tree w.scope u steps) ∷ us)
  fields_marked d no_step u us far told = nothing_done g t k _
  fields_marked d (field_step f rest) u us far told =
      let next = field_told w.tree ways.task w.scope ways.kept.sound u f rest told in
      both g t k (field_marked u f us far.0 next.0) (fields_marked d rest (type_of_field w.tree u f) us far.1 next.1)
  fields_marked d (at_step e rest) u us far told = absurd far

  -- `p.f.g`
  pub behind_further : (d : ℕ) (x f : Name) (rest : Steps) (us : List Shape) → IsBehind w x f (field_behind w x f) → AreFurther forms w (field_behind w x f) rest →
      Told way w.tree w.scope (access_expr x (field_step f rest)) →
      Goes us (expr_code w d (access_expr x (field_step f rest))) (shape_of (typed w (access_expr x (field_step f rest))) ∷ us)
  behind_further d x f rest us behind far told =
      behind_marked g t k slots forms way w m asked d x f rest us _ keeps behind (told_field w.tree w.scope way x f rest told)
      (fields_marked d rest (field_behind w x f) us far
      (behind_told w.tree ways.task w.scope ways.kept.sound ways.tops x f rest (subst (λ v. Told v w.tree w.scope (access_expr x (field_step f rest))) ways.by told)))

  -- behind a field of an element
  pub point_further : (d : ℕ) (x : Name) (e : Expression) (f : Name) (rest : Steps) (us : List Shape) → AreFurther forms w (element_field w x e f) rest →
      Told way w.tree w.scope (access_expr x (at_step e (field_step f rest))) →
      Goes (shape_of (element_field w x e f) ∷ us) (steps_code w d (element_field w x e f) 0 rest)
      (shape_of (typed w (access_expr x (at_step e (field_step f rest)))) ∷ us)
  point_further d x e f rest us far told = fields_marked d rest (element_field w x e f) us far
      (point_told w.tree ways.task w.scope ways.kept.sound ways.tops x e f rest
      (subst (λ v. Told v w.tree w.scope (access_expr x (at_step e (field_step f rest)))) ways.by told))
