-- Assignments to fields of what fields go to, and their reductions: the value comes to the stack, then the pointer that the fields
-- before the last one lead to, and the code that writes through it has marks.
use Rattle.std.proofs.Common.{◌≡◌, ℕ, [], ◌∷◌, true, false, None, refl, ap, ◌∙◌, sym, subst}
use Rattle.std.specs.Prelude.{not}
use Rattle.std.specs.Option.{option_or}
use Rattle.plain_values.proofs.Plain.{option_or_parts}
use Rattle.lane_kernels.specs.declared.numbers.Mode.TheVariants as mode
use Rattle.lane_kernels.specs.declared.numbers.Op.{Op}
use Rattle.regent_tree.specs.Accesses.{space_in}
use Rattle.regent_tree.specs.Execution.{before_last, last_field}
use Rattle.regent_tree.specs.Lookup.{is_bound, type_named}
use Rattle.regent_tree.specs.Scopes.{Scope}
use Rattle.regent_tree.specs.StaticTypes.{field_place}
use Rattle.regent_tree.specs.Syntax.{access_expr, assign_form, at_step, Expression, field_step, Name, Steps, TaskTree, Tree}
use Rattle.regent_tree.specs.Typing.{reaches_of, type_of, type_of_element, type_of_field}
use Rattle.regent_tree.specs.declared.rights.Access.{Access}
use Rattle.regent_tree.specs.declared.rights.Access.TheVariants.{Reduce, Write}
use Rattle.regent_tree.specs.declared.statement.How.TheVariants as how
use Rattle.task_code.specs.declared.code.TaskCode.{TaskCode}
use Rattle.check_rules.specs.first.FirstInExpressions.{first_in_expression, first_in_steps, first_in_target, first_in_target_steps, first_of_step}
use Rattle.check_rules.specs.first.Rules.{rule_if}
use Rattle.check_rules.specs.rules.Privileges.{lacks, wanted_of_last, wanted_of_step}
use Rattle.check_rules.specs.scopes.Sound.{IsSound}
use Rattle.check_rules.specs.types.KnownTypes.{known_type, known_type_after_step, takings}
use Rattle.check_rules.specs.types.TypedForms.{element_of, field_of}
use Rattle.check_rules.specs.declared.rule.Rule.TheVariants as rule
use Rattle.check_laws.specs.SoundScopes.{IsSoundScope}
use Rattle.check_laws.proofs.Blocks.{head_known}
use Rattle.check_laws.proofs.Variables.{target_of_form}
use Rattle.code_rules.specs.Assignments.{put_code, right_code}
use Rattle.code_rules.specs.Expressions.{expr_code}
use Rattle.code_rules.specs.Pieces.{◌⨟◌}
use Rattle.code_rules.specs.Slots.{typed, Where}
use Rattle.code_rules.specs.Statements.{form_code}
use Rattle.code_laws.specs.Fields.{are_fields}
use Rattle.code_laws.specs.Pointers.{Assigned}
use Rattle.code_laws.specs.Simple.{IsInteger}
use Rattle.code_laws.specs.Standing.{Stands}
use Rattle.code_laws.specs.Steps.{Forms}
use Rattle.code_laws.specs.Typed.{IsFurther, IsReducedThrough, IsSetThrough, IsTyped}
use Rattle.code_laws.proofs.FurtherWrites.{last_type}
use Rattle.code_laws.proofs.LocalTargets.{front_told, last_wanted}
use Rattle.fit_rules.specs.Marks.{Mark, stacked}
use Rattle.fit_rules.specs.Fits.{Program}
use Rattle.sound_code.specs.Named.{HasSlots}
use Rattle.sound_code.proofs.WholeTasks.{is_whole_expression}
use Rattle.sound_code.specs.Ways.{shape_of, Way}
use Rattle.sound_code.proofs.Asked.{Asked, ruled, Ruled}
use Rattle.sound_code.proofs.Calling.{scalar_numeric}
use Rattle.sound_code.proofs.Combining.{both, Marked}
use Rattle.sound_code.proofs.Expressions.{converted_marked, expr_marked, integer_is_plain}
use Rattle.sound_code.proofs.Through.{allowed_reached, may_each, MayEach, reduces_through, writes_through}
use Rattle.sound_code.proofs.Told.{Told, ToldForm}
use Rattle.sound_code.proofs.Wanting.{not_lacking}
use Rattle.sound_code.proofs.Wholes.{Asks, assigned_becomes, field_few, HasFew}

-- ---- what is told

module _ (tree : Tree) (task : TaskTree) (s : Scope) (sound : IsSound tree) (scope : IsSoundScope s) (a : Access) where
  -- nothing is told of the access to what the last field is one of, and that is granted
  pub record IsAimed (n : Name) (steps : Steps) : Type 0 where
    pub front : first_in_expression tree task s (access_expr n (before_last steps)) ≡ None
    pub granted : lacks tree task s (wanted_of_step tree a (field_of (type_of tree s (access_expr n (before_last steps))) (last_field steps))) ≡ false

  pub aimed : (n : Name) (steps : Steps) → first_in_expression tree task s (access_expr n (before_last steps)) ≡ None →
      wanted_of_last tree a (takings tree s (type_named s.names n) steps)
      ≡ wanted_of_step tree a (field_of (known_type tree s (access_expr n (before_last steps))) (last_field steps)) →
      lacks tree task s (wanted_of_last tree a (takings tree s (type_named s.names n) steps)) ≡ false → IsAimed n steps
  aimed n steps none same lacking = record {
    front = none;
    granted = subst (λ t. lacks tree task s (wanted_of_step tree a (field_of t (last_field steps))) ≡ false)
        (head_known tree task sound s scope (access_expr n (before_last steps)) none).1
        (subst (λ ws. lacks tree task s ws ≡ false) same lacking);
  }

  pub behind_aimed : (n f g : Name) (rest : Steps) → are_fields rest ≡ true → first_in_target tree task s n (field_step f (field_step g rest)) ≡ None →
      lacks tree task s (wanted_of_last tree a (takings tree s (type_named s.names n) (field_step f (field_step g rest)))) ≡ false →
      IsAimed n (field_step f (field_step g rest))
  behind_aimed n f g rest lo none lacking =
      let steps = field_step f (field_step g rest) in
      let t = type_named s.names n in
      let told = option_or_parts (rule_if (not (is_bound s.names n)) rule.Name) (first_in_target_steps tree task s t steps) none in
      aimed n steps (ap (λ o. option_or o (first_in_steps tree task s t (before_last steps))) told.0 ∙ (front_told tree task s (field_step g rest) t f lo told.1).0)
      (last_wanted tree task s a (field_step g rest) t f lo) lacking

  pub point_aimed : (n : Name) (e : Expression) (f g : Name) (rest : Steps) → are_fields rest ≡ true →
      first_in_target tree task s n (at_step e (field_step f (field_step g rest))) ≡ None →
      lacks tree task s (wanted_of_last tree a (takings tree s (type_named s.names n) (at_step e (field_step f (field_step g rest))))) ≡ false →
      IsAimed n (at_step e (field_step f (field_step g rest)))
  point_aimed n e f g rest lo none lacking =
      let fields = field_step f (field_step g rest) in
      let t = type_named s.names n in
      let taking = element_of t (known_type tree s e) in
      let next = known_type_after_step tree taking (type_of_element s t e) in
      let told = option_or_parts (rule_if (not (is_bound s.names n)) rule.Name) (first_in_target_steps tree task s t (at_step e fields)) none in
      let index = option_or_parts (first_in_expression tree task s e)
      (option_or (first_of_step tree task s taking) (first_in_target_steps tree task s next fields)) told.1 in
      let step = option_or_parts (first_of_step tree task s taking) (first_in_target_steps tree task s next fields) index.1 in
      aimed n (at_step e fields) (ap (λ o. option_or o (first_in_steps tree task s t (before_last (at_step e fields)))) told.0
      ∙ ap (λ o. option_or o (option_or (first_of_step tree task s taking) (first_in_steps tree task s next (before_last fields)))) index.0
      ∙ ap (λ o. option_or o (first_in_steps tree task s next (before_last fields))) step.0 ∙ (front_told tree task s (field_step g rest) next f lo step.1).0)
      (last_wanted tree task s a (field_step g rest) next f lo) lacking

-- ---- code

module _ (g : Program) (t : TaskCode) (k slots : ℕ) (have : HasSlots t slots) (forms : Forms) (way : Way) (w : Where) (m : Mark)
    (asked : Asked g t k slots forms way w m) (keeps : forms.keeps ≡ true) where
  pub ways : Ruled g t k slots way w m
  ways = ruled g t k slots forms way w m asked keeps

  abbrev front : Name → Steps → Expression
  front n steps = access_expr n (before_last steps)

  abbrev pub Aims : Access → Name → Steps → Type 0
  Aims a n steps = (scope : IsSoundScope w.scope) × IsAimed w.tree ways.task w.scope ways.kept.sound scope a n steps

  -- the access to the front
  front_told_of : (a : Access) (n : Name) (steps : Steps) → Aims a n steps → Told way w.tree w.scope (front n steps)
  front_told_of a n steps aims = subst (λ v. Told v w.tree w.scope (front n steps)) (sym ways.by) (aims.0, aims.1.front)

  front_may : (a : Access) (n : Name) (steps : Steps) (f : _) → Aims a n steps → IsFurther forms w (typed w (front n steps)) (last_field steps) f →
      MayEach w ways.task (reaches_of (typed w (front n steps))) (field_place w.tree (space_in (typed w (front n steps))) (last_field steps)) a
  front_may a n steps f aims far = may_each w ways.task (typed w (front n steps)) (last_field steps) a far.pointer far.certain far.field aims.1.granted

  pub set_further : (n : Name) (steps : Steps) (own : ℕ) (y : Expression) → typed w (access_expr n steps) ≡ type_of_field w.tree (typed w (front n steps)) (last_field steps) →
      Assigned (typed w y) (typed w (access_expr n steps)) → IsTyped forms w y → Asks forms.keeps (is_whole_expression true w y) → Told way w.tree w.scope y →
      IsTyped forms w (front n steps) → Asks forms.keeps (is_whole_expression true w (front n steps)) →
      IsFurther forms w (typed w (front n steps)) (last_field steps) mode.Write → Aims Write n steps → (pc : ℕ) →
      Stands t.body pc (right_code w n steps how.Set y
      ⨟ (expr_code w 0 (front n steps) ⨟ put_code w (typed w (front n steps)) own (last_field steps) how.Set)) →
      Marked g t k (stacked m []) (right_code w n steps how.Set y
      ⨟ (expr_code w 0 (front n steps) ⨟ put_code w (typed w (front n steps)) own (last_field steps) how.Set)) (stacked m [])
  set_further n steps own y same goes fine whole told there inside far aims pc st =
      let u = typed w (front n steps) in
      let out = typed w (access_expr n steps) in
      let l = last_field steps in
      let few : HasFew out = subst HasFew (sym same) (field_few _ _ _ far.keeps) in
      let may = front_may Write n steps mode.Write aims far in
      both g t k (both g t k (expr_marked g t k slots have forms way w m asked 0 y [] fine whole told pc st.0.0)
      (converted_marked g t k slots have forms way w m asked (typed w y) out [] (assigned_becomes _ _ goes) few))
      (both g t k (expr_marked g t k slots have forms way w m asked 0 (front n steps) (shape_of out ∷ []) there inside (front_told_of Write n steps aims) _ st.1.0)
      (subst (λ v. Marked g t k (stacked m (shape_of u ∷ shape_of v ∷ [])) (put_code w u own l how.Set) (stacked m [])) (sym same)
      (writes_through g t k ways.tops ways.task w m ways.known l (type_of_field w.tree u l) u own [] far.pointer far.keeps
      (λ vs. allowed_reached w ways.task ways.tops g t m asked.params ways.known ways.kept ways.facts ways.named ways.scoped u
      (field_place w.tree (space_in u) l) own Write vs far.pointer far.reachable far.certain may far.field))))

  pub reduce_further : (n : Name) (steps : Steps) (own : ℕ) (o : Op) (y : Expression) →
      typed w (access_expr n steps) ≡ type_of_field w.tree (typed w (front n steps)) (last_field steps) →
      IsInteger (typed w y) → IsInteger (typed w (access_expr n steps)) → IsTyped forms w y → Asks forms.keeps (is_whole_expression true w y) → Told way w.tree w.scope y →
      IsTyped forms w (front n steps) → Asks forms.keeps (is_whole_expression true w (front n steps)) →
      IsFurther forms w (typed w (front n steps)) (last_field steps) (mode.Reduce o) → Aims (Reduce o) n steps → (pc : ℕ) →
      Stands t.body pc (expr_code w 0 y ⨟ (expr_code w 0 (front n steps) ⨟ put_code w (typed w (front n steps)) own (last_field steps) (how.Reduce o))) →
      Marked g t k (stacked m []) (expr_code w 0 y ⨟ (expr_code w 0 (front n steps) ⨟ put_code w (typed w (front n steps)) own (last_field steps) (how.Reduce o)))
      (stacked m [])
  reduce_further n steps own o y same number integer fine whole told there inside far aims pc st =
      let u = typed w (front n steps) in
      let l = last_field steps in
      let a = shape_of (typed w y) in
      let may = front_may (Reduce o) n steps (mode.Reduce o) aims far in
      both g t k (expr_marked g t k slots have forms way w m asked 0 y [] fine whole told pc st.0)
      (both g t k (expr_marked g t k slots have forms way w m asked 0 (front n steps) (a ∷ []) there inside (front_told_of (Reduce o) n steps aims) _ st.1.0)
      (reduces_through g t k ways.tops ways.task w m ways.known l (type_of_field w.tree u l) u own o a [] far.pointer (subst IsInteger same integer)
      (scalar_numeric _ (integer_is_plain _ number)) far.keeps
      (λ vs. allowed_reached w ways.task ways.tops g t m asked.params ways.known ways.kept ways.facts ways.named ways.scoped u
      (field_place w.tree (space_in u) l) own (Reduce o) vs far.pointer far.reachable far.certain may far.field)))

  -- ---- `p.f.g = y`, `r[e].f.g = y`, and their reductions

  abbrev Whole : Expression → Type 0
  Whole e = Asks forms.keeps (is_whole_expression true w e)

  pub behind_set : (n f l : Name) (rest : Steps) (y : Expression) → IsSetThrough forms w n (field_step f (field_step l rest)) rest y → Whole y → Told way w.tree w.scope y →
      ToldForm way w.tree w.scope (assign_form n (field_step f (field_step l rest)) how.Set y) → (pc : ℕ) →
      Stands t.body pc (form_code w (assign_form n (field_step f (field_step l rest)) how.Set y)) →
      Marked g t k (stacked m []) (form_code w (assign_form n (field_step f (field_step l rest)) how.Set y)) (stacked m [])
  behind_set n f l rest y fine whole told form pc st =
      let steps = field_step f (field_step l rest) in
      let here = subst (λ v. ToldForm v w.tree w.scope (assign_form n steps how.Set y)) ways.by form in
      let aims = behind_aimed w.tree ways.task w.scope ways.kept.sound here.1.scope Write n f l rest fine.3.0
      (target_of_form w.tree ways.task w.scope ways.kept.sound here.1.scope (assign_form n steps how.Set y) here.1.form)
      (not_lacking w.tree ways.task w.scope (assign_form n steps how.Set y) here.1.form).0 in
      set_further n steps _ y (last_type w.tree w.scope (field_step l rest) (type_named w.scope.names n) f fine.3.0) fine.1 fine.2 whole told fine.3.1 (λ q. refl) fine.3.2
      (here.1.scope, aims) pc st

  pub point_set : (n : Name) (e : Expression) (f l : Name) (rest : Steps) (y : Expression) → IsSetThrough forms w n (at_step e (field_step f (field_step l rest))) rest y →
      Whole e → Whole y → Told way w.tree w.scope y → ToldForm way w.tree w.scope (assign_form n (at_step e (field_step f (field_step l rest))) how.Set y) → (pc : ℕ) →
      Stands t.body pc (form_code w (assign_form n (at_step e (field_step f (field_step l rest))) how.Set y)) →
      Marked g t k (stacked m []) (form_code w (assign_form n (at_step e (field_step f (field_step l rest))) how.Set y)) (stacked m [])
  point_set n e f l rest y fine inside whole told form pc st =
      let steps = at_step e (field_step f (field_step l rest)) in
      let here = subst (λ v. ToldForm v w.tree w.scope (assign_form n steps how.Set y)) ways.by form in
      let aims = point_aimed w.tree ways.task w.scope ways.kept.sound here.1.scope Write n e f l rest fine.3.0
      (target_of_form w.tree ways.task w.scope ways.kept.sound here.1.scope (assign_form n steps how.Set y) here.1.form)
      (not_lacking w.tree ways.task w.scope (assign_form n steps how.Set y) here.1.form).0 in
      set_further n steps _ y (last_type w.tree w.scope (field_step l rest) (type_of_element w.scope (type_named w.scope.names n) e) f fine.3.0) fine.1 fine.2 whole told
      fine.3.1 inside fine.3.2 (here.1.scope, aims) pc st

  pub behind_reduced : (n f l : Name) (rest : Steps) (o : Op) (y : Expression) → IsReducedThrough forms w n (field_step f (field_step l rest)) rest o y → Whole y →
      Told way w.tree w.scope y → ToldForm way w.tree w.scope (assign_form n (field_step f (field_step l rest)) (how.Reduce o) y) → (pc : ℕ) →
      Stands t.body pc (form_code w (assign_form n (field_step f (field_step l rest)) (how.Reduce o) y)) →
      Marked g t k (stacked m []) (form_code w (assign_form n (field_step f (field_step l rest)) (how.Reduce o) y)) (stacked m [])
  behind_reduced n f l rest o y fine whole told form pc st =
      let steps = field_step f (field_step l rest) in
      let here = subst (λ v. ToldForm v w.tree w.scope (assign_form n steps (how.Reduce o) y)) ways.by form in
      let aims = behind_aimed w.tree ways.task w.scope ways.kept.sound here.1.scope (Reduce o) n f l rest fine.4.0
      (target_of_form w.tree ways.task w.scope ways.kept.sound here.1.scope (assign_form n steps (how.Reduce o) y) here.1.form)
      (not_lacking w.tree ways.task w.scope (assign_form n steps (how.Reduce o) y) here.1.form).1 in
      reduce_further n steps _ o y (last_type w.tree w.scope (field_step l rest) (type_named w.scope.names n) f fine.4.0) fine.1 fine.2 fine.3 whole told fine.4.1 (λ q. refl) fine.4.2
      (here.1.scope, aims) pc st

  pub point_reduced : (n : Name) (e : Expression) (f l : Name) (rest : Steps) (o : Op) (y : Expression) →
      IsReducedThrough forms w n (at_step e (field_step f (field_step l rest))) rest o y → Whole e → Whole y → Told way w.tree w.scope y →
      ToldForm way w.tree w.scope (assign_form n (at_step e (field_step f (field_step l rest))) (how.Reduce o) y) → (pc : ℕ) →
      Stands t.body pc (form_code w (assign_form n (at_step e (field_step f (field_step l rest))) (how.Reduce o) y)) →
      Marked g t k (stacked m []) (form_code w (assign_form n (at_step e (field_step f (field_step l rest))) (how.Reduce o) y)) (stacked m [])
  point_reduced n e f l rest o y fine inside whole told form pc st =
      let steps = at_step e (field_step f (field_step l rest)) in
      let here = subst (λ v. ToldForm v w.tree w.scope (assign_form n steps (how.Reduce o) y)) ways.by form in
      let aims = point_aimed w.tree ways.task w.scope ways.kept.sound here.1.scope (Reduce o) n e f l rest fine.4.0
      (target_of_form w.tree ways.task w.scope ways.kept.sound here.1.scope (assign_form n steps (how.Reduce o) y) here.1.form)
      (not_lacking w.tree ways.task w.scope (assign_form n steps (how.Reduce o) y) here.1.form).1 in
      reduce_further n steps _ o y (last_type w.tree w.scope (field_step l rest) (type_of_element w.scope (type_named w.scope.names n) e) f fine.4.0) fine.1 fine.2 fine.3 whole told
      fine.4.1 inside fine.4.2 (here.1.scope, aims) pc st
