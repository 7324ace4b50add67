-- Assignments to fields of elements of parts that have no name, and their reductions: the field is reached through the slot in which the
-- part is.
use Rattle.std.proofs.Common.{◌≡◌, ℕ, ◌<◌, ◌≤◌, List, [], ◌∷◌, true, false, ◌&&◌, None, refl, ap, ◌∙◌, sym, subst, arith}
use Rattle.std.specs.Prelude.{length, not}
use Rattle.std.specs.Option.{option_or}
use Rattle.plain_values.proofs.Plain.{option_or_parts}
use Rattle.lane_kernels.specs.declared.numbers.Op.{Op}
use Rattle.regent_tree.specs.Execution.{before_last}
use Rattle.regent_tree.specs.Lookup.{is_bound, type_named}
use Rattle.regent_tree.specs.Scopes.{Scope}
use Rattle.regent_tree.specs.Syntax.{access_expr, assign_form, at_step, Expression, field_step, Name, no_step, Steps, TaskTree, Tree}
use Rattle.regent_tree.specs.Typing.{type_of_element, type_of_field}
use Rattle.regent_tree.specs.declared.rights.Access.{Access}
use Rattle.regent_tree.specs.declared.rights.Access.TheVariants.{Reduce, Write}
use Rattle.regent_tree.specs.declared.statement.How.{How}
use Rattle.regent_tree.specs.declared.statement.How.TheVariants as how
use Rattle.task_code.specs.declared.code.TaskCode.{TaskCode}
use Rattle.check_rules.specs.first.FirstInExpressions.{first_in_expression, first_in_steps, first_in_target, first_in_target_steps, first_of_step}
use Rattle.check_rules.specs.first.Rules.{rule_if}
use Rattle.check_rules.specs.rules.Privileges.{lacks, wanted_of_last}
use Rattle.check_rules.specs.scopes.Sound.{IsSound}
use Rattle.check_rules.specs.types.KnownTypes.{known_type, known_type_after_step, takings}
use Rattle.check_rules.specs.types.TypedForms.{element_of}
use Rattle.check_rules.specs.declared.rule.Rule.TheVariants as rule
use Rattle.check_laws.specs.SoundScopes.{IsSoundScope}
use Rattle.check_laws.proofs.Variables.{target_of_form}
use Rattle.code_rules.specs.Assignments.{put_code, target_code}
use Rattle.code_rules.specs.Expressions.{expr_code}
use Rattle.code_rules.specs.Slots.{bound, own_slot, spare, typed, Where}
use Rattle.code_rules.specs.Statements.{form_code}
use Rattle.code_laws.specs.Fields.{are_fields}
use Rattle.code_laws.specs.Pointers.{IsCounting}
use Rattle.code_laws.specs.Standing.{Stands}
use Rattle.code_laws.specs.Steps.{Forms}
use Rattle.code_laws.specs.Typed.{IsPiece, IsReducedInPart, IsReducedThrough, IsSetInPart, IsSetThrough, IsTyped, part_element}
use Rattle.code_laws.proofs.FurtherWrites.{last_type}
use Rattle.code_laws.proofs.LocalTargets.{front_told, last_wanted}
use Rattle.code_laws.proofs.PartElements.{slot_put}
use Rattle.code_laws.proofs.PartTypes.{is_pointer_type, part_pointer}
use Rattle.fit_rules.specs.Fits.{Program}
use Rattle.fit_rules.specs.Marks.{Mark, stacked}
use Rattle.fit_rules.specs.Shapes.{Shape}
use Rattle.sound_code.specs.Named.{HasSlots}
use Rattle.sound_code.specs.Ways.{shape_of, Way}
use Rattle.sound_code.proofs.WholeTasks.{is_whole_expression}
use Rattle.sound_code.proofs.Asked.{Asked, ruled, Ruled}
use Rattle.sound_code.proofs.Calling.{scalar_numeric}
use Rattle.sound_code.proofs.Combining.{both, Marked, nothing_done}
use Rattle.sound_code.proofs.Expressions.{converted_marked, expr_at, expr_marked, integer_is_plain}
use Rattle.sound_code.proofs.FurtherTargets.{aimed, IsAimed, reduce_further, set_further, ways as further_ways}
use Rattle.sound_code.proofs.PartElements.{asked_put, element_put, part_certain, part_put, part_space, put_allows, put_away, put_mark, put_room, told_first, told_second, ways}
use Rattle.sound_code.proofs.Through.{may_each, reduces_through, writes_through}
use Rattle.sound_code.proofs.Told.{Told, ToldForm}
use Rattle.sound_code.proofs.Wanting.{not_lacking}
use Rattle.sound_code.proofs.Wholes.{Asks, asks_first, asks_second, assigned_becomes, field_few}

-- ---- what is told

part_aimed : (tree : Tree) (task : TaskTree) (s : Scope) (sound : IsSound tree) (scope : IsSoundScope s) (a : Access) (n : Name) (e i : Expression) (f : Name)
    (rest : Steps) → are_fields rest ≡ true → first_in_target tree task s n (at_step e (at_step i (field_step f rest))) ≡ None →
    lacks tree task s (wanted_of_last tree a (takings tree s (type_named s.names n) (at_step e (at_step i (field_step f rest))))) ≡ false →
    IsAimed tree task s sound scope a n (at_step e (at_step i (field_step f rest)))
part_aimed tree task s sound scope a n e i f rest lo none lacking =
    let fields = field_step f rest in
    let t = type_named s.names n in
    let taking = element_of t (known_type tree s e) in
    let next = known_type_after_step tree taking (type_of_element s t e) in
    let second = element_of next (known_type tree s i) in
    let last = known_type_after_step tree second (type_of_element s next i) in
    let own = first_in_expression tree task s e in
    let taken = first_of_step tree task s taking in
    let own2 = first_in_expression tree task s i in
    let taken2 = first_of_step tree task s second in
    let told = option_or_parts (rule_if (not (is_bound s.names n)) rule.Name) (first_in_target_steps tree task s t (at_step e (at_step i fields))) none in
    let index = option_or_parts own (option_or taken (first_in_target_steps tree task s next (at_step i fields))) told.1 in
    let step = option_or_parts taken (first_in_target_steps tree task s next (at_step i fields)) index.1 in
    let index2 = option_or_parts own2 (option_or taken2 (first_in_target_steps tree task s last fields)) step.1 in
    let step2 = option_or_parts taken2 (first_in_target_steps tree task s last fields) index2.1 in
    aimed tree task s sound scope a n (at_step e (at_step i fields))
    (ap (λ o. option_or o (first_in_steps tree task s t (before_last (at_step e (at_step i fields))))) told.0
    ∙ ap (λ o. option_or o (option_or taken (first_in_steps tree task s next (before_last (at_step i fields))))) index.0
    ∙ ap (λ o. option_or o (first_in_steps tree task s next (before_last (at_step i fields)))) step.0
    ∙ ap (λ o. option_or o (option_or taken2 (first_in_steps tree task s last (before_last fields)))) index2.0
    ∙ ap (λ o. option_or o (first_in_steps tree task s last (before_last fields))) step2.0 ∙ (front_told tree task s rest last f lo step2.1).0)
    (last_wanted tree task s a rest last f lo) lacking

-- ---- code

pub none_low : 0 ≤ 0
none_low = omega arith

one_low : 1 ≤ 1
one_low = omega arith

module _ (g : Program) (t : TaskCode) (k slots : ℕ) (have : HasSlots t slots) (forms : Forms) (way : Way) (w : Where) (m : Mark)
    (asked : Asked g t k slots forms way w m) (keeps : forms.keeps ≡ true) where
  abbrev here : Ruled g t k slots way w m
  here = ruled g t k slots forms way w m asked keeps

  abbrev Whole : Expression → Type 0
  Whole e = Asks forms.keeps (is_whole_expression true w e)

  abbrev Both : Expression → Expression → Type 0
  Both e i = Asks forms.keeps (is_whole_expression true w e && is_whole_expression true w i)

  abbrev element : Name → Expression → Expression → Expression
  element n e i = access_expr n (at_step e (at_step i no_step))

  -- the mark that tells of the part in its slot
  abbrev pub left_mark : (n : Name) (e : Expression) → IsPiece w n e → Mark
  left_mark n e piece = put_mark g t k slots have forms way w m asked n keeps piece.0 0 none_low

  -- a pointer into a part that is left in its slot
  pub part_left : (n : Name) (e i : Expression) (us : List Shape) (piece : IsPiece w n e) → IsTyped forms w e × IsCounting (typed w e) →
      IsTyped forms w i × IsCounting (typed w i) → Both e i → Told way w.tree w.scope (element n e i) → (pc : ℕ) → Stands t.body pc (expr_code w 0 (element n e i)) →
      Marked g t k (stacked m us) (expr_code w 0 (element n e i)) (stacked (left_mark n e piece) (shape_of (part_element w n e i) ∷ us))
  part_left n e i us piece first second whole told pc st =
      let u = (bound w n).static_type in
      part_put g t k slots have forms way w m asked n keeps piece.0 0 none_low us (shape_of (part_element w n e i) ∷ us) u e i no_step piece.0.partition first.1
      (λ q s. expr_marked g t k slots have forms way w m asked 0 e us first.0 (asks_first _ _ _ whole) (told_first w.tree w.scope way n e (at_step i no_step) told) q s)
      (λ q hi s. element_put g t k slots have forms way w m asked n keeps piece.0 0 none_low us _ (type_of_element w.scope u e) i no_step hi piece.2
      (part_space w n e piece) second.1
      (λ q s. expr_at g t k slots have forms way w (left_mark n e piece) (asked_put g t k slots have forms way w m asked n keeps piece.0 0 none_low hi) 1 one_low i us
      second.0 (asks_second _ _ _ whole) (told_second w.tree w.scope way n e i no_step told) q s) (nothing_done g t k _) q s) pc st

  -- the code of a target, where what is done behind it is done through the slot of the part
  target_marked : (n : Name) (e i : Expression) (f : Name) (o : How) (us vs : List Shape) (piece : IsPiece w n e) →
      IsTyped forms w e × IsCounting (typed w e) → IsTyped forms w i × IsCounting (typed w i) → Both e i → Told way w.tree w.scope (element n e i) →
      ((hi : spare w 0 < length m.slots) → Marked g t k (stacked (left_mark n e piece) (shape_of (part_element w n e i) ∷ us))
      (put_code w (part_element w n e i) (spare w 0) f o) (stacked (left_mark n e piece) vs)) → (pc : ℕ) →
      Stands t.body pc (target_code w n (at_step e (at_step i (field_step f no_step))) o) →
      Marked g t k (stacked m us) (target_code w n (at_step e (at_step i (field_step f no_step))) o) (stacked m vs)
  target_marked n e i f o us vs piece first second whole told more pc st =
      let u = (bound w n).static_type in
      let a = left_mark n e piece in
      let hi = put_room g t k slots have forms way w m asked n 0 u e i no_step piece.0.partition pc st.0 in
      put_away g t k slots have forms way w m asked n keeps piece.0 0 none_low us vs _ hi
      (both g t k (part_left n e i us piece first second whole told pc st.0)
      (subst (λ sl. Marked g t k (stacked a (shape_of (part_element w n e i) ∷ us)) (put_code w (part_element w n e i) sl f o) (stacked a vs))
      (sym (slot_put w 0 u (type_of_element w.scope u e) (own_slot w u (bound w n).place) piece.0.partition piece.2)) (more hi)))

  -- `p[e][i].f = y`
  pub part_set : (n : Name) (e i : Expression) (f : Name) (y : Expression) → IsSetInPart forms w n e i f y → Both e i → Whole y → Told way w.tree w.scope y →
      ToldForm way w.tree w.scope (assign_form n (at_step e (at_step i (field_step f no_step))) how.Set y) → (pc : ℕ) →
      Stands t.body pc (form_code w (assign_form n (at_step e (at_step i (field_step f no_step))) how.Set y)) →
      Marked g t k (stacked m []) (form_code w (assign_form n (at_step e (at_step i (field_step f no_step))) how.Set y)) (stacked m [])
  part_set n e i f y fine inside whole told form pc st =
      let steps = at_step e (at_step i (field_step f no_step)) in
      let assigns = assign_form n steps how.Set y in
      let u = part_element w n e i in
      let out = type_of_field w.tree u f in
      let is = part_pointer w n e i fine.3 in
      let pointer = is_pointer_type u _ _ is in
      let h = subst (λ v. ToldForm v w.tree w.scope assigns) here.by form in
      let aims = part_aimed w.tree here.task w.scope here.kept.sound h.1.scope Write n e i f no_step refl
      (target_of_form w.tree here.task w.scope here.kept.sound h.1.scope assigns h.1.form) (not_lacking w.tree here.task w.scope assigns h.1.form).0 in
      let front = subst (λ v. Told v w.tree w.scope (access_expr n (at_step e (at_step i no_step)))) (sym here.by) (h.1.scope, aims.front) in
      both g t k (both g t k (expr_marked g t k slots have forms way w m asked 0 y [] fine.2 whole told pc st.0.0)
      (converted_marked g t k slots have forms way w m asked (typed w y) out [] (assigned_becomes _ _ fine.1) (field_few _ _ _ fine.6.keeps)))
      (target_marked n e i f how.Set (shape_of out ∷ []) [] fine.3 fine.4 fine.5 inside front
      (λ hi.
      let r = ways g t k slots have forms way w m asked n keeps fine.3.0 0 none_low hi in
      let h2 = subst (λ v. ToldForm v w.tree w.scope assigns) r.by form in
      let aims2 = part_aimed w.tree r.task w.scope r.kept.sound h2.1.scope Write n e i f no_step refl
      (target_of_form w.tree r.task w.scope r.kept.sound h2.1.scope assigns h2.1.form) (not_lacking w.tree r.task w.scope assigns h2.1.form).0 in
      writes_through g t k r.tops r.task w (put_mark g t k slots have forms way w m asked n keeps fine.3.0 0 none_low) r.known f out u (spare w 0) [] pointer fine.6.keeps
      (λ vs. put_allows g t k slots have forms way w m asked n keeps fine.3.0 0 none_low hi u _ _ is refl refl f Write fine.6.field
      (may_each w r.task u f Write pointer (part_certain u _ _ is) fine.6.field aims2.granted) vs)) _ st.1)

  -- `p[e][i].f o= y`
  pub part_reduced : (n : Name) (e i : Expression) (f : Name) (o : Op) (y : Expression) → IsReducedInPart forms w n e i f o y → Both e i → Whole y →
      Told way w.tree w.scope y → ToldForm way w.tree w.scope (assign_form n (at_step e (at_step i (field_step f no_step))) (how.Reduce o) y) → (pc : ℕ) →
      Stands t.body pc (form_code w (assign_form n (at_step e (at_step i (field_step f no_step))) (how.Reduce o) y)) →
      Marked g t k (stacked m []) (form_code w (assign_form n (at_step e (at_step i (field_step f no_step))) (how.Reduce o) y)) (stacked m [])
  part_reduced n e i f o y fine inside whole told form pc st =
      let steps = at_step e (at_step i (field_step f no_step)) in
      let assigns = assign_form n steps (how.Reduce o) y in
      let u = part_element w n e i in
      let out = type_of_field w.tree u f in
      let a = shape_of (typed w y) in
      let is = part_pointer w n e i fine.4 in
      let pointer = is_pointer_type u _ _ is in
      let h = subst (λ v. ToldForm v w.tree w.scope assigns) here.by form in
      let aims = part_aimed w.tree here.task w.scope here.kept.sound h.1.scope (Reduce o) n e i f no_step refl
      (target_of_form w.tree here.task w.scope here.kept.sound h.1.scope assigns h.1.form) (not_lacking w.tree here.task w.scope assigns h.1.form).1 in
      let front = subst (λ v. Told v w.tree w.scope (access_expr n (at_step e (at_step i no_step)))) (sym here.by) (h.1.scope, aims.front) in
      both g t k (expr_marked g t k slots have forms way w m asked 0 y [] fine.3 whole told pc st.0)
      (target_marked n e i f (how.Reduce o) (a ∷ []) [] fine.4 fine.5 fine.6 inside front
      (λ hi.
      let r = ways g t k slots have forms way w m asked n keeps fine.4.0 0 none_low hi in
      let h2 = subst (λ v. ToldForm v w.tree w.scope assigns) r.by form in
      let aims2 = part_aimed w.tree r.task w.scope r.kept.sound h2.1.scope (Reduce o) n e i f no_step refl
      (target_of_form w.tree r.task w.scope r.kept.sound h2.1.scope assigns h2.1.form) (not_lacking w.tree r.task w.scope assigns h2.1.form).1 in
      reduces_through g t k r.tops r.task w (put_mark g t k slots have forms way w m asked n keeps fine.4.0 0 none_low) r.known f out u (spare w 0) o a [] pointer
      fine.2 (scalar_numeric _ (integer_is_plain _ fine.1)) fine.7.keeps
      (λ vs. put_allows g t k slots have forms way w m asked n keeps fine.4.0 0 none_low hi u _ _ is refl refl f (Reduce o) fine.7.field
      (may_each w r.task u f (Reduce o) pointer (part_certain u _ _ is) fine.7.field aims2.granted) vs)) _ st.1)

  -- `p[e][i].f.g = y`
  pub part_set_further : (n : Name) (e i : Expression) (f l : Name) (rest : Steps) (y : Expression) →
      IsSetThrough forms w n (at_step e (at_step i (field_step f (field_step l rest)))) rest y → Both e i → Whole y → Told way w.tree w.scope y →
      ToldForm way w.tree w.scope (assign_form n (at_step e (at_step i (field_step f (field_step l rest)))) how.Set y) → (pc : ℕ) →
      Stands t.body pc (form_code w (assign_form n (at_step e (at_step i (field_step f (field_step l rest)))) how.Set y)) →
      Marked g t k (stacked m []) (form_code w (assign_form n (at_step e (at_step i (field_step f (field_step l rest)))) how.Set y)) (stacked m [])
  part_set_further n e i f l rest y fine inside whole told form pc st =
      let steps = at_step e (at_step i (field_step f (field_step l rest))) in
      let r = further_ways g t k slots have forms way w m asked keeps in
      let h = subst (λ v. ToldForm v w.tree w.scope (assign_form n steps how.Set y)) r.by form in
      let aims = part_aimed w.tree r.task w.scope r.kept.sound h.1.scope Write n e i f (field_step l rest) fine.3.0
      (target_of_form w.tree r.task w.scope r.kept.sound h.1.scope (assign_form n steps how.Set y) h.1.form)
      (not_lacking w.tree r.task w.scope (assign_form n steps how.Set y) h.1.form).0 in
      set_further g t k slots have forms way w m asked keeps n steps _ y
      (last_type w.tree w.scope (field_step l rest) (type_of_element w.scope (type_of_element w.scope (type_named w.scope.names n) e) i) f fine.3.0)
      fine.1 fine.2 whole told fine.3.1 inside fine.3.2 (h.1.scope, aims) pc st

  -- `p[e][i].f.g o= y`
  pub part_reduced_further : (n : Name) (e i : Expression) (f l : Name) (rest : Steps) (o : Op) (y : Expression) →
      IsReducedThrough forms w n (at_step e (at_step i (field_step f (field_step l rest)))) rest o y → Both e i → Whole y → Told way w.tree w.scope y →
      ToldForm way w.tree w.scope (assign_form n (at_step e (at_step i (field_step f (field_step l rest)))) (how.Reduce o) y) → (pc : ℕ) →
      Stands t.body pc (form_code w (assign_form n (at_step e (at_step i (field_step f (field_step l rest)))) (how.Reduce o) y)) →
      Marked g t k (stacked m []) (form_code w (assign_form n (at_step e (at_step i (field_step f (field_step l rest)))) (how.Reduce o) y)) (stacked m [])
  part_reduced_further n e i f l rest o y fine inside whole told form pc st =
      let steps = at_step e (at_step i (field_step f (field_step l rest))) in
      let r = further_ways g t k slots have forms way w m asked keeps in
      let h = subst (λ v. ToldForm v w.tree w.scope (assign_form n steps (how.Reduce o) y)) r.by form in
      let aims = part_aimed w.tree r.task w.scope r.kept.sound h.1.scope (Reduce o) n e i f (field_step l rest) fine.4.0
      (target_of_form w.tree r.task w.scope r.kept.sound h.1.scope (assign_form n steps (how.Reduce o) y) h.1.form)
      (not_lacking w.tree r.task w.scope (assign_form n steps (how.Reduce o) y) h.1.form).1 in
      reduce_further g t k slots have forms way w m asked keeps n steps _ o y
      (last_type w.tree w.scope (field_step l rest) (type_of_element w.scope (type_of_element w.scope (type_named w.scope.names n) e) i) f fine.4.0)
      fine.1 fine.2 fine.3 whole told fine.4.1 inside fine.4.2 (h.1.scope, aims) pc st
