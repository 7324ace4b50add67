-- What is told of an assignment, by its target.
use Rattle.std.proofs.Common.{Bool, List, None, Option, Result, [], ◌&&◌, ◌++◌, ◌∷◌, ◌||◌, ◌≡◌, ap, false, not, refl, subst, sym, true, ◌∙◌}
use Rattle.std.specs.Prelude.{Err, Ok}
use Rattle.std.specs.Option.{option_or}
use Rattle.regent_tree.specs.Lookup.{is_bound, type_named}
use Rattle.regent_tree.specs.Plain.{expression_of, steps_in}
use Rattle.regent_tree.specs.Scopes.{Scope}
use Rattle.regent_tree.specs.Syntax.{Expression, Name, Steps, TaskTree, Tree, access_expr, assign_form}
use Rattle.regent_tree.specs.declared.expression.Step.{Step, At, Field}
use Rattle.regent_tree.specs.declared.rights.Access.{Access}
use Rattle.regent_tree.specs.declared.rights.Access.TheVariants as access
use Rattle.regent_tree.specs.declared.statement.How.{How}
use Rattle.regent_tree.specs.declared.statement.How.TheVariants as how
use Rattle.regent_tree.specs.declared.typing.StaticType.{StaticType}
use Rattle.check_rules.specs.first.FirstInExpressions.{first_in_expression, first_in_steps, first_in_target, first_in_target_steps, first_of_standing, first_of_step}
use Rattle.check_rules.specs.first.FirstInStatements.{first_of_form}
use Rattle.check_rules.specs.types.KnownTypes.{known_type, typed_form_of, takings, known_type_after_steps}
use Rattle.check_rules.specs.rules.Privileges.{lacks, reductions_by, wanted_of_last, wanted_of_target, writes_by}
use Rattle.check_rules.specs.first.Rules.{rule_if}
use Rattle.check_rules.specs.types.TypedForms.{Taking, element_of, field_of}
use Rattle.check_rules.specs.types.Sorts.{is_space, is_unknown_type}
use Rattle.check_rules.specs.rules.Standing.{stands}
use Rattle.check_rules.specs.rules.Statements.{spot_of_target}
use Rattle.check_rules.specs.rules.Targets.{ends_in_element, is_no_target}
use Rattle.check_rules.specs.rules.Targets as rules_on
use Rattle.check_rules.specs.declared.rule.Rule.{Rule}
use Rattle.check_rules.specs.declared.rule.Rule.TheVariants as rule
use Rattle.static_types.specs.Telling.{IsTold, Tells}
use Rattle.static_types.proofs.Telling.{told_here}
use Rattle.static_types.specs.declared.stop.Stop.{Stop}
use Rattle.static_types.specs.declared.stop.Stop.TheVariants.{Breach, Memory}
use Rattle.check_expressions.specs.Steps.{first_at_step, known_type_after}
use Rattle.check_variables.specs.Differences.{is_place}
use Rattle.check_forms.specs.Targets.{EndsIn, IsTarget, LeadsTo, after_front, first_at_last, first_of_target, first_of_use, is_no_place, mistargets, type_of_target, wanted_by}
use Rattle.check_forms.specs.declared.assignments.Target.{Target}
use Rattle.check_forms.specs.declared.assignments.Target.TheVariants as target
use Rattle.plain_values.proofs.Plain.{option_or_assoc_left, option_or_none}

-- ---- the last step of several

abbrev taking_at : Tree → Scope → StaticType → Step → Taking
taking_at tree s t (Field f) = field_of t f
taking_at tree s t (At e) = element_of t (known_type tree s (expression_of e))

module _ (tree : Tree) (task : TaskTree) (s : Scope) where
  after_last : (t : StaticType) (front : List Step) (last : Step) →
      known_type_after_steps tree s t (steps_in (front ++ last ∷ []))
      ≡ known_type_after tree s (known_type_after_steps tree s t (steps_in front)) last
  after_last t [] (Field f) = refl
  after_last t [] (At e) = refl
  after_last t (Field f ∷ xs) last = after_last (known_type_after tree s t (Field f)) xs last
  after_last t (At e ∷ xs) last = after_last (known_type_after tree s t (At e)) xs last

  last_alone : (t : StaticType) (last : Step) →
      first_in_target_steps tree task s t (steps_in (last ∷ [])) ≡ first_at_last tree task s t last
  last_alone t (Field f) = refl
  last_alone t (At e) =
      ap (option_or (first_in_expression tree task s (expression_of e))) (option_or_none (first_of_step tree task s (element_of t (known_type tree s (expression_of e)))))

  -- a step before others is one of an access
  abbrev told_at : StaticType → Step → Steps → Option Rule
  told_at t x rest = option_or (first_at_step tree task s t x) (first_in_target_steps tree task s (known_type_after tree s t x) rest)

  step_then : (t : StaticType) (x y : Step) (ys : List Step) →
      first_in_target_steps tree task s t (steps_in (x ∷ y ∷ ys)) ≡ told_at t x (steps_in (y ∷ ys))
  step_then t (Field f) (Field g) ys = refl
  step_then t (Field f) (At e) ys = refl
  step_then t (At e) y ys = option_or_assoc_left (first_in_expression tree task s (expression_of e))
      (first_of_step tree task s (element_of t (known_type tree s (expression_of e))))
      (first_in_target_steps tree task s (known_type_after tree s t (At e)) (steps_in (y ∷ ys)))

  step_first : (t : StaticType) (x : Step) (xs : List Step) →
      first_in_steps tree task s t (steps_in (x ∷ xs))
      ≡ option_or (first_at_step tree task s t x) (first_in_steps tree task s (known_type_after tree s t x) (steps_in xs))
  step_first t (Field f) xs = refl
  step_first t (At e) xs = option_or_assoc_left (first_in_expression tree task s (expression_of e))
      (first_of_step tree task s (element_of t (known_type tree s (expression_of e))))
      (first_in_steps tree task s (known_type_after tree s t (At e)) (steps_in xs))

  before_last : (t : StaticType) (x : Step) (front : List Step) (last : Step) →
      first_in_target_steps tree task s t (steps_in (x ∷ (front ++ last ∷ []))) ≡ told_at t x (steps_in (front ++ last ∷ []))
  before_last t x [] last = step_then t x last []
  before_last t x (y ∷ ys) last = step_then t x y (ys ++ last ∷ [])

  same_last : (t : StaticType) (x : Step) (xs : List Step) (last : Step) →
      first_at_last tree task s (known_type_after_steps tree s (known_type_after tree s t x) (steps_in xs)) last
      ≡ first_at_last tree task s (known_type_after_steps tree s t (steps_in (x ∷ xs))) last
  same_last t (Field f) xs last = refl
  same_last t (At e) xs last = refl

  pub steps_with_last : (t : StaticType) (front : List Step) (last : Step) →
      first_in_target_steps tree task s t (steps_in (front ++ last ∷ []))
      ≡ option_or (first_in_steps tree task s t (steps_in front))
      (first_at_last tree task s (known_type_after_steps tree s t (steps_in front)) last)
  steps_with_last t [] last = last_alone t last
  steps_with_last t (x ∷ xs) last =
      let next = known_type_after tree s t x in
      let ends = first_at_last tree task s (known_type_after_steps tree s next (steps_in xs)) last in
      before_last t x xs last
      ∙ ap (option_or (first_at_step tree task s t x)) (steps_with_last next xs last)
      ∙ option_or_assoc_left (first_at_step tree task s t x) (first_in_steps tree task s next (steps_in xs)) ends
      ∙ ap (λ o. option_or o ends) (sym (step_first t x xs))
      ∙ ap (option_or (first_in_steps tree task s t (steps_in (x ∷ xs)))) (same_last t x xs last)

  -- ---- what is wanted of the last step

  taken_alone : (a : Access) (t : StaticType) (x : Step) →
      wanted_of_last tree a (takings tree s t (steps_in (x ∷ []))) ≡ wanted_of_last tree a (taking_at tree s t x ∷ [])
  taken_alone a t (Field f) = refl
  taken_alone a t (At e) = refl

  taken_later : (a : Access) (t : StaticType) (x y : Step) (ys : List Step) →
      wanted_of_last tree a (takings tree s t (steps_in (x ∷ y ∷ ys)))
      ≡ wanted_of_last tree a (takings tree s (known_type_after tree s t x) (steps_in (y ∷ ys)))
  taken_later a t (Field f) (Field g) ys = refl
  taken_later a t (Field f) (At d) ys = refl
  taken_later a t (At e) (Field g) ys = refl
  taken_later a t (At e) (At d) ys = refl

  passes : (a : Access) (t : StaticType) (x : Step) (front : List Step) (last : Step) →
      wanted_of_last tree a (takings tree s t (steps_in (x ∷ (front ++ last ∷ []))))
      ≡ wanted_of_last tree a (takings tree s (known_type_after tree s t x) (steps_in (front ++ last ∷ [])))
  passes a t x [] last = taken_later a t x last []
  passes a t x (y ∷ ys) last = taken_later a t x y (ys ++ last ∷ [])

  same_front : (a : Access) (t : StaticType) (x : Step) (xs : List Step) (last : Step) →
      wanted_of_last tree a (taking_at tree s (known_type_after_steps tree s (known_type_after tree s t x) (steps_in xs)) last ∷ [])
      ≡ wanted_of_last tree a (taking_at tree s (known_type_after_steps tree s t (steps_in (x ∷ xs))) last ∷ [])
  same_front a t (Field f) xs last = refl
  same_front a t (At e) xs last = refl

  wanted_at_last : (a : Access) (t : StaticType) (front : List Step) (last : Step) →
      wanted_of_last tree a (takings tree s t (steps_in (front ++ last ∷ [])))
      ≡ wanted_of_last tree a (taking_at tree s (known_type_after_steps tree s t (steps_in front)) last ∷ [])
  wanted_at_last a t [] last = taken_alone a t last
  wanted_at_last a t (x ∷ xs) last =
      passes a t x xs last ∙ wanted_at_last a (known_type_after tree s t x) xs last ∙ same_front a t x xs last

-- ---- how an access ends

ends_then : (x y : Step) (ys : List Step) → ends_in_element (steps_in (x ∷ y ∷ ys)) ≡ ends_in_element (steps_in (y ∷ ys))
ends_then (Field f) y ys = refl
ends_then (At e) (Field g) ys = refl
ends_then (At e) (At d) ys = refl

ends_alone : (x : Step) → ends_in_element (steps_in (x ∷ [])) ≡ is_place x
ends_alone (Field f) = refl
ends_alone (At e) = refl

ends_passing : (x : Step) (front : List Step) (last : Step) →
    ends_in_element (steps_in (x ∷ (front ++ last ∷ []))) ≡ ends_in_element (steps_in (front ++ last ∷ []))
ends_passing x [] last = ends_then x last []
ends_passing x (y ∷ ys) last = ends_then x y (ys ++ last ∷ [])

ends_as_last : (front : List Step) (last : Step) → ends_in_element (steps_in (front ++ last ∷ [])) ≡ is_place last
ends_as_last [] last = ends_alone last
ends_as_last (x ∷ xs) last = ends_passing x xs last ∙ ends_as_last xs last

-- ---- targets

-- of what is told of the whole
pub tells_as : {A : Type 0} (P Q : A → Type 0) (r : Result A Stop) (a b : Option Rule) → a ≡ b →
    ((x : A) → P x → Q x) → Tells P r a → Tells Q r b
tells_as P Q (Ok x) a b e f h = (sym e ∙ h.0, f x h.1)
tells_as P Q (Err (Breach q)) a b e f h = sym e ∙ h
tells_as P Q (Err (Memory error)) a b e f h = tt

pub ends_target : (tree : Tree) (s : Scope) (n : Name) (steps front : List Step) (last : Step) (holder : StaticType) (t : Target) →
    steps ≡ front ++ last ∷ [] → holder ≡ after_front tree s n front → EndsIn tree s holder last t →
    IsTarget tree s n steps t
ends_target tree s n steps front last holder (target.Variable t) whole before h = absurd h
ends_target tree s n steps front last holder (target.Field h f t) whole before (same, is_field, is) = record {
  front = front;
  whole = subst (λ (l : Step). steps ≡ front ++ l ∷ []) is_field whole;
  before = same ∙ before;
  is = subst (λ (l : Step). t ≡ known_type_after tree s h l) is_field (subst (λ (u : StaticType). t ≡ known_type_after tree s u last) (sym same) is);
}
ends_target tree s n steps front last holder (target.Element t) whole before (element, is) =
    (last, holder, element, record { front = front; whole = whole; before = before; is = is })

module _ (tree : Tree) (task : TaskTree) (s : Scope) (n : Name) where
  -- a target that some steps lead to
  type_led : (steps : List Step) (last : Step) (holder t : StaticType) → LeadsTo tree s n steps last holder t →
      known_type tree s (access_expr n (steps_in steps)) ≡ t
  type_led steps last holder t l =
      ap (λ (ss : List Step). known_type_after_steps tree s (type_named s.names n) (steps_in ss)) l.whole
      ∙ after_last tree task s (type_named s.names n) l.front last
      ∙ ap (λ (u : StaticType). known_type_after tree s u last) (sym l.before) ∙ sym l.is

  wanted_led : (a : Access) (steps : List Step) (last : Step) (holder t : StaticType) → LeadsTo tree s n steps last holder t →
      wanted_of_target tree a (typed_form_of tree s (access_expr n (steps_in steps)))
      ≡ wanted_of_last tree a (taking_at tree s holder last ∷ [])
  wanted_led a steps last holder t l =
      ap (λ (ss : List Step). wanted_of_last tree a (takings tree s (type_named s.names n) (steps_in ss))) l.whole
      ∙ wanted_at_last tree task s a (type_named s.names n) l.front last
      ∙ ap (λ (u : StaticType). wanted_of_last tree a (taking_at tree s u last ∷ [])) (sym l.before)

  unplaced : (x : Step) (xs : List Step) (t : StaticType) →
      is_no_target task s.names n (steps_in (x ∷ xs)) t ≡ (ends_in_element (steps_in (x ∷ xs)) || is_space t)
  unplaced (Field f) xs t = refl
  unplaced (At e) xs t = refl

  unplaced_last : (front : List Step) (last : Step) (t : StaticType) →
      is_no_target task s.names n (steps_in (front ++ last ∷ [])) t ≡ (is_place last || is_space t)
  unplaced_last [] last t = unplaced last [] t ∙ ap (λ b. b || is_space t) (ends_as_last [] last)
  unplaced_last (x ∷ xs) last t = unplaced x (xs ++ last ∷ []) t ∙ ap (λ b. b || is_space t) (ends_as_last (x ∷ xs) last)

  no_place_led : (steps : List Step) (last : Step) (holder t : StaticType) → LeadsTo tree s n steps last holder t →
      is_no_target task s.names n (steps_in steps) t ≡ (is_place last || is_space t)
  no_place_led steps last holder t l =
      ap (λ (ss : List Step). is_no_target task s.names n (steps_in ss) t) l.whole ∙ unplaced_last l.front last t

  pub type_of_led : (steps : List Step) (t : Target) → IsTarget tree s n steps t →
      known_type tree s (access_expr n (steps_in steps)) ≡ type_of_target t
  type_of_led steps (target.Variable t) (none, is) =
      ap (λ (ss : List Step). known_type tree s (access_expr n (steps_in ss))) none ∙ sym is
  type_of_led steps (target.Field holder f t) l = type_led steps (Field f.now) holder t l
  type_of_led steps (target.Element t) (last, holder, element, l) = type_led steps last holder t l

  no_place : (steps : List Step) (t : Target) → IsTarget tree s n steps t →
      is_no_target task s.names n (steps_in steps) (type_of_target t) ≡ is_no_place task s.names n t
  no_place steps (target.Variable t) (none, is) =
      ap (λ (ss : List Step). is_no_target task s.names n (steps_in ss) t) none
  no_place steps (target.Field holder f t) l = no_place_led steps (Field f.now) holder t l
  no_place steps (target.Element t) (last, holder, element, l) =
      no_place_led steps last holder t l ∙ ap (λ b. b || is_space t) element

  pub mistargets_led : (steps : List Step) (h : How) (t : Target) → IsTarget tree s n steps t →
      rules_on.mistargets task s.names n (steps_in steps) h (known_type tree s (access_expr n (steps_in steps)))
      ≡ mistargets task s.names n t h
  mistargets_led steps h t led =
      ap (λ (u : StaticType). rules_on.mistargets task s.names n (steps_in steps) h u) (type_of_led steps t led)
      ∙ ap (λ b. b || rules_on.is_no_integer h (type_of_target t)) (no_place steps t led)

  nothing_of_element : (a : Access) (last : Step) (holder : StaticType) → is_place last ≡ true →
      wanted_of_last tree a (taking_at tree s holder last ∷ []) ≡ []
  nothing_of_element a (Field f) holder e = absurd cc
  nothing_of_element a (At d) holder e = refl

  pub wanted_of_led : (a : Access) (steps : List Step) (t : Target) → IsTarget tree s n steps t →
      wanted_of_target tree a (typed_form_of tree s (access_expr n (steps_in steps))) ≡ wanted_by tree a t
  wanted_of_led a steps (target.Variable t) (none, is) =
      ap (λ (ss : List Step). wanted_of_target tree a (typed_form_of tree s (access_expr n (steps_in ss)))) none
  wanted_of_led a steps (target.Field holder f t) l = wanted_led a steps (Field f.now) holder t l
  wanted_of_led a steps (target.Element t) (last, holder, element, l) =
      wanted_led a steps last holder t l ∙ nothing_of_element a last holder element

  -- ---- assignments

  abbrev written : How → List Step → Expression → Option Rule
  written h steps e =
      let form = assign_form n (steps_in steps) h e in
      option_or (rule_if (lacks tree task s (writes_by tree s form)) rule.Write)
      (option_or (rule_if (lacks tree task s (reductions_by tree s form)) rule.Reduce) None)

  used : (h : How) (steps : List Step) (e : Expression) (t : Target) → IsTarget tree s n steps t →
      written h steps e ≡ first_of_use tree task s h t
  used how.Set steps e t led =
      ap (λ ws. option_or (rule_if (lacks tree task s ws) rule.Write) None) (wanted_of_led access.Write steps t led)
      ∙ option_or_none (rule_if (lacks tree task s (wanted_by tree access.Write t)) rule.Write)
  used (how.Reduce o) steps e t led =
      ap (λ ws. option_or (rule_if (lacks tree task s ws) rule.Reduce) None) (wanted_of_led (access.Reduce o) steps t led)
      ∙ option_or_none (rule_if (lacks tree task s (wanted_by tree (access.Reduce o) t)) rule.Reduce)

  abbrev after : How → List Step → Expression → StaticType → Bool → Option Rule → Option Rule
  after h steps e t flawed last =
      option_or (option_or (first_of_standing s.known (stands (known_type tree s e) (spot_of_target flawed h t))) None)
      (option_or (rule_if flawed rule.Target) last)

  inner_nothing : (a b c : Option Rule) → option_or (option_or a None) (option_or b c) ≡ option_or a (option_or b (option_or c None))
  inner_nothing a b c =
      ap (λ o. option_or o (option_or b c)) (option_or_none a) ∙ ap (λ o. option_or a (option_or b o)) (sym (option_or_none c))

  assign_first : (steps : List Step) (h : How) (e : Expression) (t : Target) → IsTarget tree s n steps t →
      first_of_form tree task s (assign_form n (steps_in steps) h e)
      ≡ option_or (first_in_expression tree task s e)
      (option_or (first_in_target tree task s n (steps_in steps)) (first_of_target tree task s n h (known_type tree s e) t))
  assign_first steps h e t led =
      let whole = known_type tree s (access_expr n (steps_in steps)) in
      let old = rules_on.mistargets task s.names n (steps_in steps) h whole in
      let flawed = mistargets task s.names n t h in
      let target_told = first_in_target tree task s n (steps_in steps) in
      let parts : after h steps e whole old (written h steps e) ≡ first_of_target tree task s n h (known_type tree s e) t =
      (λ j. after h steps e (type_of_led steps t led j) (mistargets_led steps h t led j) (used h steps e t led j))
      ∙ inner_nothing (first_of_standing s.known (stands (known_type tree s e) (spot_of_target flawed h (type_of_target t))))
      (rule_if flawed rule.Target) (first_of_use tree task s h t) in
      ap (λ o. option_or o (option_or target_told (after h steps e whole old (written h steps e)))) (option_or_none (first_in_expression tree task s e))
      ∙ ap (λ o. option_or (first_in_expression tree task s e) (option_or target_told o)) parts

  -- where nothing is told of the right side and of the target's steps
  pub told_by_target : {A : Type 0} (Found : A → Type 0) (r : Result A Stop) (steps : List Step) (h : How) (e : Expression) (value : StaticType) (t : Target) →
      IsTarget tree s n steps t → value ≡ known_type tree s e → first_in_expression tree task s e ≡ None →
      first_in_target tree task s n (steps_in steps) ≡ None →
      Tells Found r (first_of_target tree task s n h value t) →
      Tells Found r (first_of_form tree task s (assign_form n (steps_in steps) h e))
  told_by_target Found r steps h e value t led same no_value no_target told =
      let whole : first_of_target tree task s n h value t ≡ first_of_form tree task s (assign_form n (steps_in steps) h e) =
      ap (λ (u : StaticType). first_of_target tree task s n h u t) same
      ∙ ap (λ o. option_or o (first_of_target tree task s n h (known_type tree s e) t)) (sym no_target)
      ∙ ap (λ o. option_or o (option_or (first_in_target tree task s n (steps_in steps)) (first_of_target tree task s n h (known_type tree s e) t))) (sym no_value)
      ∙ sym (assign_first steps h e t led) in
      subst (Tells Found r) whole told

  -- ---- the steps of a target

  abbrev bound_first : Option Rule
  bound_first = rule_if (not (is_bound s.names n)) rule.Name

  split_first : (steps front : List Step) (last : Step) (initializer : StaticType) → steps ≡ front ++ last ∷ [] →
      bound_first ≡ None → initializer ≡ type_named s.names n →
      option_or (first_in_steps tree task s initializer (steps_in front))
      (first_at_last tree task s (known_type_after_steps tree s initializer (steps_in front)) last)
      ≡ first_in_target tree task s n (steps_in steps)
  split_first steps front last initializer whole bound begins =
      sym (steps_with_last tree task s initializer front last)
      ∙ ap (λ (ss : List Step). first_in_target_steps tree task s initializer (steps_in ss)) (sym whole)
      ∙ ap (λ (t : StaticType). first_in_target_steps tree task s t (steps_in steps)) begins
      ∙ ap (λ o. option_or o (first_in_target_steps tree task s (type_named s.names n) (steps_in steps))) (sym bound)

  pub stops_before : (stop : Stop) (steps front : List Step) (last : Step) (initializer : StaticType) →
      steps ≡ front ++ last ∷ [] → bound_first ≡ None → initializer ≡ type_named s.names n →
      IsTold stop (first_in_steps tree task s initializer (steps_in front)) →
      IsTold stop (first_in_target tree task s n (steps_in steps))
  stops_before stop steps front last initializer whole bound begins told =
      subst (IsTold stop) (split_first steps front last initializer whole bound begins)
      (told_here stop (first_in_steps tree task s initializer (steps_in front)) _ told)

  pub target_ends : (r : Result Target Stop) (steps front : List Step) (last : Step) (initializer holder : StaticType) →
      steps ≡ front ++ last ∷ [] → bound_first ≡ None → initializer ≡ type_named s.names n →
      first_in_steps tree task s initializer (steps_in front) ≡ None →
      holder ≡ known_type_after_steps tree s initializer (steps_in front) →
      Tells (EndsIn tree s holder last) r (first_at_last tree task s holder last) →
      Tells (IsTarget tree s n steps) r (first_in_target tree task s n (steps_in steps))
  target_ends r steps front last initializer holder whole bound begins none before told =
      let same : first_at_last tree task s holder last ≡ first_in_target tree task s n (steps_in steps) =
      ap (λ (t : StaticType). first_at_last tree task s t last) before
      ∙ ap (λ o. option_or o (first_at_last tree task s (known_type_after_steps tree s initializer (steps_in front)) last)) (sym none)
      ∙ split_first steps front last initializer whole bound begins in
      let from_name : holder ≡ after_front tree s n front =
      before ∙ ap (λ (t : StaticType). known_type_after_steps tree s t (steps_in front)) begins in
      tells_as (EndsIn tree s holder last) (IsTarget tree s n steps) r (first_at_last tree task s holder last)
      (first_in_target tree task s n (steps_in steps)) same
      (λ t ends. ends_target tree s n steps front last holder t whole from_name ends) told
