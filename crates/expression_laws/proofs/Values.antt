-- Expressions without a breach: their values are of their types, and what they read is covered.
use Rattle.check_laws.proofs.Forms.{unflawed}
use Rattle.check_rules.proofs.Untold.{rule_none, standing_none}
use Rattle.plain_values.proofs.Plain.{option_or_parts}
use Rattle.std.proofs.Common.{List, [], ◌∷◌, Bool, None, false, true, refl, ap, sym, subst, ℕ, ℤ, zero, suc, ◌≡◌, ◌∙◌, ◌≤◌, not, get_or, length, map, cond}
use Rattle.std.proofs.lemmas.Bool.{and_parts, not-false}
use Rattle.regent_tree.specs.Accesses.{converted, regions_reached, regions_written, standing, take_element, take_field}
use Rattle.regent_tree.specs.Evaluation.{answered, called, first_type, linked, other_types, stepped, typed, value, values}
use Rattle.regent_tree.specs.Lookup.{has_task, is_bound, type_named}
use Rattle.regent_tree.specs.Operators.{all_signed, arithmetic, as_number, cast_to, combined, compares_pointers, comparison, operand, space_of_size}
use Rattle.regent_tree.specs.Running.{Called, Here, Result, Run, State, and_then, broke, came_back, given, gives, pay_from, ◌>>=◌}
use Rattle.regent_tree.specs.Scopes.{bound_to, in_scope}
use Rattle.regent_tree.specs.StaticTypes.{looked_up, task_named}
use Rattle.regent_tree.specs.Syntax.{Expression, Expressions, Links, Name, Steps, TaskTree, a_link, access_expr, an_expr, at_step, call_expr, cast_expr, chain_expr, convert_expr, field_step, is_null_expr, no_expr, no_link, no_step, null_expr, number_expr, prefix_expr, space_expr, truth_expr}
use Rattle.regent_tree.specs.Typing.{colour_of, counting_as, linked_type, operated, params_at, result_type, stepped_type, type_of, type_of_element, type_of_field}
use Rattle.regent_tree.specs.Values.{Value, a_truth, is_null_target, number_of, target_of, truth_of}
use Rattle.regent_tree.specs.declared.expression.Operator.{Operator}
use Rattle.regent_tree.specs.declared.facts.Colour.TheVariants.{Loop, Unknown as UnknownColour}
use Rattle.regent_tree.specs.declared.expression.Operator.TheVariants.{And, Compare, Compute, Or}
use Rattle.regent_tree.specs.declared.types.PointerTerm.{PointerTerm}
use Rattle.regent_tree.specs.declared.types.TypeTerm.TheVariants as typed_as
use Rattle.regent_tree.specs.declared.typing.StaticType.{StaticType}
use Rattle.regent_tree.specs.declared.typing.StaticType.TheVariants.{Truth as truth_type}
use Rattle.check_rules.specs.first.FirstInExpressions.{first_in_args, first_in_expression, first_in_links, first_in_steps, first_in_type, first_of_call, first_of_operator, first_of_standing, first_of_step, first_of_taking}
use Rattle.check_rules.specs.types.KnownTypes.{known_type, known_types}
use Rattle.check_rules.specs.rules.Names.{unbound_name_in_type}
use Rattle.check_rules.specs.first.Rules.{rule_if}
use Rattle.check_rules.specs.types.TypedForms.{calling, computing, element_of, field_of}
use Rattle.check_rules.specs.types.Sorts.{is_number as numeric, is_truth as truthful, is_unknown_type, may_be}
use Rattle.check_rules.specs.scopes.Sound.{IsSound, IsSoundTask}
use Rattle.check_rules.specs.rules.Standing.{number_spot, stands}
use Rattle.check_rules.specs.rules.Types.{is_ill_typed_operation, operates_on}
use Rattle.check_rules.specs.declared.rule.Rule.TheVariants as rule
use Rattle.check_laws.specs.SoundScopes.{IsKnown, IsSoundScope}
use Rattle.expression_laws.proofs.Knowing.{known_as_meant}
use Rattle.check_laws.proofs.Parts.{after_operator, element_known, field_known, surely}
use Rattle.expression_laws.specs.Kinds.{ArgumentsInScope, GoInto, IsOfType, IsWellScoped, NamesFit, is_number, is_pointer, is_truth, number_stood_for}
use Rattle.fact_laws.specs.Regions.{IsColour, Interpretation}
use Rattle.expression_laws.specs.Sound.{AreFitting, AreInStore, AreSoundAnswers, ArePassed, IsValueOf, IsSoundAnswer, Instance, IsSoundPlace, IsSoundState, KeepsSound}
use Rattle.expression_laws.specs.Writing.{AreLinked, AreStepped, AreWritten, IsWritten}
use Rattle.expression_laws.proofs.Fitting.{call_named}
use Rattle.expression_laws.proofs.Passing.{call_fits}
use Rattle.expression_laws.proofs.Calls.{call_within}
use Rattle.expression_laws.specs.Needs.{IsCallWithin}
use Rattle.expression_laws.proofs.Names.{named_fits, pointer_args, reached, said_named}
use Rattle.expression_laws.proofs.Operators.{after, passed_is, arithmetic_is, as_number_is, as_truth, cast_is, chosen, computes_numbers, operand_any, signed_counted, signed_is, signs_value, size_is, standing_any, standing_is, value_from_number, weaker}
use Rattle.expression_laws.proofs.Steps.{element_args, element_is, field_args_in, field_is, taking_stands}

module _ (task : TaskTree) (args : List Value) (roots : ℕ) (m : Interpretation) (h : Here) (sound : IsSound h.tree) (sound_task : IsSoundTask h.tree task)
    (scope : IsSoundScope h.scope) (well_scoped : IsWellScoped h.scope) (place : IsSoundPlace (record { tree = h.tree; calls = h.calls; task = task; args = args; roots = roots }) m h.scope)
    (answers : AreSoundAnswers m h.tree h.calls) where
  abbrev x : Instance
  x = record { tree = h.tree; calls = h.calls; task = task; args = args; roots = roots }

  abbrev told : Expression → Type 0
  told e = first_in_expression h.tree task h.scope e ≡ None

  abbrev Has_value : Expression → Result Value → Type 0
  Has_value e r = KeepsSound x m h.scope (IsValueOf m h.tree h.scope e) r

  abbrev Is : StaticType → Result Value → Type 0
  Is t r = KeepsSound x m h.scope (IsOfType m t) r

  pub known : (e : Expression) → told e → IsKnown h.scope (known_type h.tree h.scope e) × (known_type h.tree h.scope e ≡ type_of h.tree h.scope e)
  known e none = known_as_meant h.tree task h.scope e sound scope none

  known_meant : (e : Expression) → told e → IsKnown h.scope (type_of h.tree h.scope e)
  known_meant e none = let k = known e none in subst (IsKnown h.scope) k.1 k.0

  -- an expression whose colour is unknown
  plain : (e : Expression) (r : Result Value) → ((z : ℤ) → IsColour m (colour_of h.scope e) z) → Is (type_of h.tree h.scope e) r → Has_value e r
  plain e r unknown is = weaker x m h.scope r is (λ a k. record { is_of = k; colour = unknown (number_stood_for a) })

  named_colour : (b : Bool) (i : ℕ) (z : ℤ) → (b ≡ true → m.number i ≡ z) → IsColour m (cond b (Loop i) UnknownColour) z
  named_colour true i z f = f refl
  named_colour false i z f = tt

  -- an element is taken at a number
  pub element_number : (t k : StaticType) → is_unknown_type k ≡ false → first_of_taking h.tree (element_of t k) ≡ None → numeric k ≡ true
  element_number t k is e =
      let stand = taking_stands task args roots m h sound sound_task scope well_scoped place (element_of t k) e in
      surely numeric k is (not-false _ (standing_none [] (stands k number_spot) (option_or_parts (first_of_standing [] (stands k number_spot)) _ stand).0).1)

  -- the regions of a pointer type that is written
  written_named : (p : PointerTerm) → first_in_type h.tree h.scope.names (typed_as.Pointer p) ≡ None → unbound_name_in_type h.tree h.scope.names (typed_as.Pointer p) ≡ false
  written_named p e = rule_none (unbound_name_in_type h.tree h.scope.names (typed_as.Pointer p)) rule.Name (option_or_parts _ _ e).0

  written_go : (p : PointerTerm) (names : List Value) → unbound_name_in_type h.tree h.scope.names (typed_as.Pointer p) ≡ false → NamesFit m h.scope names →
      GoInto m (map (looked_up (in_scope h.scope)) p.regions) (regions_reached h.scope names (map (looked_up (in_scope h.scope)) p.regions))
  written_go p names e fit = reached m h.scope names well_scoped fit (map (looked_up (in_scope h.scope)) p.regions) (pointer_args h.scope scope h.tree p e).1

  -- what a call gives
  pub called_is : (name : Name) (vs : List Value) (u : State) → has_task h.tree name ≡ true → AreFitting h.tree (task_named h.tree name) vs (length u.store) → IsCallWithin x (task_named h.tree name) vs → IsSoundState x m h.scope u →
      Is (result_type h.tree (task_named h.tree name).result) (called h name vs u)
  called_is name vs u there fit within st = paid u.turns
    where
      answered_is : (w : State) → IsSoundState x m h.scope w → (c : Called) → h.calls h.line name vs u.store ≡ c → IsSoundAnswer m h.tree name w.store c → Is (result_type h.tree (task_named h.tree name).result) (answered c w)
      answered_is w st (came_back v store text) same is = (
        record { names = st.names; counted = st.counted; rooted = subst (λ c. AreInStore m c) (sym is.1) st.rooted; grown = subst (λ c. roots ≤ c) (sym is.1) st.grown; covered = st.covered },
        is.0,
      )
      answered_is w st (broke f text) same is = record {
        covered = st.covered;
        depth = λ e. record { line = h.line; task = name; args = vs; store = u.store; text = text; there = there; fits = fit; within = within; gave = same };
      }

      paid : (n : ℕ) → Is (result_type h.tree (task_named h.tree name).result) (and_then (pay_from n h u) (λ _ w. and_then (gives w w) (λ t. answered (h.calls h.line name vs t.store))))
      paid zero = record { covered = st.covered; depth = λ e. absurd cc }
      paid (suc n) = answered_is (record u { turns = n }) (record { names = st.names; counted = st.counted; rooted = st.rooted; grown = st.grown; covered = st.covered }) (h.calls h.line name vs u.store) refl (answers h.line name vs u.store there fit)

  -- the operands of an operator of which nothing is told
  operates : (o : Operator) (t k : StaticType) → first_of_operator (computing o t k) ≡ None → operates_on o t k ≡ true
  operates o t k e = not-false _ (rule_none (is_ill_typed_operation (computing o t k)) rule.Type (option_or_parts _ _ (option_or_parts _ _ e).1).0)

  abbrev Told_steps : StaticType → Steps → Type 0
  Told_steps t steps = first_in_steps h.tree task h.scope t steps ≡ None

  abbrev Told_links : StaticType → Links → Type 0
  Told_links t rest = first_in_links h.tree task h.scope t rest ≡ None

  -- what an access begins with
  record Accessed (n : Name) (steps : Steps) (v : Value) : Type 0 where
    known : IsKnown h.scope (type_named h.scope.names n)
    args_in : ArgumentsInScope h.scope (type_named h.scope.names n)
    told : Told_steps (type_named h.scope.names n) steps
    is_of : IsOfType m (type_named h.scope.names n) v

  accessed : (n : Name) (steps : Steps) → told (access_expr n steps) → (u : State) → IsSoundState x m h.scope u →
      Accessed n steps (get_or u.names (bound_to h.scope.names n).place (a_truth false))
  accessed n steps e u st =
      let parts = option_or_parts (rule_if (not (is_bound h.scope.names n)) rule.Name) _ e in
      let bound = not-false (is_bound h.scope.names n) (rule_none _ rule.Name parts.0) in record {
        known = scope.types n bound;
        args_in = (said_named h.scope scope well_scoped n bound).args;
        told = parts.1;
        is_of = (named_fits h.scope scope m u.names st.names n bound).is_of;
      }

  -- what a link of a chain has
  record Linking (o : Operator) (t : StaticType) (y : Expression) (rest : Links) : Type 0 where
    right : told y
    operates : operates_on o t (typed h y) ≡ true
    known : IsKnown h.scope (operated o t (typed h y))
    told : Told_links (operated o t (typed h y)) rest

  linking : (o : Operator) (t : StaticType) (y : Expression) (rest : Links) → IsKnown h.scope t → Told_links t (a_link o y rest) → Linking o t y rest
  linking o t y rest k e =
      let parts = option_or_parts (first_in_expression h.tree task h.scope y) _ e in
      let right = known y parts.0 in
      let more = option_or_parts (first_of_operator (computing o t (known_type h.tree h.scope y))) _ parts.1 in
      let next = after_operator h.scope o t (known_type h.tree h.scope y) k.known right.0.known more.0 in
      let same = unflawed _ (operated o t (known_type h.tree h.scope y)) next.known ∙ ap (operated o t) right.1 in record {
        right = parts.0;
        operates = subst (λ k. operates_on o t k ≡ true) right.1 (operates o t (known_type h.tree h.scope y) more.0);
        known = subst (IsKnown h.scope) same next;
        told = subst (λ k. Told_links k rest) same more.1;
      }

  mutual
    pub value_is : (e : Expression) → IsWritten e → told e → (u : State) → IsSoundState x m h.scope u → Has_value e (value h e u)
    value_is (number_expr z w) wr e u st = (st, record { is_of = is_number; colour = refl })
    value_is (truth_expr b) wr e u st = (st, record { is_of = is_truth; colour = tt })
    value_is (chain_expr first rest) wr e u st =
        let parts = option_or_parts (first_in_expression h.tree task h.scope first) _ e in
        plain (chain_expr first rest) _ (λ z. tt)
        (after (IsOfType m (type_of h.tree h.scope (chain_expr first rest))) (value h first u) (λ v. linked h (typed h first) v rest)
        (value_is first wr.0 parts.0 u st) (λ v w st is.
        links_are (typed h first) rest wr.1 (known_meant first parts.0)
        (subst (λ t. Told_links t rest) (known first parts.0).1 parts.1) v w st is.is_of))
    value_is (prefix_expr [] y) wr e u st = absurd wr
    value_is (prefix_expr (sign ∷ signs) y) wr e u st =
        let parts = option_or_parts (first_in_expression h.tree task h.scope y) _ e in
        let k = known y parts.0 in
        let all = known (prefix_expr (sign ∷ signs) y) e in
        let t = type_of h.tree h.scope (prefix_expr (sign ∷ signs) y) in
        plain (prefix_expr (sign ∷ signs) y) _ (λ z. tt)
        (after (IsOfType m t) (value h y u) (λ v. standing h v >>= λ a. given (all_signed (sign ∷ signs) a))
        (value_is y wr parts.0 u st) (λ v w st is.
        after (IsOfType m t) (standing h v w) (λ a. given (all_signed (sign ∷ signs) a))
        (standing_is x m h.scope h (known_type h.tree h.scope y) v w (signs_value h.scope sign signs (known_type h.tree h.scope y) k.0 parts.1)
        (subst (λ t. IsOfType m t v) (sym k.1) is.is_of) st) (λ a w st is. (
          st,
          subst (λ t. IsOfType m t (all_signed (sign ∷ signs) a)) (ap counting_as all.1 ∙ signed_counted sign signs (typed h y))
              (signed_is m h.scope (sign ∷ signs) (known_type h.tree h.scope y) a k.0 parts.1 is.0),
        ))))
    value_is (call_expr name es) wr e u st =
        let parts = option_or_parts (first_in_args h.tree task h.scope es) _ e in
        let types = params_at h.tree h.scope (task_named h.tree name) es in
        plain (call_expr name es) _ (λ z. tt)
        (after (IsOfType m (type_of h.tree h.scope (call_expr name es))) (values h types es u) (λ vs. called h name vs)
        (values_are types es wr parts.0 u st) (λ vs w st is.
        let call = (option_or_parts (first_of_call h.tree task h.scope (calling name (known_types h.tree h.scope es))) _ parts.1).0 in
        called_is name vs w (call_named h.tree task h.scope (calling name (known_types h.tree h.scope es)) call)
        (call_fits task args roots m h sound sound_task scope place name es vs w wr parts.0 call is st) (call_within task args roots m h sound sound_task scope place name es vs parts.0 call is) st))
    value_is (access_expr n no_step) wr e u st =
        let parts = option_or_parts (rule_if (not (is_bound h.scope.names n)) rule.Name) _ e in
        let bound = not-false (is_bound h.scope.names n) (rule_none _ rule.Name parts.0) in
        let fits = named_fits h.scope scope m u.names st.names n bound in
        (st, record { is_of = fits.is_of; colour = named_colour _ _ _ fits.colour })
    value_is (access_expr n (field_step f rest)) wr e u st =
        plain (access_expr n (field_step f rest)) _ (λ z. tt)
        (let a = accessed n (field_step f rest) e u st in
        steps_are (type_named h.scope.names n) (field_step f rest) wr a.known a.args_in a.told _ u st a.is_of)
    value_is (access_expr n (at_step y rest)) wr e u st =
        plain (access_expr n (at_step y rest)) _ (λ z. tt)
        (let a = accessed n (at_step y rest) e u st in
        steps_are (type_named h.scope.names n) (at_step y rest) wr a.known a.args_in a.told _ u st a.is_of)
    value_is (convert_expr t y) wr e u st =
        let parts = option_or_parts (first_in_expression h.tree task h.scope y) _ e in
        plain (convert_expr t y) _ (λ z. tt)
        (after (IsOfType m (type_of h.tree h.scope (convert_expr t y))) (value h y u) (λ v. standing h v >>= λ a. given (as_number t a))
        (value_is y wr parts.0 u st) (λ v w st is.
        after (IsOfType m (type_of h.tree h.scope (convert_expr t y))) (standing h v w) (λ a. given (as_number t a))
        (standing_any x m h.scope h v w st) (λ a w st is. (st, as_number_is m t a))))
    value_is (is_null_expr y) wr e u st =
        let parts = option_or_parts (first_in_expression h.tree task h.scope y) _ e in
        plain (is_null_expr y) _ (λ z. tt)
        (after (IsOfType m truth_type) (value h y u) (λ v. given (a_truth (is_null_target (target_of v))))
        (value_is y wr parts.0 u st) (λ v w st is. (st, is_truth)))
    value_is (null_expr p) wr e u st =
        plain (null_expr p) (value h (null_expr p) u) (λ z. tt) (st, is_pointer (written_go p u.names (written_named p e) st.names))
    value_is (cast_expr p y) wr e u st =
        let parts = option_or_parts (first_in_expression h.tree task h.scope y) _ e in
        let more = option_or_parts (first_of_standing [] (stands (known_type h.tree h.scope y) number_spot)) _ parts.1 in
        plain (cast_expr p y) _ (λ z. tt)
        (after (IsOfType m (type_of h.tree h.scope (cast_expr p y))) (value h y u) (λ v. regions_written h p >>= λ rs. given (cast_to rs v))
        (value_is y wr parts.0 u st) (λ v w st is.
        (st, cast_is m _ _ _ _ _ v (written_go p w.names (written_named p more.1) st.names))))
    value_is (space_expr k y) wr e u st =
        let parts = option_or_parts (first_in_expression h.tree task h.scope y) _ e in
        plain (space_expr k y) _ (λ z. tt)
        (after (IsOfType m (type_of h.tree h.scope (space_expr k y))) (value h y u) (λ v. space_of_size h (number_of v))
        (value_is y wr parts.0 u st) (λ v w st is. size_is x m h.scope h k (number_of v) w st))

    pub steps_are : (t : StaticType) (steps : Steps) → AreStepped steps → IsKnown h.scope t → ArgumentsInScope h.scope t → Told_steps t steps →
        (v : Value) (u : State) → IsSoundState x m h.scope u → IsOfType m t v → Is (stepped_type h.tree h.scope t steps) (stepped h t v steps u)
    steps_are t no_step wr k are e v u st is = (st, is)
    steps_are t (field_step f rest) wr k are e v u st is =
        let parts = option_or_parts (first_of_step h.tree task h.scope (field_of t f)) _ e in
        let here = option_or_parts (first_of_taking h.tree (field_of t f)) _ parts.0 in
        let next = field_known h.tree h.scope t f sound k here.0 in
        let same = unflawed _ (type_of_field h.tree t f) next.known in
        after (IsOfType m (stepped_type h.tree h.scope t (field_step f rest))) (take_field h t f v u) (λ a. stepped h (type_of_field h.tree t f) a rest)
        (field_is task args roots m h sound sound_task scope well_scoped place t f v u here.0 here.1 k are is st) (λ a w st is.
        steps_are (type_of_field h.tree t f) rest wr (subst (IsKnown h.scope) same next)
        (field_args_in task args roots m h sound sound_task scope well_scoped place t f here.0 are)
        (subst (λ k. Told_steps k rest) same parts.1) a w st is)
    steps_are t (at_step y rest) wr k are e v u st is =
        let parts = option_or_parts (first_in_expression h.tree task h.scope y) _ e in
        let key = known y parts.0 in
        let more = option_or_parts (first_of_step h.tree task h.scope (element_of t (known_type h.tree h.scope y))) _ parts.1 in
        let here = option_or_parts (first_of_taking h.tree (element_of t (known_type h.tree h.scope y))) _ more.0 in
        let next = element_known h.tree h.scope t (known_type h.tree h.scope y) y k key.0.known here.0 in
        let same = unflawed _ (type_of_element h.scope t y) next.known in
        let number = subst (λ k. numeric k ≡ true) key.1 (element_number t (known_type h.tree h.scope y) key.0.known here.0) in
        let result = IsOfType m (stepped_type h.tree h.scope t (at_step y rest)) in
        after result (value h y u) (λ w. standing h w >>= λ z. take_element h (number_of z) v >>= λ a. stepped h (type_of_element h.scope t y) a rest)
        (value_is y wr.0 parts.0 u st) (λ b w st got.
        after result (standing h b w) (λ z. take_element h (number_of z) v >>= λ a. stepped h (type_of_element h.scope t y) a rest)
        (standing_is x m h.scope h (typed h y) b w (value_from_number (typed h y) number) got.is_of st) (λ z w st stood.
        after result (take_element h (number_of z) v w) (λ a. stepped h (type_of_element h.scope t y) a rest)
        (element_is task args roots m h sound sound_task scope well_scoped place t (known_type h.tree h.scope y) y (number_of z) v w here.0 k
        (subst (IsColour m (colour_of h.scope y)) (sym stood.1) got.colour) is st) (λ a w st is.
        steps_are (type_of_element h.scope t y) rest wr.1 (subst (IsKnown h.scope) same next)
        (element_args task args roots m h sound sound_task scope well_scoped place t y are)
        (subst (λ k. Told_steps k rest) same more.1) a w st is)))

    links_are : (t : StaticType) (rest : Links) → AreLinked rest → IsKnown h.scope t → Told_links t rest →
        (v : Value) (u : State) → IsSoundState x m h.scope u → IsOfType m t v → Is (linked_type h.tree h.scope t rest) (linked h t v rest u)
    links_are t no_link wr k e v u st is = (st, is)
    links_are t (a_link Or y rest) wr k e v u st is =
        let link = linking Or t y rest k e in
        let both = and_parts (may_be truthful t) _ link.operates in
        let result = IsOfType m (linked_type h.tree h.scope truth_type rest) in
        chosen x m h.scope result (truth_of v) (linked h truth_type v rest) (value h y >>= λ a. linked h truth_type a rest) u
        (links_are truth_type rest wr.1 link.known link.told v u st (as_truth m t v (surely truthful t k.known both.0) is))
        (after result (value h y u) (λ a. linked h truth_type a rest) (value_is y wr.0 link.right u st) (λ a w st got.
        links_are truth_type rest wr.1 link.known link.told a w st
        (as_truth m (typed h y) a (surely truthful (typed h y) (known_meant y link.right).known both.1) got.is_of)))
    links_are t (a_link And y rest) wr k e v u st is =
        let link = linking And t y rest k e in
        let both = and_parts (may_be truthful t) _ link.operates in
        let result = IsOfType m (linked_type h.tree h.scope truth_type rest) in
        chosen x m h.scope result (truth_of v) (value h y >>= λ a. linked h truth_type a rest) (linked h truth_type v rest) u
        (after result (value h y u) (λ a. linked h truth_type a rest) (value_is y wr.0 link.right u st) (λ a w st got.
        links_are truth_type rest wr.1 link.known link.told a w st
        (as_truth m (typed h y) a (surely truthful (typed h y) (known_meant y link.right).known both.1) got.is_of)))
        (links_are truth_type rest wr.1 link.known link.told v u st (as_truth m t v (surely truthful t k.known both.0) is))
    links_are t (a_link (Compare c) y rest) wr k e v u st is =
        let link = linking (Compare c) t y rest k e in
        let b = compares_pointers (Compare c) t (typed h y) in
        let result = IsOfType m (linked_type h.tree h.scope truth_type rest) in
        let last : Value → Value → Run Value = λ d q. combined h (Compare c) d q >>= λ z. linked h truth_type z rest in
        after result (operand h b v u) (λ a. value h y >>= λ q. operand h b q >>= λ d. last a d) (operand_any x m h.scope h b v u st) (λ a w st is.
        after result (value h y w) (λ q. operand h b q >>= λ d. last a d) (value_is y wr.0 link.right w st) (λ q w st is.
        after result (operand h b q w) (λ d. last a d) (operand_any x m h.scope h b q w st) (λ d w st is.
        links_are truth_type rest wr.1 link.known link.told (a_truth (comparison c a d)) w st is_truth)))
    links_are t (a_link (Compute o) y rest) wr k e v u st is =
        let link = linking (Compute o) t y rest k e in
        let numbers = computes_numbers t (typed h y) k.known (known_meant y link.right).known link.operates in
        let next = operated (Compute o) t (typed h y) in
        let result = IsOfType m (linked_type h.tree h.scope next rest) in
        let last : Value → Value → Run Value = λ d q. arithmetic h o d q >>= λ z. linked h next z rest in
        after result (standing h v u) (λ a. value h y >>= λ q. standing h q >>= λ d. last a d)
        (standing_is x m h.scope h t v u (value_from_number t numbers.0) is st) (λ a w st left.
        after result (value h y w) (λ q. standing h q >>= λ d. last a d) (value_is y wr.0 link.right w st) (λ q w st got.
        after result (standing h q w) (λ d. last a d)
        (standing_is x m h.scope h (typed h y) q w (value_from_number (typed h y) numbers.1) got.is_of st) (λ d w st right.
        after result (arithmetic h o a d w) (λ z. linked h next z rest)
        (arithmetic_is x m h.scope h t (typed h y) o a d w numbers.0 numbers.1 left.0 right.0 st) (λ z w st is.
        links_are next rest wr.1 link.known link.told z w st is))))

    pub values_are : (types : List StaticType) (es : Expressions) → AreWritten es → first_in_args h.tree task h.scope es ≡ None →
        (u : State) → IsSoundState x m h.scope u → KeepsSound x m h.scope (ArePassed m h.tree h.scope types es) (values h types es u)
    values_are types no_expr wr e u st = (st, tt)
    values_are types (an_expr y es) wr e u st =
        let parts = option_or_parts (first_in_expression h.tree task h.scope y) _ e in
        let result = ArePassed m h.tree h.scope types (an_expr y es) in
        after result (value h y u) _ (value_is y wr.0 parts.0 u st) (λ v w st got.
        after result (converted h (typed h y) (first_type types) [] v w) _ (passed_is x m h.scope h (typed h y) (first_type types) v w got.is_of st) (λ a w st is_given.
        after result (values h (other_types types) es w) (λ vs. given (a ∷ vs)) (values_are (other_types types) es wr.1 parts.1 w st) (λ vs w st passed.
        (st, (is_given, passed)))))
