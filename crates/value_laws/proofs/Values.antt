-- Each expression of which nothing is told gives a value that fits its type, by induction.
use Rattle.std.proofs.Common.{List, [], ◌∷◌, ◌++◌, Bool, None, Some, false, true, refl, ap, sym, subst, ℕ, zero, suc, ◌≡◌, ◌∙◌, ◌==◌, ◌&&◌, not, get_or, map, arith}
use Rattle.std.proofs.lemmas.Bool.{and_parts, eqb-true, not-false, or_parts}
use Rattle.std.proofs.lemmas.List.{length-map}
use Rattle.std.proofs.lemmas.List.Elements.{All-head}
use Rattle.std.specs.List.{All, list_any}
use Rattle.std.specs.Prelude.{length}
use Rattle.plain_values.proofs.Plain.{option_or_parts}
use Rattle.regent_tree.specs.Accesses.{converted, regions_reached, regions_written, standing, take_element, take_field}
use Rattle.regent_tree.specs.Evaluation.{answered, called, linked, stepped, typed, value, values}
use Rattle.regent_tree.specs.Laws.{Shape}
use Rattle.regent_tree.specs.Limits.{KeepsLimit, literal, node, nodes, parts_of_expression, parts_of_expressions, parts_of_links, parts_of_pointer, parts_of_steps}
use Rattle.regent_tree.specs.Lookup.{has_task, is_bound, type_named}
use Rattle.regent_tree.specs.Operators.{all_signed, arithmetic, as_number, cast_to, combined, compares_pointers, comparison, operand, space_of_size}
use Rattle.regent_tree.specs.Running.{Called, Here, Result, Run, State, and_then, broke, came_back, given, gives, pay_from, ◌>>=◌}
use Rattle.regent_tree.specs.Scopes.{bound_as, bound_to, in_scope, scope_of}
use Rattle.regent_tree.specs.StaticTypes.{looked_up, task_named}
use Rattle.regent_tree.specs.Syntax.{Expression, Expressions, Links, Name, Steps, TaskTree, a_link, access_expr, an_expr, at_step, call_expr, cast_expr, chain_expr, convert_expr, field_step, is_null_expr, no_expr, no_link, no_step, null_expr, number_expr, prefix_expr, space_expr, truth_expr}
use Rattle.regent_tree.specs.Typing.{counting_as, linked_type, operated, param_types, params_at, put_in, result_type, stepped_type, type_of, type_of_element, type_of_field, types_of}
use Rattle.regent_tree.specs.Values.{Value, a_truth, is_null_target, number_of, target_of, truth_of}
use Rattle.regent_tree.specs.declared.expression.Operator.{Operator}
use Rattle.regent_tree.specs.declared.expression.Operator.TheVariants.{And, Compare, Compute, Or}
use Rattle.regent_tree.specs.declared.types.NumberTerm.TheVariants as number
use Rattle.regent_tree.specs.declared.types.TypeTerm.TheVariants as typed_as
use Rattle.regent_tree.specs.declared.typing.Bound.{Bound}
use Rattle.regent_tree.specs.declared.typing.StaticType.{StaticType}
use Rattle.regent_tree.specs.declared.typing.StaticType.TheVariants.{Partition as partition_type, Truth as truth_type}
use Rattle.check_rules.proofs.Untold.{rule_none, stand_none, standing_none}
use Rattle.check_rules.specs.first.FirstInExpressions.{first_in_args, first_in_expression, first_in_links, first_in_steps, first_of_call, first_of_operator, first_of_standing}
use Rattle.check_rules.specs.first.Rules.{rule_if}
use Rattle.check_rules.specs.rules.Counts.{miscounts_call}
use Rattle.check_rules.specs.rules.Names.{is_unknown_task}
use Rattle.check_rules.specs.rules.Partitions.{is_parent, mispartition_in, mispartitions, mispartitions_call}
use Rattle.check_rules.specs.rules.Spaces.{differs, misfit_in, misfits_call}
use Rattle.check_rules.specs.rules.Standing.{number_spot, param_spot, stand_at, standing_in_call, stands}
use Rattle.check_rules.specs.rules.Types.{is_ill_typed_at_place, is_ill_typed_operation, operates_on}
use Rattle.check_rules.specs.types.Declarations.{is_no_result_type, params_of}
use Rattle.check_rules.specs.types.KnownTypes.{known_type, known_types}
use Rattle.check_rules.specs.types.Params.{types_in_order}
use Rattle.check_rules.specs.types.Sorts.{is_number as numeric, is_partition, is_region, is_truth as truthful, may_be, type_at}
use Rattle.check_rules.specs.types.TypedForms.{Calling, calling, computing}
use Rattle.check_rules.specs.declared.rule.Rule.TheVariants as rule
use Rattle.check_laws.proofs.Parts.{contrary, surely}
use Rattle.check_laws.proofs.Scopes.{found_by_number}
use Rattle.check_laws.specs.SoundScopes.{IsKnown, IsPlaced}
use Rattle.expression_laws.proofs.Operators.{computes_numbers, signed_counted, signs_value, value_from_number}
use Rattle.expression_laws.specs.Writing.{AreLinked, AreStepped, AreWritten, IsWritten}
use Rattle.value_laws.specs.Fitting.{Fits, fits_integer, fits_pointer, fits_truth, space_bound}
use Rattle.value_laws.specs.Keeping.{AnswerFits, AreFit, ArgumentsFit, KeepsFit, StateFits}
use Rattle.value_laws.specs.Laws.{IsPlaceOfFit}
use Rattle.value_laws.specs.Spaces.{HasSpaceOfName, IsSpaced}
use Rattle.value_laws.proofs.Accesses.{element_fits, field_fits}
use Rattle.value_laws.proofs.Calls.{any_names, argument_fits, parents_agree}
use Rattle.value_laws.proofs.Ends.{after, chosen}
use Rattle.value_laws.proofs.GivenRoots.{arg_known, arguments_fit}
use Rattle.value_laws.proofs.Limits.{all_behind, all_left, all_right}
use Rattle.check_laws.proofs.Widths.{literal_fits}
use Rattle.value_laws.proofs.Operators.{arithmetic_fits, as_number_fits, as_truth_fits, cast_fits, operand_any, signed_fits, size_fits, standing_fits}
use Rattle.value_laws.proofs.Parameters.{param_at, params_long}
use Rattle.value_laws.proofs.Regions.{goals}
use Rattle.value_laws.proofs.Spaced.{written_spaced}
use Rattle.value_laws.proofs.Types.{element_taken, field_taken, known, known_meant, linking, name_spaced, type_spaced}

pub no_partition_result : (tree : _) (r : _) → is_no_result_type r ≡ false → is_partition (result_type tree r) ≡ false
no_partition_result tree None e = refl
no_partition_result tree (Some (typed_as.Number number.Int32)) e = refl
no_partition_result tree (Some (typed_as.Number number.Int64)) e = refl
no_partition_result tree (Some (typed_as.Number (number.Index k))) e = refl
no_partition_result tree (Some typed_as.Truth) e = refl
no_partition_result tree (Some (typed_as.Pointer p)) e = absurd (contrary e)
no_partition_result tree (Some (typed_as.Ispace k)) e = absurd (contrary e)
no_partition_result tree (Some (typed_as.Region k u)) e = absurd (contrary e)
no_partition_result tree (Some (typed_as.Partition d r c)) e = absurd (contrary e)

-- what isn't told of a call
record IsFlawlessCall (known : _) (tree : _) (c : Calling) : Type 0 where
  there : has_task tree c.task ≡ true
  counted : length c.args ≡ length (task_named tree c.task).params
  stand : list_any (is_ill_typed_at_place known) (standing_in_call tree c) ≡ false
  fit : misfits_call (params_of tree c.task) c ≡ false
  parted : mispartitions_call (params_of tree c.task) c ≡ false

module _ (task : TaskTree) (roots : List Shape) (h : Here) (place : IsPlaceOfFit roots h) where
  abbrev told : Expression → Type 0
  told e = first_in_expression h.tree task h.scope e ≡ None

  abbrev Limited : Expression → Type 0
  Limited e = All KeepsLimit (parts_of_expression e)

  abbrev State_fits : State → Type 0
  State_fits u = StateFits h.tree roots h.scope.names u

  abbrev Gives : StaticType → Result Value → Type 0
  Gives t r = KeepsFit h.tree roots h.scope.names (Fits roots h.scope.names t) r

  flawless : (c : Calling) → first_of_call h.tree task h.scope c ≡ None → IsFlawlessCall h.scope.known h.tree c
  flawless c e =
      let n = option_or_parts _ _ e in
      let o = option_or_parts _ _ n.1 in
      let p = option_or_parts _ _ o.1 in
      let q = option_or_parts _ _ p.1 in
      let r = option_or_parts _ _ q.1 in
      let there = not-false _ (rule_none (is_unknown_task h.tree c) rule.Name n.0) in
      let counted = rule_none (miscounts_call h.tree c) rule.Count o.0 in
      let same : (length c.args == length (task_named h.tree c.task).params) ≡ true =
      not-false _ (sym (λ j. there j && not (length c.args == length (task_named h.tree c.task).params)) ∙ counted) in record {
        there = there;
        counted = eqb-true (length c.args) _ same;
        stand = stand_none h.scope.known (standing_in_call h.tree c) p.0;
        fit = rule_none (misfits_call (params_of h.tree c.task) c) rule.Spaces q.0;
        parted = rule_none (mispartitions_call (params_of h.tree c.task) c) rule.Partition r.0;
      }

  -- ---- arguments

  args_meant : (es : Expressions) → first_in_args h.tree task h.scope es ≡ None → known_types h.tree h.scope es ≡ types_of h.tree h.scope es
  args_meant no_expr e = refl
  args_meant (an_expr y es) e =
      let parts = option_or_parts (first_in_expression h.tree task h.scope y) _ e in
      λ j. (known task roots h place y parts.0).1 j ∷ args_meant es parts.1 j

  arg_named : (es : Expressions) (r : ℕ) → All KeepsLimit (parts_of_expressions es) → first_in_args h.tree task h.scope es ≡ None →
      HasSpaceOfName h.scope.names (type_at (types_of h.tree h.scope es) r)
  arg_named no_expr r limits e = tt
  arg_named (an_expr y es) zero limits e =
      (type_spaced task roots h place y (all_left KeepsLimit (parts_of_expression y) (parts_of_expressions es) limits)
      (option_or_parts (first_in_expression h.tree task h.scope y) _ e).0).named
  arg_named (an_expr y es) (suc r) limits e =
      arg_named es r (all_right KeepsLimit (parts_of_expression y) (parts_of_expressions es) limits) (option_or_parts (first_in_expression h.tree task h.scope y) _ e).1

  -- the parents of partitions that are given are those of the parameters
  abbrev ParentsAgree : List StaticType → List StaticType → List Bound → Type 0
  ParentsAgree types ps others = (i : ℕ) (asked : Bool) (r own parent : ℕ) → type_at ps i ≡ partition_type asked r own →
      is_parent parent (type_at types r) ≡ true → space_bound h.scope.names parent ≡ space_bound others r

  call_parents : (name : Name) (es : Expressions) → All KeepsLimit (parts_of_expressions es) → first_in_args h.tree task h.scope es ≡ None →
      length (types_of h.tree h.scope es) ≡ length (task_named h.tree name).params →
      misfit_in (types_of h.tree h.scope es) (param_types h.tree (task_named h.tree name)) (types_of h.tree h.scope es) ≡ false →
      ParentsAgree (types_of h.tree h.scope es) (param_types h.tree (task_named h.tree name)) (scope_of h.tree (task_named h.tree name)).names
  call_parents name es limits e counted fit i asked r own parent is same =
      let t = task_named h.tree name in
      let placed = subst (IsPlaced (scope_of h.tree t)) is (place.declared.tasks name i) in
      let low = placed.1 in
      let at : (bound_as (scope_of h.tree t).names r).static_type ≡ type_at (param_types h.tree t) r =
      subst (λ n. (bound_as (scope_of h.tree t).names n).static_type ≡ type_at (param_types h.tree t) r) (omega (arith)) (param_at h.tree t.params 0 t.params r) in
      parents_agree h.scope.names (scope_of h.tree t).names (types_of h.tree h.scope es) (param_types h.tree t) r parent
      (sym (ap is_region at) ∙ placed.0) at fit same (arg_known task roots h place es r e (omega (arith, low, counted))) (arg_named es r limits e)

  -- ---- what a call gives

  answer_fits : (name : Name) (w : State) → State_fits w → (c : Called) → AnswerFits h.tree roots (task_named h.tree name) c →
      Gives (result_type h.tree (task_named h.tree name).result) (answered c w)
  answer_fits name w st (came_back v store text) is = (
    record { names = st.names; counted = st.counted; agree = st.agree; store = is.1 },
    any_names h.tree roots [] h.scope.names h (result_type h.tree (task_named h.tree name).result) v
        (no_partition_result h.tree (task_named h.tree name).result (place.sound.results name)) is.0,
  )
  answer_fits name w st (broke f text) is = st.store

  pub called_fits : (name : Name) (vs : List Value) (u : State) → State_fits u → ArgumentsFit h.tree roots (task_named h.tree name) vs →
      Gives (result_type h.tree (task_named h.tree name).result) (called h name vs u)
  called_fits name vs u st are = paid u.turns
    where
      paid : (n : ℕ) → Gives (result_type h.tree (task_named h.tree name).result)
          (and_then (pay_from n h u) (λ _ w. and_then (gives w w) (λ t. answered (h.calls h.line name vs t.store))))
      paid zero = st.store
      paid (suc n) = answer_fits name (record u { turns = n }) (record { names = st.names; counted = st.counted; agree = st.agree; store = st.store }) _
          (place.answers roots h.line name vs u.store place.rooted st.store are)

  operates : (o : Operator) (t u : StaticType) → first_of_operator (computing o t u) ≡ None → operates_on o t u ≡ true
  operates o t u e = not-false _ (rule_none (is_ill_typed_operation (computing o t u)) rule.Type (option_or_parts _ _ (option_or_parts _ _ e).1).0)

  -- a place for a number
  pub number_there : (y : Expression) → told y → first_of_standing [] (stands (known_type h.tree h.scope y) number_spot) ≡ None → numeric (typed h y) ≡ true
  number_there y e stood =
      let k = known task roots h place y e in
      subst (λ t. numeric t ≡ true) k.1 (surely numeric (known_type h.tree h.scope y) k.0.known (not-false _ (standing_none [] (stands (known_type h.tree h.scope y) number_spot) stood).1))

  -- what isn't told of arguments at the places of parameters
  record AreUntold (types ps : List StaticType) (others : List Bound) (ts : List StaticType) : Type 0 where
    counted : length ts ≡ length ps
    stand : list_any (is_ill_typed_at_place h.scope.known) (stand_at types ps ts) ≡ false
    fit : misfit_in types ps ts ≡ false
    parted : mispartition_in types ps ts ≡ false
    agree : ParentsAgree types ps others

  call_untold : (name : Name) (es : Expressions) → All KeepsLimit (parts_of_expressions es) → first_in_args h.tree task h.scope es ≡ None →
      first_of_call h.tree task h.scope (calling name (known_types h.tree h.scope es)) ≡ None →
      AreUntold (types_of h.tree h.scope es) (param_types h.tree (task_named h.tree name)) (scope_of h.tree (task_named h.tree name)).names (types_of h.tree h.scope es)
  call_untold name es l e c =
      let t = task_named h.tree name in
      let types = types_of h.tree h.scope es in
      let call = flawless (calling name types) (subst (λ ts. first_of_call h.tree task h.scope (calling name ts) ≡ None) (args_meant es e) c) in
      let params : params_of h.tree name ≡ param_types h.tree t = ap types_in_order (place.sound.params name) in
      let fit = subst (λ ps. misfit_in types ps types ≡ false) params call.fit in record {
        counted = call.counted ∙ sym (params_long h.tree t.params 0 t.params);
        stand = subst (λ ps. list_any (is_ill_typed_at_place h.scope.known) (stand_at types ps types) ≡ false) params call.stand;
        fit = fit;
        parted = subst (λ ps. mispartition_in types ps types ≡ false) params call.parted;
        agree = call_parents name es l e call.counted fit;
      }

  -- ---- the induction

  mutual
    pub value_is : (e : Expression) → IsWritten e → Limited e → told e → (u : State) → State_fits u → Gives (type_of h.tree h.scope e) (value h e u)
    value_is (number_expr z w) wr l e u st =
        (st, fits_integer (literal_fits z w (All-head KeepsLimit (literal z w) [] (all_behind KeepsLimit node (literal z w ∷ []) l))))
    value_is (truth_expr b) wr l e u st = (st, fits_truth)
    value_is (chain_expr first rest) wr l e u st =
        let parts = option_or_parts (first_in_expression h.tree task h.scope first) _ e in
        let limits = all_behind KeepsLimit node (parts_of_expression first ++ parts_of_links rest) l in
        after (Fits roots h.scope.names (type_of h.tree h.scope (chain_expr first rest))) (value h first u) (λ v. linked h (typed h first) v rest)
        (value_is first wr.0 (all_left KeepsLimit (parts_of_expression first) (parts_of_links rest) limits) parts.0 u st) (λ v w st is.
        links_are (typed h first) rest wr.1 (all_right KeepsLimit (parts_of_expression first) (parts_of_links rest) limits) (known_meant task roots h place first parts.0)
        (subst (λ t. first_in_links h.tree task h.scope t rest ≡ None) (known task roots h place first parts.0).1 parts.1) v w st is)
    value_is (prefix_expr [] y) wr l e u st = absurd wr
    value_is (prefix_expr (sign ∷ signs) y) wr l e u st =
        let parts = option_or_parts (first_in_expression h.tree task h.scope y) _ e in
        let limits = all_right KeepsLimit (nodes (sign ∷ signs)) (parts_of_expression y) (all_behind KeepsLimit node (nodes (sign ∷ signs) ++ parts_of_expression y) l) in
        let k = known task roots h place y parts.0 in
        let all = known task roots h place (prefix_expr (sign ∷ signs) y) e in
        let t = type_of h.tree h.scope (prefix_expr (sign ∷ signs) y) in
        after (Fits roots h.scope.names t) (value h y u) (λ v. standing h v >>= λ a. given (all_signed (sign ∷ signs) a))
        (value_is y wr limits parts.0 u st) (λ v w st is.
        after (Fits roots h.scope.names t) (standing h v w) (λ a. given (all_signed (sign ∷ signs) a))
        (standing_fits h.tree roots h.scope.names h (known_type h.tree h.scope y) v w (signs_value h.scope sign signs (known_type h.tree h.scope y) k.0 parts.1)
        (subst (λ t. Fits roots h.scope.names t v) (sym k.1) is) st) (λ a w st is. (
          st,
          subst (λ t. Fits roots h.scope.names t (all_signed (sign ∷ signs) a)) (ap counting_as all.1 ∙ signed_counted sign signs (typed h y))
              (signed_fits h.tree roots h.scope.names h h.scope (sign ∷ signs) (known_type h.tree h.scope y) a k.0 parts.1 is),
        )))
    value_is (call_expr name es) wr l e u st =
        let parts = option_or_parts (first_in_args h.tree task h.scope es) _ e in
        let more = option_or_parts (first_of_call h.tree task h.scope (calling name (known_types h.tree h.scope es))) _ parts.1 in
        let limits = all_behind KeepsLimit node (parts_of_expressions es) l in
        after (Fits roots h.scope.names (type_of h.tree h.scope (call_expr name es))) (values h (params_at h.tree h.scope (task_named h.tree name) es) es u) (λ vs. called h name vs)
        (let untold = call_untold name es limits parts.0 more.0 in
        arguments_fit task roots h place u.names st.agree name es parts.0 untold.counted untold.stand untold.parted wr u refl
        (args_are _ (param_types h.tree (task_named h.tree name)) (scope_of h.tree (task_named h.tree name)).names es wr limits parts.0
        untold.counted untold.stand untold.fit untold.parted untold.agree u st)) (λ vs w st are. called_fits name vs w st are)
    value_is (access_expr n steps) wr l e u st =
        let parts = option_or_parts (rule_if (not (is_bound h.scope.names n)) rule.Name) _ e in
        let bound = not-false (is_bound h.scope.names n) (rule_none _ rule.Name parts.0) in
        steps_are (type_named h.scope.names n) steps wr (all_behind KeepsLimit node (parts_of_steps steps) l) (place.scope.types n bound)
        (name_spaced task roots h place n bound) parts.1 _ u st
        (subst (λ (c : Bound). Fits roots h.scope.names c.static_type (get_or u.names c.place (a_truth false)))
        (found_by_number h.scope.next h.scope.names n place.scope.numbers bound).0 (st.names (bound_to h.scope.names n).number))
    value_is (convert_expr t y) wr l e u st =
        let parts = option_or_parts (first_in_expression h.tree task h.scope y) _ e in
        let number = number_there y parts.0 parts.1 in
        let result = Fits roots h.scope.names (type_of h.tree h.scope (convert_expr t y)) in
        after result (value h y u) (λ v. standing h v >>= λ a. given (as_number t a))
        (value_is y wr (all_behind KeepsLimit node (parts_of_expression y) l) parts.0 u st) (λ v w st is.
        after result (standing h v w) (λ a. given (as_number t a))
        (standing_fits h.tree roots h.scope.names h (typed h y) v w (value_from_number (typed h y) number) is st) (λ a w st is.
        (st, as_number_fits h.tree roots h.scope.names h (typed h y) t a number is)))
    value_is (is_null_expr y) wr l e u st =
        let parts = option_or_parts (first_in_expression h.tree task h.scope y) _ e in
        after (Fits roots h.scope.names truth_type) (value h y u) (λ v. given (a_truth (is_null_target (target_of v))))
        (value_is y wr (all_behind KeepsLimit node (parts_of_expression y) l) parts.0 u st) (λ v w st is. (st, fits_truth))
    value_is (null_expr p) wr l e u st =
        let written = written_spaced h.tree h.scope place.scope p place.declared (all_behind KeepsLimit node (parts_of_pointer p) l) e in
        (st, fits_pointer tt (goals roots h.scope u.names st.names _ (map (looked_up (in_scope h.scope)) p.regions) written.regions))
    value_is (cast_expr p y) wr l e u st =
        let parts = option_or_parts (first_in_expression h.tree task h.scope y) _ e in
        let more = option_or_parts (first_of_standing [] (stands (known_type h.tree h.scope y) number_spot)) _ parts.1 in
        let limits = all_behind KeepsLimit node (parts_of_pointer p ++ parts_of_expression y) l in
        let written = written_spaced h.tree h.scope place.scope p place.declared (all_left KeepsLimit (parts_of_pointer p) (parts_of_expression y) limits) more.1 in
        let terms = map (looked_up (in_scope h.scope)) p.regions in
        after (Fits roots h.scope.names (type_of h.tree h.scope (cast_expr p y))) (value h y u) (λ v. regions_written h p >>= λ rs. given (cast_to rs v))
        (value_is y wr (all_right KeepsLimit (parts_of_pointer p) (parts_of_expression y) limits) parts.0 u st) (λ v w st is. (
          st,
          cast_fits h.tree roots h.scope.names h place.rooted _ _ _ terms (regions_reached h.scope w.names terms) v (length-map terms _)
              (goals roots h.scope w.names st.names _ terms written.regions),
        ))
    value_is (space_expr k y) wr l e u st =
        let parts = option_or_parts (first_in_expression h.tree task h.scope y) _ e in
        after (Fits roots h.scope.names (type_of h.tree h.scope (space_expr k y))) (value h y u) (λ v. space_of_size h (number_of v))
        (value_is y wr (all_behind KeepsLimit node (parts_of_expression y) l) parts.0 u st) (λ v w st is. size_fits h.tree roots h.scope.names h k (number_of v) w st)

    pub steps_are : (t : StaticType) (steps : Steps) → AreStepped steps → All KeepsLimit (parts_of_steps steps) → IsKnown h.scope t → IsSpaced h.tree h.scope.names t →
        first_in_steps h.tree task h.scope t steps ≡ None → (v : Value) (u : State) → State_fits u → Fits roots h.scope.names t v →
        Gives (stepped_type h.tree h.scope t steps) (stepped h t v steps u)
    steps_are t no_step wr l k spaced e v u st is = (st, is)
    steps_are t (field_step f rest) wr l k spaced e v u st is =
        let taken = field_taken task roots h place t f rest k spaced e in
        after (Fits roots h.scope.names (stepped_type h.tree h.scope t (field_step f rest))) (take_field h t f v u) (λ a. stepped h (type_of_field h.tree t f) a rest)
        (field_fits roots h place t f v u taken.taken k spaced is st) (λ a w st is.
        steps_are (type_of_field h.tree t f) rest wr (all_behind KeepsLimit node (parts_of_steps rest) l) taken.known taken.spaced taken.told a w st is)
    steps_are t (at_step y rest) wr l k spaced e v u st is =
        let taken = element_taken task roots h place t y rest k spaced e in
        let limits = all_behind KeepsLimit node (parts_of_expression y ++ parts_of_steps rest) l in
        let result = Fits roots h.scope.names (stepped_type h.tree h.scope t (at_step y rest)) in
        after result (value h y u) (λ w. standing h w >>= λ z. take_element h (number_of z) v >>= λ a. stepped h (type_of_element h.scope t y) a rest)
        (value_is y wr.0 (all_left KeepsLimit (parts_of_expression y) (parts_of_steps rest) limits) taken.told_index u st) (λ b w st got.
        after result (standing h b w) (λ z. take_element h (number_of z) v >>= λ a. stepped h (type_of_element h.scope t y) a rest)
        (standing_fits h.tree roots h.scope.names h (typed h y) b w (value_from_number (typed h y) taken.number) got st) (λ z w st stood.
        after result (take_element h (number_of z) v w) (λ a. stepped h (type_of_element h.scope t y) a rest)
        (element_fits roots h place t (known_type h.tree h.scope y) y (number_of z) v w taken.taken k is st) (λ a w st is.
        steps_are (type_of_element h.scope t y) rest wr.1 (all_right KeepsLimit (parts_of_expression y) (parts_of_steps rest) limits) taken.known taken.spaced taken.told a w st is)))

    links_are : (t : StaticType) (rest : Links) → AreLinked rest → All KeepsLimit (parts_of_links rest) → IsKnown h.scope t → first_in_links h.tree task h.scope t rest ≡ None →
        (v : Value) (u : State) → State_fits u → Fits roots h.scope.names t v → Gives (linked_type h.tree h.scope t rest) (linked h t v rest u)
    links_are t no_link wr l k e v u st is = (st, is)
    links_are t (a_link Or y rest) wr l k e v u st is =
        let link = linking task roots h place Or t y rest k e in
        let both = and_parts (may_be truthful t) _ (operates Or t (typed h y) link.operates) in
        let left = all_left KeepsLimit (parts_of_expression y) (parts_of_links rest) l in
        let right = all_right KeepsLimit (parts_of_expression y) (parts_of_links rest) l in
        let result = Fits roots h.scope.names (linked_type h.tree h.scope truth_type rest) in
        chosen h.tree roots h.scope.names result (truth_of v) (linked h truth_type v rest) (value h y >>= λ a. linked h truth_type a rest) u
        (links_are truth_type rest wr.1 right link.known link.told v u st (as_truth_fits h.tree roots h.scope.names h t v (surely truthful t k.known both.0) is))
        (after result (value h y u) (λ a. linked h truth_type a rest) (value_is y wr.0 left link.right u st) (λ a w st got.
        links_are truth_type rest wr.1 right link.known link.told a w st
        (as_truth_fits h.tree roots h.scope.names h (typed h y) a (surely truthful (typed h y) (known_meant task roots h place y link.right).known both.1) got)))
    links_are t (a_link And y rest) wr l k e v u st is =
        let link = linking task roots h place And t y rest k e in
        let both = and_parts (may_be truthful t) _ (operates And t (typed h y) link.operates) in
        let left = all_left KeepsLimit (parts_of_expression y) (parts_of_links rest) l in
        let right = all_right KeepsLimit (parts_of_expression y) (parts_of_links rest) l in
        let result = Fits roots h.scope.names (linked_type h.tree h.scope truth_type rest) in
        chosen h.tree roots h.scope.names result (truth_of v) (value h y >>= λ a. linked h truth_type a rest) (linked h truth_type v rest) u
        (after result (value h y u) (λ a. linked h truth_type a rest) (value_is y wr.0 left link.right u st) (λ a w st got.
        links_are truth_type rest wr.1 right link.known link.told a w st
        (as_truth_fits h.tree roots h.scope.names h (typed h y) a (surely truthful (typed h y) (known_meant task roots h place y link.right).known both.1) got)))
        (links_are truth_type rest wr.1 right link.known link.told v u st (as_truth_fits h.tree roots h.scope.names h t v (surely truthful t k.known both.0) is))
    links_are t (a_link (Compare c) y rest) wr l k e v u st is =
        let link = linking task roots h place (Compare c) t y rest k e in
        let b = compares_pointers (Compare c) t (typed h y) in
        let result = Fits roots h.scope.names (linked_type h.tree h.scope truth_type rest) in
        let last : Value → Value → Run Value = λ d q. combined h (Compare c) d q >>= λ z. linked h truth_type z rest in
        after result (operand h b v u) (λ a. value h y >>= λ q. operand h b q >>= λ d. last a d) (operand_any h.tree roots h.scope.names h b v u st) (λ a w st is.
        after result (value h y w) (λ q. operand h b q >>= λ d. last a d)
        (value_is y wr.0 (all_left KeepsLimit (parts_of_expression y) (parts_of_links rest) l) link.right w st) (λ q w st is.
        after result (operand h b q w) (λ d. last a d) (operand_any h.tree roots h.scope.names h b q w st) (λ d w st is.
        links_are truth_type rest wr.1 (all_right KeepsLimit (parts_of_expression y) (parts_of_links rest) l) link.known link.told (a_truth (comparison c a d)) w st fits_truth)))
    links_are t (a_link (Compute o) y rest) wr l k e v u st is =
        let link = linking task roots h place (Compute o) t y rest k e in
        let numbers = computes_numbers t (typed h y) k.known (known_meant task roots h place y link.right).known (operates (Compute o) t (typed h y) link.operates) in
        let next = operated (Compute o) t (typed h y) in
        let result = Fits roots h.scope.names (linked_type h.tree h.scope next rest) in
        let last : Value → Value → Run Value = λ d q. arithmetic h o d q >>= λ z. linked h next z rest in
        after result (standing h v u) (λ a. value h y >>= λ q. standing h q >>= λ d. last a d)
        (standing_fits h.tree roots h.scope.names h t v u (value_from_number t numbers.0) is st) (λ a w st first.
        after result (value h y w) (λ q. standing h q >>= λ d. last a d)
        (value_is y wr.0 (all_left KeepsLimit (parts_of_expression y) (parts_of_links rest) l) link.right w st) (λ q w st got.
        after result (standing h q w) (λ d. last a d)
        (standing_fits h.tree roots h.scope.names h (typed h y) q w (value_from_number (typed h y) numbers.1) got st) (λ d w st second.
        after result (arithmetic h o a d w) (λ z. linked h next z rest)
        (arithmetic_fits h.tree roots h.scope.names h t (typed h y) o a d w numbers.0 numbers.1 first second st) (λ z w st is.
        links_are next rest wr.1 (all_right KeepsLimit (parts_of_expression y) (parts_of_links rest) l) link.known link.told z w st is))))

    -- arguments of which nothing is told at the places of parameters
    args_are : (types ps : List StaticType) (others : List Bound) (es : Expressions) → AreWritten es → All KeepsLimit (parts_of_expressions es) →
        first_in_args h.tree task h.scope es ≡ None → length (types_of h.tree h.scope es) ≡ length ps →
        list_any (is_ill_typed_at_place h.scope.known) (stand_at types ps (types_of h.tree h.scope es)) ≡ false →
        misfit_in types ps (types_of h.tree h.scope es) ≡ false → mispartition_in types ps (types_of h.tree h.scope es) ≡ false → ParentsAgree types ps others →
        (u : State) → State_fits u → KeepsFit h.tree roots h.scope.names (AreFit roots others ps) (values h (map (put_in types) ps) es u)
    args_are types [] others no_expr wr l e c d m p agree u st = (st, tt)
    args_are types (q ∷ ps) others no_expr wr l e c d m p agree u st = absurd (omega (arith, c))
    args_are types [] others (an_expr y es) wr l e c d m p agree u st = absurd (omega (arith, c))
    args_are types (q ∷ ps) others (an_expr y es) wr l e c d m p agree u st =
        let parts = option_or_parts (first_in_expression h.tree task h.scope y) _ e in
        let here = or_parts (is_ill_typed_at_place h.scope.known (stands (typed h y) (param_spot (put_in types q)))) _ d in
        let fit = or_parts (is_region q && differs types q (typed h y)) _ m in
        let parted = or_parts (mispartitions types q (typed h y)) _ p in
        let result = AreFit roots others (q ∷ ps) in
        after result (value h y u) _ (value_is y wr.0 (all_left KeepsLimit (parts_of_expression y) (parts_of_expressions es) l) parts.0 u st) (λ v w st got.
        after result (converted h (typed h y) (put_in types q) [] v w) _
        (argument_fits h.tree roots h.scope.names others h types q (typed h y) v w (known_meant task roots h place y parts.0).known (not-false _ here.0) fit.0 parted.0
        (λ asked r own parent same. agree 0 asked r own parent same) got st) (λ a w st good.
        after result (values h (map (put_in types) ps) es w) (λ vs. given (a ∷ vs))
        (args_are types ps others es wr.1 (all_right KeepsLimit (parts_of_expression y) (parts_of_expressions es) l) parts.1 (omega (arith, c)) here.1 fit.1 parted.1
        (λ i. agree (suc i)) w st) (λ vs w st goods. (st, (good, goods)))))

  pub call_is : (name : Name) (es : Expressions) → AreWritten es → All KeepsLimit (parts_of_expressions es) → first_in_args h.tree task h.scope es ≡ None →
      first_of_call h.tree task h.scope (calling name (known_types h.tree h.scope es)) ≡ None → (u : State) → State_fits u →
      KeepsFit h.tree roots h.scope.names (ArgumentsFit h.tree roots (task_named h.tree name)) (values h (params_at h.tree h.scope (task_named h.tree name) es) es u)
  call_is name es wr l e c u st =
      let untold = call_untold name es l e c in
      arguments_fit task roots h place u.names st.agree name es e untold.counted untold.stand untold.parted wr u refl
      (args_are (types_of h.tree h.scope es) (param_types h.tree (task_named h.tree name)) (scope_of h.tree (task_named h.tree name)).names es wr l e
      untold.counted untold.stand untold.fit untold.parted untold.agree u st)
