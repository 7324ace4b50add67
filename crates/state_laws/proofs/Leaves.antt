-- Statements that change no name and no root: assertions, prints, calls, and what is returned.
use Rattle.std.proofs.Common.{List, [], ◌∷◌, None, Option, Some, false, true, refl, sym, subst, ◌≡◌, map}
use Rattle.std.proofs.lemmas.Bool.{not-false, or_parts}
use Rattle.std.proofs.lemmas.List.Elements.{All-nil}
use Rattle.std.specs.List.{All}
use Rattle.std.specs.Prelude.{is_none, is_some, ℕ, ◌++◌}
use Rattle.plain_values.proofs.Plain.{option_or_parts}
use Rattle.regent_tree.specs.Accesses.{converted, space_in}
use Rattle.regent_tree.specs.Evaluation.{called, typed, value, values}
use Rattle.regent_tree.specs.Execution.{changing, goes_on, returned}
use Rattle.regent_tree.specs.Laws.{Shape}
use Rattle.regent_tree.specs.Limits.{KeepsLimit, parts_of_expression, parts_of_expressions}
use Rattle.regent_tree.specs.Printing.{printed}
use Rattle.regent_tree.specs.Running.{Here, State, fault, given, if_true, ◌>>=◌}
use Rattle.regent_tree.specs.StaticTypes.{task_named}
use Rattle.regent_tree.specs.Syntax.{Expression, Expressions, Name, TaskTree, Tree, an_expr, assert_form, call_form, no_expr, print_form, return_form}
use Rattle.regent_tree.specs.Typing.{params_at, result_type}
use Rattle.regent_tree.specs.Values.{Value, a_truth, number_of, truth_of}
use Rattle.regent_tree.specs.declared.outcome.FaultKind.TheVariants.{AssertFailed}
use Rattle.regent_tree.specs.declared.types.NumberTerm.TheVariants as number
use Rattle.regent_tree.specs.declared.types.TypeTerm.{TypeTerm}
use Rattle.regent_tree.specs.declared.types.TypeTerm.TheVariants as typed_as
use Rattle.regent_tree.specs.declared.typing.StaticType.TheVariants.{Unknown as unknown_type}
use Rattle.check_rules.specs.first.FirstInExpressions.{first_in_args, first_in_expression, first_of_call}
use Rattle.check_rules.specs.rules.Standing.{stands, typed_spot}
use Rattle.check_rules.specs.rules.Statements.{known_result}
use Rattle.check_rules.specs.rules.Types.{is_ill_typed_at_place}
use Rattle.check_rules.specs.types.Declarations.{is_no_result_type}
use Rattle.check_rules.specs.types.Fitting.{fits, fits_known}
use Rattle.check_rules.specs.types.KnownTypes.{known_type, known_types}
use Rattle.check_rules.specs.types.TypedForms.{calling}
use Rattle.check_laws.proofs.Parts.{contrary}
use Rattle.check_laws.proofs.Variables.{parts_of_form}
use Rattle.expression_laws.specs.Writing.{AreWritten, IsWritten}
use Rattle.statement_laws.proofs.Leaves.{args_told, form_parts}
use Rattle.state_laws.specs.Going.{IsPlaceOfRun}
use Rattle.state_laws.specs.Laws.{FormFits}
use Rattle.state_laws.proofs.Going.{either_fits, state_here, store_here, then_fits}
use Rattle.value_laws.specs.Fitting.{Fits, IsGoal, fits_index, fits_integer, fits_nothing, fits_truth}
use Rattle.value_laws.specs.Keeping.{KeepsFit, StateFits}
use Rattle.value_laws.proofs.Conversions.{converted_fits}
use Rattle.value_laws.proofs.Ends.{after}
use Rattle.value_laws.proofs.Limits.{all_left, all_right}
use Rattle.value_laws.proofs.Types.{known, known_meant}
use Rattle.value_laws.proofs.Values.{call_is, called_fits, value_is}

-- what fits a result type needs no roots and no names
pub result_anywhere : (tree : Tree) (r : Option TypeTerm) (roots : List Shape) (names : _) (v : Value) → is_no_result_type r ≡ false →
    Fits roots names (result_type tree r) v → Fits [] [] (result_type tree r) v
result_anywhere tree None roots names v e is = fits_nothing
result_anywhere tree (Some (typed_as.Number number.Int32)) roots names v e (fits_integer f) = fits_integer f
result_anywhere tree (Some (typed_as.Number number.Int64)) roots names v e (fits_integer f) = fits_integer f
result_anywhere tree (Some (typed_as.Number (number.Index k))) roots names v e (fits_index f) = fits_index f
result_anywhere tree (Some typed_as.Truth) roots names v e fits_truth = fits_truth
result_anywhere tree (Some (typed_as.Pointer p)) roots names v e is = absurd (contrary e)
result_anywhere tree (Some (typed_as.Ispace k)) roots names v e is = absurd (contrary e)
result_anywhere tree (Some (typed_as.Region k u)) roots names v e is = absurd (contrary e)
result_anywhere tree (Some (typed_as.Partition d r c)) roots names v e is = absurd (contrary e)

-- a value that fits a known result type fits the type
result_fits : (tree : Tree) (r : Option TypeTerm) (from : _) (known : _) → is_no_result_type r ≡ false → (r ≡ None → ⊥) → fits known from (known_result tree r) ≡ true →
    fits_known known from (result_type tree r) ≡ true
result_fits tree None from known e some f = absurd (some refl)
result_fits tree (Some (typed_as.Number number.Int32)) from known e some f = f
result_fits tree (Some (typed_as.Number number.Int64)) from known e some f = f
result_fits tree (Some (typed_as.Number (number.Index k))) from known e some f = f
result_fits tree (Some typed_as.Truth) from known e some f = f
result_fits tree (Some (typed_as.Pointer p)) from known e some f = absurd (contrary e)
result_fits tree (Some (typed_as.Ispace k)) from known e some f = absurd (contrary e)
result_fits tree (Some (typed_as.Region k u)) from known e some f = absurd (contrary e)
result_fits tree (Some (typed_as.Partition d r c)) from known e some f = absurd (contrary e)

module _ (task : TaskTree) where
  -- ---- expressions in statements

  pub evaluates : (roots : List Shape) (h : Here) (r : IsPlaceOfRun task roots h) (y : Expression) → IsWritten y → All KeepsLimit (parts_of_expression y) →
      first_in_expression h.tree task h.scope y ≡ None → (u : State) → StateFits h.tree roots h.scope.names u →
      KeepsFit h.tree roots h.scope.names (Fits roots h.scope.names (typed h y)) (value h y u)
  evaluates roots h r y wr limits told u st = value_is task roots h r.place y wr limits told u st

  pub assert_fits : (y : Expression) → FormFits task (assert_form y)
  assert_fits y roots h r e w wr limits u st =
      let parts = form_parts h.tree task h.scope (assert_form y) e in
      then_fits h.tree roots r.place.rooted h.scope.names h.scope.names h.result (value h y u) (λ v. if_true (truth_of v) (given goes_on) (fault h AssertFailed))
      (evaluates roots h r y wr limits (option_or_parts (first_in_expression h.tree task h.scope y) _ parts.heads).0 u st) (λ v w st is.
      either_fits h.tree roots r.place.rooted h.scope.names h.result (truth_of v) (given goes_on) (fault h AssertFailed) w
      (state_here h.tree roots r.place.rooted h.scope.names w st) (store_here h.tree roots r.place.rooted w.store st.store))

  -- values that aren't converted
  values_any : (roots : List Shape) (h : Here) (r : IsPlaceOfRun task roots h) (es : Expressions) → AreWritten es → All KeepsLimit (parts_of_expressions es) →
      first_in_args h.tree task h.scope es ≡ None → (u : State) → StateFits h.tree roots h.scope.names u →
      KeepsFit h.tree roots h.scope.names (λ vs. Unit {0}) (values h [] es u)
  values_any roots h r no_expr wr limits told u st = (st, tt)
  values_any roots h r (an_expr y es) wr limits told u st =
      let parts = option_or_parts (first_in_expression h.tree task h.scope y) _ told in
      after (λ vs. Unit {0}) (value h y u) (λ v. converted h (typed h y) unknown_type [] v >>= λ a. values h [] es >>= λ vs. given (a ∷ vs))
      (evaluates roots h r y wr.0 (all_left KeepsLimit (parts_of_expression y) (parts_of_expressions es) limits) parts.0 u st) (λ v w st is.
      after (λ vs. Unit {0}) (values h [] es w) (λ vs. given (v ∷ vs))
      (values_any roots h r es wr.1 (all_right KeepsLimit (parts_of_expression y) (parts_of_expressions es) limits) parts.1 w st) (λ vs w st is. (st, tt)))

  pub print_fits : (alias : Option Name) (format : List ℕ) (es : Expressions) → FormFits task (print_form alias format es)
  print_fits alias format es roots h r e w wr limits u st =
      let parts = form_parts h.tree task h.scope (print_form alias format es) e in
      then_fits h.tree roots r.place.rooted h.scope.names h.scope.names h.result (values h [] es u) (λ vs. changing (λ s. record s { text = s.text ++ printed format (map number_of vs) }))
      (values_any roots h r es wr limits (args_told h.tree task h.scope es parts.heads) u st) (λ vs w st is.
      state_here h.tree roots r.place.rooted h.scope.names (record w { text = w.text ++ printed format (map number_of vs) })
      (record { names = st.names; counted = st.counted; agree = st.agree; store = st.store }))

  pub call_fits : (f : Name) (es : Expressions) → FormFits task (call_form f es)
  call_fits f es roots h r e w wr limits u st =
      let parts = form_parts h.tree task h.scope (call_form f es) e in
      let types = params_at h.tree h.scope (task_named h.tree f) es in
      then_fits h.tree roots r.place.rooted h.scope.names h.scope.names h.result (values h types es u) (λ vs. called h f vs >>= λ v. given goes_on)
      (call_is task roots h r.place f es wr limits (args_told h.tree task h.scope es parts.heads)
      (option_or_parts (first_of_call h.tree task h.scope (calling f (known_types h.tree h.scope es))) _ parts.calls).0 u st) (λ vs w st are.
      then_fits h.tree roots r.place.rooted h.scope.names h.scope.names h.result (called h f vs w) (λ v. given goes_on)
      (called_fits task roots h r.place f vs w st are) (λ v w st is. state_here h.tree roots r.place.rooted h.scope.names w st))

  pub return_fits : (y : Option Expression) → FormFits task (return_form y)
  return_fits None roots h r e w wr limits u st = (
    store_here h.tree roots r.place.rooted u.store st.store,
    subst (λ t. Fits [] [] t (a_truth false)) (sym r.result) (none task.result (form_parts h.tree task h.scope (return_form None) e).returns),
  )
    where
      none : (q : Option TypeTerm) → is_some q ≡ false → Fits [] [] (result_type h.tree q) (a_truth false)
      none None e = fits_nothing
      none (Some t) e = absurd (contrary e)
  return_fits (Some y) roots h r e w wr limits u st =
      let parts = form_parts h.tree task h.scope (return_form (Some y)) e in
      let told = (option_or_parts (first_in_expression h.tree task h.scope y) _ parts.heads).0 in
      let k = known task roots h r.place y told in
      let stood = (or_parts (is_ill_typed_at_place h.scope.known (stands (known_type h.tree h.scope y) (typed_spot (known_result h.tree task.result)))) false
      (parts_of_form h.tree task h.scope r.place.sound r.place.scope (return_form (Some y)) e).4).0 in
      let fit = result_fits h.tree task.result (known_type h.tree h.scope y) h.scope.known r.sound_result (some_there task.result parts.returns) (not-false _ stood) in
      then_fits h.tree roots r.place.rooted h.scope.names h.scope.names h.result (value h y u) (λ v. converted h (typed h y) h.result [] v >>= λ a. given (returned a))
      (evaluates roots h r y wr limits told u st) (λ v w st is.
      then_fits h.tree roots r.place.rooted h.scope.names h.scope.names h.result (converted h (typed h y) h.result [] v w) (λ a. given (returned a))
      (converted_fits h.tree roots h.scope.names h (typed h y) h.result [] v w (known_meant task roots h r.place y told).known
      (subst (λ t. fits_known h.scope.known t h.result ≡ true) k.1 (subst (λ t. fits_known h.scope.known (known_type h.tree h.scope y) t ≡ true) (sym r.result) fit))
      (All-nil (IsGoal roots (space_in h.result))) is st) (λ a w st is. (
        store_here h.tree roots r.place.rooted w.store st.store,
        subst (λ t. Fits [] [] t a) (sym r.result)
            (result_anywhere h.tree task.result roots h.scope.names a r.sound_result (subst (λ t. Fits roots h.scope.names t a) r.result is)),
      )))
    where
      some_there : (q : Option TypeTerm) → is_none q ≡ false → q ≡ None → ⊥
      some_there None e same = absurd (contrary e)
      some_there (Some t) e same = absurd cc
