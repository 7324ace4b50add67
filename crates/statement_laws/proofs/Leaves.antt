-- Statements without a block and without a new name.
use Rattle.check_rules.proofs.Untold.{rule_none}
use Rattle.plain_values.proofs.Plain.{option_or_parts}
use Rattle.std.proofs.Common.{List, [], ◌∷◌, ◌++◌, None, Option, Some, false, true, refl, sym, subst, ℕ, ◌≡◌, ◌||◌, not, get_or, map, flat_map}
use Rattle.std.proofs.lemmas.Bool.{and_parts, or_parts, not-false}
use Rattle.std.specs.List.{list_any}
use Rattle.regent_tree.specs.Accesses.{converted}
use Rattle.regent_tree.specs.Evaluation.{called, named_value, typed, value, values}
use Rattle.regent_tree.specs.Execution.{changing, fill_fields, goes_on, returned, right_side, write_to}
use Rattle.regent_tree.specs.Lookup.{has_field, is_bound, type_named}
use Rattle.regent_tree.specs.Printing.{printed}
use Rattle.regent_tree.specs.Running.{Here, State, and_then, fault, given, if_true, ◌>>=◌}
use Rattle.regent_tree.specs.Scopes.{Scope, bound_to}
use Rattle.regent_tree.specs.StaticTypes.{task_named}
use Rattle.regent_tree.specs.Syntax.{Expression, Expressions, Form, Name, Steps, TaskTree, Tree, assert_form, assign_form, at_step, call_form, field_step, fill_form, no_step, print_form, return_form, an_expr, no_expr}
use Rattle.regent_tree.specs.Typing.{params_at}
use Rattle.regent_tree.specs.Values.{Value, a_truth, number_of, region_of, truth_of}
use Rattle.regent_tree.specs.declared.outcome.FaultKind.TheVariants.{AssertFailed}
use Rattle.regent_tree.specs.declared.rights.Access.TheVariants.{Write}
use Rattle.regent_tree.specs.declared.statement.How.{How}
use Rattle.regent_tree.specs.declared.statement.How.TheVariants as how
use Rattle.regent_tree.specs.declared.typing.StaticType.{StaticType}
use Rattle.regent_tree.specs.declared.typing.StaticType.TheVariants.{Index as index_type, Integer as integer_type, Ispace as ispace_type, Nothing as no_type, Partition as partition_type, Pointer as pointer_type, Region as region_type, Truth as truth_type, Unknown as unknown_type}
use Rattle.std.specs.Option.{option_or}
use Rattle.regent_tree.specs.StaticTypes.{Reach}
use Rattle.regent_tree.specs.declared.facts.Term.{Term}
use Rattle.regent_tree.specs.declared.types.Kind.{Kind}
use Rattle.regent_tree.specs.declared.typing.Bound.{Bound}
use Rattle.check_rules.specs.Breaches.{has_no_type, wrong_initializer_at}
use Rattle.check_rules.specs.first.FirstInExpressions.{first_in_args, first_in_expression, first_in_target_steps, first_in_type, first_of_call, first_of_standing}
use Rattle.check_rules.specs.first.FirstInStatements.{first_in_targets, first_of_form, first_of_initializer}
use Rattle.check_rules.specs.rules.Formats.{misprints_form}
use Rattle.check_rules.specs.types.KnownTypes.{known_type}
use Rattle.check_rules.specs.types.Lookup.{names_a, region_has}
use Rattle.check_rules.specs.rules.Names.{unbound_name_in_form, is_unknown_region_field}
use Rattle.check_rules.specs.types.Parts.{listed}
use Rattle.check_rules.specs.rules.Privileges.{lacks, reductions_by, wanted_of_region, writes_by}
use Rattle.check_rules.specs.first.Rules.{first_in, rule_if}
use Rattle.check_rules.specs.types.Sorts.{is_region}
use Rattle.check_rules.specs.rules.Statements.{standing_in_form}
use Rattle.check_rules.specs.rules.Targets.{mistargets_form}
use Rattle.check_rules.specs.scopes.Visits.{call_of_form, declared_at, heads_of, initializer_at}
use Rattle.check_rules.specs.declared.rule.Rule.TheVariants as rule
use Rattle.check_laws.proofs.Parts.{surely}
use Rattle.std.proofs.Common.{ap, ◌∙◌}
use Rattle.regent_tree.specs.Typing.{result_type}
use Rattle.check_rules.proofs.Untold.{stand_none}
use Rattle.check_rules.specs.rules.Results.{misreturns}
use Rattle.check_rules.specs.rules.Statements.{known_result}
use Rattle.check_rules.specs.rules.Types.{is_ill_typed_at_place}
use Rattle.check_rules.specs.types.Fitting.{fits}
use Rattle.check_rules.specs.types.KnownTypes.{known_types}
use Rattle.check_rules.specs.types.Sorts.{is_unknown_type}
use Rattle.check_rules.specs.types.TypedForms.{calling}
use Rattle.statement_laws.proofs.Returns.{nothing_returned, returned_is}
use Rattle.expression_laws.proofs.Fitting.{call_named}
use Rattle.expression_laws.proofs.Passing.{call_fits}
use Rattle.expression_laws.specs.Kinds.{IsOfType, is_region_of}
use Rattle.fact_laws.specs.Regions.{Interpretation, StandsFor}
use Rattle.expression_laws.specs.Sound.{ArePassed, Instance, IsSoundState, KeepsSound}
use Rattle.statement_laws.specs.Steady.{GoesOnSound}
use Rattle.expression_laws.specs.Writing.{AreWritten, IsWritten}
use Rattle.expression_laws.proofs.Names.{named_fits}
use Rattle.expression_laws.proofs.Operators.{after, converted_passes, weaker}
use Rattle.statement_laws.specs.Places.{FormGoes, IsReady}
use Rattle.statement_laws.proofs.Going.{either_goes, stays_goes, stays_here, then_goes}
use Rattle.statement_laws.proofs.Loops.{evaluates}
use Rattle.expression_laws.proofs.Calls.{call_within}
use Rattle.expression_laws.proofs.Values.{called_is, values_are}
use Rattle.regent_tree.specs.Accesses.{aimed}
use Rattle.regent_tree.specs.Evaluation.{stepped}
use Rattle.regent_tree.specs.Execution.{before_last, last_field, write_field}
use Rattle.regent_tree.specs.Syntax.{access_expr, do_form, for_in_form, for_to_form, if_form, var_form, while_form}
use Rattle.regent_tree.specs.Typing.{stepped_type, type_of_element, type_of_field}
use Rattle.check_rules.specs.first.FirstInExpressions.{first_of_step, first_of_taking}
use Rattle.check_rules.specs.types.KnownTypes.{takings, known_type_after_step, known_type_after_steps}
use Rattle.check_rules.specs.rules.Privileges.{wanted_of_last}
use Rattle.check_rules.specs.types.TypedForms.{element_of, field_of}
use Rattle.check_rules.specs.types.Sorts.{is_space}
use Rattle.check_rules.specs.scopes.Sound.{IsSound}
use Rattle.check_rules.specs.rules.Targets.{ends_in_element, ends_in_no_place}
use Rattle.check_laws.specs.SoundScopes.{IsKnown, IsSoundScope}
use Rattle.expression_laws.proofs.Knowing.{known_as_meant}
use Rattle.check_laws.proofs.Parts.{element_known, field_known}
use Rattle.expression_laws.specs.Writing.{AreStepped}
use Rattle.expression_laws.proofs.Names.{said_named}
use Rattle.statement_laws.proofs.Statements.{IsLeaf}
use Rattle.expression_laws.proofs.Writes.{access_how, fill_is, target_is}

-- what isn't told of a statement
pub record IsFlawlessForm (tree : Tree) (task : TaskTree) (s : Scope) (form : Form) : Type 0 where
  pub heads : first_in (first_in_expression tree task s) (heads_of s.names form) ≡ None
  pub targets : first_in_targets tree task s form ≡ None
  pub named : unbound_name_in_form tree s.names form ≡ false
  pub calls : first_in (first_of_call tree task s) (call_of_form tree s form) ≡ None
  pub targeted : mistargets_form tree task s form ≡ false
  pub writes : lacks tree task s (writes_by tree s form) ≡ false
  pub reduces : lacks tree task s (reductions_by tree s form) ≡ false
  pub returns : misreturns task form ≡ false
  pub stand : list_any (is_ill_typed_at_place s.known) (standing_in_form tree task s form) ≡ false

pub form_parts : (tree : Tree) (task : TaskTree) (s : Scope) (form : Form) → first_of_form tree task s form ≡ None → IsFlawlessForm tree task s form
form_parts tree task s form e =
    let a = option_or_parts (first_in (first_in_type tree s.names) (declared_at form)) _ e in
    let b = option_or_parts (rule_if (has_no_type form) rule.Type) _ a.1 in
    let c = option_or_parts (first_in (first_in_expression tree task s) (heads_of s.names form)) _ b.1 in
    let d = option_or_parts (first_in_targets tree task s form) _ c.1 in
    let f = option_or_parts (rule_if (unbound_name_in_form tree s.names form) rule.Name) _ d.1 in
    let g = option_or_parts (first_in (first_of_initializer tree task s) (initializer_at form)) _ f.1 in
    let h = option_or_parts (first_in (first_of_call tree task s) (call_of_form tree s form)) _ g.1 in
    let i = option_or_parts (first_in (first_of_standing s.known) (standing_in_form tree task s form)) _ h.1 in
    let k = option_or_parts (rule_if (wrong_initializer_at tree s form) rule.Place) _ i.1 in
    let l = option_or_parts (rule_if (mistargets_form tree task s form) rule.Target) _ k.1 in
    let p = option_or_parts (rule_if (misprints_form tree s form) rule.Format) _ l.1 in
    let w = option_or_parts (rule_if (lacks tree task s (writes_by tree s form)) rule.Write) _ p.1 in
    let r = option_or_parts (rule_if (lacks tree task s (reductions_by tree s form)) rule.Reduce) _ w.1 in
    let z = option_or_parts (rule_if (misreturns task form) rule.Return) _ r.1 in record {
      heads = c.0;
      targets = d.0;
      named = rule_none (unbound_name_in_form tree s.names form) rule.Name f.0;
      calls = h.0;
      targeted = rule_none (mistargets_form tree task s form) rule.Target l.0;
      writes = rule_none (lacks tree task s (writes_by tree s form)) rule.Write w.0;
      reduces = rule_none (lacks tree task s (reductions_by tree s form)) rule.Reduce r.0;
      returns = rule_none (misreturns task form) rule.Return z.0;
      stand = stand_none s.known (standing_in_form tree task s form) i.0;
    }

-- arguments of which nothing is told, in a list or not
pub args_told : (tree : Tree) (task : TaskTree) (s : Scope) (es : Expressions) → first_in (first_in_expression tree task s) (listed es) ≡ None → first_in_args tree task s es ≡ None
args_told tree task s no_expr e = refl
args_told tree task s (an_expr y es) e =
    let parts = option_or_parts (first_in_expression tree task s y) _ e in
    λ j. option_or (parts.0 j) (args_told tree task s es parts.1 j)

pub record IsRegionType (t : StaticType) : Type 0 where
  pub kind : Kind
  pub space : ℕ
  pub arguments : List Reach
  pub term : Term
  pub is : t ≡ region_type kind space arguments term

pub region_like : (t : StaticType) → is_region t ≡ true → IsRegionType t
region_like (region_type k s args t) e = record { kind = k; space = s; arguments = args; term = t; is = refl }
region_like (integer_type w) e = absurd cc
region_like truth_type e = absurd cc
region_like (index_type k) e = absurd cc
region_like (pointer_type k s args terms) e = absurd cc
region_like (ispace_type k) e = absurd cc
region_like (partition_type d r p) e = absurd cc
region_like no_type e = absurd cc
region_like unknown_type e = absurd cc

module _ (task : TaskTree) (args : List Value) (roots : ℕ) where
  abbrev inst : Here → Instance
  inst h = record { tree = h.tree; calls = h.calls; task = task; args = args; roots = roots }

  assert_goes : (y : Expression) (h : Here) → FormGoes task args roots h (assert_form y)
  assert_goes y h m r e w wr u st =
      let parts = form_parts h.tree task h.scope (assert_form y) e in
      then_goes (inst h) m h.scope h.scope.next h.scope (value h y u) (λ v. if_true (truth_of v) (given goes_on) (fault h AssertFailed))
      (evaluates task args roots h m y r wr (option_or_parts (first_in_expression h.tree task h.scope y) _ parts.heads).0 u st) (λ v w st is.
      either_goes (inst h) m h.scope h.scope.next h.scope (truth_of v) (given goes_on) (fault h AssertFailed) w (stays_here (inst h) m h.scope w r.place st) (record { covered = st.covered; depth = λ e. absurd cc }))

  all_values : (h : Here) (m : Interpretation) (types : List StaticType) (es : Expressions) → IsReady task args roots m h → AreWritten es → first_in_args h.tree task h.scope es ≡ None →
      (u : State) → IsSoundState (inst h) m h.scope u → KeepsSound (inst h) m h.scope (ArePassed m h.tree h.scope types es) (values h types es u)
  all_values h m types es r wr told u st = values_are task args roots m h r.sound r.sound_task r.scope r.static.well_scoped r.place r.answers types es wr told u st

  print_goes : (alias : Option Name) (format : List ℕ) (es : Expressions) (h : Here) → FormGoes task args roots h (print_form alias format es)
  print_goes alias format es h m r e w wr u st =
      let parts = form_parts h.tree task h.scope (print_form alias format es) e in
      then_goes (inst h) m h.scope h.scope.next h.scope (values h [] es u) (λ vs. changing (λ s. record s { text = s.text ++ printed format (map number_of vs) }))
      (all_values h m [] es r wr (args_told h.tree task h.scope es parts.heads) u st) (λ vs w st is.
      stays_here (inst h) m h.scope (record w { text = w.text ++ printed format (map number_of vs) }) r.place
      (record { names = st.names; counted = st.counted; rooted = st.rooted; grown = st.grown; covered = st.covered }))

  call_goes : (f : Name) (es : Expressions) (h : Here) → FormGoes task args roots h (call_form f es)
  call_goes f es h m r e w wr u st =
      let parts = form_parts h.tree task h.scope (call_form f es) e in
      let types = params_at h.tree h.scope (task_named h.tree f) es in
      then_goes (inst h) m h.scope h.scope.next h.scope (values h types es u) (λ vs. called h f vs >>= λ v. given goes_on)
      (all_values h m types es r wr (args_told h.tree task h.scope es parts.heads) u st) (λ vs w st is.
      then_goes (inst h) m h.scope h.scope.next h.scope (called h f vs w) (λ v. given goes_on)
      (let told = args_told h.tree task h.scope es parts.heads in
      let call = (option_or_parts (first_of_call h.tree task h.scope (calling f (known_types h.tree h.scope es))) _ parts.calls).0 in
      called_is task args roots m h r.sound r.sound_task r.scope r.static.well_scoped r.place r.answers f vs w (call_named h.tree task h.scope (calling f (known_types h.tree h.scope es)) call)
      (call_fits task args roots m h r.sound r.sound_task r.scope r.place f es vs w wr told call is st) (call_within task args roots m h r.sound r.sound_task r.scope r.place f es vs told call is) st) (λ v w st is.
      stays_here (inst h) m h.scope w r.place st))

  -- ---- what is returned

  return_goes : (y : Option Expression) (h : Here) → FormGoes task args roots h (return_form y)
  return_goes None h m r e w wr u st =
      let parts = form_parts h.tree task h.scope (return_form None) e in
      record { is_of = nothing_returned h.tree task.result parts.returns; grown = st.grown; covered = st.covered }
  return_goes (Some y) h m r e w wr u st =
      let parts = form_parts h.tree task h.scope (return_form (Some y)) e in
      let told = (option_or_parts (first_in_expression h.tree task h.scope y) _ parts.heads).0 in
      let known = known_as_meant h.tree task h.scope y r.sound r.scope told in
      let fit = subst (λ t. fits h.scope.known t (known_result h.tree task.result) ≡ true) known.1 (not-false _ (or_parts _ false parts.stand).0) in
      then_goes (inst h) m h.scope h.scope.next h.scope (value h y u) (λ v. converted h (typed h y) h.result [] v >>= λ a. given (returned a))
      (evaluates task args roots h m y r wr told u st) (λ v w st is.
      subst (λ t. GoesOnSound (inst h) m h.scope.next h.scope (and_then (converted h (typed h y) t [] v w) (λ a. given (returned a)))) (sym r.result)
      (then_goes (inst h) m h.scope h.scope.next h.scope (converted h (typed h y) (result_type h.tree task.result) [] v w) (λ a. given (returned a))
      (returned_is (inst h) m h.scope h task.result (typed h y) v w r.sound_task.result parts.returns (ap is_unknown_type (sym known.1) ∙ known.0.known) fit is.is_of st) (λ a w st is.
      record { is_of = is; grown = st.grown; covered = st.covered })))

  fields_there : (tree : Tree) (names : List Bound) (n : Name) (k : Kind) (sp : ℕ) (types : List Reach) (t : Term) (fs : List Name) → type_named names n ≡ region_type k sp types t →
      list_any (is_unknown_region_field tree names n) fs ≡ false → list_any (λ f. not (has_field tree sp f)) fs ≡ false
  fields_there tree names n k sp types t [] same e = refl
  fields_there tree names n k sp types t (f ∷ fs) same e =
      let parts = or_parts (is_unknown_region_field tree names n f) _ e in
      let here = (or_parts (not (names_a is_region names n)) _ parts.0).1 in
      let has = subst (λ q. not (region_has tree q f) ≡ false) same here in
      λ j. has j || fields_there tree names n k sp types t fs same parts.1 j

  fill_goes : (n : Name) (fs : List Name) (y : Expression) (h : Here) → FormGoes task args roots h (fill_form n fs y)
  fill_goes n fs y h m r e w wr u st =
      let parts = form_parts h.tree task h.scope (fill_form n fs y) e in
      let named = or_parts (not (names_a is_region h.scope.names n)) _ parts.named in
      let both = and_parts (is_bound h.scope.names n) _ (not-false _ named.0) in
      let region = region_like (type_named h.scope.names n) (surely is_region (type_named h.scope.names n) (r.scope.types n both.0).known both.1) in
      let there = fields_there h.tree h.scope.names n region.kind region.space region.arguments region.term fs region.is named.1 in
      let lacking = subst (λ t. lacks h.tree task h.scope (flat_map (wanted_of_region h.tree Write t) fs) ≡ false) region.is parts.writes in
      then_goes (inst h) m h.scope h.scope.next h.scope (value h y u) (λ v. named_value h n >>= λ a. fill_fields h (typed h y) v (type_named h.scope.names n) (region_of a) fs)
      (evaluates task args roots h m y r wr.0 (option_or_parts (first_in_expression h.tree task h.scope y) _ parts.heads).0 u st) (λ v w st is.
      let a = get_or w.names (bound_to h.scope.names n).place (a_truth false) in
      let fits = (named_fits h.scope r.scope m w.names st.names n both.0).is_of in
      let stands = region_stands m region.kind region.space region.arguments region.term a (subst (λ t. IsOfType m t a) region.is fits) in
      subst (λ t. GoesOnSound (inst h) m h.scope.next h.scope (fill_fields h (typed h y) v t (region_of a) fs w)) (sym region.is)
      (stays_goes (inst h) m h.scope _ r.place
      (fill_is task args roots m h r.sound r.sound_task r.scope r.static.well_scoped r.place r.answers (typed h y) v region.kind region.space region.arguments region.term (region_of a) fs w there lacking stands st)))
    where
      region_stands : (m : Interpretation) (k : Kind) (sp : ℕ) (types : List Reach) (t : Term) (v : Value) → IsOfType m (region_type k sp types t) v → StandsFor m t (region_of v)
      region_stands m k sp types t v (is_region_of s) = s

  -- ---- assignments to fields

  -- the type of a target of which nothing is told is known
  target_known : (h : Here) (sound : IsSound h.tree) (scope : IsSoundScope h.scope) (t : StaticType) (steps : Steps) → IsKnown h.scope t →
      first_in_target_steps h.tree task h.scope t steps ≡ None → IsKnown h.scope (known_type_after_steps h.tree h.scope t steps)
  target_known h sound scope t no_step k e = k
  target_known h sound scope t (field_step f no_step) k e = field_known h.tree h.scope t f sound k e
  target_known h sound scope t (field_step f (field_step g rest)) k e =
      let parts = option_or_parts (first_of_step h.tree task h.scope (field_of t f)) _ e in
      let here = option_or_parts (first_of_taking h.tree (field_of t f)) _ parts.0 in
      target_known h sound scope (known_type_after_step h.tree (field_of t f) (type_of_field h.tree t f)) (field_step g rest) (field_known h.tree h.scope t f sound k here.0) parts.1
  target_known h sound scope t (field_step f (at_step y rest)) k e =
      let parts = option_or_parts (first_of_step h.tree task h.scope (field_of t f)) _ e in
      let here = option_or_parts (first_of_taking h.tree (field_of t f)) _ parts.0 in
      target_known h sound scope (known_type_after_step h.tree (field_of t f) (type_of_field h.tree t f)) (at_step y rest) (field_known h.tree h.scope t f sound k here.0) parts.1
  target_known h sound scope t (at_step y rest) k e =
      let parts = option_or_parts (first_in_expression h.tree task h.scope y) _ e in
      let key = known_as_meant h.tree task h.scope y sound scope parts.0 in
      let more = option_or_parts (first_of_step h.tree task h.scope (element_of t (known_type h.tree h.scope y))) _ parts.1 in
      let here = option_or_parts (first_of_taking h.tree (element_of t (known_type h.tree h.scope y))) _ more.0 in
      target_known h sound scope (known_type_after_step h.tree (element_of t (known_type h.tree h.scope y)) (type_of_element h.scope t y)) rest
      (element_known h.tree h.scope t (known_type h.tree h.scope y) y k key.0.known here.0) more.1

  -- the right side gives something
  right_any : (n : Name) (steps : Steps) (k : How) (y : Expression) (h : Here) (m : Interpretation) → IsReady task args roots m h → IsWritten y →
      first_in_expression h.tree task h.scope y ≡ None → (u : State) → IsSoundState (inst h) m h.scope u → KeepsSound (inst h) m h.scope (λ v. Unit {0}) (right_side h n steps k y u)
  right_any n steps (how.Reduce o) y h m r wr told u st =
      weaker (inst h) m h.scope (value h y u) (evaluates task args roots h m y r wr told u st) (λ v k. tt)
  right_any n steps how.Set y h m r wr told u st =
      after (λ v. Unit {0}) (value h y u) (λ v. converted h (typed h y) (typed h (access_expr n steps)) [] v) (evaluates task args roots h m y r wr told u st) (λ v w st is.
      weaker (inst h) m h.scope (converted h (typed h y) (typed h (access_expr n steps)) [] v w)
      (converted_passes (inst h) m h.scope h (typed h y) (typed h (access_expr n steps)) [] v w st) (λ a k. tt))

  -- what an assignment lacks
  lacks_by : (h : Here) (n : Name) (steps : Steps) (k : How) (y : Expression) → IsFlawlessForm h.tree task h.scope (assign_form n steps k y) →
      lacks h.tree task h.scope (wanted_of_last h.tree (access_how k) (takings h.tree h.scope (type_named h.scope.names n) steps)) ≡ false
  lacks_by h n steps how.Set y parts = parts.writes
  lacks_by h n steps (how.Reduce o) y parts = parts.reduces

  ends_field : (h : Here) (n : Name) (steps : Steps) (y : Expression) → ends_in_no_place steps (known_type h.tree h.scope (access_expr n steps)) ≡ false →
      ends_in_element steps ≡ false
  ends_field h n steps y e = (or_parts (ends_in_element steps) (is_space (known_type h.tree h.scope (access_expr n steps))) e).0

  -- what is written to the last field of an access
  written_goes : (n : Name) (steps : Steps) (k : How) (y : Expression) (h : Here) (m : Interpretation) → IsReady task args roots m h → (steps ≡ no_step → ⊥) → AreStepped steps →
      IsFlawlessForm h.tree task h.scope (assign_form n steps k y) → ends_in_no_place steps (known_type h.tree h.scope (access_expr n steps)) ≡ false →
      (v : Value) (u : State) → IsSoundState (inst h) m h.scope u →
      GoesOnSound (inst h) m h.scope.next h.scope (and_then (stepped h (type_named h.scope.names n) (get_or u.names (bound_to h.scope.names n).place (a_truth false)) (before_last steps) u)
      (λ q. write_field h (stepped_type h.tree h.scope (type_named h.scope.names n) (before_last steps)) (last_field steps) k v (aimed q)))
  written_goes n steps k y h m r some wr parts ends v u st =
      let targets = option_or_parts (rule_if (not (is_bound h.scope.names n)) rule.Name) _ parts.targets in
      let bound = not-false (is_bound h.scope.names n) (rule_none _ rule.Name targets.0) in
      let type = type_named h.scope.names n in
      stays_goes (inst h) m h.scope _ r.place
      (target_is task args roots m h r.sound r.sound_task r.scope r.static.well_scoped r.place r.answers k type steps v (get_or u.names (bound_to h.scope.names n).place (a_truth false)) u some wr
      (r.scope.types n bound) (said_named h.scope r.scope r.static.well_scoped n bound).args (ends_field h n steps y ends) targets.1 (lacks_by h n steps k y parts)
      (named_fits h.scope r.scope m u.names st.names n bound).is_of st)

  assign_goes : (n : Name) (steps : Steps) (k : How) (y : Expression) → (steps ≡ no_step → ⊥) → (h : Here) → FormGoes task args roots h (assign_form n steps k y)
  assign_goes n no_step k y some h m r e w wr u st = absurd (some refl)
  assign_goes n (field_step f rest) k y some h m r e w wr u st =
      let parts = form_parts h.tree task h.scope (assign_form n (field_step f rest) k y) e in
      then_goes (inst h) m h.scope h.scope.next h.scope (right_side h n (field_step f rest) k y u) (λ v. write_to h n (field_step f rest) k v)
      (right_any n (field_step f rest) k y h m r wr.0 (option_or_parts (first_in_expression h.tree task h.scope y) _ parts.heads).0 u st) (λ v w st is.
      written_goes n (field_step f rest) k y h m r some wr.1 parts (or_parts _ _ parts.targeted).0 v w st)
  assign_goes n (at_step z rest) k y some h m r e w wr u st =
      let parts = form_parts h.tree task h.scope (assign_form n (at_step z rest) k y) e in
      then_goes (inst h) m h.scope h.scope.next h.scope (right_side h n (at_step z rest) k y u) (λ v. write_to h n (at_step z rest) k v)
      (right_any n (at_step z rest) k y h m r wr.0 (option_or_parts (first_in_expression h.tree task h.scope y) _ parts.heads).0 u st) (λ v w st is.
      written_goes n (at_step z rest) k y h m r some wr.1 parts (or_parts _ _ parts.targeted).0 v w st)

  -- all forms but variables, and assignments to variables
  abbrev pub IsRest : Form → Type 0
  IsRest (var_form n t start) = Unit {0}
  IsRest (assign_form n no_step k y) = Unit {0}
  IsRest form = ⊥

  pub leaves_go : ((form : Form) (h : Here) → IsRest form → FormGoes task args roots h form) → (form : Form) (h : Here) → IsLeaf task args roots form → FormGoes task args roots h form
  leaves_go rest (var_form n t start) h leaf m r e w wr u st = rest (var_form n t start) h tt m r e w wr u st
  leaves_go rest (assign_form n no_step k y) h leaf m r e w wr u st = rest (assign_form n no_step k y) h tt m r e w wr u st
  leaves_go rest (assign_form n (field_step f steps) k y) h leaf m r e w wr u st = assign_goes n (field_step f steps) k y (λ q. absurd cc) h m r e w wr u st
  leaves_go rest (assign_form n (at_step z steps) k y) h leaf m r e w wr u st = assign_goes n (at_step z steps) k y (λ q. absurd cc) h m r e w wr u st
  leaves_go rest (fill_form f fields y) h leaf m r e w wr u st = fill_goes f fields y h m r e w wr u st
  leaves_go rest (assert_form y) h leaf m r e w wr u st = assert_goes y h m r e w wr u st
  leaves_go rest (print_form alias format es) h leaf m r e w wr u st = print_goes alias format es h m r e w wr u st
  leaves_go rest (call_form f es) h leaf m r e w wr u st = call_goes f es h m r e w wr u st
  leaves_go rest (return_form y) h leaf m r e w wr u st = return_goes y h m r e w wr u st
  leaves_go rest (if_form arms other) h leaf m r e w wr u st = absurd leaf
  leaves_go rest (while_form test body) h leaf m r e w wr u st = absurd leaf
  leaves_go rest (for_in_form demanded n domain body) h leaf m r e w wr u st = absurd leaf
  leaves_go rest (for_to_form demanded n from to body) h leaf m r e w wr u st = absurd leaf
  leaves_go rest (do_form body) h leaf m r e w wr u st = absurd leaf
