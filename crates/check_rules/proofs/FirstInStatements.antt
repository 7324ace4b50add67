-- The first rule that a statement breaches, against the test of each rule on it, and the first breach
-- in statements, against the lines on which each rule is breached.
use Rattle.std.proofs.Common.{◌≡◌, ℕ, Bool, true, false, ◌||◌, not, List, [], ◌∷◌, ◌++◌, refl, ap, sym, ◌∙◌}
use Rattle.std.specs.List.{list_all, list_any, flat_map}
use Rattle.std.specs.Option.{option_or}
use Rattle.std.proofs.lemmas.List.{append-nil}
use Rattle.std.proofs.lemmas.List.Concat.{flat_map-append}
use Rattle.std.proofs.lemmas.List.Folds.{list_any-append}
use Rattle.regent_tree.specs.Lookup.{has_task}
use Rattle.regent_tree.specs.Scopes.{Scope, past}
use Rattle.regent_tree.specs.Syntax.{Arms, Block, Expression, Form, Otherwise, Initializer, TaskTree, Tree, a_statement, an_arm, assert_form, assign_form, call_form, do_form, else_block, for_in_form, for_to_form, if_form, no_arm, no_else, no_statement, then_statement, var_form, while_form, access_expr}
use Rattle.regent_tree.specs.declared.rights.Wanted.{Wanted}
use Rattle.regent_tree.specs.declared.types.TypeTerm.{TypeTerm}
use Rattle.regent_tree.specs.declared.typing.Bound.{Bound}
use Rattle.check_rules.specs.Breaches.{has_no_type, wrong_initializer_at, miscounts_at, misfits_at, unbound_name_at, mispartitions_at, misplaces_at, wrong_pointer_at, mistypes_at, reads_at}
use Rattle.check_rules.specs.rules.Constraints.{breaks_constraint}
use Rattle.check_rules.specs.rules.Counts.{miscounts_call, miscounts_in_type}
use Rattle.check_rules.specs.types.Declarations.{params_of}
use Rattle.check_rules.specs.first.FirstInExpressions.{first_in_expression}
use Rattle.check_rules.specs.first.FirstInStatements.{first_in_arms, first_in_block, first_in_else, first_in_targets, first_of_demand, first_of_form, first_of_initializer, first_within, told_on}
use Rattle.check_rules.specs.rules.Formats.{misprints_form}
use Rattle.check_rules.specs.types.KnownTypes.{known_types}
use Rattle.check_rules.specs.launches.Shapes.{demands_interference, demands_no_launch}
use Rattle.check_rules.specs.rules.Names.{has_unbound_name, unbound_name_in_form, unbound_name_in_type, unbound_name_in_initializer, is_unknown_task}
use Rattle.check_rules.specs.rules.Partitions.{miscolours_in_type, miscolours_initializer, mispartitions_call, mispartitions_initializer}
use Rattle.check_rules.specs.types.Parts.{subexpressions}
use Rattle.check_rules.specs.rules.Places.{misplaces}
use Rattle.check_rules.specs.rules.Pointers.{takes_of_wild_in, wrong_region_in_type}
use Rattle.check_rules.specs.rules.Privileges.{lacks, may_do, read_steps, read_targets, reads_in, reads_in_initializer, reductions_by, rights_declared, wanted_by_call, writes_by}
use Rattle.check_rules.specs.rules.Results.{misreturns}
use Rattle.check_rules.specs.types.TypedForms.{Calling, TypedForm, call_in, calling, written_in}
use Rattle.check_rules.specs.rules.Spaces.{misfits_call, misfits_in_type}
use Rattle.check_rules.specs.rules.Standing.{Standing, standing_in_call}
use Rattle.check_rules.specs.rules.Statements.{standing_in_form}
use Rattle.check_rules.specs.rules.Targets.{mistargets_form}
use Rattle.check_rules.specs.rules.Types.{is_ill_typed_at_place}
use Rattle.check_rules.specs.scopes.Variables.{known_scope_after, known_scope_after_arms, known_scope_after_block, scope_in_count, scope_in_loop, types_in_initializer, written_in_initializer}
use Rattle.check_rules.specs.scopes.Visits.{Visit, any_written, call_of_form, calls_at, declared_at, heads_of, typed_forms_at, typed_forms_in, initializer_at, targets_of, visits_in, visits_in_arms, visits_in_else, visits_within}
use Rattle.check_rules.specs.declared.rule.Rule.{Rule}
use Rattle.check_rules.specs.declared.rule.Rule.TheVariants as rule
use Rattle.check_rules.proofs.Exchange.{Finding, Tells, any_finding, asked, asked_of_all, by_test, list_any_either, list_any_flat, list_any_never, list_any_same, not_all, only, or_nothing, or_regrouped, or_same, tells_all, tells_same}
use Rattle.check_rules.proofs.FirstInExpressions.{call_test, found, found-append, lacks_flat, of_call, of_standing, of_type, typed_form_test, standing_test, target_test, tells_expression, tells_target, type_test}
use Rattle.check_rules.proofs.Lines.{TellsLine, line_behind, line_if, line_or, line_same, line_told, line_two, lines_passing, lines_passing-append, lines_passing-cons}
use Rattle.check_rules.proofs.Joined.{join_alone, join_calls, join_names, join_partitions, join_places, join_reads, join_types, join_written}

-- what is wanted for two lists
lacks-append : (tree : Tree) (task : TaskTree) (s : Scope) (ws others : List Wanted) →
    lacks tree task s (ws ++ others) ≡ (lacks tree task s ws || lacks tree task s others)
lacks-append tree task s ws others =
    let may = may_do (rights_declared tree task) s.known in
    let lacking : Wanted → Bool = λ w. not (may w) in
    not_all may (ws ++ others) ∙ list_any-append lacking ws others
    ∙ or_same (list_any lacking ws) (list_any lacking others) (not (list_all may ws))
    (not (list_all may others)) (sym (not_all may ws)) (sym (not_all may others))

module _ (tree : Tree) (task : TaskTree) (s : Scope) where
  -- ---- initializers

  abbrev pub initializer_test : Initializer → Rule → Bool
  initializer_test i rule.Name = list_any (unbound_name_in_type tree s.names) (written_in_initializer i)
      || unbound_name_in_initializer tree s.names i
  initializer_test i rule.Count = list_any (miscounts_in_type tree) (written_in_initializer i)
  initializer_test i rule.Read = lacks tree task s (reads_in_initializer tree s.names i)
  initializer_test i rule.Pointer = list_any (wrong_region_in_type tree s.names) (written_in_initializer i)
  initializer_test i rule.Spaces = list_any (misfits_in_type tree s.names) (written_in_initializer i)
  initializer_test i rule.Partition = list_any (miscolours_in_type s.names) (written_in_initializer i)
      || mispartitions_initializer tree s i || miscolours_initializer i (types_in_initializer tree s i)
  initializer_test i q = false

  abbrev pub initializer_findings : Initializer → List Finding
  initializer_findings i = asked_of_all (of_type tree s.names) (written_in_initializer i)
      ∷ asked (unbound_name_in_initializer tree s.names i) rule.Name
      ∷ asked (mispartitions_initializer tree s i) rule.Partition
      ∷ asked (miscolours_initializer i (types_in_initializer tree s i)) rule.Partition
      ∷ asked (lacks tree task s (reads_in_initializer tree s.names i)) rule.Read
      ∷ []

  pub initializer_parts : (i : Initializer) (q : Rule) → any_finding (initializer_findings i) q ≡ initializer_test i q
  initializer_parts i rule.Name =
      ap (λ b. list_any (unbound_name_in_type tree s.names) (written_in_initializer i) || b) (or_nothing _)
  initializer_parts i rule.Count = or_nothing _
  initializer_parts i rule.Pointer = or_nothing _
  initializer_parts i rule.Spaces = or_nothing _
  initializer_parts i rule.Partition =
      let written = list_any (miscolours_in_type s.names) (written_in_initializer i) in
      ap (λ b. written || (mispartitions_initializer tree s i || b)) (or_nothing _)
      ∙ sym (or_regrouped written (mispartitions_initializer tree s i)
      (miscolours_initializer i (types_in_initializer tree s i)))
  initializer_parts i rule.Read =
      ap (λ b. b || (lacks tree task s (reads_in_initializer tree s.names i) || false))
      (list_any_never (written_in_initializer i)) ∙ or_nothing _
  initializer_parts i q = or_nothing _ ∙ list_any_never (written_in_initializer i)

  abbrev pub of_initializer : Initializer → Finding
  of_initializer i = by_test (first_of_initializer tree task s i) (initializer_test i) (initializer_findings i) refl
      (initializer_parts i)

  -- ---- expressions and targets

  abbrev pub of_expression : Expression → Finding
  of_expression e = record {
    told = first_in_expression tree task s e;
    test = found tree task s (subexpressions e);
    tells = tells_expression tree task s e;
  }

  abbrev pub targets_test : Form → Rule → Bool
  targets_test (assign_form n steps how e) q = target_test tree task s n steps q
  targets_test form q = false

  pub tells_targets : (form : Form) →
      Tells (first_in_targets tree task s form) (targets_test form)
  tells_targets (assign_form n steps how e) = tells_target tree task s n steps
  tells_targets (var_form n t initializer) = λ q. refl
  tells_targets form = λ q. refl

  abbrev pub of_targets : Form → Finding
  of_targets form = record {
    told = first_in_targets tree task s form;
    test = targets_test form;
    tells = tells_targets form;
  }

  -- the expressions of a statement whose tests are those of a rule
  abbrev pub targets_asked : Form → Rule → List Expression
  targets_asked form rule.Read = read_targets form
  targets_asked form q = targets_of form

  abbrev found_at : List Expression → Rule → Bool
  found_at es q = found tree task s (flat_map subexpressions es) q

  found_heads : (es : List Expression) (q : Rule) →
      list_any (λ e. found tree task s (subexpressions e) q) es ≡ found_at es q
  found_heads [] q = refl
  found_heads (e ∷ es) q = ap (λ b. found tree task s (subexpressions e) q || b) (found_heads es q)
      ∙ sym (found-append tree task s (subexpressions e) (flat_map subexpressions es) q)

  assigned : (e : Expression) (q : Rule) →
      found tree task s (subexpressions e) q ≡ found_at (e ∷ []) q
  assigned e q = ap (λ es. found tree task s es q) (sym (append-nil (subexpressions e)))

  found_targets : (form : Form) (q : Rule) →
      targets_test form q ≡ found_at (targets_asked form q) q
  found_targets (assign_form n steps how e) rule.Read =
      assigned (access_expr n (read_steps steps)) rule.Read
  found_targets (assign_form n steps how e) rule.Name = assigned (access_expr n steps) rule.Name
  found_targets (assign_form n steps how e) q = assigned (access_expr n steps) q
  found_targets form rule.Read = refl
  found_targets form q = refl

  pub found_in_all : (form : Form) (q : Rule) →
      (list_any (λ e. found tree task s (subexpressions e) q) (heads_of s.names form)
      || targets_test form q) ≡ found_at (heads_of s.names form ++ targets_asked form q) q
  found_in_all form q = let heads = heads_of s.names form in
      let targets = targets_asked form q in
      or_same (list_any (λ e. found tree task s (subexpressions e) q) heads) (targets_test form q)
      (found_at heads q) (found_at targets q) (found_heads heads q) (found_targets form q)
      ∙ sym (found-append tree task s (flat_map subexpressions heads) (flat_map subexpressions targets) q)
      ∙ ap (λ es. found tree task s es q) (sym (flat_map-append subexpressions heads targets))

-- ---- a call that is a statement

or_twice : (a : Bool) → (a || false || a) ≡ a
or_twice true = refl
or_twice false = refl

called_named : (tree : Tree) (s : Scope) (form : Form) →
    (list_any (is_unknown_task tree) (call_of_form tree s form) || unbound_name_in_form tree s.names form)
    ≡ unbound_name_in_form tree s.names form
called_named tree s (call_form name args) = or_twice (not (has_task tree name))
called_named tree s (var_form n t initializer) = refl
called_named tree s form = refl

called_stands : (tree : Tree) (task : TaskTree) (s : Scope) (test : Standing → Bool) →
    (form : Form) → (list_any (λ c. list_any test (standing_in_call tree c)) (call_of_form tree s form)
    || list_any test (standing_in_form tree task s form))
    ≡ list_any test (standing_in_form tree task s form)
called_stands tree task s test (call_form name args) =
    or_twice (list_any test (standing_in_call tree (calling name (known_types tree s args))))
called_stands tree task s test (assert_form e) = refl
called_stands tree task s test form = refl

-- ---- statements

module _ (tree : Tree) (v : Visit) where
  -- the test of each rule on a statement, but for the demand on it
  abbrev own_test : Rule → Bool
  own_test rule.Name = unbound_name_at tree v
  own_test rule.Type = mistypes_at tree v
  own_test rule.Count = miscounts_at tree v
  own_test rule.Place = misplaces_at tree v
  own_test rule.Target = mistargets_form tree v.task v.scope v.form
  own_test rule.Format = misprints_form tree v.scope v.form
  own_test rule.Read = lacks tree v.task v.scope (reads_at tree v)
  own_test rule.Write = lacks tree v.task v.scope (writes_by tree v.scope v.form)
  own_test rule.Reduce = lacks tree v.task v.scope (reductions_by tree v.scope v.form)
  own_test rule.CallPrivilege =
      lacks tree v.task v.scope (flat_map (wanted_by_call tree) (calls_at tree v))
  own_test rule.CallConstraint =
      list_any (breaks_constraint tree v.scope.known) (calls_at tree v)
  own_test rule.Pointer = wrong_pointer_at tree v
  own_test rule.Spaces = misfits_at tree v
  own_test rule.Partition = mispartitions_at tree v
  own_test rule.Return = misreturns v.task v.form
  own_test q = false

  -- what is asked of a statement beside its expressions and targets
  abbrev form_tail : List Finding
  form_tail = asked (unbound_name_in_form tree v.scope.names v.form) rule.Name
      ∷ asked_of_all (of_initializer tree v.task v.scope) (initializer_at v.form)
      ∷ asked_of_all (of_call tree v.task v.scope) (call_of_form tree v.scope v.form)
      ∷ asked_of_all (of_standing v.scope.known) (standing_in_form tree v.task v.scope v.form)
      ∷ asked (wrong_initializer_at tree v.scope v.form) rule.Place
      ∷ asked (mistargets_form tree v.task v.scope v.form) rule.Target
      ∷ asked (misprints_form tree v.scope v.form) rule.Format
      ∷ asked (lacks tree v.task v.scope (writes_by tree v.scope v.form)) rule.Write
      ∷ asked (lacks tree v.task v.scope (reductions_by tree v.scope v.form)) rule.Reduce
      ∷ asked (misreturns v.task v.form) rule.Return
      ∷ []

  abbrev form_findings : List Finding
  form_findings = asked_of_all (of_type tree v.scope.names) (declared_at v.form)
      ∷ asked (has_no_type v.form) rule.Type
      ∷ asked_of_all (of_expression tree v.task v.scope) (heads_of v.scope.names v.form)
      ∷ of_targets tree v.task v.scope v.form
      ∷ form_tail

  -- what a rule asks of expressions, targets among them
  abbrev asked_at : Rule → List TypedForm
  asked_at q = typed_forms_in tree v.scope
      (heads_of v.scope.names v.form ++ targets_asked tree v.task v.scope v.form q)

  abbrev typed_forms_test : Rule → Bool
  typed_forms_test q = list_any (λ typed_form. typed_form_test tree v.task v.scope typed_form q) (asked_at q)

  abbrev declared_test : Rule → Bool
  declared_test q =
      list_any (λ t. type_test tree v.scope.names t q) (declared_at v.form)

  abbrev initializers_test : Rule → Bool
  initializers_test q = list_any (λ i. initializer_test tree v.task v.scope i q) (initializer_at v.form)

  abbrev called_test : Rule → Bool
  called_test q =
      list_any (λ c. call_test tree v.task v.scope c q) (call_of_form tree v.scope v.form)

  abbrev stands_test : Rule → Bool
  stands_test q = list_any (λ t. standing_test v.scope.known t q)
      (standing_in_form tree v.task v.scope v.form)

  written_joined : (test : List Bound → TypeTerm → Bool) → any_written tree v test
      ≡ (list_any (test v.scope.names) (declared_at v.form)
      || (list_any (λ i. list_any (test v.scope.names) (written_in_initializer i)) (initializer_at v.form)
      || list_any (λ typed_form. list_any (test v.scope.names) (written_in typed_form)) (typed_forms_at tree v)))
  written_joined test = let p = test v.scope.names in
      let declared = declared_at v.form in
      let entry_name = flat_map written_in_initializer (initializer_at v.form) in
      let within = flat_map written_in (typed_forms_at tree v) in
      list_any-append p (declared ++ entry_name) within
      ∙ ap (λ b. b || list_any p within) (list_any-append p declared entry_name)
      ∙ or_regrouped (list_any p declared) (list_any p entry_name) (list_any p within)
      ∙ ap (λ b. list_any p declared || b) (or_same (list_any p entry_name) (list_any p within)
      (list_any (λ i. list_any p (written_in_initializer i)) (initializer_at v.form))
      (list_any (λ typed_form. list_any p (written_in typed_form)) (typed_forms_at tree v))
      (list_any_flat p written_in_initializer (initializer_at v.form))
      (list_any_flat p written_in (typed_forms_at tree v)))

  calls_joined : (test : Calling → Bool) → list_any test (calls_at tree v)
      ≡ (list_any test (call_of_form tree v.scope v.form)
      || list_any (λ typed_form. list_any test (call_in typed_form)) (typed_forms_at tree v))
  calls_joined test = list_any-append test (call_of_form tree v.scope v.form)
      (flat_map call_in (typed_forms_at tree v))
      ∙ ap (λ b. list_any test (call_of_form tree v.scope v.form) || b)
      (list_any_flat test call_in (typed_forms_at tree v))

  -- the tests of a rule at a statement, where expressions and targets are one list
  abbrev joined_test : Rule → Bool
  joined_test q = declared_test q || (only rule.Type (has_no_type v.form) q
      || (typed_forms_test q || any_finding form_tail q))

  -- a rule that is asked of the statement alone
  alone : (typed_forms : List TypedForm) (b : Bool) →
      (list_any (λ (t : TypeTerm). false) (declared_at v.form)
      || (list_any (λ (typed_form : TypedForm). false) typed_forms
      || (list_any (λ (i : Initializer). false) (initializer_at v.form)
      || (list_any (λ (c : Calling). false) (call_of_form tree v.scope v.form)
      || (list_any (λ (t : Standing). false) (standing_in_form tree v.task v.scope v.form)
      || (b || false)))))) ≡ b
  alone typed_forms b = join_alone (list_any (λ (t : TypeTerm). false) (declared_at v.form))
      (list_any (λ (typed_form : TypedForm). false) typed_forms)
      (list_any (λ (i : Initializer). false) (initializer_at v.form))
      (list_any (λ (c : Calling). false) (call_of_form tree v.scope v.form))
      (list_any (λ (t : Standing). false) (standing_in_form tree v.task v.scope v.form)) b
      (list_any_never (declared_at v.form)) (list_any_never typed_forms)
      (list_any_never (initializer_at v.form)) (list_any_never (call_of_form tree v.scope v.form))
      (list_any_never (standing_in_form tree v.task v.scope v.form))

  joined_parts : (q : Rule) → joined_test q ≡ own_test q
  joined_parts rule.Name = let names = v.scope.names in
      join_names (declared_test rule.Name) (typed_forms_test rule.Name)
      (unbound_name_in_form tree names v.form) (initializers_test rule.Name) (called_test rule.Name)
      (stands_test rule.Name)
      (list_any (has_unbound_name tree names) (typed_forms_at tree v))
      (list_any (λ typed_form. list_any (unbound_name_in_type tree names) (written_in typed_form))
      (typed_forms_at tree v))
      (list_any (λ i. list_any (unbound_name_in_type tree names) (written_in_initializer i))
      (initializer_at v.form))
      (list_any (unbound_name_in_initializer tree names) (initializer_at v.form))
      (any_written tree v (unbound_name_in_type tree))
      (list_any_either (has_unbound_name tree names)
      (λ typed_form. list_any (unbound_name_in_type tree names) (written_in typed_form)) (typed_forms_at tree v))
      (list_any_either (λ i. list_any (unbound_name_in_type tree names) (written_in_initializer i))
      (unbound_name_in_initializer tree names) (initializer_at v.form))
      (called_named tree v.scope v.form)
      (list_any_never (standing_in_form tree v.task v.scope v.form))
      (written_joined (unbound_name_in_type tree))
  joined_parts rule.Type = join_types (declared_test rule.Type) (has_no_type v.form)
      (typed_forms_test rule.Type) (initializers_test rule.Type) (called_test rule.Type)
      (stands_test rule.Type) (list_any_never (declared_at v.form))
      (list_any_never (initializer_at v.form))
      (called_stands tree v.task v.scope (is_ill_typed_at_place v.scope.known) v.form)
  joined_parts rule.Count = join_written (declared_test rule.Count) (typed_forms_test rule.Count)
      (initializers_test rule.Count) (called_test rule.Count) (stands_test rule.Count)
      (list_any (λ typed_form. list_any (miscounts_call tree) (call_in typed_form)) (typed_forms_at tree v))
      (list_any (λ typed_form. list_any (miscounts_in_type tree) (written_in typed_form))
      (typed_forms_at tree v))
      (any_written tree v (λ names. miscounts_in_type tree))
      (list_any (miscounts_call tree) (calls_at tree v))
      (list_any_either (λ typed_form. list_any (miscounts_call tree) (call_in typed_form))
      (λ typed_form. list_any (miscounts_in_type tree) (written_in typed_form)) (typed_forms_at tree v))
      (list_any_never (standing_in_form tree v.task v.scope v.form))
      (written_joined (λ names. miscounts_in_type tree))
      (calls_joined (miscounts_call tree))
  joined_parts rule.Place = join_places (declared_test rule.Place) (typed_forms_test rule.Place)
      (initializers_test rule.Place) (called_test rule.Place) (stands_test rule.Place)
      (wrong_initializer_at tree v.scope v.form)
      (list_any_never (declared_at v.form)) (list_any_never (initializer_at v.form))
      (called_stands tree v.task v.scope misplaces v.form)
  joined_parts rule.Read = join_reads (declared_test rule.Read) (typed_forms_test rule.Read)
      (initializers_test rule.Read) (called_test rule.Read) (stands_test rule.Read)
      (lacks tree v.task v.scope (reads_at tree v))
      (list_any_never (declared_at v.form))
      (list_any_never (call_of_form tree v.scope v.form))
      (list_any_never (standing_in_form tree v.task v.scope v.form))
      reads_joined
    where
      reads_joined : lacks tree v.task v.scope (reads_at tree v)
          ≡ (typed_forms_test rule.Read || initializers_test rule.Read)
      reads_joined = let initializers = reads_in_initializer tree v.scope.names in
          lacks-append tree v.task v.scope (flat_map (reads_in tree) (asked_at rule.Read))
          (flat_map initializers (initializer_at v.form))
          ∙ or_same (lacks tree v.task v.scope (flat_map (reads_in tree) (asked_at rule.Read)))
          (lacks tree v.task v.scope (flat_map initializers (initializer_at v.form)))
          (typed_forms_test rule.Read) (initializers_test rule.Read)
          (lacks_flat tree v.task v.scope (reads_in tree) (asked_at rule.Read))
          (lacks_flat tree v.task v.scope initializers (initializer_at v.form))
  joined_parts rule.CallPrivilege = join_calls (declared_test rule.CallPrivilege)
      (typed_forms_test rule.CallPrivilege) (initializers_test rule.CallPrivilege)
      (called_test rule.CallPrivilege) (stands_test rule.CallPrivilege)
      (lacks tree v.task v.scope (flat_map (wanted_by_call tree) (calls_at tree v)))
      (list_any_never (declared_at v.form)) (list_any_never (initializer_at v.form))
      (list_any_never (standing_in_form tree v.task v.scope v.form)) wanted_joined
    where
      wanted_joined : lacks tree v.task v.scope (flat_map (wanted_by_call tree) (calls_at tree v))
          ≡ (called_test rule.CallPrivilege || typed_forms_test rule.CallPrivilege)
      wanted_joined = let lacking : Calling → Bool = λ c. lacks tree v.task v.scope (wanted_by_call tree c) in
          lacks_flat tree v.task v.scope (wanted_by_call tree) (calls_at tree v)
          ∙ calls_joined lacking
          ∙ ap (λ b. called_test rule.CallPrivilege || b)
          (list_any_same (λ typed_form. list_any lacking (call_in typed_form))
          (λ typed_form. lacks tree v.task v.scope (flat_map (wanted_by_call tree) (call_in typed_form)))
          (λ typed_form. sym (lacks_flat tree v.task v.scope (wanted_by_call tree) (call_in typed_form)))
          (typed_forms_at tree v))
  joined_parts rule.CallConstraint = join_calls (declared_test rule.CallConstraint)
      (typed_forms_test rule.CallConstraint) (initializers_test rule.CallConstraint)
      (called_test rule.CallConstraint) (stands_test rule.CallConstraint)
      (list_any (breaks_constraint tree v.scope.known) (calls_at tree v))
      (list_any_never (declared_at v.form)) (list_any_never (initializer_at v.form))
      (list_any_never (standing_in_form tree v.task v.scope v.form))
      (calls_joined (breaks_constraint tree v.scope.known))
  joined_parts rule.Pointer = let names = v.scope.names in
      join_written (declared_test rule.Pointer) (typed_forms_test rule.Pointer)
      (initializers_test rule.Pointer) (called_test rule.Pointer) (stands_test rule.Pointer)
      (list_any takes_of_wild_in (typed_forms_at tree v))
      (list_any (λ typed_form. list_any (wrong_region_in_type tree names) (written_in typed_form))
      (typed_forms_at tree v))
      (any_written tree v (wrong_region_in_type tree))
      (list_any takes_of_wild_in (typed_forms_at tree v))
      (list_any_either takes_of_wild_in
      (λ typed_form. list_any (wrong_region_in_type tree names) (written_in typed_form)) (typed_forms_at tree v))
      (list_any_never (standing_in_form tree v.task v.scope v.form))
      (written_joined (wrong_region_in_type tree))
      (sym (ap (λ b. b || list_any takes_of_wild_in (typed_forms_at tree v))
      (list_any_never (call_of_form tree v.scope v.form))))
  joined_parts rule.Spaces =
      let misfits : Calling → Bool = λ (c : Calling). misfits_call (params_of tree c.task) c in
      join_written (declared_test rule.Spaces) (typed_forms_test rule.Spaces)
      (initializers_test rule.Spaces) (called_test rule.Spaces) (stands_test rule.Spaces)
      (list_any (λ typed_form. list_any misfits (call_in typed_form)) (typed_forms_at tree v))
      (list_any (λ typed_form. list_any (misfits_in_type tree v.scope.names) (written_in typed_form))
      (typed_forms_at tree v))
      (any_written tree v (misfits_in_type tree)) (list_any misfits (calls_at tree v))
      (list_any_either (λ typed_form. list_any misfits (call_in typed_form))
      (λ typed_form. list_any (misfits_in_type tree v.scope.names) (written_in typed_form))
      (typed_forms_at tree v))
      (list_any_never (standing_in_form tree v.task v.scope v.form))
      (written_joined (misfits_in_type tree)) (calls_joined misfits)
  joined_parts rule.Partition = let names = v.scope.names in
      let misfits : Calling → Bool =
      λ (c : Calling). mispartitions_call (params_of tree c.task) c in
      let coloured : Initializer → Bool = λ i. list_any (miscolours_in_type names) (written_in_initializer i) in
      let parted : Initializer → Bool = λ i. mispartitions_initializer tree v.scope i in
      let colours : Initializer → Bool = λ i. miscolours_initializer i (types_in_initializer tree v.scope i) in
      join_partitions (declared_test rule.Partition) (typed_forms_test rule.Partition)
      (initializers_test rule.Partition) (called_test rule.Partition) (stands_test rule.Partition)
      (list_any (λ typed_form. list_any misfits (call_in typed_form)) (typed_forms_at tree v))
      (list_any (λ typed_form. list_any (miscolours_in_type names) (written_in typed_form))
      (typed_forms_at tree v))
      (list_any coloured (initializer_at v.form)) (list_any parted (initializer_at v.form))
      (list_any colours (initializer_at v.form))
      (any_written tree v miscolours_in_type) (list_any misfits (calls_at tree v))
      (list_any_either (λ typed_form. list_any misfits (call_in typed_form))
      (λ typed_form. list_any (miscolours_in_type names) (written_in typed_form)) (typed_forms_at tree v))
      (list_any_either (λ i. coloured i || parted i) colours (initializer_at v.form)
      ∙ ap (λ b. b || list_any colours (initializer_at v.form))
      (list_any_either coloured parted (initializer_at v.form)))
      (list_any_never (standing_in_form tree v.task v.scope v.form))
      (written_joined miscolours_in_type) (calls_joined misfits)
  joined_parts rule.Target = alone (asked_at rule.Target)
      (mistargets_form tree v.task v.scope v.form)
  joined_parts rule.Format = alone (asked_at rule.Format) (misprints_form tree v.scope v.form)
  joined_parts rule.Write = alone (asked_at rule.Write)
      (lacks tree v.task v.scope (writes_by tree v.scope v.form))
  joined_parts rule.Reduce = alone (asked_at rule.Reduce)
      (lacks tree v.task v.scope (reductions_by tree v.scope v.form))
  joined_parts rule.Return = alone (asked_at rule.Return) (misreturns v.task v.form)
  joined_parts q = alone (asked_at q) false

  -- a statement's own test, and its expressions' and targets' in one
  form_parts : (q : Rule) → any_finding form_findings q ≡ own_test q
  form_parts q = ap (λ b. declared_test q || (only rule.Type (has_no_type v.form) q || b))
      (sym (or_regrouped
      (list_any (λ e. found tree v.task v.scope (subexpressions e) q) (heads_of v.scope.names v.form))
      (targets_test tree v.task v.scope v.form q) (any_finding form_tail q))
      ∙ ap (λ b. b || any_finding form_tail q) (found_in_all tree v.task v.scope v.form q))
      ∙ joined_parts q

  tells_form : Tells (first_of_form tree v.task v.scope v.form) own_test
  tells_form = tells_same (first_of_form tree v.task v.scope v.form) (any_finding form_findings)
      own_test form_parts (tells_all form_findings)

  -- the demand on a loop
  abbrev demand_findings : List Finding
  demand_findings = asked (demands_no_launch tree v.scope v.form) rule.NotLaunch
      ∷ asked (demands_interference tree v.scope v.form) rule.Interferes
      ∷ []

  tells_demand : Tells (first_of_demand tree v.scope v.form) (any_finding demand_findings)
  tells_demand = tells_all demand_findings

  -- the test of each rule
  abbrev pub form_test : Rule → Bool
  form_test rule.NotLaunch = demands_no_launch tree v.scope v.form
  form_test rule.Interferes = demands_interference tree v.scope v.form
  form_test q = own_test q

  test_parts : (q : Rule) → (own_test q || any_finding demand_findings q) ≡ form_test q
  test_parts rule.NotLaunch = or_nothing _
  test_parts rule.Interferes = or_nothing _
  test_parts q = or_nothing _

-- ---- statements in order

module _ (tree : Tree) where
  -- the lines of these statements at which a rule is breached
  abbrev pub lines_at : List Visit → Rule → List ℕ
  lines_at vs q = lines_passing (λ (v : Visit). v.line) (λ v. form_test tree v q) vs

  lines_at-append : (vs others : List Visit) (q : Rule) →
      lines_at vs q ++ lines_at others q ≡ lines_at (vs ++ others) q
  lines_at-append vs others q = sym (lines_passing-append (λ (v : Visit). v.line)
      (λ v. form_test tree v q) vs others)

  -- a statement's own line, those in its blocks, and those behind it
  statement_whole : (v : Visit) (within rest : List Visit) (q : Rule) →
      line_if (own_test tree v q || any_finding (demand_findings tree v) q) v.line ++ (lines_at within q ++ lines_at rest q)
      ≡ lines_at ((v ∷ within) ++ rest) q
  statement_whole v within rest q =
      ap (λ b. line_if b v.line ++ (lines_at within q ++ lines_at rest q)) (test_parts tree v q)
      ∙ ap (λ ls. line_if (form_test tree v q) v.line ++ ls) (lines_at-append within rest q)
      ∙ lines_passing-cons (λ (w : Visit). w.line) (λ w. form_test tree w q) v (within ++ rest)

  mutual
    pub tells_block : (task : TaskTree) (s : Scope) (b : Block) →
        TellsLine (first_in_block tree task s b) (lines_at (visits_in tree task s b))
    tells_block task s no_statement = λ q. refl
    tells_block task s (then_statement (a_statement line form) rest) =
        let v : Visit = record { task = task; scope = s; line = line; form = form } in
        let within = visits_within tree task s form in
        let after = visits_in tree task (known_scope_after tree s form) rest in
        let rest_told = first_in_block tree task (known_scope_after tree s form) rest in
        let demanded = told_on line (first_of_demand tree s form) in
        let told = option_or (told_on line (first_of_form tree task s form))
        (option_or (first_within tree task s form) (option_or demanded rest_told)) in
        line_same told _ (lines_at ((v ∷ within) ++ after)) (statement_whole v within after)
        (line_behind told line (own_test tree v) (any_finding (demand_findings tree v)) (lines_at within) (lines_at after)
        (line_or (told_on line (first_of_form tree task s form)) _ (λ q. line_if (own_test tree v q) line) _
        (line_told line (first_of_form tree task s form) (own_test tree v) (tells_form tree v))
        (line_or (first_within tree task s form) _ (lines_at within) _ (tells_within task s form)
        (line_or demanded rest_told (λ q. line_if (any_finding (demand_findings tree v) q) line) (lines_at after)
        (line_told line (first_of_demand tree s form) (any_finding (demand_findings tree v)) (tells_demand tree v))
        (tells_block task (known_scope_after tree s form) rest)))))

    tells_within : (task : TaskTree) (s : Scope) (form : Form) →
        TellsLine (first_within tree task s form) (lines_at (visits_within tree task s form))
    tells_within task s (if_form arms other) =
        let after = known_scope_after_arms tree s arms in
        line_two (first_in_arms tree task s arms) (first_in_else tree task after other)
        (lines_at (visits_in_arms tree task s arms))
        (lines_at (visits_in_else tree task after other))
        (lines_at (visits_within tree task s (if_form arms other)))
        (lines_at-append (visits_in_arms tree task s arms)
        (visits_in_else tree task after other))
        (tells_arms task s arms) (tells_else task after other)
    tells_within task s (while_form test body) = tells_block task s body
    tells_within task s (for_in_form demanded n domain body) =
        tells_block task (scope_in_loop tree s n domain) body
    tells_within task s (for_to_form demanded n from to body) =
        tells_block task (scope_in_count tree s n from to) body
    tells_within task s (do_form body) = tells_block task s body
    tells_within task s form = λ q. refl

    tells_arms : (task : TaskTree) (s : Scope) (arms : Arms) →
        TellsLine (first_in_arms tree task s arms) (lines_at (visits_in_arms tree task s arms))
    tells_arms task s no_arm = λ q. refl
    tells_arms task s (an_arm test body rest) =
        let after = past s (known_scope_after_block tree s body) in
        line_two (first_in_block tree task s body) (first_in_arms tree task after rest)
        (lines_at (visits_in tree task s body)) (lines_at (visits_in_arms tree task after rest))
        (lines_at (visits_in_arms tree task s (an_arm test body rest)))
        (lines_at-append (visits_in tree task s body) (visits_in_arms tree task after rest))
        (tells_block task s body) (tells_arms task after rest)

    tells_else : (task : TaskTree) (s : Scope) (other : Otherwise) →
        TellsLine (first_in_else tree task s other) (lines_at (visits_in_else tree task s other))
    tells_else task s no_else = λ q. refl
    tells_else task s (else_block body) = tells_block task s body
