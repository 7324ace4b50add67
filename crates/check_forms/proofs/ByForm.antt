-- What is told of a statement, form by form, is what is told of it in all.
use Rattle.std.proofs.Common.{Bool, List, None, Option, Result, Some, [], ◌∷◌, ◌≡◌, ap, false, flat_map, map, refl, subst, sym, true, ◌∙◌}
use Rattle.std.specs.Option.{option_or}
use Rattle.regent_tree.specs.Lookup.{type_named}
use Rattle.regent_tree.specs.declared.typing.StaticType.{StaticType}
use Rattle.regent_tree.specs.Scopes.{Scope}
use Rattle.regent_tree.specs.Syntax.{Arms, Block, Expression, Expressions, Name, Otherwise, TaskTree, Tree, an_expr, assert_form, call_form, fill_form, for_in_form, for_to_form, if_form, no_expr, print_form, while_form}
use Rattle.check_rules.specs.rules.Constraints.{breaks_constraint}
use Rattle.check_rules.specs.rules.Counts.{miscounts_call}
use Rattle.check_rules.specs.types.Declarations.{known_field, params_of}
use Rattle.check_rules.specs.rules.Partitions.{mispartitions_call}
use Rattle.check_rules.specs.rules.Privileges.{lacks, wanted_by_call, wanted_of_region}
use Rattle.regent_tree.specs.declared.rights.Access.TheVariants.{Write}
use Rattle.check_rules.specs.rules.Spaces.{misfits_call}
use Rattle.check_rules.specs.first.FirstInExpressions.{first_in_args, first_in_expression, first_of_call, first_of_standing}
use Rattle.check_rules.specs.first.FirstInStatements.{first_of_form}
use Rattle.check_rules.specs.rules.Formats.{misprints}
use Rattle.check_rules.specs.types.KnownTypes.{known_type, known_types}
use Rattle.check_rules.specs.rules.Names.{is_unknown_task, misses_alias}
use Rattle.check_rules.specs.types.Parts.{listed, tests_of}
use Rattle.check_rules.specs.first.Rules.{first_in, rule_if}
use Rattle.check_rules.specs.types.TypedForms.{calling}
use Rattle.check_rules.specs.rules.Standing.{domain_spot, integer_spot, standing_in_call, stands, truth_spot, typed_spot, value_spot}
use Rattle.check_rules.specs.rules.Statements.{all_stand}
use Rattle.check_rules.specs.declared.rule.Rule.{Rule}
use Rattle.check_rules.specs.declared.rule.Rule.TheVariants as rule
use Rattle.static_types.specs.Telling.{IsTold, Tells}
use Rattle.static_types.specs.declared.stop.Stop.{Stop}
use Rattle.static_types.proofs.Telling.{told_here}
use Rattle.check_forms.specs.Heads.{first_of_bounds, first_of_call_alone, first_of_domain, first_of_fill, first_of_filled, first_of_print, first_of_test, first_of_tests}
use Rattle.plain_values.proofs.Plain.{option_or_none}

module _ (tree : Tree) (task : TaskTree) (s : Scope) where
  abbrev told : Expression → Option Rule
  told e = first_in_expression tree task s e

  -- what is told of two parts, each of which ends a list of its own
  two : (a b : Option Rule) → option_or (option_or a None) (option_or (option_or b None) None) ≡ option_or a (option_or b None)
  two None b = option_or_none (option_or b None)
  two (Some x) b = refl

  pub test_first : (e : Expression) → first_of_form tree task s (assert_form e) ≡ first_of_test tree task s e
  test_first e = two (told e) (first_of_standing [] (stands (known_type tree s e) truth_spot))

  pub while_first : (e : Expression) (body : Block) → first_of_form tree task s (while_form e body) ≡ first_of_test tree task s e
  while_first e body = two (told e) (first_of_standing [] (stands (known_type tree s e) truth_spot))

  same_tests : (es : List Expression) →
      first_in (first_of_standing s.known) (all_stand tree s truth_spot es)
      ≡ first_in (first_of_standing []) (map (λ t. stands t truth_spot) (map (known_type tree s) es))
  same_tests [] = refl
  same_tests (e ∷ es) = ap (option_or (first_of_standing [] (stands (known_type tree s e) truth_spot))) (same_tests es)

  pub tests_first : (arms : Arms) (other : Otherwise) → first_of_form tree task s (if_form arms other) ≡ first_of_tests tree task s (tests_of arms)
  tests_first arms other = ap (λ o. option_or (first_in (first_in_expression tree task s) (tests_of arms)) (option_or o None)) (same_tests (tests_of arms))

  pub domain_first : (demanded : Bool) (n : Name) (e : Expression) (body : Block) →
      first_of_form tree task s (for_in_form demanded n e body) ≡ first_of_domain tree task s e
  domain_first demanded n e body = two (told e) (first_of_standing [] (stands (known_type tree s e) domain_spot))

  four : (a b c d : Option Rule) → option_or (option_or a (option_or b None)) (option_or (option_or c (option_or d None)) None)
      ≡ option_or a (option_or b (option_or c (option_or d None)))
  four None None None None = refl
  four None None None (Some x) = refl
  four None None (Some x) d = refl
  four None (Some x) c d = refl
  four (Some x) b c d = refl

  pub bounds_first : (demanded : Bool) (n : Name) (from to : Expression) (body : Block) →
      first_of_form tree task s (for_to_form demanded n from to body) ≡ first_of_bounds tree task s from to
  bounds_first demanded n from to body = four (told from) (told to)
      (first_of_standing [] (stands (known_type tree s from) integer_spot))
      (first_of_standing [] (stands (known_type tree s to) integer_spot))

  -- ---- arguments

  listed_args : (args : Expressions) → first_in (first_in_expression tree task s) (listed args) ≡ first_in_args tree task s args
  listed_args no_expr = refl
  listed_args (an_expr e es) = ap (option_or (told e)) (listed_args es)

  listed_values : (args : Expressions) →
      first_in (first_of_standing s.known) (all_stand tree s value_spot (listed args))
      ≡ first_in (first_of_standing []) (map (λ t. stands t value_spot) (known_types tree s args))
  listed_values no_expr = refl
  listed_values (an_expr e es) = ap (option_or (first_of_standing [] (stands (known_type tree s e) value_spot))) (listed_values es)

  pub print_first : (alias : Option Name) (format : Name) (args : Expressions) →
      first_of_form tree task s (print_form alias format args) ≡ first_of_print tree task s alias format args
  print_first alias format args = λ j. option_or (listed_args args j)
      (option_or (rule_if (misses_alias tree alias) rule.Name)
      (option_or (listed_values args j)
      (option_or (rule_if (misprints format (known_types tree s args)) rule.Format) None)))

  -- ---- calls

  -- a call of its own tells twice that the task isn't there, and what stands wrongly
  called : (n : Bool) (c st f p l b : Option Rule) →
      option_or (rule_if n rule.Name) (option_or (option_or (option_or (rule_if n rule.Name)
      (option_or c (option_or st (option_or f (option_or p (option_or l (option_or b None))))))) None) (option_or st None))
      ≡ option_or (rule_if n rule.Name) (option_or c (option_or st (option_or f (option_or p (option_or l (option_or b None))))))
  called true c st f p l b = refl
  called false (Some x) st f p l b = refl
  called false None (Some x) f p l b = refl
  called false None None (Some x) p l b = refl
  called false None None None (Some x) l b = refl
  called false None None None None (Some x) b = refl
  called false None None None None None (Some x) = refl
  called false None None None None None None = refl

  pub call_first : (n : Name) (args : Expressions) →
      first_of_form tree task s (call_form n args)
      ≡ first_of_call_alone tree task s n args
  call_first n args = let c = calling n (known_types tree s args) in
      (λ j. option_or (listed_args args j)
      (option_or (rule_if (is_unknown_task tree c) rule.Name)
      (option_or (option_or (first_of_call tree task s c) None)
      (option_or (first_in (first_of_standing s.known) (standing_in_call tree c)) None))))
      ∙ ap (option_or (first_in_args tree task s args)) (called (is_unknown_task tree c)
      (rule_if (miscounts_call tree c) rule.Count) (first_in (first_of_standing s.known) (standing_in_call tree c))
      (rule_if (misfits_call (params_of tree c.task) c) rule.Spaces)
      (rule_if (mispartitions_call (params_of tree c.task) c) rule.Partition)
      (rule_if (lacks tree task s (wanted_by_call tree c)) rule.CallPrivilege)
      (rule_if (breaks_constraint tree s.known c) rule.CallConstraint))

  -- ---- `fill`

  fill_nothing : (e f st w : Option Rule) →
      option_or (option_or e None) (option_or f (option_or st (option_or w None))) ≡ option_or e (option_or f (option_or st (option_or w None)))
  fill_nothing e f st w = ap (λ o. option_or o (option_or f (option_or st (option_or w None)))) (option_or_none e)

  pub fill_first : (r : Name) (fields : List Name) (e : Expression) →
      first_of_form tree task s (fill_form r fields e) ≡ first_of_fill tree task s r fields e
  fill_first r fields e = fill_nothing (told e) (first_of_filled tree s.names r fields)
      (first_in (first_of_standing s.known) (map (λ f. stands (known_type tree s e) (typed_spot (known_field tree (type_named s.names r) f))) fields))
      (rule_if (lacks tree task s (flat_map (wanted_of_region tree Write (type_named s.names r)) fields)) rule.Write)

  -- what is told of the fields, and behind them
  abbrev stand_at : List Name → StaticType → StaticType → Option Rule
  stand_at fields u t =
      first_in (first_of_standing s.known) (map (λ f. stands t (typed_spot (known_field tree u f))) fields)

  abbrev writes_at : List Name → StaticType → Option Rule
  writes_at fields u = rule_if (lacks tree task s (flat_map (wanted_of_region tree Write u) fields)) rule.Write

  pub fill_stop : (r : Name) (fields : List Name) (e : Expression) (u t : StaticType) (stop : Stop) →
      u ≡ type_named s.names r → t ≡ known_type tree s e → first_in_expression tree task s e ≡ None →
      first_of_filled tree s.names r fields ≡ None → IsTold stop (stand_at fields u t) →
      IsTold stop (first_of_fill tree task s r fields e)
  fill_stop r fields e u t stop region value no_value named h =
      let rest = option_or (writes_at fields (type_named s.names r)) None in
      subst (IsTold stop)
      (λ j. option_or (sym no_value j) (option_or (sym named j) (option_or (stand_at fields (region j) (value j)) rest)))
      (told_here stop (stand_at fields u t) rest h)

  pub fill_last : {A : Type 0} (Found : A → Type 0) (result : Result A Stop) (r : Name) (fields : List Name) (e : Expression) (u t : StaticType) →
      u ≡ type_named s.names r → t ≡ known_type tree s e → first_in_expression tree task s e ≡ None →
      first_of_filled tree s.names r fields ≡ None → stand_at fields u t ≡ None → Tells Found result (writes_at fields u) →
      Tells Found result (first_of_fill tree task s r fields e)
  fill_last Found result r fields e u t region value no_value named fit h =
      let fits : None ≡ stand_at fields (type_named s.names r) (known_type tree s e) =
      sym fit ∙ (λ j. stand_at fields (region j) (value j)) in
      subst (Tells Found result)
      (λ j. option_or (sym no_value j) (option_or (sym named j) (option_or (fits j) (option_or (writes_at fields (region j)) None))))
      (subst (Tells Found result) (sym (option_or_none (writes_at fields u))) h)
