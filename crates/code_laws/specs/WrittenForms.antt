-- Trees as the reader gives them, as truths: a chain has a link, a prefix a sign, and a fill a field.
use Rattle.std.specs.Prelude.{Bool, true, false, List, [], ◌∷◌, Some, None, ◌&&◌}
use Rattle.std.specs.List.{list_all}
use Rattle.regent_tree.specs.Syntax.{Arms, Block, Expression, Expressions, Form, Initializer, ItemForm, ItemTree, Links, Otherwise, Steps, Tree, a_link, a_statement, access_expr, an_arm, an_expr, assert_form, assign_form, at_step, by_field_initializer, call_expr, call_form, cast_expr, chain_expr, convert_expr, do_form, else_block, equal_initializer, field_step, fill_form, for_in_form, for_to_form, if_form, is_null_expr, no_arm, no_else, no_expr, no_link, no_statement, no_step, null_expr, number_expr, plain_initializer, prefix_expr, print_form, region_initializer, return_form, space_expr, task_item, then_statement, truth_expr, var_form, while_form}
use Rattle.regent_tree.specs.declared.expression.Sign.{Sign}
use Rattle.expression_laws.specs.Writing.{has_link}
use Rattle.expression_laws.specs.WrittenStatements.{names_field}

-- ---- expressions

abbrev pub has_sign : List Sign → Bool
has_sign [] = false
has_sign (s ∷ ss) = true

abbrev mutual
  pub is_written_expression : Expression → Bool
  is_written_expression (number_expr z w) = true
  is_written_expression (truth_expr b) = true
  is_written_expression (chain_expr first rest) = is_written_expression first && (has_link rest && are_written_links rest)
  is_written_expression (prefix_expr signs e) = has_sign signs && is_written_expression e
  is_written_expression (access_expr n steps) = are_written_steps steps
  is_written_expression (call_expr task args) = are_written_expressions args
  is_written_expression (convert_expr t e) = is_written_expression e
  is_written_expression (space_expr k e) = is_written_expression e
  is_written_expression (is_null_expr e) = is_written_expression e
  is_written_expression (null_expr t) = true
  is_written_expression (cast_expr t e) = is_written_expression e

  pub are_written_links : Links → Bool
  are_written_links no_link = true
  are_written_links (a_link o e rest) = is_written_expression e && are_written_links rest

  pub are_written_steps : Steps → Bool
  are_written_steps no_step = true
  are_written_steps (field_step f rest) = are_written_steps rest
  are_written_steps (at_step e rest) = is_written_expression e && are_written_steps rest

  pub are_written_expressions : Expressions → Bool
  are_written_expressions no_expr = true
  are_written_expressions (an_expr e es) = is_written_expression e && are_written_expressions es

-- ---- statements

abbrev pub is_written_initializer : Initializer → Bool
is_written_initializer (plain_initializer e) = is_written_expression e
is_written_initializer (region_initializer e u) = is_written_expression e
is_written_initializer (equal_initializer r e) = is_written_expression e
is_written_initializer (by_field_initializer r f e) = is_written_expression e
is_written_initializer i = true

abbrev mutual
  pub is_written_form : Form → Bool
  is_written_form (var_form n t (Some i)) = is_written_initializer i
  is_written_form (var_form n t None) = true
  is_written_form (if_form arms other) = are_written_arms arms && is_written_else other
  is_written_form (while_form test body) = is_written_expression test && is_written_block body
  is_written_form (for_in_form demanded n domain body) = is_written_expression domain && is_written_block body
  is_written_form (for_to_form demanded n from to body) =
      is_written_expression from && (is_written_expression to && is_written_block body)
  is_written_form (do_form body) = is_written_block body
  is_written_form (fill_form r fields e) = names_field fields && is_written_expression e
  is_written_form (assert_form e) = is_written_expression e
  is_written_form (print_form alias format args) = are_written_expressions args
  is_written_form (call_form task args) = are_written_expressions args
  is_written_form (assign_form n steps h e) = are_written_steps steps && is_written_expression e
  is_written_form (return_form None) = true
  is_written_form (return_form (Some e)) = is_written_expression e

  pub is_written_block : Block → Bool
  is_written_block no_statement = true
  is_written_block (then_statement (a_statement line form) rest) = is_written_form form && is_written_block rest

  pub are_written_arms : Arms → Bool
  are_written_arms no_arm = true
  are_written_arms (an_arm test body rest) =
      is_written_expression test && (is_written_block body && are_written_arms rest)

  pub is_written_else : Otherwise → Bool
  is_written_else no_else = true
  is_written_else (else_block body) = is_written_block body

-- ---- programs

abbrev pub is_written_item : ItemForm → Bool
is_written_item (task_item t) = is_written_block t.body
is_written_item item = true

abbrev pub is_written_program : Tree → Bool
is_written_program tree = list_all (λ (i : ItemTree). is_written_item i.form) tree
