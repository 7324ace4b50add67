-- Programs over scalars: one task, and in it numbers and truths alone. There is no call, field space or
-- clause, and no type, expression or initializer with a region, partition, pointer, index or index space.
use Rattle.std.specs.Prelude.{Bool, true, false, List, [], ◌∷◌, Option, Some, None, ◌&&◌, ◌==◌}
use Rattle.std.specs.List.{list_all}
use Rattle.regent_tree.specs.Limits.{tasks_in}
use Rattle.regent_tree.specs.Syntax.{Arms, Block, Expression, Expressions, Form, Initializer, ItemForm, ItemTree, Links, Otherwise, Steps, TaskTree, Tree, a_link, a_statement, access_expr, alias_item, an_arm, an_expr, assert_form, assign_form, at_step, chain_expr, convert_expr, do_form, else_block, field_step, for_to_form, if_form, import_item, no_arm, no_else, no_expr, no_link, no_statement, no_step, number_expr, plain_initializer, prefix_expr, print_form, return_form, start_item, task_item, then_statement, truth_expr, var_form, while_form}
use Rattle.regent_tree.specs.declared.types.NumberTerm.{NumberTerm}
use Rattle.regent_tree.specs.declared.types.NumberTerm.TheVariants.{Int32, Int64}
use Rattle.regent_tree.specs.declared.types.Param.{Param}
use Rattle.regent_tree.specs.declared.types.TypeTerm.{TypeTerm}
use Rattle.regent_tree.specs.declared.types.TypeTerm.TheVariants.{Number, Truth}

abbrev pub is_scalar_number : NumberTerm → Bool
is_scalar_number Int32 = true
is_scalar_number Int64 = true
is_scalar_number t = false

abbrev pub is_scalar_term : TypeTerm → Bool
is_scalar_term (Number n) = is_scalar_number n
is_scalar_term Truth = true
is_scalar_term t = false

-- the type that is written, if one is
abbrev pub is_scalar_if_said : Option TypeTerm → Bool
is_scalar_if_said None = true
is_scalar_if_said (Some t) = is_scalar_term t

-- a name without steps
abbrev pub is_bare : Steps → Bool
is_bare no_step = true
is_bare (field_step f rest) = false
is_bare (at_step e rest) = false

abbrev mutual
  pub is_scalar_expression : Expression → Bool
  is_scalar_expression (number_expr z w) = true
  is_scalar_expression (truth_expr b) = true
  is_scalar_expression (chain_expr first rest) = is_scalar_expression first && are_scalar_links rest
  is_scalar_expression (prefix_expr signs e) = is_scalar_expression e
  is_scalar_expression (access_expr n steps) = is_bare steps
  is_scalar_expression (convert_expr t e) = is_scalar_number t && is_scalar_expression e
  is_scalar_expression e = false

  pub are_scalar_links : Links → Bool
  are_scalar_links no_link = true
  are_scalar_links (a_link o e rest) = is_scalar_expression e && are_scalar_links rest

abbrev pub are_scalar_expressions : Expressions → Bool
are_scalar_expressions no_expr = true
are_scalar_expressions (an_expr e es) = is_scalar_expression e && are_scalar_expressions es

abbrev pub is_scalar_initializer : Option Initializer → Bool
is_scalar_initializer None = true
is_scalar_initializer (Some (plain_initializer e)) = is_scalar_expression e
is_scalar_initializer initializer = false

abbrev pub is_scalar_value : Option Expression → Bool
is_scalar_value None = true
is_scalar_value (Some e) = is_scalar_expression e

abbrev mutual
  pub is_scalar_form : Form → Bool
  is_scalar_form (var_form n t initializer) = is_scalar_if_said t && is_scalar_initializer initializer
  is_scalar_form (if_form arms other) = are_scalar_arms arms && is_scalar_else other
  is_scalar_form (while_form test body) = is_scalar_expression test && is_scalar_block body
  is_scalar_form (for_to_form demanded n from to body) =
      is_scalar_expression from && (is_scalar_expression to && is_scalar_block body)
  is_scalar_form (do_form body) = is_scalar_block body
  is_scalar_form (assert_form e) = is_scalar_expression e
  is_scalar_form (print_form alias format args) = are_scalar_expressions args
  is_scalar_form (assign_form n steps how e) = is_bare steps && is_scalar_expression e
  is_scalar_form (return_form e) = is_scalar_value e
  is_scalar_form form = false

  pub is_scalar_block : Block → Bool
  is_scalar_block no_statement = true
  is_scalar_block (then_statement (a_statement line form) rest) = is_scalar_form form && is_scalar_block rest

  pub are_scalar_arms : Arms → Bool
  are_scalar_arms no_arm = true
  are_scalar_arms (an_arm test body rest) =
      is_scalar_expression test && (is_scalar_block body && are_scalar_arms rest)

  pub is_scalar_else : Otherwise → Bool
  is_scalar_else no_else = true
  is_scalar_else (else_block body) = is_scalar_block body

abbrev pub is_empty : {A : Type 0} → List A → Bool
is_empty [] = true
is_empty (x ∷ xs) = false

abbrev pub is_scalar_task : TaskTree → Bool
is_scalar_task t = list_all (λ (p : Param). is_scalar_term p.term) t.params
    && (is_scalar_if_said t.result && (is_empty t.clauses && is_scalar_block t.body))

abbrev pub is_scalar_item : ItemForm → Bool
is_scalar_item import_item = true
is_scalar_item (alias_item n) = true
is_scalar_item (start_item n) = true
is_scalar_item (task_item t) = is_scalar_task t
is_scalar_item item = false

abbrev pub is_scalar_program : Tree → Bool
is_scalar_program tree = list_all (λ (i : ItemTree). is_scalar_item i.form) tree && (tasks_in tree == 1)
