-- Trees as the reader gives them are so as truths, too, and the other way round.
use Rattle.std.proofs.Common.{◌≡◌, [], ◌&&◌, ◌∷◌, true, None, Some, refl, inl, inr, map, subst}
use Rattle.std.proofs.lemmas.Bool.{and_from, and_parts}
use Rattle.regent_tree.proofs.Members.{Contains-from_Has, Has, Has-from_Contains}
use Rattle.regent_tree.specs.Syntax.{Arms, Block, Expression, Expressions, Form, Initializer, ItemForm, ItemTree, Links, Otherwise, Steps, TaskTree, Tree, a_link, a_statement, access_expr, alias_item, an_arm, an_expr, assert_form, assign_form, at_step, both_initializer, by_field_initializer, call_expr, call_form, cast_expr, chain_expr, convert_expr, do_form, either_initializer, else_block, equal_initializer, field_step, fill_form, for_in_form, for_to_form, if_form, image_initializer, import_item, is_null_expr, no_arm, no_else, no_expr, no_link, no_statement, no_step, null_expr, number_expr, plain_initializer, prefix_expr, preimage_initializer, print_form, region_initializer, return_form, space_expr, space_item, start_item, task_item, then_statement, truth_expr, var_form, while_form}
use Rattle.expression_laws.specs.Writing.{AreLinked, AreStepped, AreWritten, IsWritten, has_link}
use Rattle.expression_laws.specs.WrittenStatements.{AreWrittenArms, AreWrittenTasks, IsWrittenBlock, IsWrittenElse, IsWrittenForm, IsWrittenInitializer, names_field}
use Rattle.code_laws.specs.WrittenForms.{are_written_arms, are_written_expressions, are_written_links, are_written_steps, is_written_block, is_written_else, is_written_expression, is_written_form, is_written_initializer, is_written_item, is_written_program}

mutual
  expression_is : (e : Expression) → IsWritten e → is_written_expression e ≡ true
  expression_is (number_expr z w) h = refl
  expression_is (truth_expr b) h = refl
  expression_is (chain_expr first rest) h =
      and_from (is_written_expression first) (has_link rest && are_written_links rest) (expression_is first h.0)
      (and_from (has_link rest) (are_written_links rest) h.2 (links_are rest h.1))
  expression_is (prefix_expr [] e) h = absurd h
  expression_is (prefix_expr (sign ∷ signs) e) h = expression_is e h
  expression_is (access_expr n steps) h = steps_are steps h
  expression_is (call_expr task args) h = expressions_are args h
  expression_is (convert_expr t e) h = expression_is e h
  expression_is (space_expr k e) h = expression_is e h
  expression_is (is_null_expr e) h = expression_is e h
  expression_is (null_expr t) h = refl
  expression_is (cast_expr t e) h = expression_is e h

  links_are : (rest : Links) → AreLinked rest → are_written_links rest ≡ true
  links_are no_link h = refl
  links_are (a_link o e rest) h = and_from (is_written_expression e) (are_written_links rest) (expression_is e h.0) (links_are rest h.1)

  steps_are : (steps : Steps) → AreStepped steps → are_written_steps steps ≡ true
  steps_are no_step h = refl
  steps_are (field_step f rest) h = steps_are rest h
  steps_are (at_step e rest) h = and_from (is_written_expression e) (are_written_steps rest) (expression_is e h.0) (steps_are rest h.1)

  expressions_are : (es : Expressions) → AreWritten es → are_written_expressions es ≡ true
  expressions_are no_expr h = refl
  expressions_are (an_expr e es) h = and_from (is_written_expression e) (are_written_expressions es) (expression_is e h.0) (expressions_are es h.1)

initializer_is : (i : Initializer) → IsWrittenInitializer i → is_written_initializer i ≡ true
initializer_is (plain_initializer e) h = expression_is e h
initializer_is (region_initializer e u) h = expression_is e h
initializer_is (equal_initializer r e) h = expression_is e h
initializer_is (by_field_initializer r f e) h = expression_is e h
initializer_is (image_initializer r p s f) h = refl
initializer_is (preimage_initializer r p s f) h = refl
initializer_is (both_initializer p q) h = refl
initializer_is (either_initializer p q) h = refl

mutual
  form_is : (form : Form) → IsWrittenForm form → is_written_form form ≡ true
  form_is (var_form n t None) h = refl
  form_is (var_form n t (Some i)) h = initializer_is i h
  form_is (if_form arms other) h = and_from (are_written_arms arms) (is_written_else other) (arms_are arms h.0) (else_is other h.1)
  form_is (while_form test body) h = and_from (is_written_expression test) (is_written_block body) (expression_is test h.0) (block_is body h.1)
  form_is (for_in_form demanded n domain body) h =
      and_from (is_written_expression domain) (is_written_block body) (expression_is domain h.0) (block_is body h.1)
  form_is (for_to_form demanded n from to body) h =
      and_from (is_written_expression from) (is_written_expression to && is_written_block body) (expression_is from h.0)
      (and_from (is_written_expression to) (is_written_block body) (expression_is to h.1) (block_is body h.2))
  form_is (do_form body) h = block_is body h
  form_is (fill_form r fields e) h = and_from (names_field fields) (is_written_expression e) h.1 (expression_is e h.0)
  form_is (assert_form e) h = expression_is e h
  form_is (print_form alias format args) h = expressions_are args h
  form_is (call_form task args) h = expressions_are args h
  form_is (assign_form n steps how e) h = and_from (are_written_steps steps) (is_written_expression e) (steps_are steps h.1) (expression_is e h.0)
  form_is (return_form None) h = refl
  form_is (return_form (Some e)) h = expression_is e h

  block_is : (b : Block) → IsWrittenBlock b → is_written_block b ≡ true
  block_is no_statement h = refl
  block_is (then_statement (a_statement line form) rest) h =
      and_from (is_written_form form) (is_written_block rest) (form_is form h.0) (block_is rest h.1)

  arms_are : (arms : Arms) → AreWrittenArms arms → are_written_arms arms ≡ true
  arms_are no_arm h = refl
  arms_are (an_arm test body rest) h =
      and_from (is_written_expression test) (is_written_block body && are_written_arms rest) (expression_is test h.0)
      (and_from (is_written_block body) (are_written_arms rest) (block_is body h.1) (arms_are rest h.2))

  else_is : (other : Otherwise) → IsWrittenElse other → is_written_else other ≡ true
  else_is no_else h = refl
  else_is (else_block body) h = block_is body h

-- ---- programs

item_is : (form : ItemForm) → ((t : TaskTree) → form ≡ task_item t → IsWrittenBlock t.body) → is_written_item form ≡ true
item_is (task_item t) each = block_is t.body (each t refl)
item_is (space_item s) each = refl
item_is import_item each = refl
item_is (alias_item n) each = refl
item_is (start_item n) each = refl

items_are : (items : Tree) → ((t : TaskTree) → Has (map (λ (i : ItemTree). i.form) items) (task_item t) → IsWrittenBlock t.body) → is_written_program items ≡ true
items_are [] each = refl
items_are (i ∷ items) each =
    and_from (is_written_item i.form) (is_written_program items) (item_is i.form (λ t e. each t (inl e))) (items_are items (λ t has. each t (inr has)))

pub written_program : (tree : Tree) → AreWrittenTasks tree → is_written_program tree ≡ true
written_program tree written = items_are tree (λ t has. written t (Contains-from_Has (map (λ (i : ItemTree). i.form) tree) (task_item t) has))

-- ---- the other way round

mutual
  expression_from : (e : Expression) → is_written_expression e ≡ true → IsWritten e
  expression_from (number_expr z w) h = tt
  expression_from (truth_expr b) h = tt
  expression_from (chain_expr first rest) h =
      let parts = and_parts (is_written_expression first) (has_link rest && are_written_links rest) h in
      let more = and_parts (has_link rest) (are_written_links rest) parts.1 in
      (expression_from first parts.0, links_from rest more.1, more.0)
  expression_from (prefix_expr [] e) h = absurd cc
  expression_from (prefix_expr (sign ∷ signs) e) h = expression_from e h
  expression_from (access_expr n steps) h = steps_from steps h
  expression_from (call_expr task args) h = expressions_from args h
  expression_from (convert_expr t e) h = expression_from e h
  expression_from (space_expr k e) h = expression_from e h
  expression_from (is_null_expr e) h = expression_from e h
  expression_from (null_expr t) h = tt
  expression_from (cast_expr t e) h = expression_from e h

  links_from : (rest : Links) → are_written_links rest ≡ true → AreLinked rest
  links_from no_link h = tt
  links_from (a_link o e rest) h =
      let parts = and_parts (is_written_expression e) (are_written_links rest) h in
      (expression_from e parts.0, links_from rest parts.1)

  steps_from : (steps : Steps) → are_written_steps steps ≡ true → AreStepped steps
  steps_from no_step h = tt
  steps_from (field_step f rest) h = steps_from rest h
  steps_from (at_step e rest) h =
      let parts = and_parts (is_written_expression e) (are_written_steps rest) h in
      (expression_from e parts.0, steps_from rest parts.1)

  expressions_from : (es : Expressions) → are_written_expressions es ≡ true → AreWritten es
  expressions_from no_expr h = tt
  expressions_from (an_expr e es) h =
      let parts = and_parts (is_written_expression e) (are_written_expressions es) h in
      (expression_from e parts.0, expressions_from es parts.1)

initializer_from : (i : Initializer) → is_written_initializer i ≡ true → IsWrittenInitializer i
initializer_from (plain_initializer e) h = expression_from e h
initializer_from (region_initializer e u) h = expression_from e h
initializer_from (equal_initializer r e) h = expression_from e h
initializer_from (by_field_initializer r f e) h = expression_from e h
initializer_from (image_initializer r p s f) h = tt
initializer_from (preimage_initializer r p s f) h = tt
initializer_from (both_initializer p q) h = tt
initializer_from (either_initializer p q) h = tt

mutual
  form_from : (form : Form) → is_written_form form ≡ true → IsWrittenForm form
  form_from (var_form n t None) h = tt
  form_from (var_form n t (Some i)) h = initializer_from i h
  form_from (if_form arms other) h =
      let parts = and_parts (are_written_arms arms) (is_written_else other) h in
      (arms_from arms parts.0, else_from other parts.1)
  form_from (while_form test body) h =
      let parts = and_parts (is_written_expression test) (is_written_block body) h in
      (expression_from test parts.0, block_from body parts.1)
  form_from (for_in_form demanded n domain body) h =
      let parts = and_parts (is_written_expression domain) (is_written_block body) h in
      (expression_from domain parts.0, block_from body parts.1)
  form_from (for_to_form demanded n from to body) h =
      let parts = and_parts (is_written_expression from) (is_written_expression to && is_written_block body) h in
      let more = and_parts (is_written_expression to) (is_written_block body) parts.1 in
      (expression_from from parts.0, expression_from to more.0, block_from body more.1)
  form_from (do_form body) h = block_from body h
  form_from (fill_form r fields e) h =
      let parts = and_parts (names_field fields) (is_written_expression e) h in
      (expression_from e parts.1, parts.0)
  form_from (assert_form e) h = expression_from e h
  form_from (print_form alias format args) h = expressions_from args h
  form_from (call_form task args) h = expressions_from args h
  form_from (assign_form n steps how e) h =
      let parts = and_parts (are_written_steps steps) (is_written_expression e) h in
      (expression_from e parts.1, steps_from steps parts.0)
  form_from (return_form None) h = tt
  form_from (return_form (Some e)) h = expression_from e h

  block_from : (b : Block) → is_written_block b ≡ true → IsWrittenBlock b
  block_from no_statement h = tt
  block_from (then_statement (a_statement line form) rest) h =
      let parts = and_parts (is_written_form form) (is_written_block rest) h in
      (form_from form parts.0, block_from rest parts.1)

  arms_from : (arms : Arms) → are_written_arms arms ≡ true → AreWrittenArms arms
  arms_from no_arm h = tt
  arms_from (an_arm test body rest) h =
      let parts = and_parts (is_written_expression test) (is_written_block body && are_written_arms rest) h in
      let more = and_parts (is_written_block body) (are_written_arms rest) parts.1 in
      (expression_from test parts.0, block_from body more.0, arms_from rest more.1)

  else_from : (other : Otherwise) → is_written_else other ≡ true → IsWrittenElse other
  else_from no_else h = tt
  else_from (else_block body) h = block_from body h

items_from : (items : Tree) (t : TaskTree) → is_written_program items ≡ true → Has (map (λ (i : ItemTree). i.form) items) (task_item t) → IsWrittenBlock t.body
items_from [] t h has = absurd has
items_from (i ∷ items) t h (inl e) =
    let parts = and_parts (is_written_item i.form) (is_written_program items) h in
    block_from t.body (subst (λ form. is_written_item form ≡ true) e parts.0)
items_from (i ∷ items) t h (inr has) =
    let parts = and_parts (is_written_item i.form) (is_written_program items) h in
    items_from items t parts.1 has

pub program_written : (tree : Tree) → is_written_program tree ≡ true → AreWrittenTasks tree
program_written tree h t stands = items_from tree t h (Has-from_Contains (map (λ (i : ItemTree). i.form) tree) (task_item t) stands)
