-- The statements of a program, each with the scope that the meaning of programs has there: a block
-- begins in the scope of its statement, where a loop binds its variable, and past the binding numbers
-- of the arms before it; a statement stands in the scope after those before it.
use Rattle.std.specs.Prelude.{List, [], flat_map, true, ◌++◌, ◌∷◌}
use Rattle.regent_tree.specs.Scopes.{Scope, past, scope_of, with_name}
use Rattle.regent_tree.specs.Syntax.{Arms, Block, Expression, Form, ItemForm, ItemTree, Otherwise, TaskTree, Tree, a_statement, an_arm, do_form, else_block, for_in_form, for_to_form, if_form, no_arm, no_else, no_statement, task_item, then_statement, while_form}
use Rattle.regent_tree.specs.Typing.{arithmetic_type, scope_after, scope_after_arms, scope_after_block, taken_from, type_of}
use Rattle.regent_tree.specs.declared.typing.Bound.{Bound}
use Rattle.check_rules.specs.types.Parts.{subexpressions}
use Rattle.check_rules.specs.scopes.Visits.{Visit, heads_of, targets_of}

abbrev mutual
  pub meant_in : Tree → TaskTree → Scope → Block → List Visit
  meant_in tree t s no_statement = []
  meant_in tree t s (then_statement (a_statement line form) rest) =
      (record { task = t; scope = s; line = line; form = form }
      ∷ meant_within tree t s form) ++ meant_in tree t (scope_after tree s form) rest

  -- the statements in the blocks of a statement
  pub meant_within : Tree → TaskTree → Scope → Form → List Visit
  meant_within tree t s (if_form arms other) =
      meant_in_arms tree t s arms ++ meant_in_else tree t (scope_after_arms tree s arms) other
  meant_within tree t s (while_form test body) = meant_in tree t s body
  meant_within tree t s (for_in_form demanded n domain body) =
      meant_in tree t (with_name s n (taken_from (type_of tree s domain)) true) body
  meant_within tree t s (for_to_form demanded n from to body) = meant_in tree t
      (with_name s n (arithmetic_type (type_of tree s from) (type_of tree s to)) true) body
  meant_within tree t s (do_form body) = meant_in tree t s body
  meant_within tree t s form = []

  pub meant_in_arms : Tree → TaskTree → Scope → Arms → List Visit
  meant_in_arms tree t s no_arm = []
  meant_in_arms tree t s (an_arm test body rest) = meant_in tree t s body
      ++ meant_in_arms tree t (past s (scope_after_block tree s body)) rest

  pub meant_in_else : Tree → TaskTree → Scope → Otherwise → List Visit
  meant_in_else tree t s no_else = []
  meant_in_else tree t s (else_block body) = meant_in tree t s body

abbrev pub meant_of_item : Tree → ItemForm → List Visit
meant_of_item tree (task_item t) = meant_in tree t (scope_of tree t) t.body
meant_of_item tree form = []

abbrev pub meant_visits : Tree → List Visit
meant_visits tree = flat_map (λ (i : ItemTree). meant_of_item tree i.form) tree

-- the expressions that stand in a statement itself, with all expressions in them: they are evaluated
-- in the scope of the statement
abbrev pub expressions_at : List Bound → Form → List Expression
expressions_at names form = flat_map subexpressions (heads_of names form ++ targets_of form)
