-- The plain tree of statements and of a whole program.
use Rattle.std.specs.Prelude.{List, [], ◌∷◌, Option, Some, None, map}
use Rattle.std.specs.declared.alloc.Global.{Global}
use Rattle.std.specs.declared.vec.Vec.{Vec}
use Rattle.std.specs.Option.{option_map}
use Rattle.regent_tree.specs.declared.statement.What.{What, Var, If', While', ForIn', ForTo', Do', Fill, Assert, Print, Call, Assign, Return, Row_of-Arm, end_of-Arm, more_of-Arm, Row_of-Stmt, end_of-Stmt, more_of-Stmt, Held-What-If-1, None', Some'}
use Rattle.regent_tree.specs.declared.statement.Arm.{Arm, Arm'}
use Rattle.regent_tree.specs.declared.statement.Stmt.{Stmt}
use Rattle.regent_tree.specs.declared.program.Task.{Task}
use Rattle.regent_tree.specs.declared.program.Item.{Item}
use Rattle.regent_tree.specs.declared.program.ItemKind.{ItemKind}
use Rattle.regent_tree.specs.declared.program.ItemKind.TheVariants as kind
use Rattle.regent_tree.specs.declared.program.Program.{Program}
use Rattle.regent_tree.specs.Syntax.{a_statement, Form, var_form, if_form, while_form, for_in_form, for_to_form, do_form, fill_form, assert_form, print_form, call_form, assign_form, return_form, Block, no_statement, then_statement, Arms, no_arm, an_arm, Otherwise, no_else, else_block, TaskTree, ItemForm, import_item, alias_item, space_item, task_item, start_item, ItemTree, Tree}
use Rattle.regent_tree.specs.Plain.{expression_of, expressions_in, steps_in, initializer_of}

abbrev mutual
  pub form_of : What → Form
  form_of (Var name term init) = var_form name term (option_map initializer_of init)
  form_of (If' shape arms other) = if_form (arms_of arms) (otherwise_of other)
  form_of (While' test shape body) = while_form (expression_of test) (block_of body)
  form_of (ForIn' demanded name domain shape body) =
      for_in_form demanded name (expression_of domain) (block_of body)
  form_of (ForTo' demanded name from to shape body) =
      for_to_form demanded name (expression_of from) (expression_of to) (block_of body)
  form_of (Do' shape body) = do_form (block_of body)
  form_of (Fill region fields value) = fill_form region fields (expression_of value)
  form_of (Assert test) = assert_form (expression_of test)
  form_of (Print alias format args) = print_form alias format (expressions_in args.items)
  form_of (Call task args) = call_form task (expressions_in args.items)
  form_of (Assign target steps how value) =
      assign_form target (steps_in steps.items) how (expression_of value)
  form_of (Return value) = return_form (option_map expression_of value)

  pub arms_of : {m : _} → Row_of-Arm m → Arms
  arms_of end_of-Arm = no_arm
  arms_of (more_of-Arm (Arm' test shape body) rest) =
      an_arm (expression_of test) (block_of body) (arms_of rest)

  pub block_of : {m : _} → Row_of-Stmt m → Block
  block_of end_of-Stmt = no_statement
  block_of (more_of-Stmt line what rest) =
      then_statement (a_statement line (form_of what)) (block_of rest)

  pub otherwise_of : Held-What-If-1 → Otherwise
  otherwise_of None' = no_else
  otherwise_of (Some' shape body) = else_block (block_of body)

-- the same of the lists that code sees
abbrev pub block_in : List Stmt → Block
block_in [] = no_statement
block_in (s ∷ ss) = then_statement (a_statement s.line (form_of s.what)) (block_in ss)

abbrev pub arm_before : Arm → Arms → Arms
arm_before (Arm' test shape body) rest = an_arm (expression_of test) (block_of body) rest

abbrev pub arms_in : List Arm → Arms
arms_in [] = no_arm
arms_in (a ∷ rest) = arm_before a (arms_in rest)

abbrev pub otherwise_in : Option (Vec Stmt Global) → Otherwise
otherwise_in None = no_else
otherwise_in (Some body) = else_block (block_in body.items)

abbrev pub task_of : Task → TaskTree
task_of t = record {
  name = t.name;
  params = t.params;
  result = t.result;
  clauses = t.clauses;
  body = block_in t.body.items;
}

abbrev pub item_of : ItemKind → ItemForm
item_of kind.Import = import_item
item_of (kind.Alias name) = alias_item name
item_of (kind.Space space) = space_item space
item_of (kind.Task task) = task_item (task_of task)
item_of (kind.Start name) = start_item name

abbrev pub item_tree_of : Item → ItemTree
item_tree_of i = record { line = i.line; form = item_of i.what }

abbrev pub tree_of : Program → Tree
tree_of p = map item_tree_of p.items.items
