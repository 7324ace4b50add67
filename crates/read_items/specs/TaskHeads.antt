-- The task that a head makes of a body.
use Rattle.read_items.specs.declared.task_heads.TaskHead.{TaskHead}
use Rattle.regent_grammar.specs.Items.{a_task}
use Rattle.regent_tree.specs.Syntax.{Block, ItemForm}

abbrev pub headed : TaskHead → Block → ItemForm
headed h = a_task h.name h.params h.result h.clauses
