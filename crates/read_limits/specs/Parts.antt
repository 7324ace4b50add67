-- The parts of lists, as the code sees them.
use Rattle.std.specs.Prelude.{Bool, true, false, List, [], ◌∷◌, ◌++◌}
use Rattle.regent_tree.specs.Syntax.{ItemForm, task_item, space_item}
use Rattle.regent_tree.specs.declared.expression.Step.{Step, Field, At}
use Rattle.regent_tree.specs.Plain.{expression_of}
use Rattle.regent_tree.specs.declared.statement.Arm.{Arm, out-Arm}
use Rattle.regent_tree.specs.PlainProgram.{block_in}
use Rattle.regent_tree.specs.Limits.{Part, node, parts_of_expression, parts_of_block}

abbrev pub parts_of_step : Step → List Part
parts_of_step (Field name) = node ∷ []
parts_of_step (At e) = node ∷ parts_of_expression (expression_of e)

abbrev pub parts_of_arm : Arm → List Part
parts_of_arm a =
    parts_of_expression (expression_of (out-Arm a).test)
    ++ parts_of_block (block_in (out-Arm a).body.items)

-- whether an item is a task, or a field space
abbrev pub is_task : ItemForm → Bool
is_task (task_item t) = true
is_task _ = false

abbrev pub is_space : ItemForm → Bool
is_space (space_item s) = true
is_space _ = false
