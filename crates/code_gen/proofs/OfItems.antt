-- The tasks of a tree are those of the program's items.
use Rattle.std.proofs.Common.{◌≡◌, List, map}
use Rattle.regent_tree.specs.declared.program.Item.{Item}
use Rattle.regent_tree.specs.PlainProgram.{item_tree_of, task_of}
use Rattle.code_rules.specs.Instructions.{tasks_of}
use Rattle.compile_types.specs.Symbols.{tasks_in}
use Rattle.compile_types.proofs.Places.{tasks_of-items}

pub tasks_of_items : (items : List Item) → tasks_of (map item_tree_of items) ≡ map task_of (tasks_in items)
tasks_of_items items = tasks_of-items items
