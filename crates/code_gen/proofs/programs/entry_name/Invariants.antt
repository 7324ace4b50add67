use Rattle.std.proofs.Common.{◌≡◌, drop, map}
use Rattle.regent_tree.specs.PlainProgram.{item_tree_of}
use Rattle.regent_tree.specs.StaticTypes.{entry_name}
use Rattle.code_gen.proofs.programs.entry_name.Given as goal

abbrev pub invariant-loop-item : goal.invariant-loop-item
invariant-loop-item l = entry_name (map item_tree_of (drop l.item-index l.items)) ≡ entry_name (map item_tree_of l.items)
