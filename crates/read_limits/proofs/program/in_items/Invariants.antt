use Rattle.std.proofs.Common.{◌≡◌, drop, map}
use Rattle.regent_tree.specs.PlainProgram.{item_tree_of}
use Rattle.regent_tree.specs.Limits.{first_excess, parts_of_items}
use Rattle.read_limits.proofs.program.in_items.Given as goal

abbrev pub invariant-loop-item : goal.invariant-loop-item
invariant-loop-item l =
    first_excess (parts_of_items (map item_tree_of (drop l.item-index l.items)))
    ≡ first_excess (parts_of_items (map item_tree_of l.items))
