use Rattle.std.proofs.Common.{◌≡◌, drop, map}
use Rattle.regent_tree.specs.PlainProgram.{item_tree_of, tree_of}
use Rattle.check_rules.specs.first.FirstInItems.{first_declared}
use Rattle.check_rules.specs.first.Rules.{first_in}
use Rattle.check_items.proofs.declarations.check_declarations.Given as goal

abbrev pub invariant-loop-item : goal.invariant-loop-item
invariant-loop-item l =
    first_in (first_declared (tree_of l.tables)) (map item_tree_of (drop l.item-index l.item-items))
    ≡ first_in (first_declared (tree_of l.tables)) (tree_of l.tables)
