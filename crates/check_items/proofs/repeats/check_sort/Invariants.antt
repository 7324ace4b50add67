use Rattle.std.proofs.Common.{◌≡◌, drop, flat_map, map}
use Rattle.regent_tree.specs.PlainProgram.{item_tree_of}
use Rattle.check_rules.specs.first.FirstInItems.{first_line}
use Rattle.check_rules.specs.rules.Repeats.{repeats}
use Rattle.check_rules.specs.declared.rule.Rule.TheVariants as rule
use Rattle.check_items.specs.Given.{first_again, given_as, given_in}
use Rattle.check_items.proofs.repeats.check_sort.Given as goal

abbrev pub invariant-loop-item : goal.invariant-loop-item
invariant-loop-item l = first_again l.given.keys (flat_map (given_in l.sort) (drop l.item-index l.items))
    ≡ first_line rule.Twice (repeats (flat_map (given_as l.sort) (map item_tree_of l.items)))
