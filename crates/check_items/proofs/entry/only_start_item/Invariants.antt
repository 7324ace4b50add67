use Rattle.std.proofs.Common.{◌++◌, ◌≡◌, drop, flat_map, map}
use Rattle.std.specs.Option.{option_map}
use Rattle.std.specs.Prelude.{option_to_list}
use Rattle.regent_tree.specs.PlainProgram.{item_tree_of}
use Rattle.check_rules.specs.rules.Entries.{entry_given}
use Rattle.check_items.specs.Entries.{given_by_begin}
use Rattle.check_items.proofs.entry.only_start_item.Given as goal

abbrev pub invariant-loop-item : goal.invariant-loop-item
invariant-loop-item l = option_to_list (option_map given_by_begin l.found)
    ++ flat_map entry_given (map item_tree_of (drop l.item-index l.items))
    ≡ flat_map entry_given (map item_tree_of l.items)
