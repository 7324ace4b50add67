use Rattle.std.proofs.Common.{◌≡◌, ◌++◌, drop, map}
use Rattle.regent_tree.specs.PlainProgram.{item_tree_of, tree_of}
use Rattle.regent_tree.specs.StaticTypes.{spaces_of}
use Rattle.code_rules.specs.Programs.{space_code}
use Rattle.compile_tables.proofs.spaces.spaces_of_program.Given as goal

abbrev pub invariant-loop-item : goal.invariant-loop-item
invariant-loop-item l =
    l.codes ++ map space_code (spaces_of (map item_tree_of (drop l.item-index l.program.items.items)))
    ≡ map space_code (spaces_of (tree_of l.program))
