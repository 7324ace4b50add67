use Rattle.std.proofs.Common.{◌≡◌, ◌++◌, drop}
use Rattle.regent_tree.specs.Plain.{expressions_in}
use Rattle.regent_tree.specs.Typing.{types_of}
use Rattle.compile_types.specs.Here.{where_of}
use Rattle.compile_types.proofs.typing.types_of.Given as goal

abbrev pub invariant-loop-arg : goal.invariant-loop-arg
invariant-loop-arg l =
    l.types.items ++ types_of (where_of l.here).tree (where_of l.here).scope (expressions_in (drop l.arg-index l.args))
    ≡ types_of (where_of l.here).tree (where_of l.here).scope (expressions_in l.args)
