use Rattle.std.proofs.Common.{◌≡◌, ◌++◌, drop}
use Rattle.regent_tree.specs.PlainProgram.{tree_of}
use Rattle.static_types.specs.Params.{said_from}
use Rattle.static_types.proofs.params.said_params.Given as goal

abbrev pub invariant-loop-place : goal.invariant-loop-place
invariant-loop-place l =
    l.types.items ++ said_from (tree_of l.tables) l.params l.place (drop l.place l.params)
    ≡ said_from (tree_of l.tables) l.params 0 l.params
