use Rattle.std.proofs.Common.{◌≡◌, ◌++◌, drop}
use Rattle.regent_tree.specs.PlainProgram.{tree_of}
use Rattle.regent_tree.specs.Scopes.{bound_params}
use Rattle.static_types.specs.Params.{beside_from}
use Rattle.written_types.proofs.type_rules.types_of_params.Given as goal

abbrev pub invariant-loop-place : goal.invariant-loop-place
invariant-loop-place l =
    l.types.items ++ beside_from (tree_of l.tables) (bound_params (tree_of l.tables) l.params 0 l.params) l.params l.place (drop l.place l.params)
    ≡ beside_from (tree_of l.tables) (bound_params (tree_of l.tables) l.params 0 l.params) l.params 0 l.params
