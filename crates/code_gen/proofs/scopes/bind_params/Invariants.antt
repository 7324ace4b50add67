use Rattle.std.proofs.Common.{◌++◌, ◌≡◌, drop, length}
use Rattle.regent_tree.specs.PlainProgram.{tree_of}
use Rattle.regent_tree.specs.Scopes.{bound_params, known_of_params}
use Rattle.code_gen.proofs.scopes.bind_params.Given as goal

abbrev pub invariant-loop-place : goal.invariant-loop-place
invariant-loop-place l = record {
  bound : bound_params (tree_of l.tables) l.params l.place (drop l.place l.params) ++ l.scope.names
      ≡ bound_params (tree_of l.tables) l.params 0 l.params;
  told : l.scope.facts ≡ known_of_params l.scope.names;
  many : length l.scope.names ≡ l.place;
  next : l.scope.next ≡ l.place;
}
