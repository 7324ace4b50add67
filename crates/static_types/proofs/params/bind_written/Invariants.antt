use Rattle.std.proofs.Common.{◌++◌, ◌≡◌, drop, length}
use Rattle.regent_tree.specs.PlainProgram.{tree_of}
use Rattle.regent_tree.specs.Scopes.{bound_params}
use Rattle.static_types.proofs.params.bind_written.Given as goal

abbrev pub invariant-loop-place : goal.invariant-loop-place
invariant-loop-place l = record {
  bound : bound_params (tree_of l.tables) l.params l.place (drop l.place l.params) ++ l.names
      ≡ bound_params (tree_of l.tables) l.params 0 l.params;
  many : length l.names ≡ l.place;
}
