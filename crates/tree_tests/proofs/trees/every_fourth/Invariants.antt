use Rattle.std.proofs.Common.{◌≡◌, length}
use Rattle.tree_tests.proofs.trees.every_fourth.Given as goal

abbrev pub invariant-loop-colour : goal.invariant-loop-colour
invariant-loop-colour l = length l.sets.items ≡ l.colour
