use Rattle.std.proofs.Common.{◌≡◌, length}
use Rattle.region_forest.proofs.tests.single_points.Given as goal

abbrev pub invariant-loop-colour : goal.invariant-loop-colour
invariant-loop-colour l = length l.sets.items ≡ l.colour
