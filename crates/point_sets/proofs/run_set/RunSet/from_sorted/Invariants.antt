use Rattle.std.proofs.Common.{◌≡◌, take}
use Rattle.point_sets.proofs.run_set.RunSet.from_sorted.Given as goal

abbrev pub invariant-loop-point : goal.invariant-loop-point
invariant-loop-point l = l.out ≡ take l.point-index l.points
