use Rattle.std.proofs.Common.{◌-◌}
use Rattle.point_sets.specs.declared.TheConstants.{POINT_LIMIT}
use Rattle.point_sets.proofs.Combining.{IsNoneSoFar}
use Rattle.point_sets.proofs.run_set.RunSet.any_kept.Given as goal

abbrev pub invariant-loop-piece : goal.invariant-loop-piece
invariant-loop-piece l = IsNoneSoFar l.operation l.self l.o l.sweep

abbrev pub decreases-loop-piece : goal.decreases-loop-piece
decreases-loop-piece l = POINT_LIMIT - l.sweep.point
