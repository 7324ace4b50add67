use Rattle.std.proofs.Common.{◌-◌}
use Rattle.point_sets.specs.declared.TheConstants.{POINT_LIMIT}
use Rattle.point_sets.proofs.Converting.{IsMadeTo}
use Rattle.point_sets.proofs.run_set.RunSet.of_plane.Given as goal

abbrev pub invariant-loop-stretch : goal.invariant-loop-stretch
invariant-loop-stretch l = IsMadeTo l.plane l.out l.point

abbrev pub decreases-loop-stretch : goal.decreases-loop-stretch
decreases-loop-stretch l = POINT_LIMIT - l.point
