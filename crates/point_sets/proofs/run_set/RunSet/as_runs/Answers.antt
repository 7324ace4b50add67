use Rattle.std.proofs.Common.{subst}
use Rattle.plain_values.specs.Points.{IsPoints}
use Rattle.point_sets.specs.declared.TheConstants.{POINT_LIMIT}
use Rattle.point_sets.proofs.RunLists.{points_of_runs}
use Rattle.point_sets.proofs.run_set.RunSet.as_runs.Goals as goal

pub returns-clause-set : goal.returns-clause-set
returns-clause-set c =
    subst (IsPoints POINT_LIMIT) c.self.view_is (points_of_runs c.self.inside.runs.items c.self.invariant)
