use Rattle.std.proofs.Common.{length, ap, ◌∙◌, subst, arith}
use Rattle.plain_values.specs.Points.{IsPoints}
use Rattle.point_sets.specs.declared.TheConstants.{POINT_LIMIT}
use Rattle.point_sets.proofs.RunLists.{points_of_runs}
use Rattle.point_sets.proofs.RunSearch.{total_last}
use Rattle.point_sets.proofs.run_set.RunSet.len.Goals as goal

pub returns-else-count-eq0-clause-value : goal.returns-else-count-eq0-clause-value
returns-else-count-eq0-clause-value c =
    total_last c.as_runs-runs.result.now _ _ c.as_runs-runs.ensures.runs (omega arith) (omega arith) ∙ ap length c.as_runs-runs.ensures.points

pub returns-else-count-eq0-clause-points : goal.returns-else-count-eq0-clause-points
returns-else-count-eq0-clause-points c =
    subst (IsPoints POINT_LIMIT) c.as_runs-runs.ensures.points (points_of_runs c.as_runs-runs.result.now c.as_runs-runs.ensures.runs)
