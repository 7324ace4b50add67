use Rattle.std.proofs.Common.{List, subst, sym, ◌∙◌}
use Rattle.plain_values.specs.Points.{IsPoints}
use Rattle.point_sets.specs.Runs.{points_in}
use Rattle.point_sets.specs.declared.runs.Run.{Run}
use Rattle.point_sets.specs.declared.TheConstants.{POINT_LIMIT}
use Rattle.point_sets.proofs.RunLists.{points_of_runs}
use Rattle.point_sets.proofs.run_set.RunSet.copy.Goals as goal

pub returns-clause-points : goal.returns-clause-points
returns-clause-points c =
    let same = c.in_ok-runs.ensures.items ∙ c.as_slice.ensures.value in
    subst (λ (rs : List Run). IsPoints POINT_LIMIT (points_in rs)) (sym same) (points_of_runs c.self.inside.runs.items c.self.invariant)
