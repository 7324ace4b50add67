use Rattle.std.proofs.Common.{◌∙◌}
use Rattle.std.proofs.lemmas.Result.{IfOk-weaker}
use Rattle.point_sets.proofs.PlaneLists.{combined_planes}
use Rattle.point_sets.proofs.form.by_planes.Goals as goal

pub returns-clause-points : goal.returns-clause-points
returns-clause-points c =
    IfOk-weaker c.of_plane.result _ _ (λ _ e. e ∙ combined_planes c.args.operation c.args.left.now c.args.right.now c.in_ok-joined.field-0 c.in_ok-joined.ensures) c.of_plane.ensures.points
