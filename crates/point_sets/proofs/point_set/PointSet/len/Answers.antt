use Rattle.std.proofs.Common.{length, sym, ap, subst, ◌∙◌}
use Rattle.plain_values.specs.Points.{IsPoints}
use Rattle.point_sets.specs.Forms.{points_of}
use Rattle.point_sets.specs.declared.TheConstants.{POINT_LIMIT}
use Rattle.point_sets.proofs.PlaneLists.{length-plane_points}
use Rattle.point_sets.proofs.Settling.{points_settled}
use Rattle.point_sets.proofs.point_set.PointSet.len.Goals as goal

pub returns-in-Plane-clause-value : goal.returns-in-Plane-clause-value
returns-in-Plane-clause-value c =
    c.len-in-Plane.ensures.value ∙ sym (length-plane_points c.in-Plane.plane) ∙ ap length (sym (ap points_of c.in-Plane.is) ∙ c.as_form.ensures.points)

pub returns-in-Plane-clause-points : goal.returns-in-Plane-clause-points
returns-in-Plane-clause-points c =
    subst (IsPoints POINT_LIMIT) c.as_form.ensures.points (points_settled c.as_form.result.now c.as_form.ensures.settled)
