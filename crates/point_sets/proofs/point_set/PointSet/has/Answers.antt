use Rattle.std.proofs.Common.{sym, ap, subst, ◌∙◌}
use Rattle.plain_values.specs.Points.{has}
use Rattle.point_sets.specs.Forms.{IsSettled, points_of}
use Rattle.point_sets.proofs.LawProofs.{decided, tells}
use Rattle.point_sets.proofs.PlaneLists.{has_plane}
use Rattle.point_sets.proofs.point_set.PointSet.has.Goals as goal

pub returns-in-Plane-clause-value : goal.returns-in-Plane-clause-value
returns-in-Plane-clause-value c =
    let known = subst IsSettled c.in-Plane.is c.as_form.ensures.settled in
    c.has-in-Plane.ensures ∙ sym (has_plane c.in-Plane.plane known.0 c.args.point) ∙ ap (λ xs. has xs c.args.point) (sym (ap points_of c.in-Plane.is) ∙ c.as_form.ensures.points)

pub returns-in-Runs-clause-tells : goal.returns-in-Runs-clause-tells
returns-in-Runs-clause-tells c = tells

pub returns-in-Runs-clause-decided : goal.returns-in-Runs-clause-decided
returns-in-Runs-clause-decided c = decided

pub returns-in-Plane-clause-tells : goal.returns-in-Plane-clause-tells
returns-in-Plane-clause-tells c = tells

pub returns-in-Plane-clause-decided : goal.returns-in-Plane-clause-decided
returns-in-Plane-clause-decided c = decided
