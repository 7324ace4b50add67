use Rattle.std.proofs.Common.{ℕ, List, sym, ap, subst, ◌∙◌}
use Rattle.plain_values.specs.Points.{within}
use Rattle.point_sets.specs.Forms.{IsSettled, plane_points, points_of}
use Rattle.point_sets.proofs.LawProofs.{each}
use Rattle.point_sets.proofs.PlaneAnswers.{within_planes}
use Rattle.point_sets.proofs.Rising.{within_is}
use Rattle.point_sets.proofs.point_set.PointSet.within.Goals as goal

pub returns-in-Runs-Runs-clause-value : goal.returns-in-Runs-Runs-clause-value
returns-in-Runs-Runs-clause-value c =
    let xs = c.in-Runs-Runs.left in
    let ys = c.in-Runs-Runs.right in
    let same = sym (ap points_of c.in-Runs-Runs.is-0) ∙ c.as_form.ensures.points in
    let other = sym (ap points_of c.in-Runs-Runs.is-1) ∙ c.as_form-2.ensures.points in
    within_is c.any_kept.result xs ys c.any_kept.ensures.some c.any_kept.ensures.none ∙ ap (λ (zs : List ℕ). within zs ys) same ∙ ap (within c.args.self.now) other

pub returns-in-Runs-Runs-clause-each : goal.returns-in-Runs-Runs-clause-each
returns-in-Runs-Runs-clause-each c = each

pub returns-in-Plane-Plane-clause-value : goal.returns-in-Plane-Plane-clause-value
returns-in-Plane-Plane-clause-value c =
    let s = c.in-Plane-Plane.left in
    let t = c.in-Plane-Plane.right in
    let known = subst IsSettled c.in-Plane-Plane.is-0 c.as_form.ensures.settled in
    let told = subst IsSettled c.in-Plane-Plane.is-1 c.as_form-2.ensures.settled in
    let same = sym (ap points_of c.in-Plane-Plane.is-0) ∙ c.as_form.ensures.points in
    let other = sym (ap points_of c.in-Plane-Plane.is-1) ∙ c.as_form-2.ensures.points in
    within_planes s t known.0 told.0 c.within.result c.within.ensures.all c.within.ensures.some ∙ ap (λ (zs : List ℕ). within zs (plane_points t)) same ∙ ap (within c.args.self.now) other

pub returns-in-Plane-Plane-clause-each : goal.returns-in-Plane-Plane-clause-each
returns-in-Plane-Plane-clause-each c = each

pub returns-in_default-clause-each : goal.returns-in_default-clause-each
returns-in_default-clause-each c = each
