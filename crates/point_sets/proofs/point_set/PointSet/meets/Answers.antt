use Rattle.std.proofs.Common.{ℕ, List, sym, ap, subst, ◌∙◌}
use Rattle.plain_values.specs.Points.{meets}
use Rattle.point_sets.specs.Forms.{IsSettled, plane_points, points_of}
use Rattle.point_sets.proofs.LawProofs.{shared}
use Rattle.point_sets.proofs.PlaneAnswers.{meets_planes}
use Rattle.point_sets.proofs.Rising.{meets_is}
use Rattle.point_sets.proofs.point_set.PointSet.meets.Goals as goal

pub returns-in-Runs-Runs-clause-value : goal.returns-in-Runs-Runs-clause-value
returns-in-Runs-Runs-clause-value c =
    let xs = c.in-Runs-Runs.left in
    let ys = c.in-Runs-Runs.right in
    let same = sym (ap points_of c.in-Runs-Runs.is-0) ∙ c.as_form.ensures.points in
    let other = sym (ap points_of c.in-Runs-Runs.is-1) ∙ c.as_form-2.ensures.points in
    meets_is c.any_kept.result xs ys c.any_kept.ensures.some c.any_kept.ensures.none ∙ ap (λ (zs : List ℕ). meets zs ys) same ∙ ap (meets c.args.self.now) other

pub returns-in-Runs-Runs-clause-shared : goal.returns-in-Runs-Runs-clause-shared
returns-in-Runs-Runs-clause-shared c = shared

pub returns-in-Plane-Plane-clause-value : goal.returns-in-Plane-Plane-clause-value
returns-in-Plane-Plane-clause-value c =
    let s = c.in-Plane-Plane.left in
    let t = c.in-Plane-Plane.right in
    let known = subst IsSettled c.in-Plane-Plane.is-0 c.as_form.ensures.settled in
    let told = subst IsSettled c.in-Plane-Plane.is-1 c.as_form-2.ensures.settled in
    let same = sym (ap points_of c.in-Plane-Plane.is-0) ∙ c.as_form.ensures.points in
    let other = sym (ap points_of c.in-Plane-Plane.is-1) ∙ c.as_form-2.ensures.points in
    meets_planes s t known.0 told.0 c.meets.result c.meets.ensures.some c.meets.ensures.none ∙ ap (λ (zs : List ℕ). meets zs (plane_points t)) same ∙ ap (meets c.args.self.now) other

pub returns-in-Plane-Plane-clause-shared : goal.returns-in-Plane-Plane-clause-shared
returns-in-Plane-Plane-clause-shared c = shared

pub returns-in_default-clause-shared : goal.returns-in_default-clause-shared
returns-in_default-clause-shared c = shared
