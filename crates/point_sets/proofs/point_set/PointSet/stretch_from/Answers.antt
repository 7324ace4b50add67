use Rattle.std.proofs.Common.{ℕ, List, sym, ap, subst, ◌∙◌}
use Rattle.plain_values.specs.Points.{has}
use Rattle.point_sets.specs.Forms.{IsSettled, points_of}
use Rattle.point_sets.specs.Stretches.{IsStretchFrom}
use Rattle.point_sets.proofs.Converting.{stretch_of_plane}
use Rattle.point_sets.proofs.PlaneAnswers.{none_told, some_weaker}
use Rattle.point_sets.proofs.PlaneLists.{has_plane}
use Rattle.point_sets.proofs.point_set.PointSet.stretch_from.Goals as goal

pub returns-in-Plane-clause-stretch : goal.returns-in-Plane-clause-stretch
returns-in-Plane-clause-stretch c =
    let known = subst IsSettled c.in-Plane.is c.as_form.ensures.settled in
    let same = sym (ap points_of c.in-Plane.is) ∙ c.as_form.ensures.points in
    some_weaker c.stretch_from-in-Plane.result _ _ (λ r st. subst (λ (xs : List ℕ). IsStretchFrom xs c.args.point r.start r.end) same (stretch_of_plane c.in-Plane.plane known.0 c.args.point r.start r.end st)) c.stretch_from-in-Plane.ensures.some

pub returns-in-Plane-clause-none : goal.returns-in-Plane-clause-none
returns-in-Plane-clause-none c e z l =
    let known = subst IsSettled c.in-Plane.is c.as_form.ensures.settled in
    let same = sym (ap points_of c.in-Plane.is) ∙ c.as_form.ensures.points in
    ap (λ (xs : List ℕ). has xs z) (sym same) ∙ has_plane c.in-Plane.plane known.0 z ∙ none_told c.stretch_from-in-Plane.result _ c.stretch_from-in-Plane.ensures.none e z l
