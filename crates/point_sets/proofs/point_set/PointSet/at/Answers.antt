use Rattle.std.proofs.Common.{ℕ, List, slice_get, sym, ap, subst, ◌∙◌}
use Rattle.point_sets.specs.Forms.{IsSettled, points_of}
use Rattle.point_sets.proofs.Places.{none_at}
use Rattle.point_sets.proofs.PlaneAnswers.{at_is}
use Rattle.point_sets.proofs.point_set.PointSet.at.Goals as goal

pub returns-in-Plane-clause-value : goal.returns-in-Plane-clause-value
returns-in-Plane-clause-value c =
    let known = subst IsSettled c.in-Plane.is c.as_form.ensures.settled in
    at_is c.in-Plane.plane known.0 c.args.place c.at-in-Plane.result c.at-in-Plane.ensures.some c.at-in-Plane.ensures.none ∙ ap (λ (xs : List ℕ). slice_get xs c.args.place) (sym (ap points_of c.in-Plane.is) ∙ c.as_form.ensures.points)

pub returns-in-Plane-clause-none : goal.returns-in-Plane-clause-none
returns-in-Plane-clause-none c = none_at c.args.self.now c.args.place c.at-in-Plane.result (returns-in-Plane-clause-value c)
