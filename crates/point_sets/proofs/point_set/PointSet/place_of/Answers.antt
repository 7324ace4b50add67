use Rattle.std.proofs.Common.{eqb, sym, ap, subst, ◌∙◌}
use Rattle.std.specs.List.{position}
use Rattle.point_sets.specs.Forms.{IsSettled, points_of}
use Rattle.point_sets.proofs.Places.{place_none, place_told}
use Rattle.point_sets.proofs.PlaneAnswers.{place_is}
use Rattle.point_sets.proofs.point_set.PointSet.place_of.Goals as goal

pub returns-in-Plane-clause-value : goal.returns-in-Plane-clause-value
returns-in-Plane-clause-value c =
    let known = subst IsSettled c.in-Plane.is c.as_form.ensures.settled in
    place_is c.in-Plane.plane known.0 c.args.point c.place_of-in-Plane.result c.place_of-in-Plane.ensures.some c.place_of-in-Plane.ensures.none ∙ ap (position (λ y. eqb y c.args.point)) (sym (ap points_of c.in-Plane.is) ∙ c.as_form.ensures.points)

pub returns-in-Plane-clause-found : goal.returns-in-Plane-clause-found
returns-in-Plane-clause-found c = place_told c.args.self.now c.args.point _ (returns-in-Plane-clause-value c)

pub returns-in-Plane-clause-none : goal.returns-in-Plane-clause-none
returns-in-Plane-clause-none c = place_none c.args.self.now c.args.point _ (returns-in-Plane-clause-value c)
