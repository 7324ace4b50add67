use Rattle.std.proofs.Common.{arith, sym, ap, subst, ◌∙◌}
use Rattle.point_sets.specs.Forms.{IsFewest, IsSettled, points_of}
use Rattle.point_sets.proofs.Settling.{fewest_plane}
use Rattle.point_sets.proofs.point_set.PointSet.words.Goals as goal

pub returns-in-Plane-clause-fewest : goal.returns-in-Plane-clause-fewest
returns-in-Plane-clause-fewest c =
    let known = subst IsSettled c.in-Plane.is c.as_form.ensures.settled in
    let same = sym (ap points_of c.in-Plane.is) ∙ c.as_form.ensures.points in
    subst (λ xs. IsFewest xs c.words.result) same (fewest_plane c.in-Plane.plane c.words.result known c.words.ensures)

pub returns-in-Plane-clause-at_most : goal.returns-in-Plane-clause-at_most
returns-in-Plane-clause-at_most c =
    let fewest = (returns-in-Plane-clause-fewest c).fewest in
    omega arith
