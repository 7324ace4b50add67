use Rattle.point_sets.proofs.Settling.{points_settled}
use Rattle.point_sets.proofs.point_set.PointSet.of_form.Goals as goal

pub returns-clause-points : goal.returns-clause-points
returns-clause-points c = points_settled c.args.form c.requires
