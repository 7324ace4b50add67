use Rattle.point_sets.proofs.LawProofs.{either}
use Rattle.point_sets.proofs.point_set.PointSet.union.Goals as goal

pub returns-clause-either : goal.returns-clause-either
returns-clause-either c = either
