use Rattle.point_sets.proofs.LawProofs.{both}
use Rattle.point_sets.proofs.point_set.PointSet.meet.Goals as goal

pub returns-clause-both : goal.returns-clause-both
returns-clause-both c = both
