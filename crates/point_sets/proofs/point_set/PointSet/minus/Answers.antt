use Rattle.point_sets.proofs.LawProofs.{rest}
use Rattle.point_sets.proofs.point_set.PointSet.minus.Goals as goal

pub returns-clause-rest : goal.returns-clause-rest
returns-clause-rest c = rest
