use Rattle.ended_trees.proofs.Ends.{faults_open}
use Rattle.ended_trees.proofs.faults_open.Goals as goal

pub returns : goal.returns
returns c = faults_open
