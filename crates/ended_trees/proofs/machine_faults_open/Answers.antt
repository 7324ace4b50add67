use Rattle.ended_trees.proofs.Ends.{machine_faults_open}
use Rattle.ended_trees.proofs.machine_faults_open.Goals as goal

pub returns : goal.returns
returns c = machine_faults_open
