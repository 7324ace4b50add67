use Rattle.state_laws.proofs.Operations.{operations_are_true}
use Rattle.state_laws.proofs.operations_are_true.Goals as goal

pub returns : goal.returns
returns c = operations_are_true
