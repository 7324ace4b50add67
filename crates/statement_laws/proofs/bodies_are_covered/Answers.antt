use Rattle.statement_laws.proofs.Tasks.{bodies_are_covered}
use Rattle.statement_laws.proofs.bodies_are_covered.Goals as goal

pub returns : goal.returns
returns c = bodies_are_covered
