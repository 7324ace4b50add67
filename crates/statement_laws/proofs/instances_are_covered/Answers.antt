use Rattle.statement_laws.proofs.Answers.{instances_are_covered}
use Rattle.statement_laws.proofs.instances_are_covered.Goals as goal

pub returns : goal.returns
returns c = instances_are_covered
