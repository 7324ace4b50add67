use Rattle.statement_laws.proofs.Opened.{opened_instances_are_covered}
use Rattle.statement_laws.proofs.opened_instances_are_covered.Goals as goal

pub returns : goal.returns
returns c = opened_instances_are_covered
