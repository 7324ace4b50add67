use Rattle.statement_laws.proofs.Tasks.{statements_keep}
use Rattle.statement_laws.proofs.statements_keep.Goals as goal

pub returns : goal.returns
returns c = statements_keep
