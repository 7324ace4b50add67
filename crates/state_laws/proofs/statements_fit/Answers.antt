use Rattle.state_laws.proofs.Laws.{statements_fit}
use Rattle.state_laws.proofs.statements_fit.Goals as goal

pub returns : goal.returns
returns c = statements_fit
