use Rattle.expression_laws.proofs.Laws.{arguments_fit}
use Rattle.expression_laws.proofs.arguments_fit.Goals as goal

pub returns : goal.returns
returns c = arguments_fit
