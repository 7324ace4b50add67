use Rattle.expression_laws.proofs.Laws.{calls_lie_within}
use Rattle.expression_laws.proofs.calls_lie_within.Goals as goal

pub returns : goal.returns
returns c = calls_lie_within
