use Rattle.statement_laws.proofs.Opened.{opened_calls_lie_within}
use Rattle.statement_laws.proofs.opened_calls_lie_within.Goals as goal

pub returns : goal.returns
returns c = opened_calls_lie_within
