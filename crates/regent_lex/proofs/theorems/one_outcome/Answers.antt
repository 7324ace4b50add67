use Rattle.regent_lex.proofs.Reading.{one_outcome}
use Rattle.regent_lex.proofs.theorems.one_outcome.Goals as goal

pub returns : goal.returns
returns c = λ text place line one other p q. one_outcome p q
