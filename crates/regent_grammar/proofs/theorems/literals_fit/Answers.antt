use Rattle.regent_grammar.proofs.LimitLaws.{literals_fit}
use Rattle.regent_grammar.proofs.theorems.literals_fit.Goals as goal

pub returns : goal.returns
returns c = literals_fit
