use Rattle.regent_grammar.proofs.Laws.{all_decided}
use Rattle.regent_grammar.proofs.theorems.all_decided.Goals as goal

pub returns : goal.returns
returns c = all_decided
