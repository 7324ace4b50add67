use Rattle.regent_grammar.proofs.Laws.{reading_is_exact}
use Rattle.regent_grammar.proofs.theorems.reading_is_exact.Goals as goal

pub returns : goal.returns
returns c = reading_is_exact
