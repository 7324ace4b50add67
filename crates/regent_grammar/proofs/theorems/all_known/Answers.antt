use Rattle.regent_grammar.proofs.SymbolLaws.{all_known}
use Rattle.regent_grammar.proofs.theorems.all_known.Goals as goal

pub returns : goal.returns
returns c = all_known
