use Rattle.regent_grammar.proofs.LimitLaws.{excess_by_terminals}
use Rattle.regent_grammar.proofs.theorems.excess_by_terminals.Goals as goal

pub returns : goal.returns
returns c = excess_by_terminals
