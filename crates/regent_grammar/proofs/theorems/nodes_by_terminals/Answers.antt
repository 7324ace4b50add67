use Rattle.regent_grammar.proofs.LimitLaws.{nodes_by_terminals}
use Rattle.regent_grammar.proofs.theorems.nodes_by_terminals.Goals as goal

pub returns : goal.returns
returns c = nodes_by_terminals
