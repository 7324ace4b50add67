use Rattle.regent_grammar.proofs.LimitLaws.{numbers_of_text}
use Rattle.regent_grammar.proofs.theorems.numbers_of_text.Goals as goal

pub returns : goal.returns
returns c = numbers_of_text
