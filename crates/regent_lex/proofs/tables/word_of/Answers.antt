use Rattle.regent_lex.specs.Tables.{word_of}
use Rattle.regent_lex.proofs.tables.word_of.Goals as goal

pub returns : goal.returns
unfolding word_of
returns c = c.looked_up.ensures
