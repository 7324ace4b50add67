use Rattle.regent_lex.specs.Tables.{mark_of}
use Rattle.regent_lex.proofs.tables.mark_of.Goals as goal

pub returns : goal.returns
unfolding mark_of
returns c = c.looked_up.ensures
