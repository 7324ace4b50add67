use Rattle.regent_lex.proofs.Reading.{told_only}
use Rattle.regent_lex.proofs.Placed.{all_within, all_on_line, all_spelt}
use Rattle.regent_lex.proofs.lex.tokens.Goals as goal

pub returns-clause-only : goal.returns-clause-only
returns-clause-only c = λ out d. told_only _ c.read_all.result out d c.read_all.ensures

pub returns-clause-within : goal.returns-clause-within
returns-clause-within c = all_within _ c.read_all.result c.read_all.ensures

pub returns-clause-lines : goal.returns-clause-lines
returns-clause-lines c = all_on_line _ c.read_all.result c.read_all.ensures

pub returns-clause-kinds : goal.returns-clause-kinds
returns-clause-kinds c = all_spelt _ c.read_all.result c.read_all.ensures
