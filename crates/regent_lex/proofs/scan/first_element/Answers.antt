use Rattle.regent_lex.proofs.Sound.{first_begins}
use Rattle.regent_lex.proofs.scan.first_element.Goals as goal

pub returns-clause-some : goal.returns-clause-some
returns-clause-some c = first_begins c.args.text.now c.scanned.result c.scanned.ensures
