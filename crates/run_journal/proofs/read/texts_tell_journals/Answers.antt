use Rattle.run_journal.proofs.Lines.{texts_have_no_bad_line, texts_tell}
use Rattle.run_journal.proofs.read.texts_tell_journals.Goals as goal

pub returns-clause-one : goal.returns-clause-one
returns-clause-one c = texts_tell

pub returns-clause-good : goal.returns-clause-good
returns-clause-good c = texts_have_no_bad_line
