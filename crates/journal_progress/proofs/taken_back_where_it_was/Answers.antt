use Rattle.journal_progress.proofs.Journals.{taken_back_where_it_was}
use Rattle.journal_progress.proofs.taken_back_where_it_was.Goals as goal

-- src/lib.rt
pub returns : goal.returns
returns c = taken_back_where_it_was
