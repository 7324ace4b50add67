use Rattle.journal_progress.proofs.Journals.{taken_back_as_before}
use Rattle.journal_progress.proofs.taken_back_as_before.Goals as goal

-- src/lib.rt
pub returns : goal.returns
returns c = taken_back_as_before
