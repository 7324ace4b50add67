use Rattle.journal_progress.proofs.Journals.{none_in_progress_interfere}
use Rattle.journal_progress.proofs.none_in_progress_interfere.Goals as goal

-- src/lib.rt
pub returns : goal.returns
returns c = none_in_progress_interfere
