use Rattle.journal_progress.proofs.Journals.{unfinished_are_listed}
use Rattle.journal_progress.proofs.unfinished_are_listed.Goals as goal

-- src/lib.rt
pub returns : goal.returns
returns c = unfinished_are_listed
