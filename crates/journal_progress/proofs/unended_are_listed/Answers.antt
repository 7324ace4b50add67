use Rattle.journal_progress.proofs.ReadyLaws.{unended_are_listed}
use Rattle.journal_progress.proofs.unended_are_listed.Goals as goal

-- src/lib.rt
pub returns : goal.returns
returns c = unended_are_listed
