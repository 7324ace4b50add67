use Rattle.journal_progress.proofs.NeedsLaws.{needs_are_issued}
use Rattle.journal_progress.proofs.needs_are_issued.Goals as goal

-- src/lib.rt
pub returns : goal.returns
returns c = needs_are_issued
