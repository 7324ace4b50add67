use Rattle.journal_progress.proofs.NeedsLaws.{current_needs_are_apart}
use Rattle.journal_progress.proofs.current_needs_are_apart.Goals as goal

-- src/lib.rt
pub returns : goal.returns
returns c = current_needs_are_apart
