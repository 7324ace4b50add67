use Rattle.journal_progress.proofs.ReadyLaws.{ready_are_claimed}
use Rattle.journal_progress.proofs.ready_are_claimed.Goals as goal

-- src/lib.rt
pub returns : goal.returns
returns c = ready_are_claimed
