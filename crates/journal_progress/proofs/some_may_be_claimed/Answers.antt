use Rattle.journal_progress.proofs.Journals.{some_may_be_claimed}
use Rattle.journal_progress.proofs.some_may_be_claimed.Goals as goal

-- src/lib.rt
pub returns : goal.returns
returns c = some_may_be_claimed
