use Rattle.journal_progress.proofs.ReadyLaws.{none_wait_for_failed}
use Rattle.journal_progress.proofs.none_wait_for_failed.Goals as goal

-- src/lib.rt
pub returns : goal.returns
returns c = none_wait_for_failed
