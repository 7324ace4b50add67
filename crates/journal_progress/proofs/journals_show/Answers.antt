use Rattle.journal_progress.proofs.Shown.{journals_show}
use Rattle.journal_progress.proofs.journals_show.Goals as goal

-- src/lib.rt
pub returns : goal.returns
returns c = journals_show
