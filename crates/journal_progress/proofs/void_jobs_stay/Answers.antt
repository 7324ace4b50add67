use Rattle.journal_progress.proofs.Shown.{void_jobs_stay}
use Rattle.journal_progress.proofs.void_jobs_stay.Goals as goal

-- src/lib.rt
pub returns : goal.returns
returns c = void_jobs_stay
