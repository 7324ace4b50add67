use Rattle.progress_boards.proofs.Jobs.{jobs_in_progress_apart}
use Rattle.progress_boards.proofs.jobs_in_progress_apart.Goals as goal

-- src/lib.rt
pub returns : goal.returns
returns c = jobs_in_progress_apart
