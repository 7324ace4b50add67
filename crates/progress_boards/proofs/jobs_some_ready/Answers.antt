use Rattle.progress_boards.proofs.Jobs.{jobs_some_ready}
use Rattle.progress_boards.proofs.jobs_some_ready.Goals as goal

-- src/lib.rt
pub returns : goal.returns
returns c = jobs_some_ready
