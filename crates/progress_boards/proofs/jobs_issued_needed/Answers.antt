use Rattle.progress_boards.proofs.Jobs.{jobs_issued_needed}
use Rattle.progress_boards.proofs.jobs_issued_needed.Goals as goal

-- src/lib.rt
pub returns : goal.returns
returns c = jobs_issued_needed
