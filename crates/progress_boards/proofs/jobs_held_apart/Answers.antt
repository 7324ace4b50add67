use Rattle.progress_boards.proofs.Jobs.{jobs_held_apart}
use Rattle.progress_boards.proofs.jobs_held_apart.Goals as goal

-- src/lib.rt
pub returns : goal.returns
returns c = jobs_held_apart
