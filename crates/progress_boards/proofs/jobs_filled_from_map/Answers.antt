use Rattle.progress_boards.proofs.Jobs.{jobs_filled_from_map}
use Rattle.progress_boards.proofs.jobs_filled_from_map.Goals as goal

-- src/lib.rt
pub returns : goal.returns
returns c = jobs_filled_from_map
