use Rattle.journal_progress.proofs.Journals.{moved_from_map}
use Rattle.journal_progress.proofs.moved_from_map.Goals as goal

-- src/lib.rt
pub returns : goal.returns
returns c = moved_from_map
