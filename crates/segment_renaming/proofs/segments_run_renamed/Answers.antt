use Rattle.segment_renaming.proofs.Segments.{segment_renamed}
use Rattle.segment_renaming.proofs.segments_run_renamed.Goals as goal

pub returns : goal.returns
returns c = segment_renamed
