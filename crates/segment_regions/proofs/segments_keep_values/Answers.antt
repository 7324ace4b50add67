use Rattle.segment_regions.proofs.Values.{segments_keep_values}
use Rattle.segment_regions.proofs.segments_keep_values.Goals as goal

pub returns : goal.returns
returns c = segments_keep_values
