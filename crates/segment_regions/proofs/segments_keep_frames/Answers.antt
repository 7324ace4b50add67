use Rattle.segment_regions.proofs.Frames.{segments_keep_frames}
use Rattle.segment_regions.proofs.segments_keep_frames.Goals as goal

pub returns : goal.returns
returns c = segments_keep_frames
