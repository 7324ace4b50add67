use Rattle.segment_regions.proofs.Pendings.{segments_ask_no_other}
use Rattle.segment_regions.proofs.segments_ask_no_other.Goals as goal

pub returns : goal.returns
returns c = segments_ask_no_other
