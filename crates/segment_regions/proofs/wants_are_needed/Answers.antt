use Rattle.segment_regions.proofs.Wants.{wants_are_needed}
use Rattle.segment_regions.proofs.wants_are_needed.Goals as goal

pub returns : goal.returns
returns c = wants_are_needed
