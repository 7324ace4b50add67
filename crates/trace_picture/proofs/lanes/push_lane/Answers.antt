use Rattle.trace_picture.specs.Drawings.{lane_text}
use Rattle.trace_picture.proofs.lanes.push_lane.Goals as goal

pub returns : goal.returns
unfolding lane_text
returns c = rw (c.format.ensures.text, c.format-2.ensures.text, c.format-3.ensures.text, c.format-4.ensures.text) at c.push_all.ensures
