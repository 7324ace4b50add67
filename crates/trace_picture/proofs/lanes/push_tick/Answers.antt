use Rattle.trace_picture.specs.Drawings.{tick_text}
use Rattle.trace_picture.proofs.lanes.push_tick.Goals as goal

pub returns : goal.returns
unfolding tick_text
returns c = rw (c.format.ensures.text, c.format-2.ensures.text, c.format-3.ensures.text, c.zero_line.ensures) at c.push_all.ensures
