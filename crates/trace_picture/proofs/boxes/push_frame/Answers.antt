use Rattle.trace_picture.specs.Drawings.{frame_text}
use Rattle.trace_picture.proofs.boxes.push_frame.Goals as goal

pub returns : goal.returns
unfolding frame_text
returns c = rw (c.format.ensures.text, c.format-2.ensures.text, c.format-3.ensures.text, c.from.ensures) at c.push_all.ensures
