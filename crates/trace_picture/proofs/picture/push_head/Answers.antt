use Rattle.trace_picture.specs.Drawings.{head_text}
use Rattle.trace_picture.proofs.picture.push_head.Goals as goal

pub returns : goal.returns
unfolding head_text
returns c = rw (c.format.ensures.text, c.format-2.ensures.text, c.format-3.ensures.text, c.format-4.ensures.text) at c.push_all.ensures
