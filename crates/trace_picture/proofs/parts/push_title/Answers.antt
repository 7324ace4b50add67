use Rattle.trace_picture.specs.Drawings.{title_text}
use Rattle.trace_picture.proofs.parts.push_title.Goals as goal

pub returns : goal.returns
unfolding title_text
returns c = rw (c.format.ensures.text, c.format-2.ensures.text) at c.push_all.ensures
