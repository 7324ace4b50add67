use Rattle.trace_picture.specs.Drawings.{start_text}
use Rattle.trace_picture.proofs.line.push_start.Goals as goal

pub returns : goal.returns
unfolding start_text
returns c = rw (c.format.ensures.text, c.zero_line.ensures) at c.push_all.ensures
