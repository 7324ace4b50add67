use Rattle.trace_picture.specs.Drawings.{shape_text}
use Rattle.trace_picture.proofs.marks.push_shape.Goals as goal

pub returns : goal.returns
unfolding shape_text
returns c = rw (c.mark_word.ensures, c.format.ensures.text, c.format-2.ensures.text, c.from.ensures) at c.push_all.ensures
