use Rattle.trace_picture.specs.Drawings.{note_text}
use Rattle.trace_picture.proofs.marks.push_note.Goals as goal

pub returns : goal.returns
unfolding note_text
returns c = rw (c.mark_word.ensures, c.format.ensures.text) at c.push_all.ensures
