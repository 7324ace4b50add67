use Rattle.trace_picture.specs.Drawings.{face_text}
use Rattle.trace_picture.proofs.boxes.push_face.Goals as goal

pub returns : goal.returns
unfolding face_text
returns c = rw (c.ending_class.ensures, c.format.ensures.text) at c.push_all.ensures
