use Rattle.trace_picture.proofs.Pieces.{three}
use Rattle.trace_picture.proofs.marks.push_mark.Goals as goal

pub returns : goal.returns
returns c = three _ _ _ _ _ _ _ _
    c.in_ok-push_shape.ensures c.in_ok-push_title.ensures c.push_note.ensures
