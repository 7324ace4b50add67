use Rattle.trace_picture.proofs.Pieces.{four}
use Rattle.trace_picture.proofs.boxes.push_box.Goals as goal

pub returns : goal.returns
returns c = four _ _ _ _ _ _ _ _ _ _
    (rw c.place_behind.ensures at c.in_ok-push_frame.ensures) c.in_ok-push_title.ensures c.in_ok-push_span.ensures c.push_face.ensures
