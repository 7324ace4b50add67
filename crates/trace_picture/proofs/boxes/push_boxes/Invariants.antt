use Rattle.std.proofs.Common.{◌≡◌, ◌++◌, drop, length}
use Rattle.trace_picture.specs.Drawings.{boxes_text}
use Rattle.trace_picture.specs.Pictures.{boxes_from}
use Rattle.trace_picture.proofs.boxes.push_boxes.Given as goal

abbrev pub invariant-loop-place : goal.invariant-loop-place
invariant-loop-place l =
    l.text.bytes.items ++ boxes_text (length l.journal) (boxes_from l.place (drop l.place l.journal))
    ≡ l.fn.text.bytes.items ++ boxes_text (length l.journal) (boxes_from 0 l.journal)
