use Rattle.std.proofs.Common.{◌≡◌, ◌++◌, drop}
use Rattle.trace_picture.specs.Drawings.{marks_text}
use Rattle.trace_picture.specs.Pictures.{marks_from}
use Rattle.trace_picture.proofs.marks.push_marks.Given as goal

abbrev pub invariant-loop-place : goal.invariant-loop-place
invariant-loop-place l =
    l.text.bytes.items ++ marks_text (marks_from l.place (drop l.place l.journal))
    ≡ l.fn.text.bytes.items ++ marks_text (marks_from 0 l.journal)
