use Rattle.std.proofs.Common.{◌≡◌, ◌++◌, drop}
use Rattle.trace_picture.specs.Drawings.{steps_text}
use Rattle.trace_picture.specs.Pictures.{steps_of}
use Rattle.trace_picture.proofs.line.push_steps.Given as goal

abbrev pub invariant-loop-entry : goal.invariant-loop-entry
invariant-loop-entry l =
    l.text.bytes.items ++ steps_text (steps_of (drop l.entry-index l.journal))
    ≡ l.fn.text.bytes.items ++ steps_text (steps_of l.journal)
