use Rattle.std.proofs.Common.{◌≡◌, ◌++◌}
use Rattle.trace_picture.specs.Drawings.{ticks_text}
use Rattle.trace_picture.proofs.lanes.push_ticks.Given as goal

abbrev pub invariant-loop-tens : goal.invariant-loop-tens
invariant-loop-tens l = l.text.bytes.items ≡ l.fn.text.bytes.items ++ ticks_text l.lanes l.tens
