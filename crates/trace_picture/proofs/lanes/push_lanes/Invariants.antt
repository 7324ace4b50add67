use Rattle.std.proofs.Common.{◌≡◌, ◌++◌}
use Rattle.trace_picture.specs.Drawings.{lanes_text}
use Rattle.trace_picture.proofs.lanes.push_lanes.Given as goal

abbrev pub invariant-loop-seat : goal.invariant-loop-seat
invariant-loop-seat l = l.text.bytes.items ≡ l.fn.text.bytes.items ++ lanes_text l.entries l.lanes l.seat
