use Rattle.std.proofs.Common.{◌≡◌, take}
use Rattle.board_terms.specs.Calls.{needs_of}
use Rattle.board_calls.proofs.issuing.copy_needs.Given as goal

abbrev pub invariant-loop-frame : goal.invariant-loop-frame
invariant-loop-frame l = l.needs.items ≡ needs_of (take l.frame-index l.frames)
