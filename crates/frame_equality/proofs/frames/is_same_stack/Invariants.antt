use Rattle.std.proofs.Common.{◌≡◌, ◌↔◌, length}
use Rattle.frame_equality.proofs.frames.is_same_stack.Given as goal

abbrev pub invariant-loop-value : goal.invariant-loop-value
invariant-loop-value l = (l.rest ≡ l.to) ↔ (l.fn.stack ≡ l.fn.other)

abbrev pub decreases-loop-value : goal.decreases-loop-value
decreases-loop-value l = length l.rest
