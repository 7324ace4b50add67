use Rattle.std.proofs.Common.{◌≡◌, ◌-◌, length}
use Rattle.board_terms.specs.Closings.{closed_up, followed}
use Rattle.board_state.proofs.state.BoardState.follow.Given as goal

abbrev pub invariant-loop-level : goal.invariant-loop-level
invariant-loop-level l = closed_up (length l.initial.self.operations - l._level) l.self l.at.0 ≡ followed l.initial.self l.fn.op.0
