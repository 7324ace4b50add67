use Rattle.std.proofs.Common.{◌≡◌, ◌-◌, drop, length, true}
use Rattle.board_terms.specs.Closings.{all_over}
use Rattle.board_state.proofs.state.BoardState.all_over.Given as goal

abbrev pub invariant-loop-place : goal.invariant-loop-place
invariant-loop-place l = all_over l.self (drop (length l.ops - l.place) l.ops) ≡ true
