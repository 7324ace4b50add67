use Rattle.std.proofs.Common.{◌≡◌, drop}
use Rattle.board_terms.specs.Closings.{all_good}
use Rattle.board_state.proofs.state.BoardState.all_good.Given as goal

abbrev pub invariant-loop-op : goal.invariant-loop-op
invariant-loop-op l = all_good l.self (drop l.op-index l.ops) ≡ all_good l.self l.ops
