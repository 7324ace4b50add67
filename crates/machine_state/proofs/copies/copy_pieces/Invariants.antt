use Rattle.std.proofs.Common.{◌≡◌, take}
use Rattle.machine_state.proofs.copies.copy_pieces.Given as goal

abbrev pub invariant-loop-piece : goal.invariant-loop-piece
invariant-loop-piece l = l.copy ≡ take l.piece-index l.pieces
