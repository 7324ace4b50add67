use Rattle.machine_state.proofs.Spots.{IsPast}
use Rattle.machine_state.proofs.holdings.entry_of.Given as goal

abbrev pub invariant-loop-piece : goal.invariant-loop-piece
invariant-loop-piece l = IsPast l.pieces l.point l.piece
