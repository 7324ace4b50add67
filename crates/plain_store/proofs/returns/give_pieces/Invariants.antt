use Rattle.std.proofs.Common.{◌≡◌, drop}
use Rattle.plain_store.specs.Columns.{pieces_given}
use Rattle.plain_store.proofs.returns.give_pieces.Given as goal

abbrev pub invariant-loop-piece : goal.invariant-loop-piece
invariant-loop-piece l =
    pieces_given l.kind (drop l.piece-index l.pieces) l.column ≡ pieces_given l.kind l.pieces l.initial.column
