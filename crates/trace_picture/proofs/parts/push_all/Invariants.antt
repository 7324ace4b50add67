use Rattle.std.proofs.Common.{◌≡◌, ◌++◌, drop}
use Rattle.std.specs.Prelude.{flat_map}
use Rattle.trace_picture.proofs.parts.push_all.Given as goal

abbrev pub invariant-loop-piece : goal.invariant-loop-piece
invariant-loop-piece l =
    l.text.bytes.items ++ flat_map (λ piece. piece.now) (drop l.piece-index l.pieces)
    ≡ l.fn.text.bytes.items ++ flat_map (λ piece. piece.now) l.pieces
