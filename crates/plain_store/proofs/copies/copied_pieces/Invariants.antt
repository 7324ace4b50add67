use Rattle.std.proofs.Common.{◌≡◌, map}
use Rattle.plain_store.specs.Columns.{piece_on}
use Rattle.plain_store.proofs.copies.copied_pieces.Given as goal

abbrev pub invariant-loop-points : goal.invariant-loop-points
invariant-loop-points l = l.pieces.items ≡ map (λ q. piece_on l.kind l.column q.1 q.0) l.yielded
