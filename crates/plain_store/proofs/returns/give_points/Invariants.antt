use Rattle.std.proofs.Common.{◌≡◌, drop}
use Rattle.plain_store.specs.Columns.{points_given}
use Rattle.plain_store.proofs.returns.give_points.Given as goal

abbrev pub invariant-loop-place : goal.invariant-loop-place
invariant-loop-place l =
    points_given l.kind l.piece.mode (drop l.place l.piece.points) (drop l.place l.piece.values) l.column
    ≡ points_given l.kind l.piece.mode l.piece.points l.piece.values l.initial.column
