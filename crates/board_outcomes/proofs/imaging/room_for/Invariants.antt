use Rattle.std.proofs.Common.{◌≡◌, ◌≤◌, length, map, replicate}
use Rattle.std.specs.Vec.{vec_capacity, vec_len}
use Rattle.board_outcomes.proofs.imaging.room_for.Given as goal

abbrev pub invariant-loop : goal.invariant-loop
invariant-loop l =
    (map length l.rooms.items ≡ replicate l.counter l.count)
    × ((vec_len l.rooms ≡ l.counter) × (l.fields ≤ vec_capacity l.rooms))
