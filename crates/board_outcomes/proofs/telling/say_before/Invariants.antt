use Rattle.std.proofs.Common.{◌≡◌, ◌≤◌, ◌+◌, ◌++◌, length}
use Rattle.std.specs.Vec.{vec_capacity, vec_len}
use Rattle.board_outcomes.specs.Tellings.{said_before, said_behind}
use Rattle.board_outcomes.proofs.telling.say_before.Given as goal

abbrev pub invariant-loop-rest : goal.invariant-loop-rest
invariant-loop-rest l =
    (l.text.items ++ said_before l.place l.rest ≡ l.initial.text.items ++ said_before l.place l.said)
    × ((said_behind l.place l.rest ≡ said_behind l.place l.said)
    × ((vec_capacity l.text ≡ vec_capacity l.initial.text) × (vec_len l.text + length (said_before l.place l.rest) ≤ vec_capacity l.text)))

abbrev pub decreases-loop-rest : goal.decreases-loop-rest
decreases-loop-rest l = length l.rest
