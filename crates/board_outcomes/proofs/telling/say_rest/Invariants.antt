use Rattle.std.proofs.Common.{◌≡◌, ◌≤◌, ◌+◌, ◌++◌, drop, length}
use Rattle.std.specs.Vec.{vec_capacity, vec_len}
use Rattle.board_outcomes.specs.Tellings.{said_whole}
use Rattle.board_outcomes.proofs.telling.say_rest.Given as goal

abbrev pub invariant-loop-piece : goal.invariant-loop-piece
invariant-loop-piece l =
    (l.text.items ++ said_whole (drop l.piece-index l.said) ≡ l.initial.text.items ++ said_whole l.said)
    × ((vec_capacity l.text ≡ vec_capacity l.initial.text)
    × (vec_len l.text + length (said_whole (drop l.piece-index l.said)) ≤ vec_capacity l.text))
