use Rattle.std.proofs.Common.{◌≡◌, ◌+◌, ◌++◌, take}
use Rattle.std.specs.Vec.{vec_capacity, vec_len}
use Rattle.board_outcomes.proofs.telling.write.Given as goal

abbrev pub invariant-loop-byte : goal.invariant-loop-byte
invariant-loop-byte l =
    (l.text.items ≡ l.initial.text.items ++ take l.byte-index l.bytes)
    × ((vec_capacity l.text ≡ vec_capacity l.initial.text) × (vec_len l.text ≡ vec_len l.initial.text + l.byte-index))
