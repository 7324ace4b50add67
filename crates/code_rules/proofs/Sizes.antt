-- How many instructions a piece has.
use Rattle.std.specs.Prelude.{ℕ, suc, ◌+◌}
use Rattle.code_rules.specs.Pieces.{Piece, empty, op, ◌⨟◌, over, branch, loop, rounds}

abbrev pub size : Piece → ℕ
size empty = 0
size (op i line) = 1
size (a ⨟ b) = size a + size b
size (over k line a) = suc (size a)
size (branch line a b) = suc (suc (size a + size b))
size (loop line test body) = suc (suc (suc (suc (size test + size body))))
size (rounds k line a) = suc (suc (size a))
