use Rattle.std.proofs.Common.{◌≡◌}
use Rattle.board_calls.specs.Calls.{numbers_from}
use Rattle.board_calls.proofs.issuing.numbers_from.Given as goal

abbrev pub invariant-loop-place : goal.invariant-loop-place
invariant-loop-place l = l.numbers.items ≡ numbers_from l.first l.place
