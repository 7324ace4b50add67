use Rattle.std.proofs.Common.{◌≡◌, drop}
use Rattle.regent_lex.specs.Numbers.{value_on, value_of}
use Rattle.regent_lex.proofs.numbers.value.Given as goal

abbrev pub invariant-loop-digit : goal.invariant-loop-digit
invariant-loop-digit l = value_on l.n (drop l.digit-index l.digits) ≡ value_of l.digits
