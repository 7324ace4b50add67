use Rattle.std.proofs.Common.{◌≡◌, length}
use Rattle.regent_grammar.specs.Reading.{reading}
use Rattle.regent_grammar.specs.Rules.{many}
use Rattle.regent_grammar.specs.Symbols.{comes}
use Rattle.regent_grammar.specs.Expressions.{is_sign, a_sign}
use Rattle.read_terms.specs.Gives.{with_front}
use Rattle.read_terms.proofs.expressions.signs.Given as goal

abbrev pub invariant-loop-rest : goal.invariant-loop-rest
invariant-loop-rest l =
    with_front l.signs (reading (many (comes is_sign) a_sign) l.rest) ≡ reading (many (comes is_sign) a_sign) l.terminals

abbrev pub decreases-loop-rest : goal.decreases-loop-rest
decreases-loop-rest l = length l.rest
