use Rattle.regent_lex.proofs.Digits.{too_large}
use Rattle.regent_lex.proofs.numbers.value.Goals as goal

pub returns-then-n : goal.returns-then-n
returns-then-n c =
    rw (← c.loop-digit.invariant)
    (too_large c.loop-digit.n c.loop-digit.digit-index c.args.digits.now c.loop-digit-test.true
    c.if-n.true)
