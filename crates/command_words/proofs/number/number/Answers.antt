use Rattle.std.proofs.Common.{◌∙◌}
use Rattle.command_words.proofs.Numbers.{no_number, the_number}
use Rattle.command_words.proofs.number.number.Goals as goal

pub returns-in_err-value-clause-named : goal.returns-in_err-value-clause-named
returns-in_err-value-clause-named c = c.from_residual.ensures ∙ no_number c.args.least c.args.most c.args.word.now c.ranges.most.fits c.in_err-value.ensures

pub returns-then-value-most-clause-named : goal.returns-then-value-most-clause-named
returns-then-value-most-clause-named c = the_number c.args.least c.args.most c.args.word.now c.in_ok-value.value c.in_ok-value.ensures c.if-least-value.true c.if-value-most.true
