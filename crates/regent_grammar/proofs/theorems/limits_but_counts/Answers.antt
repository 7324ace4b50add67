use Rattle.regent_grammar.proofs.LimitLaws.{limits_but_counts}
use Rattle.regent_grammar.proofs.theorems.limits_but_counts.Goals as goal

pub returns : goal.returns
returns c = limits_but_counts
