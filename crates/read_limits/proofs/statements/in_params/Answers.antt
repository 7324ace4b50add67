use Rattle.std.proofs.Common.{◌∙◌, rules, sym}
use Rattle.read_limits.proofs.Laws.{item_found, item_passed}
use Rattle.read_limits.proofs.Lists.{params_listed}
use Rattle.read_limits.proofs.statements.in_params.Goals as goal

pub returns-in-Some : goal.returns-in-Some
returns-in-Some c =
    item_found params_listed c.args.params.now c.loop-param.param-index c.param-item.result _ _ (search rules) c.param-item.is
    (sym c.in-Some.is ∙ c.in_term.ensures) c.loop-param.invariant

pub loop-param-preserved : goal.loop-param-preserved
loop-param-preserved c =
    item_passed params_listed c.args.params.now c.loop-param.param-index c.param-item.result _ (search rules) c.param-item.is
    (sym c.in_default.is ∙ c.in_term.ensures) c.loop-param.invariant
