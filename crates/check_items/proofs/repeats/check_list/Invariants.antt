use Rattle.std.proofs.Common.{◌≡◌, drop}
use Rattle.check_rules.specs.first.FirstInItems.{first_line}
use Rattle.check_rules.specs.rules.Repeats.{given_by, repeats}
use Rattle.check_rules.specs.declared.rule.Rule.TheVariants as rule
use Rattle.check_items.specs.Given.{first_again}
use Rattle.check_items.proofs.repeats.check_list.Given as goal

abbrev pub invariant-loop-param : goal.invariant-loop-param
invariant-loop-param l = first_again l.given.keys (given_by (drop l.param-index l.params))
    ≡ first_line rule.Twice (repeats (given_by l.params))
