use Rattle.std.proofs.Common.{◌≡◌, drop, map, filter, not}
use Rattle.regent_tree.specs.declared.types.Param.{Param}
use Rattle.check_rules.specs.first.FirstInItems.{first_line}
use Rattle.check_rules.specs.rules.Entries.{is_integer_term}
use Rattle.check_rules.specs.declared.rule.Rule.TheVariants as rule
use Rattle.check_items.proofs.entry.check_inputs.Given as goal

abbrev pub invariant-loop-param : goal.invariant-loop-param
invariant-loop-param l =
    first_line rule.Start (map (λ (p : Param). p.line) (filter (λ (p : Param). not (is_integer_term p.term)) (drop l.param-index l.params)))
    ≡ first_line rule.Start (map (λ (p : Param). p.line) (filter (λ (p : Param). not (is_integer_term p.term)) l.params))
