use Rattle.std.proofs.Common.{◌≡◌, [], drop, map}
use Rattle.check_rules.specs.first.FirstInExpressions.{first_of_standing}
use Rattle.check_rules.specs.first.Rules.{first_in}
use Rattle.check_rules.specs.rules.Standing.{stands, value_spot}
use Rattle.check_forms.proofs.forms.are_values.Given as goal

abbrev pub invariant-loop-t : goal.invariant-loop-t
invariant-loop-t l = first_in (first_of_standing []) (map (λ t. stands t value_spot) (drop l.t-index l.types))
    ≡ first_in (first_of_standing []) (map (λ t. stands t value_spot) l.types)
