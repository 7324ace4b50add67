use Rattle.std.proofs.Common.{◌≡◌, drop}
use Rattle.check_rules.specs.first.FirstInExpressions.{first_of_standing}
use Rattle.check_rules.specs.first.Rules.{first_in}
use Rattle.check_rules.specs.rules.Standing.{stand_at}
use Rattle.check_expressions.proofs.calls.stand_at.Given as goal

abbrev pub invariant-loop-place : goal.invariant-loop-place
invariant-loop-place l = first_in (first_of_standing l.facts) (stand_at l.types (drop l.place l.params) (drop l.place l.types))
    ≡ first_in (first_of_standing l.facts) (stand_at l.types l.params l.types)
