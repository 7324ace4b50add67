use Rattle.std.proofs.Common.{◌≡◌, drop, map}
use Rattle.check_rules.specs.types.Declarations.{known_field}
use Rattle.check_rules.specs.first.FirstInExpressions.{first_of_standing}
use Rattle.check_rules.specs.first.Rules.{first_in}
use Rattle.check_rules.specs.rules.Standing.{stands, typed_spot}
use Rattle.check_expressions.specs.Sites.{tree_at}
use Rattle.check_forms.proofs.forms.fields_take.Given as goal

abbrev pub invariant-loop-field : goal.invariant-loop-field
invariant-loop-field l =
    first_in (first_of_standing l.scope.facts) (map (λ f. stands l.t (typed_spot (known_field (tree_at l.site) l.region f))) (drop l.field-index l.fields))
    ≡ first_in (first_of_standing l.scope.facts) (map (λ f. stands l.t (typed_spot (known_field (tree_at l.site) l.region f))) l.fields)
