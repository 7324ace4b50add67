use Rattle.std.proofs.Common.{◌≡◌, drop}
use Rattle.std.specs.Prelude.{◌++◌}
use Rattle.regent_tree.specs.Plain.{expressions_in}
use Rattle.check_rules.specs.launches.Views.{terms_across}
use Rattle.launch_views.proofs.apart.terms_across.Given as goal

abbrev pub invariant-loop-arg : goal.invariant-loop-arg
invariant-loop-arg l = l.terms.items ++ terms_across l.scope.names (expressions_in (drop l.arg-index l.args)) ≡ terms_across l.scope.names (expressions_in l.args)
