use Rattle.std.proofs.Common.{◌≡◌, drop}
use Rattle.std.specs.Prelude.{◌++◌}
use Rattle.check_rules.specs.launches.Views.{pairs_apart}
use Rattle.launch_views.proofs.apart.pairs_apart.Given as goal

abbrev pub invariant-loop-first : goal.invariant-loop-first
invariant-loop-first l = l.pairs ++ pairs_apart l.facts l.first (drop l.first l.terms) ≡ pairs_apart l.facts 0 l.terms
