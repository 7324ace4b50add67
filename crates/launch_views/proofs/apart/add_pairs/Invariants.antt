use Rattle.std.proofs.Common.{◌≡◌, drop}
use Rattle.std.specs.Prelude.{◌++◌, get_or, None}
use Rattle.check_rules.specs.launches.Views.{pairs_with}
use Rattle.launch_views.proofs.apart.add_pairs.Given as goal

abbrev pub invariant-loop-second : goal.invariant-loop-second
invariant-loop-second l =
    l.pairs ++ pairs_with l.facts l.first (get_or l.terms l.first None) l.second (drop l.second l.terms)
    ≡ l.initial.pairs ++ pairs_with l.facts l.first (get_or l.terms l.first None) l.first (drop l.first l.terms)
