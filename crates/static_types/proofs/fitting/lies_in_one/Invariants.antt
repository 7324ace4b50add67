use Rattle.std.proofs.Common.{◌≡◌, drop}
use Rattle.std.specs.Prelude.{nat_lt, Some}
use Rattle.regent_tree.specs.Typing.{least_above}
use Rattle.check_rules.specs.types.Fitting.{has_position}
use Rattle.static_types.proofs.fitting.lies_in_one.Given as goal

abbrev pub invariant-loop-target : goal.invariant-loop-target
invariant-loop-target l =
    nat_lt 0 (least_above l.facts l.a l.target-index (drop l.target-index l.targets))
    ≡ has_position l.facts l.targets (Some l.a)
