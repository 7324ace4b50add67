use Rattle.std.proofs.Common.{◌≡◌, drop}
use Rattle.regent_tree.specs.Typing.{least_above}
use Rattle.compile_types.proofs.moving.least_above.Given as goal

abbrev pub invariant-loop-place : goal.invariant-loop-place
invariant-loop-place l =
    least_above l.facts l.region l.place (drop l.place l.targets) ≡ least_above l.facts l.region 0 l.targets
