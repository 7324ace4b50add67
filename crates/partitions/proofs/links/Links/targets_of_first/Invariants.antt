use Rattle.std.proofs.Common.{◌≡◌, [], ◌∷◌, map}
use Rattle.plain_values.specs.Points.{points}
use Rattle.partitions.specs.Links.{targets_of}
use Rattle.partitions.proofs.links.Links.targets_of_first.Given as goal

abbrev pub invariant-loop-point : goal.invariant-loop-point
invariant-loop-point l =
    l.targets.items ≡ map (λ x. targets_of l.self (x ∷ [])) (points l.point)
