use Rattle.std.proofs.Common.{◌≡◌, take}
use Rattle.std.specs.List.{flat_map}
use Rattle.partitions.specs.Links.{targets_at}
use Rattle.partitions.proofs.links.Links.targets.Given as goal

abbrev pub invariant-loop-point : goal.invariant-loop-point
invariant-loop-point l = l.targets.items ≡ flat_map (targets_at l.self)
    (take l.point-index l.points)
