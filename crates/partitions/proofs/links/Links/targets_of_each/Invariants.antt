use Rattle.std.proofs.Common.{◌≡◌, All, map, take}
use Rattle.plain_values.specs.Points.{IsPoints}
use Rattle.point_sets.specs.declared.TheConstants.{POINT_LIMIT}
use Rattle.partitions.specs.Links.{targets_of}
use Rattle.partitions.proofs.links.Links.targets_of_each.Given as goal

abbrev pub invariant-loop-set : goal.invariant-loop-set
invariant-loop-set l = record {
  sets : l.targets.items ≡ map (targets_of l.self) (take l.set-index l.sets);
  points : All (IsPoints POINT_LIMIT) (take l.set-index l.sets);
}
