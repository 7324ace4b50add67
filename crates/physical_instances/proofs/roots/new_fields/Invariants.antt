use Rattle.std.proofs.Common.{◌≡◌, map, take}
use Rattle.logical_map.specs.Maps.{new_column}
use Rattle.physical_instances.specs.Kept.{column_in}
use Rattle.physical_instances.proofs.roots.new_fields.Given as goal

abbrev pub invariant-loop-kind : goal.invariant-loop-kind
invariant-loop-kind l = map column_in l.fields.items ≡ map (new_column l.points) (take l.kind-index l.kinds)
