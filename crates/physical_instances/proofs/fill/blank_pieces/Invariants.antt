use Rattle.std.proofs.Common.{◌≡◌, map}
use Rattle.logical_map.specs.Fills.{blank}
use Rattle.physical_instances.proofs.fill.blank_pieces.Given as goal

abbrev pub invariant-loop-points : goal.invariant-loop-points
invariant-loop-points l = l.pieces.items ≡ map blank l.yielded
