use Rattle.std.proofs.Common.{◌≡◌, map}
use Rattle.plain_values.specs.Points.{points}
use Rattle.regent_tree.specs.Partitions.{equal_part}
use Rattle.partitions.proofs.equal_sizes.equal.Given as goal

abbrev pub invariant-loop-colour : goal.invariant-loop-colour
invariant-loop-colour l = l.sets.items ≡ map (equal_part l.points.items l.colours) (points l.colour)
