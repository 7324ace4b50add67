use Rattle.std.proofs.Common.{◌≡◌, map, take}
use Rattle.index_launch.specs.Points.{at_colour}
use Rattle.index_launch.proofs.points.call_at.Given as goal

abbrev pub invariant-loop-arg : goal.invariant-loop-arg
invariant-loop-arg l = l.call.items ≡ map (at_colour l.colour) (take l.arg-index l.args)
