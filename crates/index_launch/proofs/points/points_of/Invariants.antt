use Rattle.std.proofs.Common.{◌≡◌, ◌++◌, ◌-◌, map}
use Rattle.plain_values.specs.Points.{counted_from}
use Rattle.index_launch.specs.Points.{call_at, calls_of}
use Rattle.index_launch.proofs.points.points_of.Given as goal

abbrev pub invariant-loop-colour : goal.invariant-loop-colour
invariant-loop-colour l =
    map (λ call. call.items) l.calls.items ++ map (call_at l.args) (counted_from l.colour (l.colours - l.colour))
    ≡ calls_of l.colours l.args
