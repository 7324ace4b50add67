-- The calls that a launch issues: those of the loop, one for each colour.
use Rattle.std.specs.Prelude.{List, map, pos, ℕ}
use Rattle.plain_values.specs.Points.{points}
use Rattle.index_launch.specs.declared.points.LaunchArg.{LaunchArg}
use Rattle.index_launch.specs.declared.points.LaunchArg.TheVariants as launch
use Rattle.index_launch.specs.declared.points.PointArg.{PointArg}
use Rattle.index_launch.specs.declared.points.PointArg.TheVariants as point

abbrev pub at_colour : ℕ → LaunchArg → PointArg
at_colour colour (launch.Child slot) = point.Child slot colour
at_colour colour (launch.Keep slot) = point.Keep slot
at_colour colour (launch.Number z) = point.Number z
at_colour colour launch.Point = point.Number (pos colour)

-- the arguments of the call at a colour
abbrev pub call_at : List LaunchArg → ℕ → List PointArg
call_at args colour = map (at_colour colour) args

-- the calls, colour by colour
abbrev pub calls_of : ℕ → List LaunchArg → List (List PointArg)
calls_of colours args = map (call_at args) (points colours)
