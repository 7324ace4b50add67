use Rattle.std.proofs.Common.{ℕ, ◌≡◌, ◌≤◌, ◌<◌, take}
use Rattle.bit_planes.specs.Planes.{has_point}
use Rattle.plain_values.specs.Points.{has}
use Rattle.point_sets.specs.Runs.{points_in}
use Rattle.point_sets.proofs.run_set.RunSet.as_plane.Given as goal

abbrev pub invariant-loop-run : goal.invariant-loop-run
invariant-loop-run l = record {
  low : l.builder.low ≤ l.first;
  high : l.last < l.builder.high;
  set : (z : ℕ) → has_point l.builder.set z ≡ has (points_in (take l.run-index l.runs)) z;
}
