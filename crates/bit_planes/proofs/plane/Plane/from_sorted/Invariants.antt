use Rattle.std.proofs.Common.{ℕ, ◌<◌, ◌≤◌, ◌≡◌, take}
use Rattle.bit_planes.specs.Planes.{has_point}
use Rattle.plain_values.specs.Points.{has}
use Rattle.bit_planes.proofs.plane.Plane.from_sorted.Given as goal

abbrev pub invariant-loop-point : goal.invariant-loop-point
invariant-loop-point l = record {
  low : l.builder.low ≤ l.first;
  high : l.last < l.builder.high;
  set : (z : ℕ) → has_point l.builder.set z ≡ has (take l.point-index l.points) z;
}
