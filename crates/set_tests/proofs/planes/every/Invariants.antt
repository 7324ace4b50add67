use Rattle.std.proofs.Common.{◌-◌, ◌≤◌}
use Rattle.set_tests.proofs.planes.every.Given as goal

abbrev pub invariant-loop-point : goal.invariant-loop-point
invariant-loop-point l = record {
  low : l.builder.low ≤ 0;
  high : 4194304 ≤ l.builder.high;
  near : l.point ≤ 4194404;
}

abbrev pub decreases-loop-point : goal.decreases-loop-point
decreases-loop-point l = 4194304 - l.point
