use Rattle.std.proofs.Common.{◌≡◌, ◌-◌, ◌≤◌, length, drop}
use Rattle.lane_kernels.specs.Fronts.{some_pair}
use Rattle.lane_kernels.proofs.pair_test.any_pair.Given as goal

abbrev pub invariant-loop-at : goal.invariant-loop-at
invariant-loop-at g l = record {
  inside : l.at ≤ length l.fn.a;
  rest : some_pair g.Q.PairTest.passed l.fn.a l.fn.b ≡ some_pair g.Q.PairTest.passed (drop l.at l.fn.a) (drop l.at l.fn.b);
}

abbrev pub decreases-loop-at : goal.decreases-loop-at
decreases-loop-at g l = length l.fn.a - l.at
