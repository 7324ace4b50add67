use Rattle.std.proofs.Common.{◌≡◌, drop}
use Rattle.lane_kernels.specs.Fronts.{some_pair}
use Rattle.lane_kernels.proofs.pair_test.any_in_rest.Given as goal

abbrev pub invariant-loop-place : goal.invariant-loop-place
invariant-loop-place g l =
    some_pair g.Q.PairTest.passed (drop l.fn.at l.fn.a) (drop l.fn.at l.fn.b) ≡ some_pair g.Q.PairTest.passed (drop l.place l.fn.a) (drop l.place l.fn.b)
