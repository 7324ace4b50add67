use Rattle.std.proofs.Common.{arith}
use Rattle.lane_kernels.proofs.Vectors.{equal_tells}
use Rattle.lane_kernels.proofs.kernels.equal.Goals as goal

pub returns-then-a-b : goal.returns-then-a-b
returns-then-a-b c = equal_tells c.any_pair.result c.args.a.now c.args.b.now omega arith c.any_pair.ensures
