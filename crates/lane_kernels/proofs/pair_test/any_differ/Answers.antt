use Rattle.lane_kernels.proofs.Vectors.{lanes_any_differ}
use Rattle.lane_kernels.proofs.pair_test.any_differ.Goals as goal

pub returns : goal.returns
returns c = lanes_any_differ c.args.a c.args.b c.requires.left c.requires.right
