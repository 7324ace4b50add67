use Rattle.std.proofs.Common.{◌∙◌}
use Rattle.lane_kernels.proofs.Vectors.{shared_bits}
use Rattle.lane_kernels.proofs.kernels.any_common.Goals as goal

pub returns : goal.returns
returns c = c.any_pair.ensures ∙ shared_bits c.args.a.now c.args.b.now
