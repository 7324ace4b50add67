use Rattle.std.proofs.Common.{ap, ◌∙◌}
use Rattle.std.specs.Simd.Lanes.{sel_l}
use Rattle.lane_kernels.proofs.Vectors.{copied}
use Rattle.lane_kernels.proofs.kernels.copy_masked.Goals as goal

pub returns : goal.returns
returns c =
    c.update_masked.ensures ∙ ap (λ l. sel_l c.args.mask.now l c.args.into.now) (copied c.args.into.now c.args.from.now c.requires.numbers)
