use Rattle.std.proofs.Common.{ap, ◌∙◌}
use Rattle.std.specs.Simd.Lanes.{sel_l}
use Rattle.lane_kernels.proofs.Vectors.{lanes_selected, marks_compared}
use Rattle.lane_kernels.proofs.masked.select_lanes.Goals as goal

pub returns : goal.returns
returns c = lanes_selected _ c.args.set c.args.unset c.requires.set_lanes c.requires.unset_lanes ∙ ap (λ ms. sel_l ms c.args.set c.args.unset) (marks_compared c.args.marks c.requires.mark_lanes)
