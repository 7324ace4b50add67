use Rattle.std.proofs.Common.{ap, map, sym, to_z, w64, ◌∙◌}
use Rattle.lane_kernels.specs.Numbers.{wrapped}
use Rattle.lane_kernels.proofs.Vectors.{lanes_back, lanes_low, lanes_whole}
use Rattle.lane_kernels.proofs.update.wrap_lanes.Goals as goal
use Rattle.lane_kernels.proofs.update.wrap_lanes.Goals.{in-W32, in-W64}

pub returns : goal.returns
returns c =
    let a = c.args.a in
    elim c.match-width.branch [
      | in-W32 w ↦ ap (map (to_z w64)) w.result-is ∙ lanes_low a c.requires ∙ ap (λ width. map (wrapped width) a) (sym w.in-W32.is)
      | in-W64 w ↦
          ap (map (to_z w64)) w.result-is ∙ lanes_back a c.requires ∙ sym (lanes_whole a c.requires) ∙ ap (λ width. map (wrapped width) a) (sym w.in-W64.is)
    ]
