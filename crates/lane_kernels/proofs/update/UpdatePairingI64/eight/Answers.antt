use Rattle.std.proofs.Common.{ap, map, of_z, refl, w64, ◌∙◌}
use Rattle.std.specs.Simd.Lanes.{put_chunk, zip2}
use Rattle.lane_kernels.proofs.Vectors.{lanes_result}
use Rattle.lane_kernels.proofs.update.UpdatePairingI64.eight.Goals as goal
use Rattle.lane_kernels.specs.Fronts.{updated}

pub returns : goal.returns
returns c =
    let left = c.load-left in
    let right = c.load-right in
    ap (put_chunk c.args.at c.args.into.now)
    (lanes_result c.args.self (map (of_z w64) c.lanes.result) c.lanes.result left.result right.result left.ensures.known right.ensures.known refl c.lanes.ensures
    ∙ λ i. zip2 (updated c.args.self) (left.ensures.value i) (right.ensures.value i))
