use Rattle.std.proofs.Common.{◌≡◌, ◌+◌, ◌≤◌, length, ap, refl, ◌∙◌, arith}
use Rattle.std.specs.Simd.Lanes.{chunk, put_chunk, zip2}
use Rattle.lane_kernels.proofs.Going.{length-paired_to, paired_to-chunk}
use Rattle.lane_kernels.proofs.pairing.pair_all.Goals as goal

pub loop-into-preserved : goal.loop-into-preserved
loop-into-preserved g c =
    let f = g.P.Pairing.paired c.args.pairing in
    let at = c.loop-into.at in
    let from = c.args.from.now in
    let h = c.loop-into.invariant.front in
    let long : length c.loop-into.into ≡ length c.args.into.now = ap length h ∙ length-paired_to f at c.args.into.now from in
    let room : at + 8 ≤ length c.args.into.now = omega (arith, long) in
    record {
      inside = room;
      front = c.eight.ensures ∙ ap (λ l. put_chunk at l (zip2 f (chunk at 8 l) (chunk at 8 from))) h
          ∙ paired_to-chunk f at 8 (at + 8) c.args.into.now from refl room omega (arith, room);
    }
