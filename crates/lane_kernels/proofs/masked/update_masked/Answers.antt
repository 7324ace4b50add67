use Rattle.std.proofs.Common.{◌≡◌, ◌+◌, ◌≤◌, length, ap, refl, sym, ◌∙◌, arith}
use Rattle.std.proofs.lemmas.Simd.{length-chunk, length-zip2}
use Rattle.std.specs.Simd.Lanes.{chunk, put_chunk, zip2}
use Rattle.lane_kernels.proofs.Going.{chunk-zip2, length-paired_to, paired_to-chunk, sel_l-beside}
use Rattle.lane_kernels.proofs.masked.update_masked.Goals as goal
use Rattle.lane_kernels.specs.Fronts.{beside, updated, updated_where}

pub loop-into-preserved : goal.loop-into-preserved
loop-into-preserved c =
    let u = c.args.update in
    let at = c.loop-into.at in
    let into = c.loop-into.into in
    let from = c.args.from.now in
    let mask = c.args.mask.now in
    let marked = beside mask from in
    let h = c.loop-into.invariant.front in
    let same : length mask ≡ length from = omega arith in
    let long : length into ≡ length c.args.into.now = ap length h ∙ length-paired_to (updated_where u) at c.args.into.now marked in
    let wide : length marked ≡ length mask = length-zip2 (λ x y. (x, y)) mask from same in
    let room : at + 8 ≤ length c.args.into.now = omega (arith, long) in
    let eight : length (chunk at 8 into) ≡ 8 = length-chunk at 8 into omega (arith, long, room) in
    let marks : length (chunk at 8 mask) ≡ 8 = length-chunk at 8 mask omega (arith, room) in
    let others : length (chunk at 8 from) ≡ 8 = length-chunk at 8 from omega (arith, room) in
    record {
      inside = room;
      front = c.update_eight.ensures
          ∙ ap (put_chunk at into) (sym (sel_l-beside (updated u) (chunk at 8 mask) (chunk at 8 into) (chunk at 8 from) (eight ∙ sym others) (eight ∙ sym marks))
          ∙ ap (zip2 (updated_where u) (chunk at 8 into)) (sym (chunk-zip2 (λ x y. (x, y)) at 8 mask from same)))
          ∙ ap (λ l. put_chunk at l (zip2 (updated_where u) (chunk at 8 l) (chunk at 8 marked))) h
          ∙ paired_to-chunk (updated_where u) at 8 (at + 8) c.args.into.now marked refl room omega (arith, room, wide);
    }
