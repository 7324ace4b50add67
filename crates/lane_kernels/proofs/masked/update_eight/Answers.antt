use Rattle.std.proofs.Common.{◌≡◌, ap, map, of_z, refl, sym, to_z, w64, subst, ◌∙◌}
use Rattle.std.proofs.lemmas.Simd.{length-chunk}
use Rattle.std.specs.Simd.Lanes.{chunk, put_chunk, sel_l, zip2}
use Rattle.lane_kernels.proofs.Vectors.{lanes_again, lanes_back, lanes_chosen, lanes_kept, lanes_result, lanes_told, lanes_updated, marks_back}
use Rattle.lane_kernels.proofs.masked.update_eight.Goals as goal
use Rattle.lane_kernels.specs.Fronts.{AreLanes, is_mark, updated}

pub select_lanes-requires-clause-set_lanes : goal.select_lanes-requires-clause-set_lanes
select_lanes-requires-clause-set_lanes c =
    let left = c.load-left in
    let right = c.load-right in
    let known = lanes_updated c.args.update left.result right.result left.ensures.known right.ensures.known in
    lanes_again c.lanes-results.result (subst AreLanes (sym (lanes_told c.args.update c.lanes-results.result left.result right.result left.ensures.known right.ensures.known c.lanes-results.ensures)) known)

pub select_lanes-requires-clause-unset_lanes : goal.select_lanes-requires-clause-unset_lanes
select_lanes-requires-clause-unset_lanes c = lanes_again c.load-left.result c.load-left.ensures.known

pub returns : goal.returns
returns c =
    let u = c.args.update in
    let at = c.args.at in
    let left = c.load-left in
    let right = c.load-right in
    let l = left.ensures.known in
    let m = right.ensures.known in
    let marks = chunk at 8 c.args.mask.now in
    let results = zip2 (updated u) left.result right.result in
    let set : map (to_z w64) (map (of_z w64) c.lanes-results.result) ≡ results = lanes_result u (map (of_z w64) c.lanes-results.result) c.lanes-results.result left.result right.result l m refl c.lanes-results.ensures in
    let marked : map is_mark c.load_marks.result ≡ marks = ap (map is_mark) c.load_marks.ensures ∙ marks_back marks in
    let is : c.select_lanes.result ≡ sel_l marks results left.result = c.select_lanes.ensures ∙ λ i. sel_l (marked i) (set i) (lanes_back left.result l i) in
    let known : AreLanes (sel_l marks results left.result) = lanes_chosen marks results left.result (length-chunk at 8 c.args.mask.now c.requires.mask_room) (lanes_updated u left.result right.result l m) l in
    ap (put_chunk at c.args.into.now) (lanes_kept (map (of_z w64) c.select_lanes.result) c.select_lanes.result (sel_l marks results left.result) known refl is
    ∙ λ i. sel_l marks (zip2 (updated u) (left.ensures.value i) (right.ensures.value i)) (left.ensures.value i))
