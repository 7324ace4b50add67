use Rattle.std.proofs.Common.{rules, ◌≡◌, ◌+◌, suc, false, pos, FitsSigned, of_z, to_z, w64, length, slice_index_or, slice_set, ap, sym, ◌∙◌, arith}
use Rattle.std.proofs.lemmas.Int.{to_z-of_z}
use Rattle.std.proofs.lemmas.List.{length-set}
use Rattle.std.proofs.lemmas.Simd.{length-zip2}
use Rattle.lane_kernels.specs.Fronts.{beside, paired_to, updated, updated_where}
use Rattle.lane_kernels.proofs.Going.{get_or-beside, length-paired_to, paired_to-next, paired_to_all, sel_l-beside}
use Rattle.lane_kernels.proofs.masked.update_rest.Goals as goal

pub loop-place-preserved : goal.loop-place-preserved
loop-place-preserved c =
    let f = updated_where c.args.update in
    let into = c.loop-place.into in
    let from = c.args.from.now in
    let mask = c.args.mask.now in
    let marked = beside mask from in
    let place = c.loop-place.place in
    let left = slice_index_or into place (pos 0) in
    let right = slice_index_or from place (pos 0) in
    let left_fits : FitsSigned w64 left = search rules in
    let right_fits : FitsSigned w64 right = search rules in
    let fits : FitsSigned w64 c.one_where.result = search rules in
    let put : to_z w64 (of_z w64 c.one_where.result) ≡ f left (slice_index_or marked place (false, pos 0)) =
    to_z-of_z w64 c.one_where.result fits ∙ c.one_where.ensures
    ∙ (λ i. f (to_z-of_z w64 left left_fits i) (slice_index_or mask place false, to_z-of_z w64 right right_fits i))
    ∙ ap (f left) (sym (get_or-beside place mask from false (pos 0) omega arith omega arith)) in
    record {
      same = length-set into place (to_z w64 (of_z w64 c.one_where.result)) ∙ c.loop-place.invariant.same;
      front = λ items e.
          let h = c.loop-place.invariant.front items e in
          let long : length into ≡ length items = ap length h ∙ length-paired_to f place items marked in
          let wide : length marked ≡ length mask = length-zip2 (λ x y. (x, y)) mask from omega arith in
          let next : suc place ≡ place + 1 = omega arith in
          ap (slice_set into place) put
          ∙ ap (λ l. slice_set l place (f (slice_index_or l place (pos 0)) (slice_index_or marked place (false, pos 0)))) h
          ∙ paired_to-next f place items marked (pos 0) (false, pos 0) omega (arith, long) omega (arith, wide)
          ∙ ap (λ k. paired_to f k items marked) next;
    }

pub returns : goal.returns
returns c = λ items e.
    let f = updated_where c.args.update in
    let from = c.args.from.now in
    let mask = c.args.mask.now in
    let marked = beside mask from in
    let long : length c.args.into.now ≡ length items = ap length e ∙ length-paired_to f c.args.at items marked in
    let wide : length marked ≡ length mask = length-zip2 (λ x y. (x, y)) mask from omega arith in
    c.loop-place.invariant.front items e ∙ paired_to_all f c.loop-place.place items marked omega (arith, long) omega (arith, long, wide)
    ∙ sel_l-beside (updated c.args.update) mask items from omega (arith, long) omega (arith, long)
