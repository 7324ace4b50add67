use Rattle.std.proofs.Common.{◌≡◌, ◌+◌, suc, length, slice_index_or, slice_set, ap, ◌∙◌, arith}
use Rattle.std.proofs.lemmas.List.{length-set}
use Rattle.lane_kernels.specs.Fronts.{paired_to}
use Rattle.lane_kernels.proofs.Going.{length-paired_to, paired_to-next, paired_to_all}
use Rattle.lane_kernels.proofs.pairing.pair_rest.Goals as goal

pub loop-place-preserved : goal.loop-place-preserved
loop-place-preserved g c =
    let f = g.P.Pairing.paired c.args.pairing in
    let into = c.loop-place.into in
    let from = c.args.from.now in
    let place = c.loop-place.place in
    let left = c.index-into-place.result in
    let right = c.index-from-place.result in
    record {
      same = length-set into place c.one.result ∙ c.loop-place.invariant.same;
      front = λ items e.
          let h = c.loop-place.invariant.front items e in
          let long : length into ≡ length items = ap length h ∙ length-paired_to f place items from in
          let next : suc place ≡ place + 1 = omega arith in
          ap (slice_set into place) (c.one.ensures ∙ λ i. f (c.index-into-place.is i) (c.index-from-place.is i))
          ∙ ap (λ l. slice_set l place (f (slice_index_or l place left) (slice_index_or from place right))) h
          ∙ paired_to-next f place items from left right omega (arith, long) omega (arith, long)
          ∙ ap (λ k. paired_to f k items from) next;
    }

pub returns : goal.returns
returns g c = λ items e.
    let f = g.P.Pairing.paired c.args.pairing in
    let from = c.args.from.now in
    let long : length c.args.into.now ≡ length items = ap length e ∙ length-paired_to f c.args.at items from in
    c.loop-place.invariant.front items e ∙ paired_to_all f c.loop-place.place items from omega (arith, long) omega (arith, long)
