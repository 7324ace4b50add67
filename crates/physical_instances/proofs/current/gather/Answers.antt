use Rattle.std.proofs.Common.{rules, arith, ◌≡◌, ◌∙◌, ◌++◌, Some, ap, drop, suc, take, to_z, of_z, w64, get_or, pos, length, ◌<◌, subst}
use Rattle.std.specs.Prelude.{slice_get, slice_set}
use Rattle.std.proofs.Math.Numerals.{suc-eq-add-one}
use Rattle.std.proofs.lemmas.Option.{slice_get-get_or}
use Rattle.physical_instances.specs.Instances.{current, current_beside}
use Rattle.physical_instances.proofs.Currents.{gather_more}
use Rattle.physical_instances.proofs.current.gather.Goals as goal

pub loop-place-preserved : goal.loop-place-preserved
loop-place-preserved c =
    let fs = c.args.further.now in
    let ps = c.args.root.now in
    let vs = c.args.valid.now in
    let zs = c.loop-place.base in
    let place = c.loop-place.place in
    let point = c.in-Some.point in
    let v = get_or vs place 0 in
    let z = get_or zs place (pos 0) in
    let at : slice_get ps place ≡ Some point = search (rules) in
    let below : place < length ps = search (rules) in
    let marks : length vs ≡ length ps = search (rules) in
    let numbers : length zs ≡ length ps = search (rules) in
    let mark = slice_get-get_or vs place 0 (omega (arith, below, marks)) in
    let there = slice_get-get_or zs place (pos 0) (omega (arith, below, numbers)) in
    let put : to_z w64 (of_z w64 c.current.result) ≡ current fs v point z = search (rules) in
    record {
      count = search (rules);
      done = subst (λ k. take k (slice_set zs place (to_z w64 (of_z w64 c.current.result)))
          ++ current_beside fs (drop k ps) (drop k vs) (drop k (slice_set zs place (to_z w64 (of_z w64 c.current.result))))
          ≡ current_beside fs ps vs c.args.base.now)
          (suc-eq-add-one place)
          (ap (λ y. take (suc place) (slice_set zs place y) ++ current_beside fs (drop (suc place) ps) (drop (suc place) vs) (drop (suc place) (slice_set zs place y))) put
          ∙ gather_more fs ps vs zs place point v z at mark there ∙ c.loop-place.invariant.done);
    }
