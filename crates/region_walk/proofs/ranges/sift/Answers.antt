use Rattle.std.proofs.Common.{rules, ◌≡◌, ◌<◌, ◌∙◌, ◌+◌, ◌-◌, ◌++◌, ap, arith, drop, false, get_or, length, not, sym, take, true}
use Rattle.region_walk.specs.Covering.{is_dominated}
use Rattle.region_walk.proofs.Covering.{is_left}
use Rattle.region_walk.proofs.Sifting.{one_less, sifted_end, sifted_kept, sifted_out}
use Rattle.region_walk.proofs.ranges.sift.Goals as goal

pub loop-place-preserved-then-is_dominated : goal.loop-place-preserved-then-is_dominated
loop-place-preserved-then-is_dominated c =
    let covered = is_dominated c.args.context.0 c.args.op.0 c.args.needs.now in
    let left = is_left c.args.context.0 c.args.op.0 c.args.needs.now in
    let place = c.loop-place.place in
    let end = c.loop-place.end in
    let us = c.loop-place.users.items in
    let vs = c.remove.new.self.items in
    let d = c.index.result.now in
    let out : vs ≡ take place us ++ drop (place + 1) us = search (rules) in
    let here : place < length us = omega (arith, c.loop-place-test.true, c.loop-place.invariant.below) in
    let is : covered (get_or us place d) ≡ true = sym (c.is_dominated.ensures ∙ ap covered c.index.ensures) ∙ c.if-is_dominated.true in
    record {
      order = omega (arith, c.loop-place-test.true);
      below = omega (arith, c.loop-place-test.true, c.loop-place.invariant.below, one_less left place us vs out here);
      same = sifted_out left place (end - 1 - place) (end - place) us vs d (omega (arith, c.loop-place-test.true)) out here (ap not is)
          ∙ c.loop-place.invariant.same;
    }

pub loop-place-preserved : goal.loop-place-preserved
loop-place-preserved c =
    let covered = is_dominated c.args.context.0 c.args.op.0 c.args.needs.now in
    let left = is_left c.args.context.0 c.args.op.0 c.args.needs.now in
    let place = c.loop-place.place in
    let end = c.loop-place.end in
    let us = c.loop-place.users.items in
    let d = c.index.result.now in
    let is : covered (get_or us place d) ≡ false = sym (c.is_dominated.ensures ∙ ap covered c.index.ensures) ∙ c.if-is_dominated.false in
    record {
      order = omega (arith, c.loop-place-test.true);
      below = c.loop-place.invariant.below;
      same = sifted_kept left place (place + 1) (end - (place + 1)) (end - place) us d (omega arith) (omega (arith, c.loop-place-test.true))
          (omega (arith, c.loop-place-test.true, c.loop-place.invariant.below)) (ap not is)
          ∙ c.loop-place.invariant.same;
    }

pub returns : goal.returns
returns c =
    let left = is_left c.args.context.0 c.args.op.0 c.args.needs.now in
    sym (sifted_end left c.loop-place.place (c.loop-place.end - c.loop-place.place) c.loop-place.users.items
    (omega (arith, c.loop-place-test.false, c.loop-place.invariant.order)))
    ∙ c.loop-place.invariant.same
