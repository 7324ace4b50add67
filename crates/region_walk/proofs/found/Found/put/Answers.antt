use Rattle.std.proofs.Common.{◌∙◌, ap, subst, sym}
use Rattle.region_walk.specs.Found.{AreOrdered, put}
use Rattle.region_walk.proofs.Ordering.{ordered_put, put_inserted, put_there}
use Rattle.region_walk.proofs.found.Found.put.Goals as goal

pub invariant_of-self-2 : goal.invariant_of-self-2
invariant_of-self-2 c =
    subst AreOrdered (sym (put_inserted c.place_for-place.result c.args.op c.self.inside.ops.items c.as_slice-ops.result.now c.insert.new.self.items
    c.as_slice-ops.ensures.value c.place_for-place.ensures.place (sym c.stands_at.ensures ∙ c.if-stands_at.false) c.place_for-place.ensures.below
    c.in_ok-insert.ensures.items))
    (ordered_put c.args.op c.self.inside.ops.items c.self.invariant)

pub returns : goal.returns
returns c =
    put_inserted c.place_for-place.result c.args.op c.self.inside.ops.items c.as_slice-ops.result.now c.insert.new.self.items
    c.as_slice-ops.ensures.value c.place_for-place.ensures.place (sym c.stands_at.ensures ∙ c.if-stands_at.false) c.place_for-place.ensures.below
    c.in_ok-insert.ensures.items
    ∙ ap (put c.args.op) c.self.view_is

pub returns-then-stands_at : goal.returns-then-stands_at
returns-then-stands_at c =
    sym c.self.view_is ∙ sym c.as_slice-ops.ensures.value
    ∙ sym (put_there c.place_for-place.result c.args.op c.as_slice-ops.result.now c.place_for-place.ensures.place
    (sym c.stands_at.ensures ∙ c.if-stands_at.true))
    ∙ ap (put c.args.op) (c.as_slice-ops.ensures.value ∙ c.self.view_is)
