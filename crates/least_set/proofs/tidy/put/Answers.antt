use Rattle.std.proofs.Common.{◌∙◌, ap, arith, sym, refl}
use Rattle.std.proofs.lemmas.List.{get_or_read, map-set}
use Rattle.std.specs.BinaryHeap.{heap_capacity, heap_items}
use Rattle.least_set.specs.Marks.{is_absent, is_present}
use Rattle.least_set.specs.declared.mark.Mark.TheVariants.{Absent, Present}
use Rattle.least_set.proofs.Marking.{has_room, marked_anew, on_ok, put_in}
use Rattle.least_set.proofs.tidy.put.Goals as goal

pub returns-then-not-is_absent-clause-marked : goal.returns-then-not-is_absent-clause-marked
returns-then-not-is_absent-clause-marked c =
    let here = get_or_read c.args.marks.now.items c.args.number c.index.result.now c.requires.below c.index.ensures Absent in
    marked_anew c.args.marks.now.items (heap_items c.args.heap.now) (heap_capacity c.args.heap.now) c.args.number Present c.requires.marked c.requires.below
    (ap is_absent (sym here) ∙ sym c.is_absent.ensures ∙ c.if-not-is_absent.true) refl

pub returns-then-not-is_absent-clause-flags : goal.returns-then-not-is_absent-clause-flags
returns-then-not-is_absent-clause-flags c = map-set is_present c.args.marks.now.items c.args.number Present

pub returns-clause-marked : goal.returns-clause-marked
returns-clause-marked c =
    let here = get_or_read c.args.marks.now.items c.args.number c.index.result.now c.requires.below c.index.ensures Absent in
    let absent = ap is_absent (sym here) ∙ sym c.is_absent.ensures ∙ c.if-not-is_absent.false in
    let sure = c.push.ensures.succeeds (omega (arith, c.args.heap.now.data.ok.0, has_room c.args.marks.now.items (heap_items c.args.heap.now) (heap_capacity c.args.heap.now) c.args.number c.requires.marked c.requires.below absent)) in
    put_in c.args.marks.now.items (heap_items c.args.heap.now) (heap_items c.push.new.self) (heap_capacity c.args.heap.now) (heap_capacity c.push.new.self) c.args.number
    c.requires.marked c.requires.below absent (on_ok c.push.result sure c.push.ensures.permutation)
    (on_ok c.push.result sure c.push.ensures.heap_order c.requires.marked.heap) c.push.ensures.capacity

pub returns-clause-flags : goal.returns-clause-flags
returns-clause-flags c = map-set is_present c.args.marks.now.items c.args.number Present
