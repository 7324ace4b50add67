use Rattle.std.proofs.Common.{◌∙◌, List, ap, arith, length, subst, sym, ℕ}
use Rattle.std.proofs.lemmas.List.{length_push}
use Rattle.std.specs.BinaryHeap.{heap_capacity, heap_items}
use Rattle.least_set.specs.Marks.{IsMarked, IsTidy, flags_of}
use Rattle.least_set.specs.Members.{has}
use Rattle.least_set.specs.declared.mark.Mark.{Mark}
use Rattle.least_set.specs.declared.mark.Mark.TheVariants.{Absent}
use Rattle.least_set.proofs.Marking.{has_push, more_room, still_tidy}
use Rattle.least_set.proofs.least_set.LeastSet.make_room.Goals as goal

pub loop-preserved : goal.loop-preserved
loop-preserved c =
    let e = sym c.in_ok-push.ensures.items in
    let marks = c.loop.self-inside.marks.items in
    let items = heap_items c.loop.self-inside.heap in
    record {
      marked = subst (λ (ms : List Mark). IsMarked ms items (heap_capacity c.loop.self-inside.heap)) e
          (more_room marks items (heap_capacity c.loop.self-inside.heap) c.args.bound c.loop.invariant.marked
          (omega (arith, c.loop.invariant.count, c.loop-test.true)) c.loop.invariant.room);
      tidy = subst (λ (ms : List Mark). IsTidy ms items) e (still_tidy marks items c.loop.invariant.tidy);
      room = c.loop.invariant.room;
      members = λ k. ap (λ (ms : List Mark). has (flags_of ms) k) (sym e) ∙ has_push marks k ∙ c.loop.invariant.members k;
      count = omega (arith, ap {B = ℕ} (λ (ms : List Mark). length ms) e, length_push marks Absent, c.loop.invariant.count);
      wider = omega (arith, c.loop.invariant.wider);
    }
