use Rattle.std.proofs.Common.{◌∙◌, ap, arith, sym, ℕ}
use Rattle.std.specs.BinaryHeap.{heap_capacity, heap_items}
use Rattle.std.specs.declared.cmp.Reverse.{Reverse}
use Rattle.least_set.specs.Marks.{is_present, mark_at}
use Rattle.least_set.specs.declared.mark.Mark.TheVariants.{Absent}
use Rattle.least_set.proofs.Marking.{same_flags, taken_off, wide_enough}
use Rattle.least_set.proofs.tidy.drop_top.Goals as goal

pub returns-in-Some-clause-marked : goal.returns-in-Some-clause-marked
returns-in-Some-clause-marked c =
    wide_enough _ _ (heap_capacity c.args.heap.now) _
    (taken_off c.args.marks.now.items (heap_items c.args.heap.now) (heap_items c.pop.new.self) (heap_capacity c.args.heap.now) c.in-Some.first
    c.requires.marked c.in-Some.ensures.permutation (c.in-Some.ensures.heap_order c.requires.marked.heap).0)
    (omega (arith, c.in-Some.ensures.capacity))

pub returns-in-Some-clause-flags : goal.returns-in-Some-clause-flags
returns-in-Some-clause-flags c = same_flags c.args.marks.now.items c.in-Some.first.0 Absent
    (sym (ap (λ (y : Reverse ℕ). is_present (mark_at c.args.marks.now.items y.0)) c.in-Some.ensures.top ∙ c.requires.out c.in-Some.first))
