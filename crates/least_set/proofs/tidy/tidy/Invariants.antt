use Rattle.std.proofs.Common.{◌≡◌}
use Rattle.std.specs.BinaryHeap.{heap_capacity, heap_items, heap_len}
use Rattle.least_set.specs.Marks.{IsMarked, flags_of}
use Rattle.least_set.proofs.tidy.tidy.Given as goal

abbrev pub invariant-loop-first : goal.invariant-loop-first
invariant-loop-first l = record {
  marked : IsMarked l.marks.items (heap_items l.heap) (heap_capacity l.heap);
  flags : flags_of l.marks.items ≡ flags_of l.initial.marks.items;
}

abbrev pub decreases-loop-first : goal.decreases-loop-first
decreases-loop-first l = heap_len l.heap
