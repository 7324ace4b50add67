use Rattle.std.proofs.Common.{◌≡◌, ◌≤◌, ◌+◌, length, ℕ}
use Rattle.std.specs.BinaryHeap.{heap_capacity, heap_items}
use Rattle.least_set.specs.Marks.{IsMarked, IsTidy, flags_of}
use Rattle.least_set.specs.Members.{has}
use Rattle.least_set.proofs.least_set.LeastSet.make_room.Given as goal

abbrev pub invariant-loop : goal.invariant-loop
invariant-loop l = record {
  marked : IsMarked l.self-inside.marks.items (heap_items l.self-inside.heap) (heap_capacity l.self-inside.heap);
  tidy : IsTidy l.self-inside.marks.items (heap_items l.self-inside.heap);
  room : length (heap_items l.self-inside.heap) + l.bound ≤ heap_capacity l.self-inside.heap;
  members : (k : ℕ) → has (flags_of l.self-inside.marks.items) k ≡ has (flags_of l.initial.self-inside.marks.items) k;
  count : length l.self-inside.marks.items ≡ l.counter;
  wider : length l.initial.self-inside.marks.items ≤ l.counter;
}
