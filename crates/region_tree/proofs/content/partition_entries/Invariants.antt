use Rattle.std.proofs.Common.{◌≡◌, ◌+◌, ◌++◌, length}
use Rattle.std.specs.Vec.Iter.{into_iter_items, into_iter_len}
use Rattle.region_tree.specs.Trees.{children, partition_nodes}
use Rattle.region_tree.proofs.content.partition_entries.Given as goal

abbrev pub invariant-loop-set : goal.invariant-loop-set
invariant-loop-set l =
    (l.entries.items ++ children l.divided l.partition.0 l.colour (into_iter_items l.set-iterator) ≡
    partition_nodes l.divided l.fn.region.0 l.partition.0 l.fn.sets.items l.disjoint)
    × (l.colour + length (into_iter_items l.set-iterator) ≡ length l.fn.sets.items)
    × (into_iter_len l.set-iterator ≡ length (into_iter_items l.set-iterator))
