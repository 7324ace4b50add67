use Rattle.std.proofs.Common.{◌≡◌}
use Rattle.std.specs.Vec.Iter.{into_iter_items}
use Rattle.physical_instances.specs.Kept.{map_of}
use Rattle.board_gives.specs.Rooms.{HasRoom}
use Rattle.board_terms.specs.Gives.{with_parts}
use Rattle.board_gives.proofs.returning.give_parts.Given as goal

abbrev pub invariant-loop-part : goal.invariant-loop-part
invariant-loop-part l =
    HasRoom l.contents (into_iter_items l.part-iterator)
    × (with_parts (into_iter_items l.part-iterator) (map_of l.contents) ≡ with_parts l.fn.parts (map_of l.initial.contents))
