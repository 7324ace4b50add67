use Rattle.std.proofs.Common.{◌≡◌, ◌++◌, drop, length, take}
use Rattle.std.specs.Option.{option_copied}
use Rattle.physical_instances.specs.Fields.{column_if}
use Rattle.logical_map.specs.Fills.{chunk, moved_pieces}
use Rattle.physical_instances.proofs.fill.move_pieces.Given as goal

abbrev pub invariant-loop-place : goal.invariant-loop-place
invariant-loop-place l = record {
  count : length l.pieces.items ≡ length l.initial.pieces.items;
  done : take l.place l.pieces.items ++ moved_pieces (column_if (option_copied l.field)) l.behind l.next (drop l.place l.pieces.items)
      ≡ moved_pieces (column_if (option_copied l.field)) l.moved chunk l.initial.pieces.items;
}
