use Rattle.std.proofs.Common.{◌≡◌, ◌+◌, ◌≤◌, ◌++◌, length, map, vec_capacity, vec_len}
use Rattle.std.specs.Vec.Iter.{into_iter_items}
use Rattle.board_terms.specs.States.{called_by}
use Rattle.board_calls.proofs.calling.add_children.Given as goal

abbrev pub invariant-loop-frame : goal.invariant-loop-frame
invariant-loop-frame l = record {
  room : vec_len l.operations + length (into_iter_items l.frame-iterator) ≤ vec_capacity l.operations;
  items : l.operations.items ++ map (called_by l.parent) (into_iter_items l.frame-iterator)
      ≡ l.fn.operations.items ++ map (called_by l.parent) l.fn.frames.items;
}
