use Rattle.std.proofs.Common.{◌≡◌, ◌+◌, ◌≤◌, drop, map}
use Rattle.regent_tree.specs.PlainProgram.{item_tree_of}
use Rattle.regent_tree.specs.Limits.{tasks_in}
use Rattle.read_limits.proofs.program.tasks_in.Given as goal

abbrev pub invariant-loop-item : goal.invariant-loop-item
invariant-loop-item l = record {
  so_far : l.count + tasks_in (map item_tree_of (drop l.item-index l.items)) ≡ tasks_in (map item_tree_of l.items);
  within : l.count ≤ l.item-index;
}
