use Rattle.std.proofs.Common.{◌≡◌, ◌≤◌, ◌-◌, length}
use Rattle.std.specs.Option.{option_copied}
use Rattle.logical_map.specs.Fills.{moved_beside, number_for}
use Rattle.physical_instances.specs.Fields.{column_if}
use Rattle.physical_instances.proofs.fill.move_values.Given as goal

abbrev pub invariant-loop-place : goal.invariant-loop-place
invariant-loop-place l = record {
  above : l.first ≤ l.place;
  within : l.place ≤ l.end;
  count : length l.values ≡ length l.points;
  done : l.values ≡ moved_beside (number_for (column_if (option_copied l.field)) l.mode) l.first (l.place - l.first) l.points l.initial.values;
}

abbrev pub decreases-loop-place : goal.decreases-loop-place
decreases-loop-place l = l.end - l.place
