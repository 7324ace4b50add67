use Rattle.std.proofs.Common.{◌≡◌, length}
use Rattle.std.specs.Option.{option_copied}
use Rattle.logical_map.specs.Fills.{number_for}
use Rattle.physical_instances.specs.Fields.{column_if}
use Rattle.physical_instances.specs.Instances.{put_at}
use Rattle.physical_instances.proofs.fill.move_run.Given as goal

abbrev pub invariant-loop-offset : goal.invariant-loop-offset
invariant-loop-offset l = record {
  count : length l.values ≡ length l.initial.values;
  put : l.values ≡ put_at (number_for (column_if (option_copied l.field)) l.fn.mode) l.points l.place l.offset l.initial.values;
}
