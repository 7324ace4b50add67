use Rattle.std.proofs.Common.{◌≡◌, ◌++◌, ◌-◌}
use Rattle.plain_values.specs.Points.{counted_from, points}
use Rattle.compile_tables.proofs.needs.all_fields.Given as goal

abbrev pub invariant-loop-place : goal.invariant-loop-place
invariant-loop-place l = l.fields ++ counted_from l.place (l.count - l.place) ≡ points l.count
