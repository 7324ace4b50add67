use Rattle.std.proofs.Common.{◌≡◌, take, map}
use Rattle.regent_tree.specs.Facts.{widened}
use Rattle.constraint_check.proofs.row.with_row.Given as goal

abbrev pub invariant-loop-row : goal.invariant-loop-row
invariant-loop-row l = l.all.items ≡ map (widened l.known l.above.items) (take l.row-index l.rows)
