use Rattle.std.proofs.Common.{◌≡◌, false, take}
use Rattle.std.specs.List.{list_any}
use Rattle.regent_tree.specs.Facts.{Row, raises}
use Rattle.constraint_check.proofs.raising.raising_start.Given as goal

abbrev pub invariant-loop-place : goal.invariant-loop-place
invariant-loop-place l = list_any (λ (row : Row). raises row.0 l.term) (take l.place l.rows) ≡ false
