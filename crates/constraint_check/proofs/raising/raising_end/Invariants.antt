use Rattle.std.proofs.Common.{◌≡◌, ◌≤◌, drop, false, take}
use Rattle.std.specs.List.{list_any}
use Rattle.regent_tree.specs.Facts.{Row, raises}
use Rattle.constraint_check.proofs.raising.raising_end.Given as goal

abbrev pub invariant-loop-place : goal.invariant-loop-place
invariant-loop-place l = record {
  within : l.count ≤ l.place;
  behind : list_any (λ (row : Row). raises row.0 l.term) (drop l.count (take l.place l.rows)) ≡ false;
}
