use Rattle.std.proofs.Common.{◌≡◌, false, take}
use Rattle.std.specs.List.{list_any}
use Rattle.plain_store.specs.Columns.{is_root}
use Rattle.plain_store.proofs.columns.place_of.Given as goal

abbrev pub invariant-loop-place : goal.invariant-loop-place
invariant-loop-place l = list_any (is_root l.root.0) (take l.place l.roots) ≡ false
