use Rattle.std.proofs.Common.{◌≡◌, ◌++◌, drop, take}
use Rattle.region_walk.specs.Covering.{uncovered_entries}
use Rattle.region_walk.proofs.entries.uncover_all.Given as goal

abbrev pub invariant-loop-place : goal.invariant-loop-place
invariant-loop-place l =
    l.kept.items ≡ uncovered_entries l.context.0 l.op.0 l.needs (take l.place l.fn.kept.items) ++ drop l.place l.fn.kept.items
