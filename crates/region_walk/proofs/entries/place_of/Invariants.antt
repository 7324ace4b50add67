use Rattle.std.proofs.Common.{◌≤◌, drop, length}
use Rattle.region_walk.specs.Keeping.{entries_of}
use Rattle.region_walk.specs.Placing.{AreBehind}
use Rattle.region_walk.proofs.entries.place_of.Given as goal

abbrev pub invariant-loop-place : goal.invariant-loop-place
invariant-loop-place l = record {
  below : l.place ≤ length l.kept;
  behind : AreBehind l.op.0 (drop l.place (entries_of l.kept));
}

abbrev pub decreases-loop-place : goal.decreases-loop-place
decreases-loop-place l = l.place
