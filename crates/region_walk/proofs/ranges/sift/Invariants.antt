use Rattle.std.proofs.Common.{◌≡◌, ◌≤◌, ◌-◌, length}
use Rattle.region_walk.specs.Ranges.{sifted}
use Rattle.region_walk.proofs.Covering.{is_left}
use Rattle.region_walk.proofs.ranges.sift.Given as goal

abbrev pub invariant-loop-place : goal.invariant-loop-place
invariant-loop-place l = record {
  order : l.place ≤ l.end;
  below : l.end ≤ length l.users.items;
  same : sifted (is_left l.context.0 l.op.0 l.needs) l.place (l.end - l.place) l.users.items
      ≡ sifted (is_left l.context.0 l.op.0 l.needs) l.from (l.to - l.from) l.fn.users.items;
}

abbrev pub decreases-loop-place : goal.decreases-loop-place
decreases-loop-place l = l.end - l.place
