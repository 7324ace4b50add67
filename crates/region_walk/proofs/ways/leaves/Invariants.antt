use Rattle.std.proofs.Common.{◌≡◌, ◌-◌, drop}
use Rattle.region_walk.specs.Sides.{leaves}
use Rattle.region_walk.proofs.ways.leaves.Given as goal

abbrev pub invariant-loop-place : goal.invariant-loop-place
invariant-loop-place l =
    leaves (l.steps - l.place) l.side (drop l.place l.way) (drop l.place l.other) ≡ leaves l.steps l.side l.way l.other
