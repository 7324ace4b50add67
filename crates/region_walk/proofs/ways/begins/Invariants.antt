use Rattle.std.proofs.Common.{◌≡◌, drop}
use Rattle.region_walk.specs.Ranges.{begins}
use Rattle.region_walk.specs.Sides.{numbers_of}
use Rattle.region_walk.proofs.ways.begins.Given as goal

abbrev pub invariant-loop-place : goal.invariant-loop-place
invariant-loop-place l =
    begins (numbers_of (drop l.place l.way)) (numbers_of (drop l.place l.other)) ≡ begins (numbers_of l.way) (numbers_of l.other)
