use Rattle.std.proofs.Common.{◌≡◌, drop}
use Rattle.region_walk.specs.Sides.{is_less, numbers_of}
use Rattle.region_walk.proofs.ways.are_less.Given as goal

abbrev pub invariant-loop-place : goal.invariant-loop-place
invariant-loop-place l =
    is_less (numbers_of (drop l.place l.way)) (numbers_of (drop l.place l.other)) ≡ is_less (numbers_of l.way) (numbers_of l.other)
