use Rattle.std.proofs.Common.{◌≡◌, take}
use Rattle.partitions.proofs.listing.listed.Given as goal

abbrev pub invariant-loop-place : goal.invariant-loop-place
invariant-loop-place l = l.points.items ≡ take l.place l.set
