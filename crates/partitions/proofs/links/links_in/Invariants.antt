use Rattle.std.proofs.Common.{◌≡◌, ◌++◌, drop}
use Rattle.partitions.specs.Links.{links_of}
use Rattle.partitions.proofs.links.links_in.Given as goal

abbrev pub invariant-loop-place : goal.invariant-loop-place
invariant-loop-place l =
    l.links.items ++ links_of l.direction l.parent l.pointers (drop l.place l.points)
    (drop l.place l.values)
    ≡ links_of l.direction l.parent l.pointers l.points l.values
