use Rattle.partitions.proofs.Gathering.{gathered_points, gathered_is}
use Rattle.partitions.proofs.listing.gathered.Goals as goal

pub from_sorted-requires : goal.from_sorted-requires
from_sorted-requires c =
    let sorted = c.sort_unstable.ensures in
    rw c.as_slice.ensures.value
    (gathered_points c.args.points.items c.sort_unstable.new.self.items c.dedup.new.self.items
    sorted.permutation sorted.sorted c.dedup.ensures.filtered c.requires)

pub returns : goal.returns
returns c =
    let sorted = c.sort_unstable.ensures in
    let points = gathered_points c.args.points.items c.sort_unstable.new.self.items
    c.dedup.new.self.items sorted.permutation sorted.sorted c.dedup.ensures.filtered c.requires
    in
    let same = gathered_is c.args.points.items c.sort_unstable.new.self.items c.dedup.new.self.items
    sorted.permutation sorted.sorted c.dedup.ensures.filtered points in
    let value = c.as_slice.ensures.value in
    rw (← same, ← value) c.from_sorted.ensures.value
