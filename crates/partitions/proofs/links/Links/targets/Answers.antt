use Rattle.partitions.proofs.LinkLists.{targets_below}
use Rattle.partitions.proofs.links.Links.targets.Goals as goal

pub gathered-requires : goal.gathered-requires
gathered-requires c = rw c.loop-point.invariant
    (targets_below c.args.self.now _ c.know_links.ensures)
