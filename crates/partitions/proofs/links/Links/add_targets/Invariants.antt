use Rattle.std.proofs.Common.{◌≡◌, ◌++◌, map, take}
use Rattle.partitions.specs.declared.links.Link.{Link}
use Rattle.partitions.proofs.links.Links.add_targets.Given as goal

abbrev pub invariant-loop-link : goal.invariant-loop-link
invariant-loop-link l =
    l.targets.items ≡ l.fn.targets.items ++ map (λ (k : Link). k.to)
    (take l.link-index l.link-items)
