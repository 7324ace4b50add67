use Rattle.std.proofs.Common.{rules, arith}
use Rattle.std.proofs.lemmas.List.Sorted.{IsPartitionPoint-from_clause}
use Rattle.region_walk.specs.Sides.{is_less, key, least_key}
use Rattle.region_walk.specs.Users.{ListedNeed}
use Rattle.region_walk.proofs.Keys.{parted_below}
use Rattle.region_walk.proofs.users.first.Goals as goal

pub returns-clause-before : goal.returns-clause-before
returns-clause-before c =
    let k = least_key c.args.context.0 c.args.need.now in
    let point = IsPartitionPoint-from_clause (λ (u : ListedNeed). is_less (key u) k) _ _ c.partition_point.ensures.partitioned
    (parted_below k c.args.users.now c.requires) (λ a r q l. search rules) in
    λ i d l. point.0 i d (omega arith) l
