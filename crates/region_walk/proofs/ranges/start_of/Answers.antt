use Rattle.std.proofs.Common.{rules, arith}
use Rattle.std.proofs.lemmas.List.Sorted.{IsPartitionPoint-from_clause}
use Rattle.region_walk.specs.Sides.{is_less, key}
use Rattle.region_walk.specs.Users.{ListedNeed}
use Rattle.region_walk.proofs.Keys.{parted_below}
use Rattle.region_walk.proofs.ranges.start_of.Goals as goal

pub returns-clause-start : goal.returns-clause-start
returns-clause-start c =
    let k = key c.args.top.now in
    let point = IsPartitionPoint-from_clause (λ (u : ListedNeed). is_less (key u) k) _ _ c.partition_point.ensures.partitioned
    (parted_below k c.args.users.now c.requires) (λ a r q l. search rules) in
    record {
      before = λ i d l. point.0 i d (omega arith) l;
      behind = λ i d l m. point.1 i d l m;
    }
