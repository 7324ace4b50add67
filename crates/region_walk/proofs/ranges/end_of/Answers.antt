use Rattle.std.proofs.Common.{rules, ◌≡◌, false, subst, sym, true}
use Rattle.std.specs.List.Sorted.{IsPartitionPoint, IsPartitionedBy}
use Rattle.std.proofs.lemmas.List.Sorted.{IsPartitionPoint-from_clause}
use Rattle.region_walk.specs.Ranges.{is_under}
use Rattle.region_walk.specs.Users.{ListedNeed}
use Rattle.region_walk.proofs.Heads.{parted_under, range_to}
use Rattle.region_walk.proofs.Skipping.{slice_from}
use Rattle.region_walk.proofs.ranges.end_of.Goals as goal

pub returns-clause-range : goal.returns-clause-range
returns-clause-range c =
    let top = c.args.top.now in
    let us = c.args.users.now in
    let p = is_under top in
    let point = IsPartitionPoint-from_clause p _ _ c.partition_point.ensures.partitioned
    (subst (IsPartitionedBy p) (sym (slice_from c.args.from us)) (parted_under top us c.args.from c.requires.by_key c.requires.start))
    (λ a r q l. search rules) in
    range_to top us c.args.from c.partition_point.result c.requires.start
    (subst (λ xs. IsPartitionPoint (λ (u : ListedNeed). p u ≡ true) (λ (u : ListedNeed). p u ≡ false) xs c.partition_point.result) (slice_from c.args.from us) point)
