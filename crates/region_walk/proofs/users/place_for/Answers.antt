use Rattle.std.proofs.Common.{rules, not}
use Rattle.std.proofs.lemmas.List.Sorted.{IsPartitionPoint-from_clause}
use Rattle.region_walk.specs.Sides.{is_less, key}
use Rattle.region_walk.specs.Users.{ListedNeed}
use Rattle.region_walk.proofs.Keys.{parted_most, placed_by_key}
use Rattle.region_walk.proofs.users.place_for.Goals as goal

pub returns-clause-place : goal.returns-clause-place
returns-clause-place c =
    placed_by_key c.args.user.now c.args.users.now c.partition_point.result
    (IsPartitionPoint-from_clause (λ (u : ListedNeed). not (is_less (key c.args.user.now) (key u))) _ _ c.partition_point.ensures.partitioned
    (parted_most (key c.args.user.now) c.args.users.now c.requires) (λ a r q l. search rules))
