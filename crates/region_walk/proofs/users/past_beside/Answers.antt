use Rattle.std.proofs.Common.{rules, arith, ◌≡◌, ◌∙◌, false, subst, sym, true}
use Rattle.std.specs.List.Sorted.{IsPartitionPoint, IsPartitionedBy}
use Rattle.std.proofs.lemmas.List.Sorted.{IsPartitionPoint-from_clause}
use Rattle.region_walk.specs.Sides.{is_beside}
use Rattle.region_walk.proofs.Passing.{parted_from, pass_beside, pass_some}
use Rattle.region_walk.proofs.Skipping.{slice_from}
use Rattle.region_walk.proofs.users.past_beside.Goals as goal

pub returns-then-is_beside-clause-behind : goal.returns-then-is_beside-clause-behind
returns-then-is_beside-clause-behind c =
    let n = c.args.need.now in
    let way = c.args.way.now in
    let k = c.parts_from-parts.result.0 in
    let side = c.parts_from-parts.result.1 in
    let us = c.args.users.now in
    let e = c.index-users-place-2.result in
    let p = is_beside c.args.context.0 n way k side in
    let first = subst (λ u. is_beside c.args.context.0 n way k side u ≡ true) c.index-users-place-2.is (sym c.is_beside.ensures ∙ c.if-is_beside.true) in
    let parted = parted_from c.args.context.0 n way k side c.args.place us e c.requires.by_key c.requires.below first in
    let point = IsPartitionPoint-from_clause p _ _ c.partition_point.ensures.partitioned
    (subst (IsPartitionedBy p) (sym (slice_from c.args.place us)) parted) (λ a r q l. search rules) in
    let some = pass_some c.args.context.0 n way k side c.args.place c.partition_point.result us e c.requires.below first
    (subst (λ xs. IsPartitionPoint (λ u. p u ≡ true) (λ u. p u ≡ false) xs c.partition_point.result) (slice_from c.args.place us) point) in
    omega (arith, some)

pub returns-then-is_beside-clause-passed : goal.returns-then-is_beside-clause-passed
returns-then-is_beside-clause-passed c =
    let n = c.args.need.now in
    let way = c.args.way.now in
    let k = c.parts_from-parts.result.0 in
    let side = c.parts_from-parts.result.1 in
    let us = c.args.users.now in
    let e = c.index-users-place-2.result in
    let p = is_beside c.args.context.0 n way k side in
    let first = subst (λ u. is_beside c.args.context.0 n way k side u ≡ true) c.index-users-place-2.is (sym c.is_beside.ensures ∙ c.if-is_beside.true) in
    let parted = parted_from c.args.context.0 n way k side c.args.place us e c.requires.by_key c.requires.below first in
    let point = IsPartitionPoint-from_clause p _ _ c.partition_point.ensures.partitioned
    (subst (IsPartitionedBy p) (sym (slice_from c.args.place us)) parted) (λ a r q l. search rules) in
    pass_beside c.args.context.0 n way k side c.args.place c.partition_point.result us e c.requires.below first
    (subst (λ xs. IsPartitionPoint (λ u. p u ≡ true) (λ u. p u ≡ false) xs c.partition_point.result) (slice_from c.args.place us) point)
