use Rattle.std.proofs.Common.{ltb, rules}
use Rattle.std.proofs.lemmas.List.Sorted.{IsPartitionPoint-from_clause}
use Rattle.point_sets.specs.declared.runs.Run.{Run}
use Rattle.point_sets.proofs.RunSearch.{first_from_parted, parted_by_last}
use Rattle.point_sets.proofs.runs.first_run_to.Goals as goal

pub returns : goal.returns
returns c =
    let rs = c.args.runs.now in
    first_from_parted rs _ c.args.point c.partition_point.ensures.bound (IsPartitionPoint-from_clause (λ (r : Run). ltb r.last c.args.point) rs _ c.partition_point.ensures.partitioned (parted_by_last rs c.requires c.args.point) (λ a r g k. search rules))
