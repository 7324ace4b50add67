use Rattle.std.proofs.Common.{leb, rules}
use Rattle.std.proofs.lemmas.List.Sorted.{IsPartitionPoint-from_clause}
use Rattle.point_sets.specs.declared.runs.Run.{Run}
use Rattle.point_sets.proofs.RunSearch.{more_from_parted, parted_by_total}
use Rattle.point_sets.proofs.runs.first_run_with_more.Goals as goal

pub returns : goal.returns
returns c =
    let rs = c.args.runs.now in
    more_from_parted rs _ c.args.many c.partition_point.ensures.bound (IsPartitionPoint-from_clause (λ (r : Run). leb r.total c.args.many) rs _ c.partition_point.ensures.partitioned (parted_by_total rs c.requires c.args.many) (λ a r g k. search rules))
