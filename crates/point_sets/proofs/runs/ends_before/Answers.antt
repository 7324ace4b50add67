use Rattle.std.proofs.Common.{arith}
use Rattle.point_sets.proofs.RunSearch.{end_fits}
use Rattle.point_sets.proofs.runs.ends_before.Goals as goal

pub overflow_add-result : goal.overflow_add-result
overflow_add-result c = end_fits c.args.runs.now _ _ c.requires (omega arith)
