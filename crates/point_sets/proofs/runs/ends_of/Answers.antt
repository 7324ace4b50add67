use Rattle.std.proofs.Common.{arith, refl}
use Rattle.point_sets.proofs.Spans.{run_ends}
use Rattle.point_sets.proofs.runs.ends_of.Goals as goal

pub returns : goal.returns
returns c = run_ends c.args.runs.now c.requires _ _ _ (omega arith) refl
