use Rattle.std.proofs.Common.{refl, arith}
use Rattle.point_sets.proofs.Spans.{words_over}
use Rattle.point_sets.proofs.run_set.RunSet.words.Goals as goal

pub returns : goal.returns
returns c =
    words_over c.as_runs-runs.result.now c.as_runs-runs.ensures.runs c.ends_of-first.result.0 c.ends_of-first.result.1 c.ends_of-first.ensures (omega arith) c.args.self.now _ c.as_runs-runs.ensures.points refl
