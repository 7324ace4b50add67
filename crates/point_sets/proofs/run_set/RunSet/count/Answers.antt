use Rattle.std.proofs.Common.{sym, ap, ◌∙◌}
use Rattle.point_sets.specs.Forms.{runs_of}
use Rattle.point_sets.proofs.Spans.{runs-points_in}
use Rattle.point_sets.proofs.run_set.RunSet.count.Goals as goal

pub returns : goal.returns
returns c =
    sym (runs-points_in c.as_runs.result.now c.as_runs.ensures.runs) ∙ ap runs_of c.as_runs.ensures.points
