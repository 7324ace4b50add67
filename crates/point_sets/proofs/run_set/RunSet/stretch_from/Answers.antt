use Rattle.std.proofs.Common.{ℕ, List, sym, ap, ◌∙◌, arith}
use Rattle.plain_values.specs.Points.{has}
use Rattle.point_sets.proofs.RunLists.{none_past_runs}
use Rattle.point_sets.proofs.RunSearch.{end_fits, end_below}
use Rattle.point_sets.proofs.Stretching.{stretch_of_set}
use Rattle.point_sets.proofs.run_set.RunSet.stretch_from.Goals as goal

pub returns-then-place-runs-clause-none : goal.returns-then-place-runs-clause-none
returns-then-place-runs-clause-none c _ z from =
    ap (λ (xs : List ℕ). has xs z) (sym c.as_runs-runs.ensures.points) ∙
    none_past_runs c.as_runs-runs.result.now c.first_run_to-place.result c.args.point
    c.as_runs-runs.ensures.runs c.first_run_to-place.ensures (omega arith) z from

pub overflow_add-result : goal.overflow_add-result
overflow_add-result c = end_fits c.as_runs-runs.result.now _ _ c.as_runs-runs.ensures.runs
    (omega arith)

pub returns-clause-stretch : goal.returns-clause-stretch
returns-clause-stretch c =
    stretch_of_set c.args.self.now c.as_runs-runs.result.now c.first_run_to-place.result
    c.args.point c.max.result _ c.as_runs-runs.ensures.runs c.as_runs-runs.ensures.points
    c.first_run_to-place.ensures (omega arith) c.max.ensures

pub returns-clause-limit : goal.returns-clause-limit
returns-clause-limit c = end_below c.as_runs-runs.result.now _ _ c.as_runs-runs.ensures.runs
    (omega arith)
