use Rattle.std.proofs.Common.{ℕ, List, sym, ap, ◌∙◌, arith}
use Rattle.std.proofs.lemmas.Bool.{le-ltb}
use Rattle.plain_values.specs.Points.{has}
use Rattle.point_sets.proofs.RunSearch.{has_at_run, has_past_runs}
use Rattle.point_sets.proofs.run_set.RunSet.has.Goals as goal

pub returns-then-place-runs : goal.returns-then-place-runs
returns-then-place-runs c =
    sym (ap (λ (xs : List ℕ). has xs c.args.point) (sym c.as_runs-runs.ensures.points) ∙ has_at_run c.as_runs-runs.result.now _ c.args.point _ c.as_runs-runs.ensures.runs c.first_run_to-place.ensures (omega arith))

pub returns-else-place-runs : goal.returns-else-place-runs
returns-else-place-runs c =
    le-ltb _ _ (omega arith) ∙ sym (ap (λ (xs : List ℕ). has xs c.args.point) (sym c.as_runs-runs.ensures.points) ∙ has_past_runs c.as_runs-runs.result.now _ c.args.point (record { first = 0; last = 0; total = 0 }) c.as_runs-runs.ensures.runs c.first_run_to-place.ensures (omega arith))
