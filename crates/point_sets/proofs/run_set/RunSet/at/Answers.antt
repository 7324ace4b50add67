use Rattle.std.proofs.Common.{slice_get, ℕ, List, sym, ap, ◌∙◌, arith}
use Rattle.point_sets.proofs.RunSearch.{end_fits, far_enough, element_found, no_element}
use Rattle.point_sets.proofs.Places.{none_at}
use Rattle.point_sets.proofs.run_set.RunSet.at.Goals as goal

pub returns-then-run_place-runs-clause-value : goal.returns-then-run_place-runs-clause-value
returns-then-run_place-runs-clause-value c =
    sym (ap (λ (xs : List ℕ). slice_get xs c.args.place) (sym c.as_runs-runs.ensures.points) ∙ no_element c.as_runs-runs.result.now _ c.args.place c.as_runs-runs.ensures.runs c.first_run_with_more-run_place.ensures (omega arith))

pub overflow_add-result : goal.overflow_add-result
overflow_add-result c = end_fits c.as_runs-runs.result.now _ _ c.as_runs-runs.ensures.runs (omega arith)

pub overflow_sub-result-2 : goal.overflow_sub-result-2
overflow_sub-result-2 c =
    far_enough c.as_runs-runs.result.now _ _ c.as_runs-runs.ensures.runs (omega arith) c.args.place c.first_run_with_more-run_place.ensures

pub returns-clause-value : goal.returns-clause-value
returns-clause-value c =
    sym (ap (λ (xs : List ℕ). slice_get xs c.args.place) (sym c.as_runs-runs.ensures.points) ∙ element_found c.as_runs-runs.result.now _ _ c.as_runs-runs.ensures.runs (omega arith) c.args.place c.first_run_with_more-run_place.ensures)

pub returns-then-run_place-runs-clause-none : goal.returns-then-run_place-runs-clause-none
returns-then-run_place-runs-clause-none c = none_at c.args.self.now c.args.place _ (returns-then-run_place-runs-clause-value c)

pub returns-clause-none : goal.returns-clause-none
returns-clause-none c = none_at c.args.self.now c.args.place _ (returns-clause-value c)
