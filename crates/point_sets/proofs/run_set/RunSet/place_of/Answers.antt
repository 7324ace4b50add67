use Rattle.std.proofs.Common.{eqb, sym, ap, ◌∙◌, arith}
use Rattle.std.specs.List.{position}
use Rattle.point_sets.proofs.RunSearch.{end_fits, no_place_past, no_place_before, place_enough, place_found}
use Rattle.point_sets.proofs.Places.{place_none, place_told}
use Rattle.point_sets.proofs.run_set.RunSet.place_of.Goals as goal

pub returns-then-run_place-runs-clause-value : goal.returns-then-run_place-runs-clause-value
returns-then-run_place-runs-clause-value c =
    sym (ap (position (λ y. eqb y c.args.point)) (sym c.as_runs-runs.ensures.points) ∙ no_place_past c.as_runs-runs.result.now _ c.args.point (record { first = 0; last = 0; total = 0 }) c.as_runs-runs.ensures.runs c.first_run_to-run_place.ensures (omega arith))

pub returns-then-point-run-clause-value : goal.returns-then-point-run-clause-value
returns-then-point-run-clause-value c =
    sym (ap (position (λ y. eqb y c.args.point)) (sym c.as_runs-runs.ensures.points) ∙ no_place_before c.as_runs-runs.result.now _ c.args.point _ c.as_runs-runs.ensures.runs c.first_run_to-run_place.ensures (omega arith) c.if-point-run.true)

pub overflow_add-result : goal.overflow_add-result
overflow_add-result c = end_fits c.as_runs-runs.result.now _ _ c.as_runs-runs.ensures.runs (omega arith)

pub overflow_sub-result-2 : goal.overflow_sub-result-2
overflow_sub-result-2 c =
    place_enough c.as_runs-runs.result.now _ c.args.point _ c.as_runs-runs.ensures.runs c.first_run_to-run_place.ensures (omega arith) c.if-point-run.false

pub returns-clause-value : goal.returns-clause-value
returns-clause-value c =
    sym (ap (position (λ y. eqb y c.args.point)) (sym c.as_runs-runs.ensures.points) ∙ place_found c.as_runs-runs.result.now _ c.args.point _ c.as_runs-runs.ensures.runs c.first_run_to-run_place.ensures (omega arith) c.if-point-run.false)

pub returns-then-run_place-runs-clause-none : goal.returns-then-run_place-runs-clause-none
returns-then-run_place-runs-clause-none c = place_none c.args.self.now c.args.point _ (returns-then-run_place-runs-clause-value c)

pub returns-then-point-run-clause-none : goal.returns-then-point-run-clause-none
returns-then-point-run-clause-none c = place_none c.args.self.now c.args.point _ (returns-then-point-run-clause-value c)

pub returns-clause-none : goal.returns-clause-none
returns-clause-none c = place_none c.args.self.now c.args.point _ (returns-clause-value c)

pub returns-clause-found : goal.returns-clause-found
returns-clause-found c = place_told c.args.self.now c.args.point _ (returns-clause-value c)
