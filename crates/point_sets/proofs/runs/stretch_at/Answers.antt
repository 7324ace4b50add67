use Rattle.std.proofs.Common.{arith}
use Rattle.point_sets.specs.declared.runs.Run.{Run}
use Rattle.point_sets.proofs.RunSearch.{even_past_runs, even_before_run, even_in_run, near_first, first_below, end_below, end_fits}
use Rattle.point_sets.proofs.runs.stretch_at.Goals as goal

none : Run
none = record { first = 0; last = 0; total = 0 }

pub returns-then-place-runs-clause-even : goal.returns-then-place-runs-clause-even
returns-then-place-runs-clause-even c =
    even_past_runs c.args.runs.now c.args.place c.args.point none c.requires.runs c.requires.first (omega arith) _

pub overflow_add-result : goal.overflow_add-result
overflow_add-result c = end_fits c.args.runs.now c.args.place _ c.requires.runs (omega arith)

pub returns-then-point-run-clause-below : goal.returns-then-point-run-clause-below
returns-then-point-run-clause-below c = first_below c.args.runs.now c.args.place _ c.requires.runs (omega arith)

pub returns-then-point-run-clause-even : goal.returns-then-point-run-clause-even
returns-then-point-run-clause-even c = even_before_run c.args.runs.now c.args.place c.args.point _ c.requires.runs c.requires.first (omega arith)

pub returns-then-point-run-clause-near : goal.returns-then-point-run-clause-near
returns-then-point-run-clause-near c = near_first c.args.runs.now c.args.place c.args.point _ c.requires.runs c.requires.first (omega arith)

pub returns-else-point-run-clause-below : goal.returns-else-point-run-clause-below
returns-else-point-run-clause-below c = end_below c.args.runs.now c.args.place _ c.requires.runs (omega arith)

pub returns-else-point-run-clause-even : goal.returns-else-point-run-clause-even
returns-else-point-run-clause-even c = even_in_run c.args.runs.now c.args.place c.args.point _ c.requires.runs c.requires.first (omega arith) (omega arith)
