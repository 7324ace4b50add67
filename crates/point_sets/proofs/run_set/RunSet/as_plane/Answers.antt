use Rattle.std.proofs.Common.{◌+◌, ◌&&◌, ◌||◌, get_or, leb, ltb, sym, ap, ◌∙◌, arith}
use Rattle.std.proofs.lemmas.List.{take_all}
use Rattle.std.proofs.lemmas.Result.{IfOk-weaker}
use Rattle.bit_planes.specs.Planes.{has_point}
use Rattle.plain_values.specs.Points.{has}
use Rattle.point_sets.specs.Runs.{points_in}
use Rattle.point_sets.specs.declared.runs.Run.{Run}
use Rattle.point_sets.proofs.Converting.{one_more_run}
use Rattle.point_sets.proofs.PlaneLists.{plane_points_are}
use Rattle.point_sets.proofs.RunLists.{run_at}
use Rattle.point_sets.proofs.Spans.{no_bit}
use Rattle.point_sets.proofs.run_set.RunSet.as_plane.Goals as goal

pub loop-run-init : goal.loop-run-init
loop-run-init c = record {
  low = c.in_ok-builder.ensures.low;
  high = c.in_ok-builder.ensures.high;
  set = λ z. ap (λ s. has_point s z) c.in_ok-builder.ensures.none ∙ no_bit z;
}

pub set_range-requires-clause-order : goal.set_range-requires-clause-order
set_range-requires-clause-order c =
    let none : Run = record { first = 0; last = 0; total = 0 } in
    let rises = (run_at c.as_runs-runs.result.now c.loop-run.run-index none c.as_runs-runs.ensures.runs c.loop-run-test.true).rises in
    omega (arith, rises)

pub loop-run-preserved : goal.loop-run-preserved
loop-run-preserved c =
    let rs = c.as_runs-runs.result.now in
    let i = c.loop-run.run-index in
    let none : Run = record { first = 0; last = 0; total = 0 } in
    let r : Run = get_or rs i none in
    let known = c.loop-run.invariant in
    record {
      low = omega (arith, known.low, c.set_range.ensures.low);
      high = omega (arith, known.high, c.set_range.ensures.high);
      set = λ z. c.set_range.ensures.set z ∙ ap (λ b. b || (leb r.first z && ltb z (r.last + 1))) (known.set z) ∙ sym (one_more_run rs i none c.as_runs-runs.ensures.runs c.loop-run-test.true z);
    }

pub returns : goal.returns
returns c =
    let rs = c.as_runs-runs.result.now in
    let known = c.loop-run.invariant in
    let all = take_all c.loop-run.run-index rs (omega (arith, c.loop-run-test.false)) in
    IfOk-weaker c.finish.result _ _ (λ r e. plane_points_are r c.args.self.now c.as_runs-runs.ensures.set (λ z. ap (λ s. has_point s z) e ∙ known.set z ∙ ap (λ l. has (points_in l) z) all ∙ ap (λ xs. has xs z) c.as_runs-runs.ensures.points)) c.finish.ensures
