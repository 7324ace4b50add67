use Rattle.std.proofs.Common.{◌≡◌, ◌-◌, length}
use Rattle.plain_values.specs.Points.{counted_from, points}
use Rattle.dependence_graph.specs.Knots.{give_up_each}
use Rattle.dependence_graph.proofs.failing.give_up_each.Given as goal

abbrev pub invariant-loop-place : goal.invariant-loop-place
invariant-loop-place l = record {
  same : give_up_each l.from l.to l.knots (counted_from l.place (length l.fn.knots - l.place)) ≡ give_up_each l.from l.to l.fn.knots (points (length l.fn.knots));
  size : length l.knots ≡ length l.fn.knots;
}
