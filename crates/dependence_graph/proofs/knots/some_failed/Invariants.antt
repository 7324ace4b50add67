use Rattle.std.proofs.Common.{◌≡◌, drop}
use Rattle.dependence_graph.specs.Knots.{some_failed}
use Rattle.dependence_graph.proofs.knots.some_failed.Given as goal

abbrev pub invariant-loop-op : goal.invariant-loop-op
invariant-loop-op l = some_failed l.knots (drop l.op-index l.ops) ≡ some_failed l.knots l.ops
