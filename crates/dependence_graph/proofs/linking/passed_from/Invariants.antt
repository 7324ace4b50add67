use Rattle.std.proofs.Common.{◌≡◌, ◌-◌, length, take, true}
use Rattle.dependence_graph.specs.Knots.{all_done}
use Rattle.dependence_graph.proofs.linking.passed_from.Given as goal

abbrev pub invariant-loop-passed : goal.invariant-loop-passed
invariant-loop-passed l = all_done l.knots (take l.passed l.on) ≡ true

abbrev pub decreases-loop-passed : goal.decreases-loop-passed
decreases-loop-passed l = length l.on - l.passed
