use Rattle.region_tree.specs.Trees.{IsNode}
use Rattle.region_forest.proofs.tests.way_up.Given as goal

abbrev pub invariant-loop-step : goal.invariant-loop-step
invariant-loop-step g l = IsNode (g.P.Paths.forest l.forest) l.at.0

abbrev pub decreases-loop-step : goal.decreases-loop-step
decreases-loop-step g l = l.at.0
