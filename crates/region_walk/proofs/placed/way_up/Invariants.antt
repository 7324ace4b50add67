use Rattle.std.proofs.Common.{◌≡◌, ◌++◌}
use Rattle.region_tree.specs.Trees.{IsNode}
use Rattle.region_finder.specs.Forests.{way_up}
use Rattle.region_walk.proofs.placed.way_up.Given as goal

abbrev pub invariant-loop-step : goal.invariant-loop-step
invariant-loop-step g l = record {
  there : IsNode (g.P.Paths.forest l.tree) l.at.0;
  way : l.way.items ++ way_up (g.P.Paths.forest l.tree) l.at.0 ≡ way_up (g.P.Paths.forest l.tree) l.fn.node.0;
}

abbrev pub decreases-loop-step : goal.decreases-loop-step
decreases-loop-step g l = l.at.0
