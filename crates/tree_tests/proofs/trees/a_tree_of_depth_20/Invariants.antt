use Rattle.region_tree.specs.Trees.{IsRegion}
use Rattle.tree_tests.proofs.trees.a_tree_of_depth_20.Given as goal

abbrev pub invariant-loop : goal.invariant-loop
invariant-loop g l = IsRegion l.tree l.region.0
