use Rattle.region_tree.specs.Needs.{AreNeeds}
use Rattle.tree_tests.proofs.trees.needs_of.Given as goal

abbrev pub invariant-loop-field : goal.invariant-loop-field
invariant-loop-field l = AreNeeds l.tree l.items
