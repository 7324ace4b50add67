use Rattle.written_trees.proofs.Within.{read_trees_are_within}
use Rattle.written_trees.proofs.read_trees_are_within.Goals as goal

pub returns : goal.returns
returns c = read_trees_are_within
