use Rattle.written_trees.proofs.Texts.{read_trees_are_written}
use Rattle.written_trees.proofs.read_trees_are_written.Goals as goal

pub returns : goal.returns
returns c = read_trees_are_written
