use Rattle.ended_trees.proofs.Ends.{ends_open}
use Rattle.ended_trees.proofs.ends_open.Goals as goal

pub returns : goal.returns
returns c = ends_open
