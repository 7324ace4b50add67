use Rattle.made_trees.proofs.Rooted.{roots_open}
use Rattle.made_trees.proofs.roots_open.Goals as goal

pub returns : goal.returns
returns c = roots_open
