use Rattle.yielded_trees.proofs.Wanted.{wants_open}
use Rattle.yielded_trees.proofs.wants_open.Goals as goal

pub returns : goal.returns
returns c = wants_open
