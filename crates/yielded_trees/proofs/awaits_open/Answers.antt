use Rattle.yielded_trees.proofs.Awaited.{awaits_open}
use Rattle.yielded_trees.proofs.awaits_open.Goals as goal

pub returns : goal.returns
returns c = awaits_open
