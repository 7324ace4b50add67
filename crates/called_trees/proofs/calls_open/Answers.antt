use Rattle.called_trees.proofs.Calls.{calls_open}
use Rattle.called_trees.proofs.calls_open.Goals as goal

pub returns : goal.returns
returns c = calls_open
