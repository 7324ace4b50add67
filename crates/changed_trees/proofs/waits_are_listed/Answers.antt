use Rattle.changed_trees.proofs.Listed.{waits_are_listed}
use Rattle.changed_trees.proofs.waits_are_listed.Goals as goal

pub returns : goal.returns
returns c = waits_are_listed
