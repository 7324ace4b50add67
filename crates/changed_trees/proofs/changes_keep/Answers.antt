use Rattle.changed_trees.proofs.Below.{changes_keep}
use Rattle.changed_trees.proofs.changes_keep.Goals as goal

pub returns : goal.returns
returns c = changes_keep
