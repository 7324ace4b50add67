use Rattle.made_trees.proofs.Parted.{partitions_open}
use Rattle.made_trees.proofs.partitions_open.Goals as goal

pub returns : goal.returns
returns c = partitions_open
