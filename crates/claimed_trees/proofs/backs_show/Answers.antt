use Rattle.claimed_trees.proofs.Backs.{backs_show}
use Rattle.claimed_trees.proofs.backs_show.Goals as goal

pub returns : goal.returns
returns c = backs_show
