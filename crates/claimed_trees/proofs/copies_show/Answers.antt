use Rattle.claimed_trees.proofs.Copies.{copies_show}
use Rattle.claimed_trees.proofs.copies_show.Goals as goal

pub returns : goal.returns
returns c = copies_show
