use Rattle.closed_trees.proofs.Followed.{closings_show}
use Rattle.closed_trees.proofs.closings_show.Goals as goal

pub returns : goal.returns
returns c = closings_show
