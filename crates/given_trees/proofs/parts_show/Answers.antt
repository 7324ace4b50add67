use Rattle.given_trees.proofs.Parts.{parts_show}
use Rattle.given_trees.proofs.parts_show.Goals as goal

pub returns : goal.returns
returns c = parts_show
