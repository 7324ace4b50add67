use Rattle.given_trees.proofs.Segments.{segments_show}
use Rattle.given_trees.proofs.segments_show.Goals as goal

pub returns : goal.returns
returns c = segments_show
