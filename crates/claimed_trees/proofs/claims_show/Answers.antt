use Rattle.claimed_trees.proofs.Claims.{claims_show}
use Rattle.claimed_trees.proofs.claims_show.Goals as goal

pub returns : goal.returns
returns c = claims_show
