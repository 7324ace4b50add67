use Rattle.shown_results.proofs.Settled.{settled_is_ordered}
use Rattle.shown_results.proofs.settled_is_ordered.Goals as goal

pub returns : goal.returns
returns c = settled_is_ordered
