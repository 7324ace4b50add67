use Rattle.shown_results.proofs.Results.{results_are_ordered}
use Rattle.shown_results.proofs.results_are_ordered.Goals as goal

pub returns : goal.returns
returns c = results_are_ordered
