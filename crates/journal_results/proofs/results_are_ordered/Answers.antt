use Rattle.journal_results.proofs.Journals.{results_are_ordered}
use Rattle.journal_results.proofs.results_are_ordered.Goals as goal

pub returns : goal.returns
returns c = results_are_ordered
