use Rattle.journal_results.proofs.Journals.{gives_show}
use Rattle.journal_results.proofs.gives_show.Goals as goal

pub returns : goal.returns
returns c = gives_show
