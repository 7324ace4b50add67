use Rattle.regent_run.proofs.Statuses.{accepted_run}
use Rattle.regent_run.proofs.laws.accepted_texts_are_run.Goals as goal

pub returns : goal.returns
returns c = accepted_run
