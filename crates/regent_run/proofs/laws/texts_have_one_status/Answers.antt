use Rattle.regent_run.proofs.Statuses.{one_status}
use Rattle.regent_run.proofs.laws.texts_have_one_status.Goals as goal

pub returns : goal.returns
returns c = one_status
