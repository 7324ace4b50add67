use Rattle.regent_run.proofs.Statuses.{runs_end}
use Rattle.regent_run.proofs.laws.runs_come_to_an_end.Goals as goal

pub returns : goal.returns
returns c = runs_end
