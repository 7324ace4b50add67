use Rattle.alike_runs.proofs.Statements.{runs_alike}
use Rattle.alike_runs.proofs.runs_alike.Goals as goal

pub returns : goal.returns
returns c = runs_alike
