use Rattle.state_laws.proofs.Runs.{runs_fit}
use Rattle.state_laws.proofs.runs_fit.Goals as goal

pub returns : goal.returns
returns c = runs_fit
