use Rattle.state_laws.proofs.Runs.{calls_fit}
use Rattle.state_laws.proofs.calls_fit.Goals as goal

pub returns : goal.returns
returns c = calls_fit
