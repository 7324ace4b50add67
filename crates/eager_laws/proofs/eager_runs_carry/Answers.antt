use Rattle.eager_laws.proofs.Carrying.{eager_runs_carry as law}
use Rattle.eager_laws.proofs.eager_runs_carry.Goals as goal

pub returns : goal.returns
returns c = law
