use Rattle.state_laws.proofs.Made.{roots_are_made}
use Rattle.state_laws.proofs.roots_are_made.Goals as goal

pub returns : goal.returns
returns c = roots_are_made
