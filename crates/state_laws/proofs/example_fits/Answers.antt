use Rattle.state_laws.proofs.Example.{example_fits}
use Rattle.state_laws.proofs.example_fits.Goals as goal

pub returns : goal.returns
returns c = example_fits
