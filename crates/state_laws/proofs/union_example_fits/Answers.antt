use Rattle.state_laws.proofs.UnionExample.{union_example_fits}
use Rattle.state_laws.proofs.union_example_fits.Goals as goal

pub returns : goal.returns
returns c = union_example_fits
