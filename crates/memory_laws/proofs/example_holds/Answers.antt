use Rattle.memory_laws.proofs.Example.{example_holds}
use Rattle.memory_laws.proofs.example_holds.Goals as goal

pub returns : goal.returns
returns c = example_holds
