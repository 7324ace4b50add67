use Rattle.statement_laws.proofs.OpenedExample.{opened_example_holds}
use Rattle.statement_laws.proofs.opened_example_holds.Goals as goal

pub returns : goal.returns
returns c = opened_example_holds
