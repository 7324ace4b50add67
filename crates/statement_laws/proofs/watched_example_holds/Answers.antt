use Rattle.statement_laws.proofs.WatchedExample.{watched_example_holds}
use Rattle.statement_laws.proofs.watched_example_holds.Goals as goal

pub returns : goal.returns
returns c = watched_example_holds
