use Rattle.memory_laws.proofs.Fetched.{fetched_changes_nothing, fetched_holds}
use Rattle.memory_laws.proofs.wants_are_met.Goals as goal

pub returns-clause-seen : goal.returns-clause-seen
returns-clause-seen c = fetched_changes_nothing

pub returns-clause-holds : goal.returns-clause-holds
returns-clause-holds c = fetched_holds
