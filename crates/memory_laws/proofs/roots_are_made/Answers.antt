use Rattle.memory_laws.proofs.Making.{made_holds, made_is_numbered, made_is_own}
use Rattle.memory_laws.proofs.roots_are_made.Goals as goal

pub returns-clause-holds : goal.returns-clause-holds
returns-clause-holds c = made_holds

pub returns-clause-numbered : goal.returns-clause-numbered
returns-clause-numbered c = made_is_numbered

pub returns-clause-own : goal.returns-clause-own
returns-clause-own c = made_is_own
