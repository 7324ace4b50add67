use Rattle.memory_laws.proofs.Beginning.{first_holds, begun_holds}
use Rattle.memory_laws.proofs.instances_begin.Goals as goal

pub returns-clause-first : goal.returns-clause-first
returns-clause-first c = first_holds

pub returns-clause-child : goal.returns-clause-child
returns-clause-child c = begun_holds
