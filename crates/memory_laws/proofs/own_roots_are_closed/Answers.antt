use Rattle.memory_laws.proofs.Closed.{closed_stands, ends_with_store}
use Rattle.memory_laws.proofs.Returning.{returned_holds}
use Rattle.memory_laws.proofs.own_roots_are_closed.Goals as goal

pub returns-clause-closed : goal.returns-clause-closed
returns-clause-closed c = closed_stands

pub returns-clause-returned : goal.returns-clause-returned
returns-clause-returned c = returned_holds

pub returns-clause-end : goal.returns-clause-end
returns-clause-end c = ends_with_store
