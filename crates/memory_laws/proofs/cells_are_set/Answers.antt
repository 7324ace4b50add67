use Rattle.memory_laws.proofs.Cells.{set_cells_show}
use Rattle.memory_laws.proofs.Touching.{set_cells_hold}
use Rattle.memory_laws.proofs.cells_are_set.Goals as goal

pub returns-clause-seen : goal.returns-clause-seen
returns-clause-seen c = set_cells_show

pub returns-clause-holds : goal.returns-clause-holds
returns-clause-holds c = set_cells_hold
