use Rattle.machine_laws.proofs.Yields.{segments_yield}
use Rattle.machine_laws.proofs.segments_yield.Goals as goal

pub returns-clause-at_a_step : goal.returns-clause-at_a_step
returns-clause-at_a_step c = segments_yield
