use Rattle.board_rules.specs.Renaming.{ground_over}
use Rattle.failure_laws.proofs.Failures.{failures_are_told}
use Rattle.failure_laws.proofs.failures_are_told.Goals as goal

pub returns : goal.returns
returns g c = failures_are_told (ground_over g.T.NumberedMachine.base g.T.NumberedMachine.numbered) g.T.NumberedMachine.machines
