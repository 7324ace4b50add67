use Rattle.number_laws.proofs.Known.{settled_by_number}
use Rattle.number_laws.proofs.settled_by_number.Goals as goal

-- src/lib.rt
pub returns : goal.returns
returns g c = settled_by_number g.T.NumberedMachine.base g.T.NumberedMachine.numbered g.T.NumberedMachine.named g.T.NumberedMachine.machines
    g.T.NumberedMachine.naming g.T.NumberedMachine.rename g.T.NumberedMachine.laws g.T.NumberedMachine.is_job g.T.NumberedMachine.renamable
