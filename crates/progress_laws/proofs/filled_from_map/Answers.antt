use Rattle.progress_laws.proofs.ByNumber.{filled_by_number}
use Rattle.progress_laws.proofs.filled_from_map.Goals as goal

-- src/lib.rt
pub returns : goal.returns
returns g c = filled_by_number g.T.NumberedMachine.base g.T.NumberedMachine.numbered g.T.NumberedMachine.named g.T.NumberedMachine.machines
    g.T.NumberedMachine.naming g.T.NumberedMachine.rename g.T.NumberedMachine.is_job g.T.NumberedMachine.laws g.T.NumberedMachine.renamable
