use Rattle.board_laws.proofs.Backs.{taken_back}
use Rattle.board_laws.proofs.taken_back.Goals as goal

-- src/lib.rt
pub returns : goal.returns
returns g c = taken_back g.T.OrderedMachine.terms g.T.OrderedMachine.machine g.T.OrderedMachine.laws
