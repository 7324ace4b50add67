use Rattle.board_laws.proofs.Held.{held_apart}
use Rattle.board_laws.proofs.held_apart.Goals as goal

-- src/lib.rt
pub returns : goal.returns
returns g c = held_apart g.T.OrderedMachine.terms g.T.OrderedMachine.machine g.T.OrderedMachine.laws
