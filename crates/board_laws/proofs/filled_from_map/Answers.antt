use Rattle.board_laws.proofs.Held.{filled_from_map}
use Rattle.board_laws.proofs.filled_from_map.Goals as goal

-- src/lib.rt
pub returns : goal.returns
returns g c = filled_from_map g.T.OrderedMachine.terms g.T.OrderedMachine.machine g.T.OrderedMachine.laws
