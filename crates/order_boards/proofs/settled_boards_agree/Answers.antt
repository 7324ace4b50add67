use Rattle.order_boards.proofs.Settled.{settled_boards_agree}
use Rattle.order_boards.proofs.settled_boards_agree.Goals as goal

pub returns : goal.returns
returns c = settled_boards_agree
