use Rattle.order_boards.proofs.Finished.{boards_agree}
use Rattle.order_boards.proofs.boards_agree.Goals as goal

pub returns : goal.returns
returns c = boards_agree
