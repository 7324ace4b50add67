use Rattle.code_boards.proofs.Boards.{boards_keep_order}
use Rattle.code_boards.proofs.boards_keep_order.Goals as goal

pub returns : goal.returns
returns c = boards_keep_order
