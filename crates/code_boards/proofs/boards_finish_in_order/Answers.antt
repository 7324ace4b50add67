use Rattle.code_boards.proofs.Boards.{boards_finish_in_order}
use Rattle.code_boards.proofs.boards_finish_in_order.Goals as goal

pub returns : goal.returns
returns c = boards_finish_in_order
