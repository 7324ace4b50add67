use Rattle.code_boards.proofs.Example.{board_prints, empty_need_breaks, order_prints}
use Rattle.code_boards.proofs.small_jobs.Goals as goal

pub returns-clause-order : goal.returns-clause-order
returns-clause-order c = order_prints

pub returns-clause-board : goal.returns-clause-board
returns-clause-board c = board_prints

pub returns-clause-empty_need : goal.returns-clause-empty_need
returns-clause-empty_need c = empty_need_breaks
