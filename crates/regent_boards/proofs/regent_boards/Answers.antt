use Rattle.regent_boards.proofs.Boards.{regent_boards}
use Rattle.regent_boards.proofs.regent_boards.Goals as goal

pub returns : goal.returns
returns c = regent_boards
