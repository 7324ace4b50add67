use Rattle.fit_boards.proofs.Journals.{boards_fit, boards_keep_declared, no_board_breaks}
use Rattle.fit_boards.proofs.boards_fit.Goals as goal

pub returns-clause-fits : goal.returns-clause-fits
returns-clause-fits c = boards_fit

pub returns-clause-unbroken : goal.returns-clause-unbroken
returns-clause-unbroken c = no_board_breaks

pub returns-clause-declared : goal.returns-clause-declared
returns-clause-declared c = boards_keep_declared
