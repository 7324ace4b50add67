use Rattle.fit_boards.proofs.Known.{shown_is_known}
use Rattle.fit_boards.proofs.shown_is_known.Goals as goal

pub returns : goal.returns
returns c = shown_is_known
