use Rattle.fit_boards.proofs.Journals.{none_is_broken}
use Rattle.fit_boards.proofs.none_is_broken.Goals as goal

pub returns : goal.returns
returns c = none_is_broken
