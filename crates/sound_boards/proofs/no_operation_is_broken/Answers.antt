use Rattle.sound_boards.proofs.Whole.{no_operation_is_broken}
use Rattle.sound_boards.proofs.no_operation_is_broken.Goals as goal

pub returns : goal.returns
returns c = no_operation_is_broken
