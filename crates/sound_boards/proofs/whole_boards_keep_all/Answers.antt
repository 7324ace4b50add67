use Rattle.sound_boards.proofs.Whole.{no_segment_breaks, whole_boards_keep_all}
use Rattle.sound_boards.proofs.whole_boards_keep_all.Goals as goal

pub returns-clause-keeps : goal.returns-clause-keeps
returns-clause-keeps c = whole_boards_keep_all

pub returns-clause-unbroken : goal.returns-clause-unbroken
returns-clause-unbroken c = no_segment_breaks
