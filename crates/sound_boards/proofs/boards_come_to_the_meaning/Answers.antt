use Rattle.sound_boards.proofs.Results.{boards_come_to_the_meaning, texts_end_well}
use Rattle.sound_boards.proofs.boards_come_to_the_meaning.Goals as goal

pub returns-clause-comes : goal.returns-clause-comes
returns-clause-comes c = boards_come_to_the_meaning

pub returns-clause-ends : goal.returns-clause-ends
returns-clause-ends c = texts_end_well
