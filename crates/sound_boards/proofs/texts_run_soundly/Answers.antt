use Rattle.sound_boards.proofs.Texts.{boards_of_texts_keep_all, no_board_of_texts_breaks, texts_run_soundly}
use Rattle.sound_boards.proofs.texts_run_soundly.Goals as goal

pub returns-clause-runs : goal.returns-clause-runs
returns-clause-runs c = texts_run_soundly

pub returns-clause-keeps : goal.returns-clause-keeps
returns-clause-keeps c = boards_of_texts_keep_all

pub returns-clause-unbroken : goal.returns-clause-unbroken
returns-clause-unbroken c = no_board_of_texts_breaks
